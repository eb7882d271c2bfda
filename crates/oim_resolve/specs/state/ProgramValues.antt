-- Written decimals as the program holds them, and what is read from them and from the cell of a
-- fact.
use Rattle.std.specs.Prelude.{ℕ, List, Option, Result, Ok, Err, ℤ}
use Rattle.oim_cells.specs.Cells.{seen_meaning, Meaning}
use Rattle.oim_resolve.specs.declared.cell.decimals.Stated.{Stated as SeenStated}
use Rattle.oim_resolve.specs.declared.cell.decimals.Stated.TheVariants as seen
use Rattle.oim_resolve.specs.declared.fact.CellFault.{CellFault}
use Rattle.oim_resolve.specs.FactValues.{ValueParts}
use Rattle.oim_resolve.specs.Values.{Stated, Fixed, Read}
use Rattle.oim_cells.specs.declared.cells.Accuracy.{Accuracy}
use Rattle.oim_report.specs.declared.kind.Kind.{Kind}
use Rattle.oim_resolve.specs.Faults.{least, unless}
use Rattle.oim_resolve.specs.Facts.{decimals_faults_of, decimals_given}

abbrev pub seen_stated : SeenStated → Stated
seen_stated (seen.Fixed a) = Fixed a
seen_stated (seen.Read v) = Read (seen_meaning v)

-- The text of a reading, or its fault.
abbrev pub text_read : Result ValueParts CellFault → Result (Option (List ℕ)) CellFault
text_read (Ok v) = Ok v.text
text_read (Err f) = Err f

-- The decimals, read: their least fault, or those of the fact.
abbrev pub decimals_read : Kind → Meaning → Option Accuracy → Stated → Result (Option ℤ) CellFault
decimals_read k v suffix s = unless (least (decimals_faults_of k v suffix s)) (Ok (decimals_given k v suffix s))
