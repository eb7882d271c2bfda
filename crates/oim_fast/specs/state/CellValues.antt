-- What the cell of a fact gives, as it is written (xBRL-CSV 1.0, special values and the decimals
-- suffix of a numeral).
use Rattle.std.specs.Prelude.{◌≡◌, ◌≤◌, ⊤, true, false, Some, None, Ok, length, take, if◌then◌else◌}
use Rattle.oim_cells.specs.Cells.{Meaning}
use Rattle.oim_report.specs.ReportValue.{ReportValue}
use Rattle.oim_report.specs.declared.kind.Kind.{Kind}
use Rattle.oim_resolve.specs.FactValues.{value_given}
use Rattle.oim_resolve.specs.Facts.{is_absent, is_nil, is_unknown}
use Rattle.oim_fast.specs.declared.frame.value.FastValue.{FastValue}
use Rattle.oim_fast.specs.declared.frame.value.FastValue.TheVariants as cell
use Rattle.oim_fast.specs.declared.frame.value.Value.{Value}

-- The value `x` is what the meaning `v` gives a fact with a concept of kind `k`.
pub record IsValue (r : ReportValue) (k : Kind) (v : Meaning) (x : Value) : Type 0 where
  pub within : x.len ≤ length x.bytes.now
  pub said : is_absent v ≡ false
  pub known : is_unknown v ≡ false
  pub given : value_given r k v ≡ Ok (record { text = if x.is_nil then None else Some (take x.len x.bytes.now); accuracy = x.accuracy })
  pub nil : x.is_nil ≡ is_nil v

abbrev pub IsCellValue : ReportValue → Kind → Meaning → FastValue → Type 0
IsCellValue r k v cell.NoFact = is_absent v ≡ true
IsCellValue r k v (cell.Value x) = IsValue r k v x
IsCellValue r k v cell.Unknown = ⊤
