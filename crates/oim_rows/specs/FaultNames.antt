-- The number and the name of each fault of a table. The fault of a cell has its own.
use Rattle.std.specs.Prelude.{ℕ, List, codes}
use Rattle.oim_resolve.specs.Faults as cell
use Rattle.oim_rows.specs.declared.fault.TableKind.{TableKind}
use Rattle.oim_rows.specs.declared.fault.TableKind.TheVariants as kind

abbrev pub number_of : TableKind → ℕ
number_of kind.NoFile = 20
number_of kind.Read = 21
number_of kind.NoHeader = 22
number_of kind.UnknownHeader = 23
number_of kind.RepeatedHeader = 24
number_of kind.NoRowIdColumn = 25
number_of kind.Ragged = 26
number_of kind.NotUtf8 = 27
number_of kind.MissingRowId = 28
number_of kind.BadRowId = 29
number_of kind.RepeatedRowId = 30
number_of (kind.Cell f) = cell.number_of f
number_of kind.TooManyRows = 41
number_of kind.Memory = 42
number_of kind.NoThread = 43

abbrev pub name_of : TableKind → List ℕ
name_of kind.NoFile = codes "NoFile"
name_of kind.Read = codes "Read"
name_of kind.NoHeader = codes "NoHeader"
name_of kind.UnknownHeader = codes "UnknownHeader"
name_of kind.RepeatedHeader = codes "RepeatedHeader"
name_of kind.NoRowIdColumn = codes "NoRowIdColumn"
name_of kind.Ragged = codes "Ragged"
name_of kind.NotUtf8 = codes "NotUtf8"
name_of kind.MissingRowId = codes "MissingRowId"
name_of kind.BadRowId = codes "BadRowId"
name_of kind.RepeatedRowId = codes "RepeatedRowId"
name_of (kind.Cell f) = cell.name_of f
name_of kind.TooManyRows = codes "TooManyRows"
name_of kind.Memory = codes "Memory"
name_of kind.NoThread = codes "NoThread"
