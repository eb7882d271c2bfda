-- The types of concepts and dimensions, as the program keeps them.
use Rattle.std.specs.Prelude.{◌≡◌, ℕ, List, Bool}
use Rattle.oim_report.specs.state.Named.{Grouped, value_under}
use Rattle.oim_report.specs.declared.kind.Kind.{Kind}
use Rattle.oim_report.specs.Types.{TypesValue, has_members, kind_in}

-- Kinds by local part, by URI: a lookup gives the kind that the records give.
abbrev pub GivesKinds : Grouped Kind → TypesValue → Type 0
GivesKinds groups types = (uri local : List ℕ) → value_under groups uri local ≡ kind_in types uri local

-- The same, and whether a record names a member.
pub record AreKept (groups : Grouped Kind) (known : Bool) (types : TypesValue) : Type 0 where
  pub kinds : GivesKinds groups types
  pub members : known ≡ has_members types
