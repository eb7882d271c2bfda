-- The histories of a report's tables, by the readers of their files.
use Rattle.std.specs.Prelude.{◌≡◌, ℕ, Bool, false, List, Option, Some, length, slice_get}
use Rattle.oim_report.specs.ReportValue.{ReportValue}
use Rattle.oim_ring.specs.declared.item.Item.{Item}
use Rattle.oim_convert.specs.Histories.{IsOfTable}
use Rattle.oim_convert.specs.Tasks.{Each, IsKept}

module _ {R : Type 0} where
  -- The history of this table, which ends with one ending of the table: it was decoded from the
  -- file of its reader, if contracts see the reader's bytes, or no thread could be made for it.
  pub record IsServed (told : R → Option (List ℕ)) (report : ReportValue) (limit : ℕ) (served : Bool) (readers : List (Option R)) (table : ℕ) (history : List Item) : Type 0 where
    pub reader : Option R
    pub given : slice_get readers table ≡ Some reader
    pub own : IsOfTable table history
    pub kept : IsKept told report limit served table reader history

  -- One history for each reader, in order. All tables were served or none was, and none if no
  -- worker was to be started.
  abbrev pub AreServed : (R → Option (List ℕ)) → ReportValue → ℕ → ℕ → List (Option R) → List (List Item) → Type 0
  AreServed told report limit starts readers hs =
      (served : Bool) × (starts ≡ 0 → served ≡ false) × (length hs ≡ length readers) × Each (IsServed told report limit served readers) 0 hs
