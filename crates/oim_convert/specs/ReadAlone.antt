-- The histories of a report's tables on one thread, by the readers of their files.
use Rattle.std.specs.Prelude.{⊤, ℕ, ◌+◌, true, List, [], ◌∷◌, Option}
use Rattle.oim_report.specs.ReportValue.{ReportValue}
use Rattle.oim_resolve.specs.FactParts.{FactParts as Fact}
use Rattle.oim_ring.specs.declared.item.Ending as Endings
use Rattle.oim_ring.specs.declared.item.Item.{Item}
use Rattle.oim_convert.specs.Histories.{IsEndingOf, IsHistory}
use Rattle.oim_convert.specs.Tasks.{IsKept}

module _ {R : Type 0} where
  -- The history of a table that was read: blocks, then one ending of this table. It is decoded from
  -- the file of the table's reader if contracts see the reader's bytes.
  pub record IsRead (told : R → Option (List ℕ)) (report : ReportValue) (limit table : ℕ) (reader : Option R) (history : List Item) : Type 0 where
    pub facts : List Fact
    pub ending : Endings.Ending
    pub is : IsHistory facts ending history
    pub own : IsEndingOf table ending
    pub kept : IsKept told report limit true table reader history

  -- One history for each reader, in order; the first is of table i.
  abbrev pub AreRead : (R → Option (List ℕ)) → ReportValue → ℕ → ℕ → List (Option R) → List (List Item) → Type 0
  AreRead told report limit i [] [] = ⊤
  AreRead told report limit i [] (h ∷ hs) = ⊥
  AreRead told report limit i (r ∷ rs) [] = ⊥
  AreRead told report limit i (r ∷ rs) (h ∷ hs) = IsRead told report limit i r h × AreRead told report limit (i + 1) rs hs
