-- The history of a table: the blocks of facts that were sent into its ring, followed by one ending.
-- Source: xBRL-CSV 1.0, a report is the facts of its tables.
use Rattle.std.specs.Prelude.{◌≡◌, ◌⊎◌, ⊤, ℕ, ◌+◌, true, List, [], ◌∷◌, ◌++◌}
use mathlib.Core.List.{IsPrefix}
use Rattle.oim_resolve.specs.FactParts.{FactParts as Fact}
use Rattle.oim_ring.specs.Items.{blocks_only}
use Rattle.oim_ring.specs.declared.item.Ending as Endings
use Rattle.oim_ring.specs.declared.item.Ending.TheVariants.{Closed, Refused}
use Rattle.oim_ring.specs.declared.item.Item.{Item}
use Rattle.oim_ring.specs.declared.item.Item.TheVariants.{Block, Ending}
use Rattle.oim_rows.specs.Header.{file_fault}
use Rattle.oim_rows.specs.Streams.{Stream, facts_of, facts_of_rows}
use Rattle.oim_rows.specs.declared.fault.TableKind.TheVariants as kind
use Rattle.oim_convert.specs.Answer.{ending_of}

-- The facts of blocks, in order.
abbrev pub facts_in : List Item → List Fact
facts_in [] = []
facts_in (Block facts ∷ items) = facts ++ facts_in items
facts_in (Ending ending ∷ items) = facts_in items

-- Blocks of these facts, then this ending, and nothing after it.
pub record IsHistory (facts : List Fact) (ending : Endings.Ending) (history : List Item) : Type 0 where
  pub before : List Item
  pub blocks : blocks_only before ≡ true
  pub holds : facts_in before ≡ facts
  pub is : history ≡ before ++ Ending ending ∷ []

-- The fault of the ending, if it has one, is of this table.
abbrev pub IsEndingOf : ℕ → Endings.Ending → Type 0
IsEndingOf table Closed = ⊤
IsEndingOf table (Refused fault) = fault.table ≡ table

-- Blocks, and then one ending of this table.
pub record IsOfTable (table : ℕ) (history : List Item) : Type 0 where
  pub facts : List Fact
  pub ending : Endings.Ending
  pub is : IsHistory facts ending history
  pub own : IsEndingOf table ending

-- The history is the stream of a table: all its facts, followed by its own ending.
abbrev pub IsStream : Stream → List Item → Type 0
IsStream s history = IsHistory (facts_of s) (ending_of s.fault) history

-- All facts of the table, and its own ending.
abbrev pub IsWhole : Stream → List Fact → Endings.Ending → Type 0
IsWhole s facts ending = (facts ≡ facts_of s) × (ending ≡ ending_of s.fault)

-- The reader failed: the facts are those of some first rows.
pub record IsUnread (table : ℕ) (s : Stream) (facts : List Fact) (ending : Endings.Ending) : Type 0 where
  pub rows : List (List Fact)
  pub some : IsPrefix rows s.rows
  pub holds : facts ≡ facts_of_rows rows
  pub refused : ending ≡ Refused (file_fault table kind.Read)

-- Memory ran out: the facts are a prefix of the table's.
pub record IsOutOfMemory (table : ℕ) (s : Stream) (facts : List Fact) (ending : Endings.Ending) : Type 0 where
  pub some : IsPrefix facts (facts_of s)
  pub refused : ending ≡ Refused (file_fault table kind.Memory)

-- The facts from decoding a table, and the ending after them.
abbrev pub IsGiven : ℕ → Stream → List Fact → Endings.Ending → Type 0
IsGiven table s facts ending = IsWhole s facts ending ⊎ IsUnread table s facts ending ⊎ IsOutOfMemory table s facts ending

-- The table was decoded: its history is its stream, or a prefix of it if the reader failed or
-- memory ran out.
pub record IsDecoded (table : ℕ) (s : Stream) (history : List Item) : Type 0 where
  pub facts : List Fact
  pub ending : Endings.Ending
  pub given : IsGiven table s facts ending
  pub is : IsHistory facts ending history

-- No thread could be made to decode the table.
abbrev pub IsUnserved : ℕ → List Item → Type 0
IsUnserved table history = history ≡ Ending (Refused (file_fault table kind.NoThread)) ∷ []

-- Each table was decoded; the first is table i.
abbrev pub AreDecoded : ℕ → List Stream → List (List Item) → Type 0
AreDecoded i [] [] = ⊤
AreDecoded i [] (h ∷ hs) = ⊥
AreDecoded i (s ∷ ss) [] = ⊥
AreDecoded i (s ∷ ss) (h ∷ hs) = IsDecoded i s h × AreDecoded (i + 1) ss hs

-- No table was decoded; the first is table i.
abbrev pub AreUnserved : ℕ → List Stream → List (List Item) → Type 0
AreUnserved i [] [] = ⊤
AreUnserved i [] (h ∷ hs) = ⊥
AreUnserved i (s ∷ ss) [] = ⊥
AreUnserved i (s ∷ ss) (h ∷ hs) = IsUnserved i h × AreUnserved (i + 1) ss hs
