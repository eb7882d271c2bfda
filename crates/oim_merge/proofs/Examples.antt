-- The documents of histories, executed on worked cases (xBRL-JSON 1.0).
use Rattle.std.proofs.Common.{◌≡◌, ℕ, ◌∷◌, [], List, None, ap, codes, refl}
use Rattle.oim_json.specs.Document.{members}
use Rattle.oim_json.specs.JsonText.{decimals_text, dimension_text, escaped_byte, member_text, quoted, value_text}
use Rattle.oim_json.specs.Sinks.{SinkView}
use Rattle.oim_json.specs.declared.layout.Layout.{Layout}
use Rattle.oim_json.specs.declared.layout.Layout.TheVariants.{Compact, Lines}
use Rattle.oim_merge.specs.Histories.{all_of, document, facts_before, refusals}
use Rattle.oim_merge.specs.Merging.{Merges}
use Rattle.oim_merge.specs.declared.progress.MergeEnd.TheVariants as end
use Rattle.oim_resolve.specs.FactParts.{FactParts as Fact}
use Rattle.oim_ring.specs.declared.item.Ending.TheVariants.{Closed, Refused}
use Rattle.oim_ring.specs.declared.item.Item.{Item}
use Rattle.oim_ring.specs.declared.item.Item.TheVariants.{Block, Ending}
use Rattle.oim_resolve.specs.declared.fact.CellFault.TheVariants.{BadNumber}
use Rattle.oim_rows.specs.declared.fault.TableFault.{TableFault}
use Rattle.oim_rows.specs.declared.fault.TableKind.TheVariants as kind

abbrev a : Fact
a = record { id = codes "a"; value = None; decimals = None; dimensions = [] }

abbrev b : Fact
b = record { id = codes "b"; value = None; decimals = None; dimensions = [] }

abbrev first_fault : TableFault
first_fault = record { table = 0; row = 2; column = 1; kind = kind.Cell BadNumber }

abbrev second_fault : TableFault
second_fault = record { table = 1; row = 0; column = 1; kind = kind.UnknownHeader }

-- Tables of one block each, and one without facts.
abbrev whole_a : List Item
whole_a = Block (a ∷ []) ∷ Ending Closed ∷ []

abbrev whole_b : List Item
whole_b = Block (b ∷ []) ∷ Ending Closed ∷ []

abbrev empty : List Item
empty = Ending Closed ∷ []

abbrev refused_a : List Item
refused_a = Block (a ∷ []) ∷ Ending (Refused first_fault) ∷ []

abbrev refused_b : List Item
refused_b = Block (b ∷ []) ∷ Ending (Refused second_fault) ∷ []

no_tables : document Compact (codes "{") [] ≡ codes "{}}\n"
unfolding members
no_tables = refl

an_empty_table : document Compact (codes "{") (empty ∷ []) ≡ codes "{}}\n"
unfolding members
an_empty_table = refl

-- No comma precedes the first fact.
an_empty_table_first : document Compact (codes "{") (empty ∷ whole_a ∷ []) ≡ codes "{\"a\":{\"dimensions\":{},\"value\":null}}}\n"
unfolding members member_text decimals_text dimension_text value_text quoted escaped_byte
an_empty_table_first = refl

two_tables : document Compact (codes "{") (whole_a ∷ whole_b ∷ []) ≡ codes "{\"a\":{\"dimensions\":{},\"value\":null},\"b\":{\"dimensions\":{},\"value\":null}}}\n"
unfolding members member_text decimals_text dimension_text value_text quoted escaped_byte
two_tables = refl

-- The facts before the refusal are written, and no tail.
second_refused : document Compact (codes "{") (whole_a ∷ refused_b ∷ []) ≡ codes "{\"a\":{\"dimensions\":{},\"value\":null},\"b\":{\"dimensions\":{},\"value\":null}"
unfolding members member_text decimals_text dimension_text value_text quoted escaped_byte
second_refused = refl

-- Nothing of a later table is written, even if that table is whole.
first_refused : document Compact (codes "{") (refused_a ∷ whole_b ∷ []) ≡ codes "{\"a\":{\"dimensions\":{},\"value\":null}"
unfolding members member_text decimals_text dimension_text value_text quoted escaped_byte
first_refused = refl

refused_at_once : document Compact (codes "{") ((Ending (Refused first_fault) ∷ []) ∷ whole_b ∷ []) ≡ codes "{"
unfolding members
refused_at_once = refl

no_refusal : refusals (all_of (whole_a ∷ empty ∷ whole_b ∷ [])) ≡ []
no_refusal = refl

refusal_of_the_second : refusals (all_of (whole_a ∷ refused_b ∷ [])) ≡ second_fault ∷ []
refusal_of_the_second = refl

-- The faults of both refused tables, in order, also if a whole table is between them.
refusals_of_both : refusals (all_of (refused_a ∷ whole_b ∷ refused_b ∷ [])) ≡ first_fault ∷ second_fault ∷ []
refusals_of_both = refl

-- The document of two refused tables ends with the first.
both_refused : document Compact (codes "{") (refused_a ∷ refused_b ∷ []) ≡ codes "{\"a\":{\"dimensions\":{},\"value\":null}"
unfolding members member_text decimals_text dimension_text value_text quoted escaped_byte
both_refused = refl

facts_up_to_the_refusal : facts_before (all_of (whole_b ∷ refused_a ∷ whole_b ∷ [])) ≡ b ∷ a ∷ []
facts_up_to_the_refusal = refl

-- Documents in lines.

two_tables_in_lines : document Lines (codes "{") (whole_a ∷ whole_b ∷ []) ≡ codes "{\n\"a\":{\"dimensions\":{},\"value\":null},\n\"b\":{\"dimensions\":{},\"value\":null}\n}}\n"
unfolding members member_text decimals_text dimension_text value_text quoted escaped_byte
two_tables_in_lines = refl

-- The head, and the closing braces on their own line.
no_tables_in_lines : document Lines (codes "{") [] ≡ codes "{\n}}\n"
unfolding members
no_tables_in_lines = refl

-- The head, a member, its comma, and a member without a line feed after it.
second_refused_in_lines : document Lines (codes "{") (whole_a ∷ refused_b ∷ []) ≡ codes "{\n\"a\":{\"dimensions\":{},\"value\":null},\n\"b\":{\"dimensions\":{},\"value\":null}"
unfolding members member_text decimals_text dimension_text value_text quoted escaped_byte
second_refused_in_lines = refl

-- Only the head is written.
refused_at_once_in_lines : document Lines (codes "{") ((Ending (Refused first_fault) ∷ []) ∷ whole_b ∷ []) ≡ codes "{"
unfolding members
refused_at_once_in_lines = refl

-- Answers that a merge never gives.
module _ (layout : Layout) (old new : SinkView) (head : List ℕ) where
  not_the_first_alone : Merges layout old new head (refused_a ∷ refused_b ∷ []) (first_fault ∷ []) end.Refused → ⊥
  not_the_first_alone m = let e = m.0 in cc

  not_in_another_order : Merges layout old new head (refused_a ∷ refused_b ∷ []) (second_fault ∷ first_fault ∷ []) end.Refused → ⊥
  not_in_another_order m =
      let e = m.0 in
      let same : second_fault ≡ first_fault = cc in
      let table : second_fault.table ≡ first_fault.table = ap (λ (f : TableFault). f.table) same in
      cc

  not_complete : Merges layout old new head (whole_a ∷ refused_b ∷ []) (second_fault ∷ []) end.Complete → ⊥
  not_complete m = let e = m.1.0 in cc

  no_fault_of_its_own : Merges layout old new head (whole_a ∷ whole_b ∷ []) (first_fault ∷ []) end.Refused → ⊥
  no_fault_of_its_own m = let e = m.0 in cc

  not_refused_without_fault : Merges layout old new head (whole_a ∷ whole_b ∷ []) [] end.Refused → ⊥
  not_refused_without_fault m = m.1.0 refl
