-- The facts of a row, column by column.
use Rattle.std.proofs.Common.{◌≡◌, ◌<◌, ◌≤◌, ℕ, suc, ◌+◌, ◌-◌, Bool, true, false, List, [], ◌∷◌, ◌++◌, drop, get_or, length, take, codes, Option, Some, None, Result, Ok, refl, sym, ap, subst, ◌∙◌, arith, append_assoc, append-nil, length-append, take_all}
use Rattle.std.specs.Option.{option_to_list}
use Rattle.std.specs.Prelude.{if◌then◌else◌}
use Rattle.std.proofs.lemmas.List.{get_or-drop, length-drop, take_more}
use mathlib.Core.List.{IsPrefix}
use Rattle.oim_json.specs.Blocks.{behind_comma, behind_commas, ends_from}
use Rattle.oim_json.specs.JsonText.{member_text}
use Rattle.oim_json.proofs.Blocks.{ends_push, texts_append, texts_push}
use Rattle.oim_resolve.specs.Cell.{cell_of}
use Rattle.oim_resolve.specs.FactParts.{FactParts as Fact}
use Rattle.oim_resolve.specs.Facts.{cell_result}
use Rattle.oim_rows.specs.Header.{Header}
use Rattle.oim_rows.specs.RowFacts.{at_place, facts_from, in_front, is_fact_column}
use Rattle.oim_rows.specs.declared.fault.TableFault.{TableFault}
use Rattle.oim_fast.specs.state.CellWriters.{GivesPart, HasFacts, column_at}
use Rattle.oim_fast.specs.Facts.{GiveFacts, HasPart, WritesFacts, WritesPart, fact_columns_in}
use Rattle.oim_fast.specs.state.Facts.{WritesFact, fact_text}
use Rattle.oim_row.specs.Rows.{RowValue, columns_in, row_in}
use Rattle.oim_row.specs.state.Rows.{cell_in}

-- One more column.
give_more : (x : RowValue) (cs : List ℕ) (c : ℕ) (fs : List Fact) (o : Option Fact) → GiveFacts x cs fs → cell_result (cell_in x c) ≡ Ok o → GiveFacts x (cs ++ c ∷ []) (fs ++ option_to_list o)
give_more x [] c fs o h e = (o, [], e, ap (λ q. q ++ option_to_list o) h ∙ sym (append-nil (option_to_list o)), refl)
give_more x (k ∷ cs) c fs o (p, more, is, same, rest) e =
    (p, more ++ option_to_list o, is, ap (λ q. q ++ option_to_list o) same ∙ append_assoc (option_to_list p) more (option_to_list o), give_more x cs c more o rest e)

joined_front : (o : Option Fact) (fs : List Fact) → in_front (Ok o) (Ok fs) ≡ Ok (option_to_list o ++ fs)
joined_front None fs = refl
joined_front (Some f) fs = refl

-- The columns of facts of a header give what the header gives.
pub facts_found : (x : RowValue) (p : ℕ) (h : Header) (fs : List Fact) → GiveFacts x (fact_columns_in x.header h) fs → facts_from x.header.report x.header.table (row_in x) p h ≡ Ok fs
facts_found x p [] fs g = ap (λ (q : List Fact). Ok q) (sym g)
facts_found x p (None ∷ h) fs g = facts_found x (p + 1) h fs g
facts_found x p (Some c ∷ h) fs g = by (λ gs k. facts_found x (p + 1) h gs k) (is_fact_column (columns_in x.header) c) g
  where
    later : Result (List Fact) TableFault
    later = facts_from x.header.report x.header.table (row_in x) (p + 1) h

    by : ((gs : List Fact) → GiveFacts x (fact_columns_in x.header h) gs → later ≡ Ok gs) → (b : Bool) → GiveFacts x (if b then c ∷ fact_columns_in x.header h else fact_columns_in x.header h) fs
        → in_front (if b then at_place x.header.table (row_in x).number (p + 1) (cell_result (cell_of x.header.report x.header.table (row_in x) c)) else Ok None) later ≡ Ok fs
    by found true (o, more, is, same, rest) =
        ap (λ a. in_front (at_place x.header.table (row_in x).number (p + 1) a) later) is
        ∙ ap (in_front (Ok o)) (found more rest) ∙ joined_front o more ∙ ap (λ (q : List Fact). Ok q) (sym same)
    by found false rest = found fs rest

text_step : (o : Option Fact) → behind_commas (option_to_list o) ≡ fact_text o
unfolding behind_commas
text_step None = refl
text_step (Some f) = append-nil (codes "," ++ member_text f)

-- The end of a text that was written is recorded.
noted_more : (old now next noted ns ms : List ℕ) (fs : List Fact) (o : Option Fact) → now ≡ old ++ behind_commas fs → next ≡ now ++ fact_text o → ns ≡ noted ++ ends_from (length old) fs
    → (length now < length next → ms ≡ ns ++ length next ∷ []) → (length next ≤ length now → ms ≡ ns) → ms ≡ noted ++ ends_from (length old) (fs ++ option_to_list o)
noted_more old now next noted ns ms fs None is grown marks more none =
    none (omega (arith, ap length grown, length-append now [])) ∙ marks ∙ ap (λ (gs : List Fact). noted ++ ends_from (length old) gs) (sym (append-nil fs))
noted_more old now next noted ns ms fs (Some f) is grown marks more none =
    let text : next ≡ old ++ behind_commas (fs ++ f ∷ []) =
    grown ∙ ap (λ t. t ++ behind_comma f) is ∙ append_assoc old (behind_commas fs) (behind_comma f) ∙ ap (λ t. old ++ t) (sym (texts_push fs f)) in
    let long : length next ≡ length old + length (behind_commas (fs ++ f ∷ [])) = ap length text ∙ length-append old (behind_commas (fs ++ f ∷ [])) in
    let some : length (behind_comma f) ≡ suc (length (member_text f)) = refl in
    let came : length next ≡ length now + length (behind_comma f) = ap length grown ∙ length-append now (behind_comma f) in
    more (omega arith) ∙ ap (λ t. t ++ length next ∷ []) marks ∙ append_assoc noted (ends_from (length old) fs) (length next ∷ [])
    ∙ ap (λ k. noted ++ (ends_from (length old) fs ++ k ∷ [])) long ∙ ap (λ t. noted ++ t) (sym (ends_push (length old) fs f))

-- Nothing is written or recorded yet.
nothing_yet : (old noted : List ℕ) → (old ≡ old ++ behind_commas []) × (noted ≡ noted ++ ends_from (length old) [])
unfolding behind_commas ends_from
nothing_yet old noted = (sym (append-nil old), sym (append-nil noted))

module _ (x : RowValue) where
  abbrev columns : List ℕ
  columns = fact_columns_in x.header x.header.columns

  pub none_yet : (old noted : List ℕ) → HasFacts x 0 old old noted noted
  none_yet old noted = record { facts = []; are = refl; text = (nothing_yet old noted).0; ends = (nothing_yet old noted).1 }

  pub one_more : (i : ℕ) (old now next noted ns ms : List ℕ) → i < length columns → HasFacts x i old now noted ns → WritesFact (cell_result (cell_in x (column_at x.header i))) now next
      → (length now < length next → ms ≡ ns ++ length next ∷ []) → (length next ≤ length now → ms ≡ ns) → HasFacts x (i + 1) old next noted ms
  one_more i old now next noted ns ms lt p g more none = record {
    facts = p.facts ++ option_to_list g.fact;
    are = subst (λ (cs : List ℕ). GiveFacts x cs (p.facts ++ option_to_list g.fact)) (sym (take_more columns i 0 lt)) (give_more x (take i columns) (column_at x.header i) p.facts g.fact p.are g.is);
    text = g.text ∙ ap (λ q. q ++ fact_text g.fact) p.text ∙ append_assoc old (behind_commas p.facts) (fact_text g.fact)
        ∙ ap (λ q. old ++ q) (ap (λ q. behind_commas p.facts ++ q) (sym (text_step g.fact)) ∙ sym (texts_append p.facts (option_to_list g.fact)));
    ends = noted_more old now next noted ns ms p.facts g.fact p.text g.text p.ends more none;
  }

  pub all_given : (i : ℕ) (old new noted ns : List ℕ) → length columns ≤ i → HasFacts x i old new noted ns → WritesFacts x old new noted ns
  all_given i old new noted ns le p = record {
    facts = p.facts;
    are = facts_found x 0 x.header.columns p.facts (subst (λ (cs : List ℕ). GiveFacts x cs p.facts) (take_all i columns le) p.are);
    text = p.text;
    ends = p.ends;
  }

  -- A PART OF THE COLUMNS

  part_more : (i j : ℕ) → i ≤ j → j < length columns → take ((j + 1) - i) (drop i columns) ≡ take (j - i) (drop i columns) ++ column_at x.header j ∷ []
  part_more i j le lt =
      let k : ℕ = j - i in
      let here : k < length (drop i columns) = omega (arith, length-drop i columns, le, lt) in
      let one : (j + 1) - i ≡ k + 1 = omega (arith, le) in
      let back : i + k ≡ j = omega (arith, le) in
      ap (λ (n : ℕ). take n (drop i columns)) one ∙ take_more (drop i columns) k 0 here
      ∙ ap (λ (c : ℕ). take k (drop i columns) ++ c ∷ []) (get_or-drop i columns k 0 ∙ ap (λ (n : ℕ). get_or columns n 0) back)

  give_next : (i j : ℕ) (fs : List Fact) (o : Option Fact) → i ≤ j → j < length columns → GiveFacts x (take (j - i) (drop i columns)) fs
      → cell_result (cell_in x (column_at x.header j)) ≡ Ok o → GiveFacts x (take ((j + 1) - i) (drop i columns)) (fs ++ option_to_list o)
  give_next i j fs o le lt are is =
      subst (λ (cs : List ℕ). GiveFacts x cs (fs ++ option_to_list o)) (sym (part_more i j le lt)) (give_more x (take (j - i) (drop i columns)) (column_at x.header j) fs o are is)

  give_none : (i : ℕ) → GiveFacts x (take (i - i) (drop i columns)) []
  give_none i = let none : i - i ≡ 0 = omega arith in subst (λ (n : ℕ). GiveFacts x (take n (drop i columns)) []) (sym none) refl

  pub part_none : (i : ℕ) (old noted : List ℕ) → i ≤ length columns → WritesPart x i i old old noted noted
  part_none i old noted le = record { facts = []; order = omega arith; within = le; are = give_none i; text = (nothing_yet old noted).0; ends = (nothing_yet old noted).1 }

  pub part_next : (i j : ℕ) (old now next noted ns ms : List ℕ) → j < length columns → WritesPart x i j old now noted ns → WritesFact (cell_result (cell_in x (column_at x.header j))) now next
      → (length now < length next → ms ≡ ns ++ length next ∷ []) → (length next ≤ length now → ms ≡ ns) → WritesPart x i (j + 1) old next noted ms
  part_next i j old now next noted ns ms lt p g more none = record {
    facts = p.facts ++ option_to_list g.fact;
    order = omega (arith, p.order);
    within = omega (arith, lt);
    are = give_next i j p.facts g.fact p.order lt p.are g.is;
    text = g.text ∙ ap (λ q. q ++ fact_text g.fact) p.text ∙ append_assoc old (behind_commas p.facts) (fact_text g.fact)
        ∙ ap (λ q. old ++ q) (ap (λ q. behind_commas p.facts ++ q) (sym (text_step g.fact)) ∙ sym (texts_append p.facts (option_to_list g.fact)));
    ends = noted_more old now next noted ns ms p.facts g.fact p.text g.text p.ends more none;
  }

  pub seen_none : (i : ℕ) → i ≤ length columns → GivesPart x i i
  seen_none i le = record { facts = []; order = omega arith; are = give_none i }

  pub seen_next : (i j : ℕ) (now next : List ℕ) → j < length columns → GivesPart x i j → WritesFact (cell_result (cell_in x (column_at x.header j))) now next → GivesPart x i (j + 1)
  seen_next i j now next lt p g = record {
    facts = p.facts ++ option_to_list g.fact;
    order = omega (arith, p.order);
    are = give_next i j p.facts g.fact p.order lt p.are g.is;
  }

  pub all_seen : (i j : ℕ) → length columns ≤ j → GivesPart x i j → HasPart x i
  all_seen i j le p =
      let all : length (drop i columns) ≤ j - i = omega (arith, length-drop i columns, le) in
      (p.facts, subst (λ (cs : List ℕ). GiveFacts x cs p.facts) (take_all (j - i) (drop i columns) all) p.are)

-- The old text stays.
pub part_stays : {x : RowValue} {i j : ℕ} {old new noted ns : List ℕ} → WritesPart x i j old new noted ns → IsPrefix old new
part_stays p = (behind_commas p.facts, sym p.text)

pub part_ends_stay : {x : RowValue} {i j : ℕ} {old new noted ns : List ℕ} → WritesPart x i j old new noted ns → IsPrefix noted ns
part_ends_stay {x} {i} {j} {old} p = (ends_from (length old) p.facts, sym p.ends)

-- The old text stays.
pub text_stays : {x : RowValue} {i : ℕ} {old new noted ns : List ℕ} → HasFacts x i old new noted ns → IsPrefix old new
text_stays p = (behind_commas p.facts, sym p.text)

pub ends_stay : {x : RowValue} {i : ℕ} {old new noted ns : List ℕ} → HasFacts x i old new noted ns → IsPrefix noted ns
ends_stay {x} {i} {old} p = (ends_from (length old) p.facts, sym p.ends)
