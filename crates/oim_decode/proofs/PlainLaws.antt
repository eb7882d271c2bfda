-- Texts of facts that are appended one after the other, and where each ends.
use Rattle.std.proofs.Common.{◌≡◌, ℕ, ◌+◌, ◌<◌, List, [], ◌∷◌, ◌++◌, Result, Ok, inl, inr, length, take, get_or, ap, subst, sym, ◌∙◌, append-nil, append_assoc, length-append}
use Rattle.std.proofs.lemmas.List.{take_more}
use Rattle.oim_resolve.specs.FactParts.{FactParts as Fact}
use Rattle.oim_json.specs.JsonText.{member_text}
use Rattle.oim_json.specs.Blocks.{behind_commas, ends_from}
use Rattle.oim_json.proofs.Blocks.{texts_push, ends_push}
use Rattle.oim_records.specs.Grids.{Record}
use Rattle.oim_fast.specs.Facts.{facts_of_row}
use Rattle.oim_row.specs.Rows.{RowValue}
use Rattle.oim_rows.specs.RowFacts.{TableHeaderValue, facts_from, row_of}
use Rattle.oim_rows.specs.Streams.{OrNoMemory}
use Rattle.oim_rows.specs.declared.fault.TableFault.{TableFault}

-- NoFacts is appended or recorded yet.
pub nothing_put : (fs : List Fact) (old noted : List ℕ) → (old ≡ old ++ behind_commas (take 0 fs)) × (noted ≡ noted ++ ends_from (length old) (take 0 fs))
unfolding behind_commas ends_from
nothing_put fs old noted = (sym (append-nil old), sym (append-nil noted))

-- One more fact is appended.
pub one_put : (fs : List Fact) (i : ℕ) (f : Fact) (old new opened next : List ℕ) → i < length fs → f ≡ get_or fs i f → new ≡ old ++ behind_commas (take i fs) → opened ≡ new ++ 44 ∷ []
    → next ≡ opened ++ member_text f → next ≡ old ++ behind_commas (take (i + 1) fs)
one_put fs i f old new opened next h is so first then =
    then ∙ ap (λ t. t ++ member_text f) (first ∙ ap (λ t. t ++ 44 ∷ []) so) ∙ append_assoc (old ++ behind_commas (take i fs)) (44 ∷ []) (member_text f)
    ∙ append_assoc old (behind_commas (take i fs)) (44 ∷ member_text f)
    ∙ ap (λ t. old ++ t) (sym (texts_push (take i fs) f) ∙ ap (λ g. behind_commas (take i fs ++ g ∷ [])) is ∙ ap behind_commas (sym (take_more fs i f h)))

-- Its end is recorded.
pub one_noted : (fs : List Fact) (i end : ℕ) (f : Fact) (old next noted ns ms : List ℕ) → i < length fs → f ≡ get_or fs i f → next ≡ old ++ behind_commas (take (i + 1) fs) → end ≡ length next
    → ns ≡ noted ++ ends_from (length old) (take i fs) → ms ≡ ns ++ end ∷ [] → ms ≡ noted ++ ends_from (length old) (take (i + 1) fs)
one_noted fs i end f old next noted ns ms h is text at so then =
    let more : take (i + 1) fs ≡ take i fs ++ f ∷ [] = take_more fs i f h ∙ ap (λ g. take i fs ++ g ∷ []) (sym is) in
    let here : end ≡ length old + length (behind_commas (take i fs ++ f ∷ [])) =
    at ∙ ap length text ∙ length-append old (behind_commas (take (i + 1) fs)) ∙ ap (λ t. length old + length (behind_commas t)) more in
    then ∙ ap (λ t. t ++ end ∷ []) so ∙ append_assoc noted (ends_from (length old) (take i fs)) (end ∷ [])
    ∙ ap (λ k. noted ++ (ends_from (length old) (take i fs) ++ k ∷ [])) here
    ∙ ap (λ t. noted ++ t) (sym (ends_push (length old) (take i fs) f) ∙ ap (ends_from (length old)) (sym more))

-- The answer for the cells of a row is the answer for the row.
pub plan_answer : (x : RowValue) (p : TableHeaderValue) (n : ℕ) (r : Record) (result : Result (List Fact) TableFault) → p ≡ x.header → n ≡ x.number → r ≡ x.fields
    → OrNoMemory p.table result (facts_from p.report p.table (row_of p n r) 0 p.columns) → OrNoMemory x.header.table result (facts_of_row x)
plan_answer x p n r result header number fields given =
    subst (λ (q : TableHeaderValue). OrNoMemory q.table result (facts_from q.report q.table (row_of q x.number x.fields) 0 q.columns)) header
    (subst (λ (m : ℕ). OrNoMemory p.table result (facts_from p.report p.table (row_of p m x.fields) 0 p.columns)) number
    (subst (λ (s : Record). OrNoMemory p.table result (facts_from p.report p.table (row_of p n s) 0 p.columns)) fields given))

-- The answered facts are the row's.
pub facts_are : (table : ℕ) (answer : Result (List Fact) TableFault) (fs : List Fact) → OrNoMemory table (Ok fs) answer → answer ≡ Ok fs
facts_are table answer fs (inl m) = absurd (cc)
facts_are table answer fs (inr is) = sym is
