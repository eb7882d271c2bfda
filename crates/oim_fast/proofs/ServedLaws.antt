-- The frame of a column that is found or made in a row has the text of the column's facts.
use Rattle.std.proofs.Common.{◌≡◌, ◌<◌, ◌^◌, zero, suc, arith, ℕ, List, [], ◌∷◌, length, map, get_or, codes, Option, Some, None, IfSome, refl, sym, ap, subst, ◌∙◌, inl, inr, true}
use Rattle.std.specs.Prelude.{IsSomeAnd}
use Rattle.std.specs.List.{All, slice_get}
use Rattle.std.specs.Option.{option_and_then, option_map_or}
use Rattle.std.proofs.lemmas.Option.{slice_get_read}
use Rattle.oim_cells.specs.Cells.{meaning_of}
use Rattle.oim_cells.specs.Cells as m
use Rattle.oim_report.specs.ReportValue.{ReportValue}
use Rattle.oim_report.specs.declared.data.Level.{Level}
use Rattle.oim_report.specs.declared.data.Written.{Written}
use Rattle.oim_report.specs.declared.kind.Kind.{Kind}
use Rattle.oim_resolve.specs.Facts.{given}
use Rattle.oim_resolve.specs.Values.{value}
use Rattle.oim_resolve.specs.Written.{levels, written}
use Rattle.oim_row.specs.Answers.{IsAnswer, kind_read}
use Rattle.oim_fast.specs.state.Columns.{IsFactColumn}
use Rattle.oim_fast.specs.state.Frames.{Chooses, HasConstantKind, HasReferredKind, is_known_choice, levels_chosen}
use Rattle.oim_fast.specs.state.FrameTexts.{FrameValue}
use Rattle.oim_row.specs.Groups.{IsGroupCell, IsSaid}
use Rattle.oim_fast.specs.state.ChosenGroups.{choices_in}
use Rattle.oim_fast.specs.state.KeptFrames.{IsBody, IsFor, IsFrame, IsKnownFor, IsOfConcept, IsTextFor, text_of}
use Rattle.oim_row.specs.References.{IsFresh, Key, ReferenceValue, key_of, meaning_at_hand}
use Rattle.oim_row.specs.Rows.{RowValue, column_in}
use Rattle.oim_row.specs.state.Rows.{cell_in}
use Rattle.oim_row.specs.Sources.{source_text}
use Rattle.oim_fast.specs.declared.frame.fact_column.FactColumn.{FactColumn}
use Rattle.oim_fast.specs.declared.frame.frame.FrameBody.{FrameBody}
use Rattle.oim_fast.specs.declared.frame.frame.FrameBody.TheVariants as body
use Rattle.oim_fast.specs.declared.frame.frame.Frame.{Frame}
use Rattle.oim_row.specs.declared.answer.Answer.{Answer}
use Rattle.oim_row.specs.declared.group_cells.Choice.{Choice}
use Rattle.oim_row.specs.declared.group_cells.GroupCell.{GroupCell}
use Rattle.oim_fast.proofs.ChoiceLaws.{chooses}
use Rattle.oim_fast.proofs.FrameLaws.{levels_are}
use Rattle.oim_fast.proofs.PieceLaws.{all_at, found}
use Rattle.oim_fast.proofs.RowLaws.{value_constant, value_referred}

-- THE CONCEPT

module _ (x : RowValue) (c : ℕ) where
  given_is : (ls : List Level) (w : Written) → levels (cell_in x c) ≡ ls → written ls (codes "concept") ≡ Some w → given (cell_in x c) (codes "concept") ≡ value (cell_in x c) w
  given_is ls w e is =
      ap (λ (q : List Level). option_map_or (value (cell_in x c)) (written q (codes "concept")) m.Absent) e ∙ ap (λ o. option_map_or (value (cell_in x c)) o m.Absent) is

  constant_read : (ls : List Level) (k : Kind) → levels (cell_in x c) ≡ ls → HasConstantKind x.header ls k → kind_read x.header.report (given (cell_in x c) (codes "concept")) ≡ Some k
  constant_read ls k e h = ap (kind_read x.header.report) (given_is ls h.concept e h.written ∙ value_constant x c h.concept h.same) ∙ h.kind

  -- The kind that a reference answers is that of the concept.
  pub referred_read : (rs : List ReferenceValue) (i : ℕ) (a : Answer) (k : Kind) → x.number < 2 ^ 32 → All (IsFresh x) rs → HasReferredKind x.header (map key_of rs) (levels (cell_in x c)) i
      → IfSome (slice_get rs i) (λ r. IsAnswer r.report r.key.purpose (meaning_at_hand r) a) → a.kind ≡ Some k → kind_read x.header.report (given (cell_in x c) (codes "concept")) ≡ Some k
  referred_read rs i a k few fresh h answer e =
      let at = found key_of rs i _ h.referred.there in
      let r : ReferenceValue = at.0 in
      let so : IsFresh x r = all_at (IsFresh x) rs i r fresh at.1 in
      let said : IsAnswer r.report r.key.purpose (meaning_at_hand r) a = subst (λ (o : Option ReferenceValue). IfSome o (λ q. IsAnswer q.report q.key.purpose (meaning_at_hand q) a)) at.1 answer in
      let read : kind_read r.report (meaning_of r.text) ≡ Some k = subst (λ (o : Option Kind). IfSome o (λ q. kind_read r.report (meaning_of r.text) ≡ Some q)) e said.concept in
      let text : r.text ≡ source_text x h.referred.source = so.text ∙ ap (λ (q : Key). source_text x q.source) at.2 in
      ap (kind_read x.header.report) (given_is (levels (cell_in x c)) h.concept refl h.written ∙ value_referred x c h.concept h.referred.source few h.referred.written)
      ∙ ap (λ (q : ReportValue). kind_read q (meaning_of (source_text x h.referred.source))) (sym so.report)
      ∙ ap (λ (t : List ℕ). kind_read r.report (meaning_of t)) (sym text)
      ∙ read

  -- THE TEXT

  pub served_body : (keys : List Key) (os : List Choice) (n : Option Kind) (b : FrameBody) → levels (cell_in x c) ≡ levels_chosen x.header c os → Chooses x (column_in x.header c).from os → IsBody x.header keys c os n b
      → ((k : Kind) → n ≡ Some k → kind_read x.header.report (given (cell_in x c) (codes "concept")) ≡ Some k) → IfSome (text_of b) (IsTextFor x keys c)
  served_body keys os n (body.Text t) is chosen h by = record {
    choices = os;
    chosen = chosen;
    text = h.0;
    concept = elim h.1 [ inl e ↦ by t.kind e | inr same ↦ constant_read (levels_chosen x.header c os) t.kind is same ];
  }
  served_body keys os n (body.ByConcept i) is chosen h by = tt
  served_body keys os n body.Unknown is chosen h by = tt

module _ (x : RowValue) (cells : List GroupCell) (c : FactColumn) (column : IsFactColumn x.header cells c) where
  -- The choices of a column are known.
  pub known_choices : (k : Option Kind) (v : Frame) → IsKnownFor cells c k v → All (λ o. is_known_choice o ≡ true) (choices_in cells c.groups.items)
  known_choices k v h = subst (All (λ o. is_known_choice o ≡ true)) h.is.choices h.known

  module _ (are : All (IsGroupCell x.header) cells) (said : All (IsSaid x) cells) (known : All (λ o. is_known_choice o ≡ true) (choices_in cells c.groups.items)) where
    chosen : Chooses x (column_in x.header c.column).from (choices_in cells c.groups.items)
    chosen = chooses x cells are said c.groups.items (column_in x.header c.column).from column.groups known

    pub levels_found : levels (cell_in x c.column) ≡ levels_chosen x.header c.column (choices_in cells c.groups.items)
    levels_found = levels_are x c.column (choices_in cells c.groups.items) column.from chosen

    -- The reference that names the concept of a frame.
    pub concept_found : (keys : List Key) (k : Option Kind) (v : Frame) (i : ℕ) → IsFor cells c k v → IsFrame x.header keys v → v.body ≡ body.ByConcept i → HasReferredKind x.header keys (levels (cell_in x c.column)) i
    concept_found keys k v i is frame e =
        let here : HasReferredKind x.header keys (levels_chosen x.header v.column v.choices.items) i = subst (IsBody x.header keys v.column v.choices.items v.kind) e frame in
        subst (λ (ls : List Level). HasReferredKind x.header keys ls i) (sym levels_found)
        (subst (λ (os : List Choice). HasReferredKind x.header keys (levels_chosen x.header c.column os) i) is.choices
        (subst (λ (q : ℕ). HasReferredKind x.header keys (levels_chosen x.header q v.choices.items) i) is.column here))

    served_one : (keys : List Key) (k : Option Kind) (v : Frame) → IsFor cells c k v → IsFrame x.header keys v
        → ((q : Kind) → k ≡ Some q → kind_read x.header.report (given (cell_in x c.column) (codes "concept")) ≡ Some q) → IfSome (text_of v.body) (IsTextFor x keys c.column)
    served_one keys k v is frame by =
        let here : IsBody x.header keys c.column (choices_in cells c.groups.items) k v.body =
        subst (λ (n : Option Kind). IsBody x.header keys c.column (choices_in cells c.groups.items) n v.body) is.kind
        (subst (λ (os : List Choice). IsBody x.header keys c.column os v.kind v.body) is.choices
        (subst (λ (q : ℕ). IsBody x.header keys q v.choices.items v.kind v.body) is.column frame)) in
        served_body x c.column keys (choices_in cells c.groups.items) k v.body levels_found chosen here by

    -- A frame whose concept is the same in each row.
    pub served_first : (keys : List Key) (vs : List Frame) (place : ℕ) (v : Frame) → slice_get vs place ≡ Some v → IsFor cells c None v → All (IsFrame x.header keys) vs
        → IfSome (option_and_then (λ (q : Frame). text_of q.body) (slice_get vs place)) (IsTextFor x keys c.column)
    served_first keys vs place v e is frames =
        subst (λ (o : Option Frame). IfSome (option_and_then (λ (q : Frame). text_of q.body) o) (IsTextFor x keys c.column)) (sym e)
        (served_one keys None v is (all_at (IsFrame x.header keys) vs place v frames e) (λ q same. absurd (cc same)))

    -- A frame for the kind of the row's concept.
    served_kind : (keys : List Key) (vs : List Frame) (place : ℕ) (o : Option Frame) → slice_get vs place ≡ o → IsSomeAnd o (IsOfConcept x cells c) → All (IsFrame x.header keys) vs
        → IfSome (option_and_then (λ (q : Frame). text_of q.body) o) (IsTextFor x keys c.column)
    served_kind keys vs place None e h frames = absurd h
    served_kind keys vs place (Some v) e h frames =
        served_one keys (Some h.kind) v h.is (all_at (IsFrame x.header keys) vs place v frames e)
        (λ q same. h.concept ∙ same)

    pub served_concept : (keys : List Key) (vs : List Frame) (place : ℕ) → IsSomeAnd (slice_get vs place) (IsOfConcept x cells c) → All (IsFrame x.header keys) vs
        → IfSome (option_and_then (λ (q : Frame). text_of q.body) (slice_get vs place)) (IsTextFor x keys c.column)
    served_concept keys vs place h frames = served_kind keys vs place (slice_get vs place) refl h frames

-- PLACES

pub some_is : {A : Type 0} (P : A → Type 0) (xs : List A) (i : ℕ) (x : A) → slice_get xs i ≡ Some x → P x → IsSomeAnd (slice_get xs i) P
some_is P xs i x e h = subst (λ o. IsSomeAnd o P) (sym e) h

pub some_there : {A : Type 0} (P : A → Type 0) (xs : List A) (i : ℕ) (x : A) → i < length xs → x ≡ get_or xs i x → P x → IsSomeAnd (slice_get xs i) P
some_there P xs i x lt is h = some_is P xs i x (slice_get_read xs (length xs) i x refl lt is) h

pub some_also : {A : Type 0} (P Q : A → Type 0) (o : Option A) → ((x : A) → P x → Q x) → IsSomeAnd o P → IsSomeAnd o Q
some_also P Q None f h = h
some_also P Q (Some x) f h = f x h

pub there_some : {A : Type 0} (P : A → Type 0) (xs : List A) (i : ℕ) → IsSomeAnd (slice_get xs i) P → i < length xs
there_some P [] i h = absurd h
there_some P (x ∷ xs) zero h = omega arith
there_some P (x ∷ xs) (suc i) h = let more = there_some P xs i h in omega (arith, more)

pub it_is : {A : Type 0} (P : A → Type 0) (xs : List A) (i : ℕ) (x : A) → i < length xs → x ≡ get_or xs i x → IsSomeAnd (slice_get xs i) P → P x
it_is P xs i x lt is h = subst (λ o. IsSomeAnd o P) (slice_get_read xs (length xs) i x refl lt is) h

pub text_there : (xs : List Frame) (i : ℕ) (v : Frame) (t : FrameValue) → i < length xs → v ≡ get_or xs i v → v.body ≡ body.Text t → option_and_then (λ (q : Frame). text_of q.body) (slice_get xs i) ≡ Some t
text_there xs i v t lt is e = ap (option_and_then (λ (q : Frame). text_of q.body)) (slice_get_read xs (length xs) i v refl lt is) ∙ ap text_of e

pub known_for : (cells : List GroupCell) (c : FactColumn) (k : Option Kind) (v : Frame) → IsFor cells c k v → All (λ o. is_known_choice o ≡ true) (choices_in cells c.groups.items) → IsKnownFor cells c k v
known_for cells c k v is known = record { is = is; known = subst (All (λ o. is_known_choice o ≡ true)) (sym is.choices) known }

-- THE ROW'S FRAME

-- A frame that was found for a column without a kind.
module _ (x : RowValue) (cells : List GroupCell) (c : FactColumn) (column : IsFactColumn x.header cells c) (are : All (IsGroupCell x.header) cells) (said : All (IsSaid x) cells)
    (keys : List Key) (vs : List Frame) (frames : All (IsFrame x.header keys) vs) (place : ℕ) (v : Frame) (lt : place < length vs) (is : v ≡ get_or vs place v) (found_for : IsSomeAnd (slice_get vs place) (IsKnownFor cells c None)) where
  here : IsKnownFor cells c None v
  here = it_is (IsKnownFor cells c None) vs place v lt is found_for

  stands : slice_get vs place ≡ Some v
  stands = slice_get_read vs (length vs) place v refl lt is

  pub known_here : All (λ o. is_known_choice o ≡ true) (choices_in cells c.groups.items)
  known_here = known_choices x cells c column None v here

  pub text_here : IfSome (option_and_then (λ (q : Frame). text_of q.body) (slice_get vs place)) (IsTextFor x keys c.column)
  text_here = served_first x cells c column are said known_here keys vs place v stands here.is frames

  pub concept_here : (i : ℕ) → v.body ≡ body.ByConcept i → HasReferredKind x.header keys (levels (cell_in x c.column)) i
  concept_here i e = concept_found x cells c column are said known_here keys None v i here.is (all_at (IsFrame x.header keys) vs place v frames stands) e

-- A frame for the kind of its concept.
pub served_places : (x : RowValue) (cells : List GroupCell) (c : FactColumn) → IsFactColumn x.header cells c → All (IsGroupCell x.header) cells → All (IsSaid x) cells
    → All (λ o. is_known_choice o ≡ true) (choices_in cells c.groups.items) → (keys : List Key) (vs : List Frame) → All (IsFrame x.header keys) vs → (o : Option ℕ)
    → IfSome o (λ place. IsSomeAnd (slice_get vs place) (IsOfConcept x cells c)) → IfSome o (λ place. IfSome (option_and_then (λ (q : Frame). text_of q.body) (slice_get vs place)) (IsTextFor x keys c.column))
served_places x cells c column are said known keys vs frames None h = tt
served_places x cells c column are said known keys vs frames (Some place) h = served_concept x cells c column are said known keys vs place h frames
