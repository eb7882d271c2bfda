-- What a call gives of the stream that is left.
use Rattle.std.proofs.Common.{◌≡◌, ◌⊎◌, ◌++◌, ◌+◌, ◌≤◌, ◌<◌, ℕ, List, [], Option, Some, None, IfSome, IfNone, IfOk, IfErr, IsSome, Result, Ok, Err, refl, sym, ap, subst, ◌∙◌, append-nil, arith, inl, inr}
use Rattle.oim_resolve.specs.FactParts.{FactParts as Fact}
use Rattle.oim_rows.specs.Header.{file_fault}
use Rattle.oim_rows.specs.Streams.{IsOutside, Stream, answer_of, ending, facts_of_rows}
use Rattle.oim_rows.specs.declared.fault.TableFault.{TableFault}
use Rattle.oim_rows.specs.declared.fault.TableKind.TheVariants as kind
use Rattle.oim_decode.specs.Blocks.{GivesBlock, KeepsAnswer, ReadsRows}
use Rattle.oim_decode.specs.state.Blocks.{end_or_left}
use Rattle.oim_decode.proofs.Advances.{broken_off}
use Rattle.oim_pieces.specs.PiecesLeft.{FewerSteps, KeepsStream, steps_for}
use Rattle.oim_pieces.specs.state.PiecesUnderWay.{IsEndOfTable, fault_or_left}

-- The end or the fault is kept.
pub end_kept : {A : Type 0} (r : Result (Option A) TableFault) (o : Option TableFault) → r ≡ answer_of o → KeepsAnswer r (Some o)
end_kept r None is = rw is refl
end_kept r (Some e) is = rw is refl

pub given_kept : {A : Type 0} (r : Result (Option A) TableFault) (answered : Option (Option TableFault)) → IfOk r (λ o. IsSome o) → IfErr r (λ e. answered ≡ Some (Some e))
    → KeepsAnswer r answered
given_kept (Ok (Some v)) answered some fault = tt
given_kept (Ok None) answered some fault = absurd (cc some)
given_kept (Err e) answered some fault = fault

-- No blocks are given.
pub none_given : {A : Type 0} (r : Result (Option A) TableFault) (o : Option TableFault) (P : Type 0) → r ≡ answer_of o → IfOk r (λ p. IfSome p (λ _. P))
none_given r None P is = rw is tt
none_given r (Some e) P is = rw is tt

-- A piece was joined, and its blocks were given.
pub moved : {A : Type 0} (r : Result (Option A) TableFault) (answered : Option (Option TableFault)) (before : Option ℕ) (under now : ℕ) (unread left : Option (List ℕ))
    → FewerSteps before (steps_for under unread) → IsSome answered ⊎ ((now ≡ under) × (left ≡ unread))
    → IfOk r (λ o. IfSome o (λ _. IsSome answered ⊎ FewerSteps before (steps_for now left)))
moved (Ok (Some v)) answered before under now unread left fewer (inl settled) = inl settled
moved (Ok (Some v)) answered before under now unread left fewer (inr same) =
    inr (subst (λ n. FewerSteps before (steps_for n left)) (sym same.0) (subst (λ l. FewerSteps before (steps_for under l)) (sym same.1) fewer))
moved (Ok None) answered before under now unread left fewer so = tt
moved (Err e) answered before under now unread left fewer so = tt

-- A piece was joined, which has a row at least and none past the limit.
pub counted : {A : Type 0} (r : Result (Option A) TableFault) (answered : Option (Option TableFault)) (fault : Option TableFault) (before ahead after now limit behind last : ℕ)
    → ahead ≡ before → ahead < after → (fault ≡ None → after ≤ limit + 1) → behind ≡ limit → last ≡ behind → IsSome answered ⊎ ((fault ≡ None) × (now ≡ after))
    → IfOk r (λ o. IfSome o (λ _. IsSome answered ⊎ ((before < now) × (now ≤ last + 1))))
counted (Ok (Some v)) answered fault before ahead after now limit behind last cut more few same kept (inl settled) = inl settled
counted (Ok (Some v)) answered fault before ahead after now limit behind last cut more few same kept (inr going) =
    let within = few going.0 in
    let at = going.1 in
    inr (omega (arith, cut, more, at), omega (arith, within, at, same, kept))
counted (Ok None) answered fault before ahead after now limit behind last cut more few same kept so = tt
counted (Err e) answered fault before ahead after now limit behind last cut more few same kept so = tt

module _ (table : ℕ) where
  -- The same end or fault is answered again.
  pub again_ended : (left : Option Stream) (o : Option TableFault) → o ≡ None → IfSome (end_or_left (Some o) left) (λ s. GivesBlock table [] s (Ok None) [] (end_or_left (Some o) left))
  again_ended left o is = subst (λ p. IfSome (end_or_left (Some p) left) (λ s. GivesBlock table [] s (Ok None) [] (end_or_left (Some p) left))) (sym is) (record {
    rows = [];
    reads = inl (refl, refl);
    answers = (refl, refl, refl);
  })

  pub again_failed : (left : Option Stream) (o : Option TableFault) (e : TableFault) → o ≡ Some e
      → IfSome (end_or_left (Some o) left) (λ s. GivesBlock table [] s (Err e) [] (end_or_left (Some o) left))
  again_failed left o e is = subst (λ p. IfSome (end_or_left (Some p) left) (λ s. GivesBlock table [] s (Err e) [] (end_or_left (Some p) left))) (sym is) (record {
    rows = [];
    reads = inl (refl, refl);
    answers = (refl, refl, inl refl);
  })

  -- The blocks of a piece.
  piece-gives : (s : Stream) (rows : List (List Fact)) (facts : List Fact) (left : Option Stream) → ReadsRows table s rows left → facts ≡ facts_of_rows rows
      → GivesBlock table [] s (Ok (Some facts)) [] left
  piece-gives s rows facts left reads all = record { rows = rows; reads = reads; answers = sym all ∙ sym (append-nil facts) }

  pub piece_given : {V : Type 0} (facts : V → List Fact) (r : Result (Option V) TableFault) (old now next : Option Stream) (rows : List (List Fact)) (o : Option TableFault) (left : Option Stream)
      → KeepsStream old now → IfSome now (λ whole. ReadsRows table whole rows (fault_or_left o next))
      → IfOk r (λ p. IfSome p (λ v. (facts v ≡ facts_of_rows rows) × (left ≡ fault_or_left o next)))
      → IfSome old (λ s. IfOk r (λ p. IfSome p (λ v. GivesBlock table [] s (Ok (Some (facts v))) [] left)))
  piece_given facts r None now next rows o left kept read are = tt
  piece_given facts (Err e) (Some s) now next rows o left kept read are = tt
  piece_given facts (Ok None) (Some s) now next rows o left kept read are = tt
  piece_given facts (Ok (Some v)) (Some s) now next rows o left kept read are =
      let reads : ReadsRows table s rows (fault_or_left o next) = subst (λ (p : Option Stream). IfSome p (λ whole. ReadsRows table whole rows (fault_or_left o next))) kept read in
      piece-gives s rows (facts v) left (subst (λ p. ReadsRows table s rows p) (sym are.1) reads) are.0

  -- Memory ran out for the blocks of a piece.
  pub short_given : {A : Type 0} (r : Result A TableFault) (old now next : Option Stream) (rows : List (List Fact)) (o : Option TableFault) (left : Option Stream)
      → KeepsStream old now → IfSome now (λ whole. ReadsRows table whole rows (fault_or_left o next))
      → IfErr r (λ e. (e ≡ file_fault table kind.Memory) × (left ≡ Some (ending (Some e))))
      → IfSome old (λ s. IfErr r (λ e. GivesBlock table [] s (Err e) [] left))
  short_given r None now next rows o left kept read short = tt
  short_given (Ok a) (Some s) now next rows o left kept read short = tt
  short_given (Err e) (Some s) now next rows o left kept read short =
      let reads : ReadsRows table s rows (fault_or_left o next) = subst (λ (p : Option Stream). IfSome p (λ whole. ReadsRows table whole rows (fault_or_left o next))) kept read in
      record {
        rows = rows;
        reads = subst (λ p. ReadsRows table s rows p) (sym short.1) (broken_off table s rows (fault_or_left o next) e reads (inr short.0));
        answers = (refl, short.1, inr short.0);
      }

  -- The end.
  pub end_given : {V : Type 0} (r : Result (Option V) TableFault) (old now left : Option Stream) (o : Option TableFault) → KeepsStream old now → IsEndOfTable table now o
      → IfOk r (λ p. IfNone p (o ≡ None) × IfSome p (λ _. ⊥)) → left ≡ Some (ending o)
      → IfSome old (λ s. IfOk r (λ p. IfNone p (GivesBlock table [] s (Ok None) [] left)))
  end_given r None now left o kept ends none is = tt
  end_given (Err e) (Some s) now left o kept ends none is = tt
  end_given (Ok (Some v)) (Some s) now left o kept ends none is = tt
  end_given (Ok None) (Some s) now left o kept ends none is =
      let ended : IsEndOfTable table (Some s) None = subst (λ (p : Option Stream). IsEndOfTable table p None) kept (subst (λ p. IsEndOfTable table now p) none.0 ends) in
      let over : left ≡ Some (ending None) = is ∙ ap (λ p. one (ending p)) none.0 in
      record {
        rows = [];
        reads = subst (λ p. ReadsRows table s [] p) (sym over) (inl (ap (λ (t : Stream). t.rows) ended, ap (λ (t : Stream). t.fault) ended));
        answers = (refl, refl, over);
      }
    where
      one : Stream → Option Stream
      one t = Some t

  pub fault_given : {A : Type 0} (r : Result A TableFault) (old now left : Option Stream) (o : Option TableFault) → IsEndOfTable table now o → IfErr r (λ e. o ≡ Some e)
      → left ≡ Some (ending o) → IfSome old (λ s. IfErr r (λ e. GivesBlock table [] s (Err e) [] left))
  fault_given r None now left o ends some is = tt
  fault_given (Ok a) (Some s) now left o ends some is = tt
  fault_given (Err e) (Some s) now left o ends some is =
      let outside : IsOutside table e = subst (λ p. IsEndOfTable table now p) some ends in
      let over : left ≡ Some (ending (Some e)) = is ∙ ap (λ p. one (ending p)) some in
      record {
        rows = [];
        reads = subst (λ p. ReadsRows table s [] p) (sym over) (inr ((s.rows, refl), e, outside, refl));
        answers = (refl, over, inl refl);
      }
    where
      one : Stream → Option Stream
      one t = Some t
