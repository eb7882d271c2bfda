-- What a settled table answers, and what is left to read of it.
use Rattle.std.proofs.Common.{◌≡◌, ◌⊎◌, ◌<◌, ◌≤◌, ◌-◌, ℕ, arith, drop, List, [], length, Option, Some, None, Ok, Err, IfSome, IsSome, refl, ap, subst, sym, ◌∙◌, inl, inr, length-drop}
use Rattle.std.specs.Option.{is_some}
use Rattle.oim_resolve.specs.FactParts.{FactParts as Fact}
use Rattle.oim_rows.specs.Header.{file_fault}
use Rattle.oim_rows.specs.Streams.{ending}
use Rattle.oim_rows.specs.declared.fault.TableFault.{TableFault}
use Rattle.oim_rows.specs.declared.fault.TableKind.TheVariants as kind
use Rattle.oim_decode.specs.Blocks.{BlocksLeft, GivesFound, IsBehind, KeepsFound, ReadsBehind}
use Rattle.oim_decode.proofs.Advances.{behind_short}

-- A call first reads rows, which changes nothing if the table is settled.
module _ (old filled new : BlocksLeft) (again : IsSome old.answered → filled ≡ old) (given : new.given ≡ filled.given) (unread : new.unread ≡ filled.unread) where
  -- A prefix of the waiting facts.
  pub found_block : (block : List Fact) → new.answered ≡ filled.answered → KeepsFound old (Ok (Some block)) new
  found_block block answered = by old.answered refl
    where
      by : (o : Option (Option TableFault)) → old.answered ≡ o
          → IfSome o (λ found. GivesFound old.table old.pending found (Ok (Some block)) new.answered × (new.given ≡ old.given) × (new.unread ≡ old.unread))
      by None e = tt
      by (Some found) e =
          let same : filled ≡ old = again (ap is_some e) in
          (answered ∙ ap (λ (b : BlocksLeft). b.answered) same ∙ e, given ∙ ap (λ (b : BlocksLeft). b.given) same, unread ∙ ap (λ (b : BlocksLeft). b.unread) same)

  -- The end or the fault after them.
  pub found_end : filled.answered ≡ Some None → filled.pending ≡ [] → KeepsFound old (Ok None) new
  found_end answered none = by old.answered refl
    where
      by : (o : Option (Option TableFault)) → old.answered ≡ o
          → IfSome o (λ found. GivesFound old.table old.pending found (Ok None) new.answered × (new.given ≡ old.given) × (new.unread ≡ old.unread))
      by None e = tt
      by (Some found) e =
          let same : filled ≡ old = again (ap is_some e) in
          let is : Some found ≡ Some None = sym e ∙ sym (ap (λ (b : BlocksLeft). b.answered) same) ∙ answered in
          let that : found ≡ None = cc is in
          ((that, sym (ap (λ (b : BlocksLeft). b.pending) same) ∙ none), given ∙ ap (λ (b : BlocksLeft). b.given) same, unread ∙ ap (λ (b : BlocksLeft). b.unread) same)

  pub found_fault : (f : TableFault) → filled.answered ≡ Some (Some f) → filled.pending ≡ [] → KeepsFound old (Err f) new
  found_fault f answered none = by old.answered refl
    where
      by : (o : Option (Option TableFault)) → old.answered ≡ o
          → IfSome o (λ found. GivesFound old.table old.pending found (Err f) new.answered × (new.given ≡ old.given) × (new.unread ≡ old.unread))
      by None e = tt
      by (Some found) e =
          let same : filled ≡ old = again (ap is_some e) in
          let is : Some found ≡ Some (Some f) = sym e ∙ sym (ap (λ (b : BlocksLeft). b.answered) same) ∙ answered in
          let that : found ≡ Some f = cc is in
          (inl (that, sym (ap (λ (b : BlocksLeft). b.pending) same) ∙ none), given ∙ ap (λ (b : BlocksLeft). b.given) same, unread ∙ ap (λ (b : BlocksLeft). b.unread) same)

  -- Memory ran out for the waiting facts.
  pub found_short : (f : TableFault) → f ≡ file_fault old.table kind.Memory → 1 ≤ length filled.pending → KeepsFound old (Err f) new
  found_short f short some = by old.answered refl
    where
      by : (o : Option (Option TableFault)) → old.answered ≡ o
          → IfSome o (λ found. GivesFound old.table old.pending found (Err f) new.answered × (new.given ≡ old.given) × (new.unread ≡ old.unread))
      by None e = tt
      by (Some found) e =
          let same : filled ≡ old = again (ap is_some e) in
          (inr (short, subst (λ (b : BlocksLeft). 1 ≤ length b.pending) same some), given ∙ ap (λ (b : BlocksLeft). b.given) same, unread ∙ ap (λ (b : BlocksLeft). b.unread) same)

  -- What is left unread.
  pub behind_same : new.answered ≡ filled.answered → ReadsBehind old filled → ReadsBehind old new
  behind_same answered so =
      subst (λ a. IfSome old.unread (λ rs. IsBehind old.table rs (new.given - old.given) a new.unread)) (sym answered)
      (subst (λ u. IfSome old.unread (λ rs. IsBehind old.table rs (new.given - old.given) filled.answered u)) (sym unread)
      (subst (λ (n : ℕ). IfSome old.unread (λ rs. IsBehind old.table rs (n - old.given) filled.answered filled.unread)) (sym given) so))

  pub behind_memory : (f : TableFault) → f ≡ file_fault old.table kind.Memory → new.answered ≡ Some (Some f) → ReadsBehind old filled → ReadsBehind old new
  behind_memory f short answered so =
      subst (λ a. IfSome old.unread (λ rs. IsBehind old.table rs (new.given - old.given) a new.unread)) (sym answered)
      (subst (λ u. IfSome old.unread (λ rs. IsBehind old.table rs (new.given - old.given) (Some (Some f)) u)) (sym unread)
      (subst (λ (n : ℕ). IfSome old.unread (λ rs. IsBehind old.table rs (n - old.given) (Some (Some f)) filled.unread)) (sym given)
      (behind_short old.table (filled.given - old.given) old.unread filled.answered filled.unread f short so)))

-- A block takes facts from those that waited, so that fewer wait, or rows were read.
pub moved : (before given count : ℕ) (old filled new : List Fact) → (before < given) ⊎ (filled ≡ old) → 1 ≤ count → count ≤ length filled → new ≡ drop count filled
    → (before < given) ⊎ (length new < length old)
moved before given count old filled new (inl more) some there left = inl more
moved before given count old filled new (inr same) some there left = inr (omega (arith, some, there, ap length left, length-drop count filled, ap length same))

-- THE TABLE IS LOST: memory ran out, and it is settled with that

pub record IsLost (filled new : BlocksLeft) (e : TableFault) : Type 0 where
  pub table : new.table ≡ filled.table
  pub limit : new.limit ≡ filled.limit
  pub given : new.given ≡ filled.given
  pub unread : new.unread ≡ filled.unread
  pub none : new.pending ≡ []
  pub answered : new.answered ≡ Some (Some e)
  pub over : new.left ≡ Some (ending (Some e))

pub is_lost : (filled new : BlocksLeft) (e : TableFault) → new ≡ record filled { pending = []; answered = Some (Some e); left = Some (ending (Some e)) } → IsLost filled new e
is_lost filled new e is = record {
  table = ap (λ (b : BlocksLeft). b.table) is;
  limit = ap (λ (b : BlocksLeft). b.limit) is;
  given = ap (λ (b : BlocksLeft). b.given) is;
  unread = ap (λ (b : BlocksLeft). b.unread) is;
  none = ap (λ (b : BlocksLeft). b.pending) is;
  answered = ap (λ (b : BlocksLeft). b.answered) is;
  over = ap (λ (b : BlocksLeft). b.left) is;
}

-- FACTS WAIT, so that a settled table does not repeat its answer yet

pub some_wait : (old filled : BlocksLeft) (P : Option TableFault → Type 0) → (IsSome old.answered → filled ≡ old) → 1 ≤ length filled.pending
    → IfSome old.answered (λ kept. old.pending ≡ [] → P kept)
some_wait old filled P again some = by old.answered refl
  where
    by : (o : Option (Option TableFault)) → old.answered ≡ o → IfSome o (λ kept. old.pending ≡ [] → P kept)
    by None none = tt
    by (Some kept) e =
        let same : filled ≡ old = again (ap is_some e) in
        λ none. absurd (omega (arith, some, ap (λ (b : BlocksLeft). length b.pending) same, ap length none))

-- A TABLE THAT IS NOT SETTLED

pub not_answered : {A : Type 0} (o : Option A) (P : A → Type 0) → (IsSome o → ⊥) → IfSome o P
not_answered None P none = tt
not_answered (Some x) P none = absurd (none refl)
