-- The values that a file of entries gives, record by record.
use Rattle.std.proofs.Common.{◌≡◌, ◌∙◌, ◌<◌, ◌+◌, ℕ, List, [], ◌∷◌, Option, Some, None, Result, Ok, Err, Bool, true, false, refl, nat_le, arith, option_map, IfSome, subst}
use Rattle.std.proofs.lemmas.Option.{IfSome_then}
use Rattle.std.proofs.lemmas.Bool.{leb-false, lt-leb}
use Rattle.oim_entries.specs.BadEntries.{BadRecord, entries_of, entry_after}
use Rattle.oim_entries.specs.CsvFiles.{EntryFile}
use Rattle.oim_entries.specs.EntryFaults.{of_whole}
use Rattle.oim_entries.specs.state.Held.{Answers, AnswersWith}
use Rattle.oim_entries.specs.declared.entry_fault.EntryFault.{EntryFault}
use Rattle.oim_entries.specs.declared.entry_fault.EntryProblem.TheVariants.{TooMany}
use Rattle.oim_entries.specs.declared.entry_fault.Refused.{Refused}
use Rattle.oim_entries.specs.declared.entry_fault.Refused.TheVariants.{Bad, Unread}
use Rattle.oim_records.specs.Grids.{Record, grid}
use Rattle.oim_records.specs.Reads.{TakesRecord}

-- After n records, with the value s, the remaining records give the answer.
abbrev pub Leaves : {S : Type 0} → EntryFile S → Result S BadRecord → ℕ → S → Option (List Record) → Type 0
Leaves f answer n s None = ⊥
Leaves f answer n s (Some rest) = answer ≡ entries_of f n s rest

below : (n m : ℕ) → n < m → nat_le m n ≡ false
below n m h = lt-leb m n h

same : (n : ℕ) → nat_le n n ≡ true
same n = by (nat_le n n) refl
  where
    by : (b : Bool) → nat_le n n ≡ b → nat_le n n ≡ true
    by true e = e
    by false e = let less : n < n = leb-false n n e in absurd (omega arith)

module _ {S : Type 0} (f : EntryFile S) (answer : Result S BadRecord) (s : S) (r : Record) where
  pub leaves_more : (n : ℕ) (left after : Option (List Record)) (t : S) → n < f.limit → Leaves f answer n s left → TakesRecord left true r after
      → entry_after f (n + 1) s r ≡ Ok t → Leaves f answer (n + 1) t after
  unfolding entries_of
  leaves_more n None after t less given takes good = absurd given
  leaves_more n (Some []) after t less given takes good = cc takes.0
  leaves_more n (Some (x ∷ rest)) after t less given takes good = rw takes.2 (given ∙ rw (← takes.1, below n f.limit less, good) refl)

  pub leaves_bad : (n : ℕ) (left after : Option (List Record)) (e : EntryFault) → n < f.limit → Leaves f answer n s left → TakesRecord left true r after
      → entry_after f (n + 1) s r ≡ Err e → answer ≡ Err (e, r)
  unfolding entries_of
  leaves_bad n None after e less given takes bad = absurd given
  leaves_bad n (Some []) after e less given takes bad = cc takes.0
  leaves_bad n (Some (x ∷ rest)) after e less given takes bad = given ∙ rw (← takes.1, below n f.limit less, bad) refl

  pub leaves_too_many : (left after : Option (List Record)) → Leaves f answer f.limit s left → TakesRecord left true r after
      → answer ≡ Err (of_whole (f.limit + 1) TooMany, r)
  unfolding entries_of
  leaves_too_many None after given takes = absurd given
  leaves_too_many (Some []) after given takes = cc takes.0
  leaves_too_many (Some (x ∷ rest)) after given takes = given ∙ rw (← takes.1, same f.limit) refl

  pub leaves_end : (n : ℕ) (left after : Option (List Record)) → Leaves f answer n s left → TakesRecord left false r after → answer ≡ Ok s
  unfolding entries_of
  leaves_end n None after given takes = absurd given
  leaves_end n (Some []) after given takes = given
  leaves_end n (Some (x ∷ rest)) after given takes = let wrong = takes.0 in cc wrong

-- The remaining records, after n with the value s, give the answer of the whole file.
abbrev pub Gives : {S : Type 0} → EntryFile S → Option (List Record) → ℕ → S → Option (List Record) → Type 0
Gives f all n s left = IfSome all (λ rs. Leaves f (entries_of f 0 f.start rs) n s left)

module _ {S : Type 0} (f : EntryFile S) (all left after : Option (List Record)) (s : S) (r : Record) where
  pub gives_more : (n : ℕ) (o : Result S Refused) (t : S) → o ≡ Ok t → n < f.limit → Gives f all n s left → TakesRecord left true r after
      → Answers o (entry_after f (n + 1) s r) → Gives f all (n + 1) t after
  gives_more n o t is less given takes good =
      let now : Answers (Ok t) (entry_after f (n + 1) s r) = rw is at good in
      IfSome_then all given (λ rs h. leaves_more f (entries_of f 0 f.start rs) s r n left after t less h takes now)

  pub gives_bad : (n : ℕ) (o : Result S Refused) (e : Refused) → o ≡ Err e → n < f.limit → Gives f all n s left → TakesRecord left true r after
      → Answers o (entry_after f (n + 1) s r) → IfSome all (λ rs. AnswersWith r (Err e) (entries_of f 0 f.start rs))
  gives_bad n o (Unread fault) is less given takes bad = IfSome_then all given (λ rs h. tt)
  gives_bad n o (Bad e) is less given takes bad =
      let now : Answers (Err (Bad e)) (entry_after f (n + 1) s r) = rw is at bad in
      IfSome_then all given (λ rs h. leaves_bad f (entries_of f 0 f.start rs) s r n left after e less h takes now)

  pub gives_too_many : (n : ℕ) → n ≡ f.limit → Gives f all n s left → TakesRecord left true r after
      → IfSome all (λ rs. AnswersWith r (Err (Bad (of_whole (f.limit + 1) TooMany))) (entries_of f 0 f.start rs))
  gives_too_many n end given takes =
      let last = rw end at given in
      IfSome_then all last (λ rs h. leaves_too_many f (entries_of f 0 f.start rs) s r left after h takes)

  pub gives_all : (n : ℕ) → Gives f all n s left → TakesRecord left false r after → IfSome all (λ rs. AnswersWith r (Ok s) (entries_of f 0 f.start rs))
  gives_all n given takes = IfSome_then all given (λ rs h. leaves_end f (entries_of f 0 f.start rs) s r n left after h takes)

-- A property of the records of a file is a property of its bytes.
pub whole_file : (text : Option (List ℕ)) (left : Option (List Record)) (P : List Record → Type 0) → left ≡ option_map grid text
    → IfSome left P → IfSome text (λ bytes. P (grid bytes))
whole_file None left P e h = tt
whole_file (Some bytes) left P e h = subst (λ (l : Option (List Record)). IfSome l P) e h
