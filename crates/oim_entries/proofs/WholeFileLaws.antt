-- The values of a file of entries, for all its records at once.
use Rattle.std.proofs.Common.{◌≡◌, ◌∙◌, ◌+◌, ℕ, zero, suc, List, [], ◌∷◌, take, Some, Result, Ok, Err, refl, add-zero, arith}
use Rattle.oim_entries.specs.CsvFiles.{EntryFile, all_of, one_more, unless_bad}
use Rattle.oim_records.specs.Grids.{Record}
use Rattle.oim_entries.specs.WholeFile.{IsEarliestBad, record_at}
use Rattle.oim_entries.specs.declared.fault.MetaFault.{MetaFault}

-- The fault of a file is that of its earliest bad record.
pub earliest_bad : {S : Type 0} (f : EntryFile S) (n : ℕ) (s : S) (rs : List Record) (e : MetaFault) → all_of f n s rs ≡ Err e → IsEarliestBad f n s rs e
unfolding all_of
earliest_bad f n s [] e bad = cc bad
earliest_bad {S} f n s (r ∷ rs) e bad = by (one_more f n s r) refl (λ t. earliest_bad f (n + 1) t rs e)
  where
    by : (o : Result S MetaFault) → one_more f n s r ≡ o → ((t : S) → all_of f (n + 1) t rs ≡ Err e → IsEarliestBad f (n + 1) t rs e) → IsEarliestBad f n s (r ∷ rs) e
    by (Err x) h more = let same : Err x ≡ Err e = rw h at bad in (0, r, s, refl, refl, rw (add-zero n) (h ∙ same))
    by (Ok t) h more =
        let later = more t (rw h at bad) in
        let place : (n + 1) + later.0 ≡ n + suc later.0 = omega arith in
        (suc later.0, later.1, later.2, later.3, rw h later.4, rw (← place) later.5)

-- A file with an earliest bad record has that record's fault.
pub earliest_back : {S : Type 0} (f : EntryFile S) (n : ℕ) (s : S) (rs : List Record) (e : MetaFault) → IsEarliestBad f n s rs e → all_of f n s rs ≡ Err e
unfolding all_of
earliest_back f n s [] e h = let none = h.3 in absurd cc
earliest_back {S} f n s (r ∷ rs) e h = by h.0 h.1 h.2 h.3 h.4 h.5 (λ t. earliest_back f (n + 1) t rs e)
  where
    by : (m : ℕ) (x : Record) (t : S) → record_at (r ∷ rs) m ≡ Some x → all_of f n s (take m (r ∷ rs)) ≡ Ok t → one_more f (n + m) t x ≡ Err e
        → ((u : S) → IsEarliestBad f (n + 1) u rs e → all_of f (n + 1) u rs ≡ Err e) → all_of f n s (r ∷ rs) ≡ Err e
    by zero x t here good bad more =
        let one : r ≡ x = cc in
        let two : s ≡ t = cc in
        let now : one_more f n s r ≡ Err e = rw (one, two) (rw (add-zero n) at bad) in
        rw now refl
    by (suc k) x t here good bad more = step (one_more f n s r) good
      where
        step : (o : Result S MetaFault) → unless_bad (λ u. all_of f (n + 1) u (take k rs)) o ≡ Ok t → unless_bad (λ u. all_of f (n + 1) u rs) o ≡ Err e
        step (Err y) go = absurd cc
        step (Ok u) go =
            let place : n + suc k ≡ (n + 1) + k = omega arith in
            more u (k, x, t, here, go, rw place at bad)
