-- `period_of` has exactly the period of the table.
use Rattle.std.proofs.Common.{◌≡◌, ℕ, ◌-◌, true, List, ◌++◌, codes, take, Option, Some, None, IfSome, option_map, option_and_then, refl, ap, arith, length, length-append}
use Rattle.std.proofs.Math.Seq.{take-append_seam}
use Rattle.oim_period.specs.Periods.{Reading, instant, duration, found, moment_of, duration_of, without, period_of}
use Rattle.oim_period.specs.Table.{IsMoment, IsDuration, Means, moment, span, at_start, at_end}
use Rattle.oim_period.specs.Reads.{IsOnly}
use Rattle.oim_period.proofs.Found.{found_tells, found_is, found_not, first_tells, first_here, first_later, none_tells, only_from, none_from}
use Rattle.oim_period.proofs.FoundMoments.{moment_tells, moment_found, Lasts, duration_tells, duration_found}
use Rattle.oim_period.proofs.Ends.{length-moment, not_moment, last-moment, last-duration, last-append, last}

map_tells : {A B : Type 0} (P : A → Type 0) (Q : B → Type 0) (f : A → B) (o : Option A) → ((x : A) → P x → Q (f x)) → IfSome o P → IfSome (option_map f o) Q
map_tells P Q f None k h = tt
map_tells P Q f (Some x) k h = k x h

-- A text with a mark at its end names a side of what the text before the mark names.
pub IsMarked : List ℕ → List ℕ → ℕ × ℕ → Type 0
IsMarked mark t e = (w : List ℕ) × (t ≡ w ++ mark) × Lasts w e

side_tells : (mark t : List ℕ) → IfSome (option_and_then duration_of (without mark t)) (IsMarked mark t)
unfolding without IsMarked
side_tells mark t =
    by (found t (take (length t - length mark) t ++ mark) true (take (length t - length mark) t)) (found_tells (λ w. t ≡ w ++ mark) t _ _ _ (λ e v. e))
  where
    within : (w : List ℕ) → t ≡ w ++ mark → (o : Option (ℕ × ℕ)) → IfSome o (Lasts w) → IfSome o (IsMarked mark t)
    within w e None h = tt
    within w e (Some x) h = (w, e, h)

    by : (o : Option (List ℕ)) → IfSome o (λ w. t ≡ w ++ mark) → IfSome (option_and_then duration_of o) (IsMarked mark t)
    by None h = tt
    by (Some w) h = within w h (duration_of w) (duration_tells w)

side_found : (mark w : List ℕ) (a b : ℕ) → IsDuration w a b → option_and_then duration_of (without mark (w ++ mark)) ≡ Some (a, b)
unfolding without
side_found mark w a b d =
    let n : length (w ++ mark) - length mark ≡ length w = omega (arith, length-append w mark) in
    let q : found (w ++ mark) (w ++ mark) true w ≡ Some w = found_is _ _ _ _ refl refl in
    rw (n, take-append_seam w mark, q) (duration_found d)

-- A text without such a mark.
side_none : (mark t : List ℕ) → ((w : List ℕ) → t ≡ w ++ mark → ⊥) → option_and_then duration_of (without mark t) ≡ None
unfolding without
side_none mark t n =
    let q : found t (take (length t - length mark) t ++ mark) true (take (length t - length mark) t) ≡ None = found_not _ _ _ _ (n _) in
    rw q refl

start_means : (t : List ℕ) (e : ℕ × ℕ) → IsMarked (codes "@start") t e → Means t (instant e.0)
unfolding IsMarked
start_means t e h = rw (h.1) (at_start h.0 _ _ h.2)

end_means : (t : List ℕ) (e : ℕ × ℕ) → IsMarked (codes "@end") t e → Means t (instant e.1)
unfolding IsMarked
end_means t e h = rw (h.1) (at_end h.0 _ _ h.2)

pub period_tells : (t : List ℕ) → IfSome (period_of t) (Means t)
unfolding period_of
period_tells t =
    first_tells (Means t) _ _ (map_tells (IsMoment t) (Means t) instant (moment_of t) (λ k m. moment t k m) (moment_tells t))
    (first_tells (Means t) _ _ (map_tells (Lasts t) (Means t) (λ e. duration e.0 e.1) (duration_of t) (λ e d. span t _ _ d) (duration_tells t))
    (first_tells (Means t) _ _ (map_tells (IsMarked (codes "@start") t) (Means t) (λ e. instant e.0) _ (start_means t) (side_tells (codes "@start") t))
    (first_tells (Means t) _ _ (map_tells (IsMarked (codes "@end") t) (Means t) (λ e. instant e.1) _ (end_means t) (side_tells (codes "@end") t))
    (none_tells (Means t)))))

no_moment : (t : List ℕ) → ((k : ℕ) → IsMoment t k → ⊥) → option_map instant (moment_of t) ≡ None
no_moment t n = let e = none_from (IsMoment t) (moment_of t) (moment_tells t) n in rw e refl

no_duration : (t : List ℕ) → ((e : ℕ × ℕ) → Lasts t e → ⊥) → option_map (λ e. duration e.0 e.1) (duration_of t) ≡ None
no_duration t n = let e = none_from (Lasts t) (duration_of t) (duration_tells t) n in rw e refl

start_last : (w : List ℕ) → last (w ++ codes "@start") ≡ 116
start_last w = last-append w (codes "@start") (omega arith)

end_last : (w : List ℕ) → last (w ++ codes "@end") ≡ 100
end_last w = last-append w (codes "@end") (omega arith)

pub period_found : {t : List ℕ} {r : Reading} → Means t r → period_of t ≡ Some r
unfolding period_of
period_found (moment t k m) = first_here _ _ _ (let e = moment_found m in rw e refl)
period_found (span t s z d) =
    first_later _ _ _ (no_moment t (λ k m. not_moment d (length-moment m)))
    (first_here _ _ _ (let e = duration_found d in rw e refl))
period_found (at_start w s z d) =
    first_later _ _ _ (no_moment _ (λ k m. absurd (omega (arith, last-moment m, start_last w))))
    (first_later _ _ _ (no_duration _ (λ e l. absurd (omega (arith, last-duration l, start_last w))))
    (first_here _ _ _ (let e = side_found (codes "@start") w s z d in rw e refl)))
period_found (at_end w s z d) =
    let e = side_found (codes "@end") w s z d in
    let n = side_none (codes "@start") (w ++ codes "@end") (λ v e. absurd (omega (arith, ap last e, start_last v, end_last w))) in
    first_later _ _ _ (no_moment _ (λ k m. absurd (omega (arith, last-moment m, end_last w))))
    (first_later _ _ _ (no_duration _ (λ e l. absurd (omega (arith, last-duration l, end_last w))))
    (first_later _ _ _ (rw n refl)
    (first_here _ _ _ (rw e refl))))

-- `period_of` has exactly the period of the table.
pub period_of_exact : (t : List ℕ) → IsOnly (Means t) (period_of t)
period_of_exact t = only_from (Means t) (period_of t) (period_tells t) (λ r h. period_found h)
