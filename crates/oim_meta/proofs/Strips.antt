-- `strip_prefix` and `strip_suffix` of a text, as functions.
use Rattle.std.proofs.Common.{◌≡◌, ℕ, List, true, false, Option, Some, None, length, take, drop, Bor, refl, sym, ap, ◌∙◌, ◌-◌, ◌≤◌, subst, arith}
use Rattle.std.specs.Prelude.{option_map, IsCharBoundary}
use Rattle.std.specs.Option.{MatchOption}
use Rattle.std.specs.Str.Pattern.{FindsTextPrefix, FindsTextSuffix, StripsPrefix, StripsSuffix}
use Rattle.std.proofs.lemmas.Str.Pattern.{starts_text, ends_text}
use Rattle.oim_meta.specs.Written.{strip_front, strip_back}

pub front_is : (r : Option (Bor (List ℕ))) (p s : List ℕ) → MatchOption r (FindsTextPrefix p s None) (λ x. StripsPrefix (FindsTextPrefix p) s x.now) → option_map (λ x. x.now) r ≡ strip_front p s
unfolding strip_front
front_is None p s h = rw (← starts_text false p s h) refl
front_is (Some x) p s h =
    let P : ℕ → Type 0 = λ n. IsCharBoundary s n in
    let found = starts_text true p s (h.0, h.1, subst P (sym h.1.0) h.1.2) in
    rw (← found) (ap Some (h.2 ∙ ap (λ n. drop n s) h.1.0))

pub back_is : (r : Option (Bor (List ℕ))) (p s : List ℕ) → MatchOption r (FindsTextSuffix p s None) (λ x. StripsSuffix (FindsTextSuffix p) s x.now) → option_map (λ x. x.now) r ≡ strip_back p s
unfolding strip_back
back_is None p s h = rw (← ends_text false p s h) refl
back_is (Some x) p s h =
    let P : ℕ → Type 0 = λ n. IsCharBoundary s (length s - n) in
    let within : h.0 ≤ length s = omega (arith, h.3) in
    let found = ends_text true p s (h.0, h.1, within, subst P (sym h.1.0) h.1.2) in
    rw (← found) (ap Some (h.2 ∙ ap (λ n. take (length s - n) s) h.1.0))
