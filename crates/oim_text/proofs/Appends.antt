-- Texts that are appended one after another.
use Rattle.std.proofs.Common.{◌≡◌, ℕ, ◌+◌, List, ◌++◌, take, drop, sym, ap, ◌∙◌, append_assoc, take-add}
use Rattle.std.specs.Prelude.{if◌then◌else◌, Result, Ok, Err, is_ok}
use mathlib.Core.List.{IsPrefix}
use Rattle.std.specs.Result.{OnOk}
use Rattle.std.specs.List.{flat_map}
use Rattle.std.proofs.lemmas.Grind.{flat_map-append}

-- The last of several appends.
pub appended : {E : Type 0} (r : Result (Unit {0}) E) (before more whole out : List ℕ) → out ≡ (if is_ok r then before ++ more else before) → before ++ more ≡ whole → OnOk r (out ≡ whole)
appended (Ok x) before more whole out e same = e ∙ same
appended (Err x) before more whole out e same = tt

-- A part of a text after its prefix, each item spelled on its own.
pub spelled_more : (f : ℕ → List ℕ) (start xs : List ℕ) (n m : ℕ) → (start ++ flat_map f (take n xs)) ++ flat_map f (take m (drop n xs)) ≡ start ++ flat_map f (take (n + m) xs)
spelled_more f start xs n m =
    append_assoc start (flat_map f (take n xs)) (flat_map f (take m (drop n xs)))
    ∙ ap (λ t. start ++ t) (sym (flat_map-append f (take n xs) (take m (drop n xs))) ∙ ap (flat_map f) (sym (take-add n m xs)))

-- A prefix from before the last append is still a prefix.
pub still_front : {E : Type 0} (r : Result (Unit {0}) E) (start before front more out : List ℕ) → before ≡ start ++ front → out ≡ (if is_ok r then before ++ more else before) → IsPrefix start out
still_front (Ok x) start before front more out is e = (front ++ more, sym (append_assoc start front more) ∙ ap (λ t. t ++ more) (sym is) ∙ sym e)
still_front (Err x) start before front more out is e = (front, sym is ∙ sym e)
