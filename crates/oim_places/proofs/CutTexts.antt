-- The beginning of a text: all of it, or its first 80 characters.
use Rattle.std.proofs.Common.{◌≡◌, ◌∙◌, ℕ, ◌<◌, ◌≤◌, List, ◌++◌, length, take, arith, ap, sym}
use Rattle.std.specs.Prelude.{if◌then◌else◌, chars, codes, flat_map}
use Rattle.std.proofs.lemmas.Bool.{le-ltb, lt-ltb}
use Rattle.oim_places.specs.Shown.{excerpt_of}
use Rattle.oim_places.specs.Shown.{shown, shown_char}

pub cut : (out text xs : List ℕ) → out ≡ flat_map shown_char xs → length xs ≡ 80 → xs ≡ take (length xs) (chars text) → length xs < length (chars text)
    → out ++ codes ".." ≡ excerpt_of text
cut out text xs e n t l =
    let long : 80 < length (chars text) = omega (arith, n, l) in
    ap (λ o. o ++ codes "..") (e ∙ ap (flat_map shown_char) (t ∙ ap (λ k. take k (chars text)) n))
    ∙ sym (ap (λ b. if b then flat_map shown_char (take 80 (chars text)) ++ codes ".." else shown text) (lt-ltb 80 (length (chars text)) long))

pub whole : (out text xs : List ℕ) → out ≡ flat_map shown_char xs → length xs ≤ 80 → xs ≡ chars text → out ≡ excerpt_of text
whole out text xs e n t =
    let short : length (chars text) ≤ 80 = omega (arith, n, ap length t) in
    e ∙ ap (flat_map shown_char) t
    ∙ sym (ap (λ b. if b then flat_map shown_char (take 80 (chars text)) ++ codes ".." else shown text) (le-ltb 80 (length (chars text)) short))
