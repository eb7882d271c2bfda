-- A text in quotes, with its quotes and without them.
use Rattle.std.proofs.Common.{◌≡◌, ℕ, ◌+◌, ◌-◌, List, [], ◌∷◌, ◌++◌, length, take, drop, refl, sym, ap, ◌∙◌, subst, arith, length-append, take_at}
use Rattle.std.specs.Prelude.{slice_range}
use Rattle.std.specs.List.{flat_map}
use Rattle.oim_json.specs.JsonText.{escaped_byte, quoted}

-- The quotes are two bytes.
pub quoted_length : (s : List ℕ) → length (quoted s) ≡ length (flat_map escaped_byte s) + 2
unfolding quoted
quoted_length s = omega (arith, length-append (flat_map escaped_byte s) (34 ∷ []))

-- Between them is the escaped text.
pub quotes_off : (xs s : List ℕ) → xs ≡ quoted s → slice_range xs 1 (length xs - 1) ≡ flat_map escaped_byte s
unfolding quoted
quotes_off xs s is =
    let text = flat_map escaped_byte s in
    let len : length xs - 1 - 1 ≡ length text = omega (arith, ap length is, quoted_length s) in
    subst (λ ys. take (length xs - 1 - 1) (drop 1 ys) ≡ text) (sym is) (ap (λ n. take n (text ++ 34 ∷ [])) len ∙ take_at text (34 ∷ []) (length text) refl)
