-- A numeral, and its suffix, have no blanks.
use Rattle.std.proofs.Common.{◌≡◌, ◌<◌, ◌∙◌, ℕ, Bool, true, false, ◌&&◌, not, List, [], ◌∷◌, ◌++◌, reverse, refl, sym, ap, subst, arith, codes, Option}
use Rattle.std.specs.List.{list_all}
use Rattle.std.specs.Char.{digit_value}
use Rattle.std.proofs.lemmas.Bool.Decides.{nat_tests}
use Rattle.std.proofs.lemmas.List.{reverse-append, reverse-reverse}
use Rattle.std.proofs.lemmas.Str.Parse.{digit_from_value}
use Rattle.oim_cells.specs.declared.cells.Accuracy.{Accuracy}
use Rattle.oim_cells.specs.declared.cells.NumberKind.{NumberKind}
use Rattle.oim_cells.specs.Blanks.{is_blank, trimmed, without_back, without_front}
use Rattle.oim_cells.specs.Numeral.{IsDecimals, IsSplit, bare, infinite, places, suffixed}
use Rattle.oim_text.proofs.NumeralBytes.{append_passes, both, integer_passes, numeral_passes}

abbrev is_ink : ℕ → Bool
is_ink c = not (is_blank c)

abbrev IsInk : List ℕ → Type 0
IsInk s = list_all is_ink s ≡ true

ink_digit : (c : ℕ) → digit_value c < 10 → is_ink c ≡ true
ink_digit c h = let r = digit_from_value c h in grind (arith, nat_tests)

ink_append : (a b : List ℕ) → IsInk a → IsInk b → IsInk (a ++ b)
ink_append a b h k = append_passes is_ink ink_digit refl refl refl refl refl a b h k

ink_decimals : (s : List ℕ) (a : Accuracy) → IsDecimals s a → IsInk s
ink_decimals s a infinite = refl
ink_decimals s a (places t i fits) = integer_passes is_ink ink_digit refl refl refl refl refl t i

ink_split : (kind : NumberKind) (s v : List ℕ) (a : Option Accuracy) → IsSplit kind s v a → IsInk s
ink_split k s v a (suffixed kind numeral decimals accuracy n d) =
    ink_append (numeral ++ codes "d") decimals
    (ink_append numeral (codes "d") (numeral_passes is_ink ink_digit refl refl refl refl refl kind numeral n) refl)
    (ink_decimals decimals accuracy d)
ink_split k s v a (bare kind numeral n) = numeral_passes is_ink ink_digit refl refl refl refl refl kind numeral n

parts : (a b : Bool) → (a && b) ≡ true → (a ≡ true) × (b ≡ true)
parts true b h = (refl, h)
parts false b h = absurd (cc h)

front_at : (b : Bool) (c : ℕ) (cs : List ℕ) → is_blank c ≡ b → not b ≡ true → without_front (c ∷ cs) ≡ c ∷ cs
front_at true c cs e h = absurd (cc h)
front_at false c cs e h = rw e refl

front_stays : (s : List ℕ) → IsInk s → without_front s ≡ s
front_stays [] h = refl
front_stays (c ∷ cs) h = front_at (is_blank c) c cs refl (parts (is_ink c) (list_all is_ink cs) h).0

ink_reverse : (s : List ℕ) → IsInk s → IsInk (reverse s)
ink_reverse [] h = refl
ink_reverse (c ∷ cs) h =
    let two = parts (is_ink c) (list_all is_ink cs) h in
    subst IsInk (sym (reverse-append (c ∷ []) cs)) (ink_append (reverse cs) (c ∷ []) (ink_reverse cs two.1) (both (is_ink c) true two.0 refl))

back_stays : (s : List ℕ) → IsInk s → without_back s ≡ s
back_stays s h = ap reverse (front_stays (reverse s) (ink_reverse s h)) ∙ reverse-reverse s

-- A text that is split has no blanks at its ends.
pub split_trims : (kind : NumberKind) (s v : List ℕ) (a : Option Accuracy) → IsSplit kind s v a → trimmed s ≡ s
split_trims kind s v a h =
    let ink = ink_split kind s v a h in
    ap without_back (front_stays s ink) ∙ back_stays s ink
