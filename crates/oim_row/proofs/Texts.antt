-- The meaning of a reference's text if neither a cell nor a parameter is given, and if it is the
-- number of the row.
use Rattle.std.proofs.Common.{◌≡◌, ℕ, ◌<◌, ◌^◌, List, [], ◌∷◌, length, get_or, sym, subst, arith}
use Rattle.std.specs.Prelude.{decimal}
use Rattle.std.specs.Char.{digit_value}
use Rattle.std.specs.Str.Parse.{IsNumeral}
use Rattle.std.proofs.lemmas.Fmt.{decimal_is_IsNumeral}
use Rattle.oim_cells.specs.Cells.{nothing, plain, meaning_of, Absent, Text}
use Rattle.oim_cells.proofs.Meanings.{meaning_law}

pub empty_meaning : meaning_of [] ≡ Absent
empty_meaning = sym (meaning_law nothing)

digits_meaning : (ds : List ℕ) → IsNumeral 10 ds → meaning_of ds ≡ Text ds
digits_meaning [] h = absurd (omega (arith, h.0))
digits_meaning (c ∷ cs) h =
    sym (meaning_law (plain c cs (λ e. let bad : digit_value 35 < 10 = subst (λ k. digit_value k < 10) e h.1.0 in absurd (omega (arith, bad)))))

-- A text that does not begin with `#` means itself.
pub plain_meaning : (s : List ℕ) (d : ℕ) → 0 < length s → (get_or s 0 d ≡ 35 → ⊥) → meaning_of s ≡ Text s
plain_meaning [] d some other = absurd (omega arith)
plain_meaning (c ∷ cs) d some other = sym (meaning_law (plain c cs other))

pub number_meaning : (n : ℕ) → n < 2 ^ 64 → meaning_of (decimal n) ≡ Text (decimal n)
number_meaning n h = digits_meaning (decimal n) (decimal_is_IsNumeral n h).0
