-- The test of binary texts agrees with their definition.
use Rattle.std.proofs.Common.{◌≡◌, ℕ, ◌&&◌, true, Decides, List, [], ◌∷◌, refl, arith}
use Rattle.std.proofs.lemmas.Bool.Decides.{nat_tests}
use Rattle.oim_period.proofs.Found.{both, both_yes}
use Rattle.oim_schema.specs.HexBinary.{IsHexDigit, IsHexBinary, none, octet, is_hex_digit, are_octets, is_hex_binary}

digit_Decides : (c : ℕ) → Decides (is_hex_digit c) (IsHexDigit c)
digit_Decides c = (λ e. grind (arith, nat_tests), λ h. grind (arith, nat_tests))

octets_from : (t : List ℕ) → are_octets t ≡ true → IsHexBinary t
octets_from [] e = none
octets_from (c ∷ []) e = absurd (cc)
octets_from (high ∷ low ∷ others) e =
    let h = both (is_hex_digit high && is_hex_digit low) _ e in
    let k = both (is_hex_digit high) _ h.0 in
    octet high low others ((digit_Decides high).0 k.0) ((digit_Decides low).0 k.1) (octets_from others h.1)

octets_to : {t : List ℕ} → IsHexBinary t → are_octets t ≡ true
octets_to none = refl
octets_to (octet high low others h k i) = both_yes _ _ (both_yes _ _ ((digit_Decides high).1 h) ((digit_Decides low).1 k)) (octets_to i)

pub hex_Decides : (t : List ℕ) → Decides (is_hex_binary t) (IsHexBinary t)
unfolding is_hex_binary
hex_Decides t = (octets_from t, octets_to)
