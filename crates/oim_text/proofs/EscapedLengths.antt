-- The length of an escaped text.
use Rattle.std.proofs.Common.{◌≤◌, ◌*◌, ℕ, Bool, true, false, List, [], ◌∷◌, length, nat_lt, ◌==◌, arith, length-append}
use Rattle.std.specs.Prelude.{if◌then◌else◌}
use Rattle.std.specs.List.{flat_map}
use Rattle.oim_json.specs.JsonText.{escaped_byte}

short_if : (b : Bool) (x y : List ℕ) → length x ≤ 6 → length y ≤ 6 → length (if b then x else y) ≤ 6
short_if true x y p q = p
short_if false x y p q = q

byte_length : (b : ℕ) → length (escaped_byte b) ≤ 6
unfolding escaped_byte
byte_length b =
    short_if (b == 34) _ _ (omega arith) (short_if (b == 92) _ _ (omega arith) (short_if (b == 8) _ _ (omega arith) (short_if (b == 12) _ _ (omega arith) (short_if (b == 10) _ _ (omega arith)
    (short_if (b == 13) _ _ (omega arith) (short_if (b == 9) _ _ (omega arith) (short_if (nat_lt b 32) _ _ (omega arith) (omega arith))))))))

-- An escaped text takes at most six bytes for each of its bytes.
pub escaped_length : (xs : List ℕ) → length (flat_map escaped_byte xs) ≤ 6 * length xs
escaped_length [] = omega arith
escaped_length (x ∷ xs) = omega (arith, byte_length x, escaped_length xs, length-append (escaped_byte x) (flat_map escaped_byte xs))
