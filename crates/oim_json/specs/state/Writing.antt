-- What the writers of texts test: which bytes need no escape, and where a comma goes.
use Rattle.std.specs.Prelude.{List, [], ◌∷◌, Bool, true, not, ◌&&◌, ℕ, zero, suc, codes, ◌==◌, nat_lt}
use Rattle.oim_resolve.specs.FactParts.{FactParts as Fact}

-- Whether a document has any members, once it has these too.
abbrev pub has_any : Bool → List Fact → Bool
has_any any [] = any
has_any any (f ∷ fs) = true

-- The byte `b` needs no escape in a text.
abbrev pub is_unescaped : ℕ → Bool
is_unescaped b = not (nat_lt b 32) && (not (b == 34) && not (b == 92))

-- The comma before the item at index `i`.
abbrev pub comma_before : ℕ → List ℕ
comma_before zero = []
comma_before (suc i) = codes ","
