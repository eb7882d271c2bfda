-- Blanks: the four characters that XML 1.0 fifth edition calls white space (space, tab, carriage
-- return, line feed), and a text without blanks at its ends.
use Rattle.std.specs.Prelude.{ℕ, Bool, ◌==◌, ◌||◌, List, [], ◌∷◌, reverse, if◌then◌else◌}

-- Space, tab, CR or LF.
abbrev pub is_blank : ℕ → Bool
is_blank c = (c == 32) || (c == 9) || (c == 13) || (c == 10)

-- The text without the blanks at its start, and without the blanks at its end.
abbrev pub without_front : List ℕ → List ℕ
without_front [] = []
without_front (c ∷ cs) = if is_blank c then without_front cs else c ∷ cs

abbrev pub without_back : List ℕ → List ℕ
without_back s = reverse (without_front (reverse s))

-- The text without the blanks at both ends.
abbrev pub trimmed : List ℕ → List ℕ
trimmed s = without_back (without_front s)
