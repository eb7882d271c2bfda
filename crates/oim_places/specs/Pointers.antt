-- The JSON pointer of a place, as a terminal shows it.
use Rattle.std.specs.Prelude.{ℕ, nat_eq, if◌then◌else◌, List, ◌++◌, chars, codes, flat_map}
use Rattle.oim_meta.specs.Paths.{Path}
use Rattle.oim_places.specs.Shown.{shown_char}

-- RFC 6901: in a key of a JSON pointer, ~ is ~0 and / is ~1. A control character is shown by its
-- code, so that a pointer is one line.
abbrev pub pointer_char : ℕ → List ℕ
pointer_char c = if nat_eq c 126 then codes "~0" else if nat_eq c 47 then codes "~1" else shown_char c

abbrev pub pointer_key : List ℕ → List ℕ
pointer_key key = codes "/" ++ flat_map pointer_char (chars key)

abbrev pub pointer_of : Path → List ℕ
pointer_of keys = flat_map pointer_key keys
