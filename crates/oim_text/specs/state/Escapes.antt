-- Bytes that are escaped in a JSON text.
use Rattle.std.specs.Prelude.{ℕ, Bool, not}
use Rattle.oim_json.specs.state.Writing.{is_unescaped}

-- The byte needs an escape.
abbrev pub is_escaped : ℕ → Bool
is_escaped b = not (is_unescaped b)
