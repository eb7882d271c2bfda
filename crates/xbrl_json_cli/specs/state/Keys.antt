-- The number of a key of a JSON text (RFC 8259).
use Rattle.std.specs.Prelude.{ℕ, List, [], ◌∷◌}
use Rattle.xbrl_json_cli.specs.JsonPlaces.{key_after}

-- The last eight bytes of a key, as a number.
abbrev pub last_eight : List ℕ → ℕ
last_eight text = bytes_from 0 text
  where
    bytes_from : ℕ → List ℕ → ℕ
    bytes_from key [] = key
    bytes_from key (c ∷ rest) = bytes_from (key_after key c) rest
