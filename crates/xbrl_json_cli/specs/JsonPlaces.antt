-- The place in a JSON text (RFC 8259) after each of its bytes, as far as keys and nesting go.
use Rattle.std.specs.Prelude.{ℕ, ◌+◌, ◌-◌, ◌*◌, ◌%◌, ◌^◌, ◌==◌, ◌||◌, nat_lt, true, false, if◌then◌else◌}
use Rattle.xbrl_json_cli.specs.declared.json_place.JsonPlace.{JsonPlace}
use Rattle.xbrl_json_cli.specs.declared.json_place.Within.{Within}
use Rattle.xbrl_json_cli.specs.declared.json_place.Within.TheVariants as «within»

-- The last eight bytes of a key, as a number, after one more byte.
abbrev pub key_after : ℕ → ℕ → ℕ
key_after key c = ((key * 256) % 2 ^ 64 + c) % 2 ^ 64

-- One object or array more, of at most 255, and one less.
abbrev pub deeper : ℕ → ℕ
deeper depth = if nat_lt depth 255 then depth + 1 else 255

-- Outside texts: a quote begins a text, braces and brackets nest. After a brace, a bracket or a
-- comma a key may follow, after a colon none.
abbrev pub place_outside : JsonPlace → ℕ → JsonPlace
place_outside p c =
    if c == 34 then record p { within = «within».Text; key = if p.is_key then 0 else p.key }
    else if (c == 123) || (c == 91) then record p { depth = deeper p.depth; is_key = true }
    else if (c == 125) || (c == 93) then record p { depth = p.depth - 1 }
    else if c == 44 then record p { is_key = true }
    else if c == 58 then record p { is_key = false }
    else p

-- In a text: a quote ends it, a backslash takes the next byte along, and a key grows.
abbrev pub place_in : JsonPlace → ℕ → JsonPlace
place_in p c =
    if c == 34 then record p { within = «within».Nothing }
    else if c == 92 then record p { within = «within».Escape }
    else record p { key = if p.is_key then key_after p.key c else p.key }

abbrev pub place_by : Within → JsonPlace → ℕ → JsonPlace
place_by «within».Nothing p c = place_outside p c
place_by «within».Text p c = place_in p c
place_by «within».Escape p c = record p { within = «within».Text }

-- The place after a byte.
abbrev pub place_after : JsonPlace → ℕ → JsonPlace
place_after p c = place_by p.within p c
