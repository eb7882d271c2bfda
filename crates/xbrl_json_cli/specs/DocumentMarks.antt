-- What the bytes of a document tell of its facts (xBRL-JSON 1.0, the facts object). A fact's key is
-- the identifier of its table, a dot, and more. Its object has `decimals` if the fact has some, and
-- `dimensions`, an object with `entity`, `period` and `unit` if the fact has them.
use Rattle.std.specs.Prelude.{ℕ, ◌==◌, ◌&&◌, ◌||◌, not, Bool, true, false, if◌then◌else◌}
use Rattle.xbrl_json_cli.specs.JsonPlaces.{place_after}
use Rattle.xbrl_json_cli.specs.declared.document_marks.TheConstants.{DECIMALS, ENTITY, FACTS, PERIOD, UNIT}
use Rattle.xbrl_json_cli.specs.declared.json_place.Within.{Within}
use Rattle.xbrl_json_cli.specs.declared.json_place.Within.TheVariants as «within»
use Rattle.xbrl_json_cli.specs.declared.document_marks.DocumentMark.{DocumentMark}
use Rattle.xbrl_json_cli.specs.declared.document_marks.DocumentMark.TheVariants as mark
use Rattle.xbrl_json_cli.specs.declared.document_marks.DocumentPlace.{DocumentPlace}

-- Places in a document.

abbrev pub is_text : Within → Bool
is_text «within».Nothing = false
is_text «within».Text = true
is_text «within».Escape = false

abbrev pub is_outside : Within → Bool
is_outside «within».Nothing = true
is_outside «within».Text = false
is_outside «within».Escape = false

-- The facts begin with the key `facts` of the document's own object.
abbrev pub facts_after : DocumentPlace → ℕ → Bool
facts_after p c =
    if is_text p.json.within && (c == 34) && p.json.is_key && (p.json.depth == 1) then p.json.key == FACTS
    else p.are_facts

-- A table's identifier ends with the first dot of a key.
abbrev pub named_after : DocumentPlace → ℕ → Bool
named_after p c = if is_outside p.json.within then p.is_named && not (c == 34) else p.is_named || (c == 46)

abbrev pub marked_after : DocumentPlace → ℕ → DocumentPlace
marked_after p c = record { json = place_after p.json c; are_facts = facts_after p c; is_named = named_after p c }

-- Marks.

-- The key of a dimension.
abbrev pub property_mark : ℕ → DocumentMark
property_mark key =
    if key == ENTITY then mark.Entity
    else if key == PERIOD then mark.Period
    else if key == UNIT then mark.Unit
    else mark.Nothing

-- A byte of a fact's own key.
abbrev pub name_mark : Bool → ℕ → DocumentMark
name_mark is_named c =
    if (c == 34) || is_named then mark.Nothing
    else if c == 46 then mark.Fact
    else mark.Name

-- A byte of a key among the facts: at depth 2 of a fact's own key, at 3 of a key of its object, at
-- 4 of a dimension's.
abbrev pub key_mark : DocumentPlace → ℕ → DocumentMark
key_mark p c =
    if p.json.depth == 2 then name_mark p.is_named c
    else if not (c == 34) then mark.Nothing
    else if p.json.depth == 3 then (if p.json.key == DECIMALS then mark.Decimals else mark.Nothing)
    else if p.json.depth == 4 then property_mark p.json.key
    else mark.Nothing

abbrev pub mark_at : DocumentPlace → ℕ → DocumentMark
mark_at p c = if is_text p.json.within && p.are_facts && p.json.is_key then key_mark p c else mark.Nothing
