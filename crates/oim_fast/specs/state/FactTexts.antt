-- What is written of one fact (xBRL-JSON 1.0, a fact object).
use Rattle.std.specs.Prelude.{⊤, ◌≡◌, ◌<◌, ◌≤◌, ◌+◌, ◌-◌, ◌*◌, ◌++◌, MatchOption, ℕ, Bool, true, false, ◌&&◌, ◌||◌, not, List, [], Option, Some, None, Result, Ok, codes, drop, is_none, length, take, if◌then◌else◌}
use Rattle.std.specs.List.{All, flat_map, sum_by}
use Rattle.std.specs.Option.{option_map_or}
use Rattle.oim_json.specs.JsonText.{decimals_text, escaped_byte, value_text}
use Rattle.oim_resolve.specs.Facts.{is_numeric, places}
use Rattle.oim_fast.specs.state.FrameTexts.{FrameValue, Segment, dimensions_start, frame_dimensions}
use Rattle.oim_text.specs.Places.{Placed}
use Rattle.oim_text.specs.state.Rooms.{Stays}
use Rattle.oim_row.specs.References.{ReferenceValue}
use Rattle.oim_fast.specs.state.GivenTexts.{given_by, is_sound_by}
use Rattle.oim_fast.specs.declared.frame.frame_decimals.FrameDecimals.{FrameDecimals}
use Rattle.oim_fast.specs.declared.frame.frame_decimals.FrameDecimals.TheVariants as decimals
use Rattle.oim_fast.specs.declared.frame.value.Value.{Value}

-- The text without its last byte, if it has one.
abbrev pub cut : List ℕ → List ℕ
cut xs = take (length xs - 1) xs

-- The decimals of a frame.
abbrev pub frame_decimals : List ReferenceValue → FrameValue → FrameDecimals → List ℕ
frame_decimals rs t decimals.Settled = t.settled
frame_decimals rs t (decimals.Reference i) = given_by rs i
frame_decimals rs t decimals.Unknown = []

-- The decimals in a fact's text: none if it is nil or not a number; those of the suffix; else those
-- of the frame.
abbrev pub opening_decimals : List ReferenceValue → FrameValue → Value → List ℕ
opening_decimals rs t v =
    if is_numeric t.kind && not v.is_nil then option_map_or (λ a. decimals_text (places a)) v.accuracy (frame_decimals rs t t.decimals) else []

-- The decimals of a frame are known and have no fault.
abbrev pub has_decimals : List ReferenceValue → FrameDecimals → Bool
has_decimals rs decimals.Settled = true
has_decimals rs (decimals.Reference i) = is_sound_by rs i
has_decimals rs decimals.Unknown = false

-- The fact does not need the frame's decimals, or they are known and have no fault.
abbrev pub are_sound_decimals : List ReferenceValue → FrameValue → Value → Bool
are_sound_decimals rs t v = if is_numeric t.kind && not v.is_nil && is_none v.accuracy then has_decimals rs t.decimals else true

abbrev pub value_of : Value → Option (List ℕ)
value_of v = if v.is_nil then None else Some (take v.len v.bytes.now)

-- The text from the dot after the row's identifier to the end of the fact.
abbrev pub object_text : List ReferenceValue → FrameValue → Value → List ℕ
object_text rs t v =
    t.lead ++ opening_decimals rs t v ++ dimensions_start ++ cut (frame_dimensions (given_by rs) t) ++ codes "},\"value\":" ++ value_text (value_of v) ++ codes "}"

-- The length of a frame's text.
abbrev pub frame_length : FrameValue → ℕ
frame_length t = length t.lead + length t.settled + 14 + sum_by (λ (s : Segment). length s.alone + length s.name) t.segments + length t.rest

-- The room that a fact needs after its start, if a reference gives at most `most` bytes and its
-- value has `value`.
abbrev pub fact_room : FrameValue → ℕ → ℕ → ℕ
fact_room t most value = frame_length t + length t.segments * most + 6 * value + 128

-- The decimals of a frame are settled.
abbrev pub are_settled : FrameDecimals → Bool
are_settled decimals.Settled = true
are_settled (decimals.Reference i) = false
are_settled decimals.Unknown = false

-- The frame's decimals are those of the fact: it is not a number; or it is not nil and has no
-- suffix, and the decimals are settled.
abbrev pub has_settled : FrameValue → Value → Bool
has_settled t v = not (is_numeric t.kind) || (not v.is_nil && is_none v.accuracy && are_settled t.decimals)

-- The reference for decimals is one of n.
abbrev pub IsWithin : ℕ → FrameDecimals → Type 0
IsWithin n decimals.Settled = ⊤
IsWithin n (decimals.Reference i) = i < n
IsWithin n decimals.Unknown = ⊤

-- The frame's references are among n, and only numbers have decimals.
pub record IsOfReferences (n : ℕ) (t : FrameValue) : Type 0 where
  pub dimensions : All (λ (s : Segment). s.reference < n) t.segments
  pub decimals : is_numeric t.kind ≡ true → IsWithin n t.decimals
  pub others : is_numeric t.kind ≡ false → t.settled ≡ []

-- The decimals of a fact were written with a comma after them.
pub record WritesDecimals (rs : List ReferenceValue) (t : FrameValue) (v : Value) (old new : List ℕ) (at end : ℕ) : Type 0 where
  pub decimals : are_sound_decimals rs t v ≡ true
  pub bytes : Placed old new at (opening_decimals rs t v) end
  pub few : end ≤ at + 32

-- The text before the dimensions was written. The frame's text follows it from place `from` on.
pub record WritesOpening (rs : List ReferenceValue) (t : FrameValue) (v : Value) (old new : List ℕ) (at end from : ℕ) : Type 0 where
  pub decimals : are_sound_decimals rs t v ≡ true
  pub written : List ℕ
  pub bytes : Placed old new at written end
  pub whole : written ++ drop from (t.lead ++ t.settled) ≡ t.lead ++ opening_decimals rs t v
  pub within : from ≤ length t.lead + length t.settled
  pub few : end ≤ at + from + 32

-- A fact was written from the dot after the row's identifier on.
pub record WritesObject (rs : List ReferenceValue) (t : FrameValue) (v : Value) (old new : List ℕ) (at end : ℕ) : Type 0 where
  pub dimensions : All (λ (s : Segment). is_sound_by rs s.reference ≡ true) t.segments
  pub decimals : are_sound_decimals rs t v ≡ true
  pub bytes : Placed old new at (object_text rs t v) end

-- A fact was written whose text begins with `start`.
pub record WritesFactText (rs : List ReferenceValue) (t : FrameValue) (v : Value) (start old new : List ℕ) (at end : ℕ) : Type 0 where
  pub dimensions : All (λ (s : Segment). is_sound_by rs s.reference ≡ true) t.segments
  pub decimals : are_sound_decimals rs t v ≡ true
  pub bytes : Placed old new at (start ++ object_text rs t v) end

-- A fact was written; or it was not, and what is before it stays.
abbrev pub TriesFact : List ReferenceValue → FrameValue → Value → List ℕ → List ℕ → List ℕ → ℕ → Option ℕ → Type 0
TriesFact rs t v start old new at end = MatchOption end (Stays old new at) (λ e. WritesFactText rs t v start old new at e)

-- A fact was appended whose text begins with `start`.
pub record AddsFact (rs : List ReferenceValue) (t : FrameValue) (v : Value) (start old new : List ℕ) : Type 0 where
  pub dimensions : All (λ (s : Segment). is_sound_by rs s.reference ≡ true) t.segments
  pub decimals : are_sound_decimals rs t v ≡ true
  pub text : new ≡ old ++ (start ++ object_text rs t v)

-- A value's text and the end of its fact replace the last two bytes.
abbrev pub EndsInstead : Value → List ℕ → List ℕ → Type 0
EndsInstead v old new = new ≡ take (length old - 2) old ++ (flat_map escaped_byte (take v.len v.bytes.now) ++ codes "\"}")

-- A fact was appended, or nothing was.
abbrev pub PutsFact : {E : Type 0} → List ReferenceValue → FrameValue → Value → List ℕ → List ℕ → List ℕ → Result Bool E → Type 0
PutsFact rs t v start old new (Ok true) = AddsFact rs t v start old new
PutsFact rs t v start old new r = new ≡ old
