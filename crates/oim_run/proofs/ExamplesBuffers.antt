-- A folder in memory, and the bytes of a writer after a buffer, on worked cases.
use Rattle.std.proofs.Common.{◌≡◌, ◌⊎◌, ◌∙◌, ◌++◌, ◌∷◌, [], ℕ, List, Some, None, true, false, ap, codes, drop, take, inl, inr, map, refl, subst, sym}
use mathlib.Core.List.{IsPrefix}
use Rattle.std.specs.Str.{bytes_eq}
use Rattle.oim_convert.specs.declared.fault.ConvertFault.TheVariants as fault
use Rattle.oim_files.specs.Folders.{Files}
use Rattle.oim_json.specs.Sinks.{SinkView, sink_at}
use Rattle.oim_json.specs.declared.mark.Mark.TheVariants as marks
use Rattle.oim_json.specs.declared.mark.WriteFault.TheVariants as write
use Rattle.oim_run.specs.Buffers.{Buffered, HoldsAll, HoldsSome, flushed}
use Rattle.oim_run.specs.state.Buffers.{told_behind, told_since}
use Rattle.oim_run.specs.Runs.{files_of}
use Rattle.oim_run.specs.declared.outcome.Outcome.{Outcome}
use Rattle.oim_run.specs.declared.outcome.Outcome.TheVariants as outcome

-- A folder in memory.

-- It has the files of its paths as written. If two have one path, the first counts.
abbrev in_memory : Files
in_memory = files_of ((codes "f/a.csv", codes "1") ∷ (codes "f/b.csv", codes "2") ∷ (codes "f/a.csv", codes "3") ∷ (codes "f/c.csv", []) ∷ [])

files_in_memory : map in_memory (codes "f/a.csv" ∷ codes "f/b.csv" ∷ codes "f/c.csv" ∷ []) ≡ Some (codes "1") ∷ Some (codes "2") ∷ Some [] ∷ []
files_in_memory = refl

no_files_in_memory : map in_memory (codes "f/d.csv" ∷ codes "a.csv" ∷ codes "F/A.CSV" ∷ codes "f/" ∷ [] ∷ []) ≡ None ∷ None ∷ None ∷ None ∷ None ∷ []
no_files_in_memory = refl

-- The bytes that a writer holds, and those that wait before it.

-- Both, after the count of bytes that it held at first.
told_of_a_buffer : told_behind (Some (codes "ab")) (Some (codes "abc")) (codes "de") ∷ told_since 3 (codes "abc") [] ∷ []
    ≡ Some (2 ∷ codes "abcde") ∷ Some (3 ∷ codes "abc") ∷ []
told_of_a_buffer = refl

-- Nothing is known of a writer whose bytes contracts do not see, or that holds less than at first.
untold : told_behind None (Some (codes "abc")) (codes "de") ∷ told_behind (Some (codes "ab")) None (codes "de") ∷ told_since 4 (codes "abc") [] ∷ [] ≡ None ∷ None ∷ None ∷ []
untold = refl

-- A run through a buffer.

abbrev sink : List ℕ → SinkView
sink bs = sink_at marks.Fine (Some bs)

-- A run that wrote two bytes after another to its buffer, before a writer that held two others.
abbrev wrote_two : SinkView → SinkView → Outcome → Type 0
wrote_two before after o = (before ≡ sink (codes "x")) × (after ≡ sink (codes "xyz")) × (o ≡ outcome.Done)

two_bytes : (text : List ℕ) → codes "xyz" ≡ codes "x" ++ text → codes "yz" ≡ text
two_bytes text e = ap (drop 1) e

holds_both : HoldsAll (sink (codes "x")) (sink (codes "xyz")) (Some (codes "ab")) (Some (codes "abyz"))
holds_both text e = ap (λ bs. codes "ab" ++ bs) (two_bytes text e)

holds_one : HoldsSome (sink (codes "x")) (sink (codes "xyz")) (Some (codes "ab")) (Some (codes "aby"))
holds_one text e = (codes "y", (codes "z", two_bytes text e), refl)

holds_none : HoldsSome (sink (codes "x")) (sink (codes "xyz")) (Some (codes "ab")) (Some (codes "ab"))
holds_none text e = ([], (codes "yz", two_bytes text e), refl)

differ : (a b : List ℕ) → bytes_eq a b ≡ false → bytes_eq a a ≡ true → a ≡ b → ⊥
differ a b apart same e = let t : true ≡ false = sym same ∙ ap (bytes_eq a) e ∙ apart in cc

-- The second byte without the first is not a prefix.
holds_the_other : HoldsSome (sink (codes "x")) (sink (codes "xyz")) (Some (codes "ab")) (Some (codes "abz")) → ⊥
holds_the_other holds = by (holds (codes "yz") refl)
  where
    by : ((begun : List ℕ) × IsPrefix begun (codes "yz") × (codes "abz" ≡ codes "ab" ++ begun)) → ⊥
    by (begun, (rest, e), is) =
        let z : codes "z" ≡ begun = ap (drop 2) is in
        let whole : codes "z" ++ rest ≡ codes "yz" = ap (λ bs. bs ++ rest) z ∙ e in
        differ (codes "z") (codes "y") refl refl (ap (take 1) whole)

-- The writer holds all; or the outcome is as after a failed flush and it holds a prefix; or memory
-- ran out for the buffer and it holds nothing more.
all_behind : Buffered wrote_two (Some (codes "ab")) (Some (codes "abyz")) outcome.Done
all_behind = inr (record { ended = outcome.Done; before = sink (codes "x"); after = sink (codes "xyz"); fine = refl; run = (refl, refl, refl); last = inl (refl, holds_both) })

some_behind : Buffered wrote_two (Some (codes "ab")) (Some (codes "aby")) (outcome.Output write.Failed)
some_behind = inr (record { ended = outcome.Done; before = sink (codes "x"); after = sink (codes "xyz"); fine = refl; run = (refl, refl, refl); last = inr (refl, holds_one) })

no_room_for_a_buffer : Buffered wrote_two (Some (codes "ab")) (Some (codes "ab")) (outcome.Run fault.Memory)
no_room_for_a_buffer = inl (refl, refl)

no_room_and_written : (new : List ℕ) → Buffered wrote_two (Some (codes "ab")) (Some new) (outcome.Run fault.Memory) → new ≡ codes "ab"
no_room_and_written new (inl (e, keeps)) = keeps
no_room_and_written new (inr b) = absurd (by b.last)
  where
    by : ((outcome.Run fault.Memory ≡ b.ended) × HoldsAll b.before b.after (Some (codes "ab")) (Some new))
        ⊎ ((outcome.Run fault.Memory ≡ flushed b.ended) × HoldsSome b.before b.after (Some (codes "ab")) (Some new)) → ⊥
    by (inl l) = let e : outcome.Run fault.Memory ≡ outcome.Done = l.0 ∙ b.run.2 in cc
    by (inr l) = let e : outcome.Run fault.Memory ≡ outcome.Output write.Failed = l.0 ∙ ap flushed b.run.2 in cc

-- With Done it holds exactly that.
holds_all_when_done : (new : List ℕ) → Buffered wrote_two (Some (codes "ab")) (Some new) outcome.Done → new ≡ codes "abyz"
holds_all_when_done new (inl none) = absurd (cc none.0)
holds_all_when_done new (inr b) = by b.last
  where
    by : ((outcome.Done ≡ b.ended) × HoldsAll b.before b.after (Some (codes "ab")) (Some new)) ⊎ ((outcome.Done ≡ flushed b.ended) × HoldsSome b.before b.after (Some (codes "ab")) (Some new))
        → new ≡ codes "abyz"
    by (inl l) =
        let one = subst (λ (v : SinkView). HoldsAll v b.after (Some (codes "ab")) (Some new)) b.run.0 l.1 in
        let both = subst (λ (v : SinkView). HoldsAll (sink (codes "x")) v (Some (codes "ab")) (Some new)) b.run.1 one in
        both (codes "yz") refl
    by (inr l) = let e : outcome.Done ≡ outcome.Output write.Failed = l.0 ∙ ap flushed b.run.2 in absurd cc

thrown_away : Buffered wrote_two (Some (codes "ab")) (Some (codes "ab")) outcome.Done → ⊥
thrown_away done = differ (codes "ab") (codes "abyz") refl refl (holds_all_when_done (codes "ab") done)

last_byte_dropped : Buffered wrote_two (Some (codes "ab")) (Some (codes "aby")) outcome.Done → ⊥
last_byte_dropped done = differ (codes "aby") (codes "abyz") refl refl (holds_all_when_done (codes "aby") done)
