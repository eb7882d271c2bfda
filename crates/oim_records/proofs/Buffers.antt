-- Bytes that are read into a part of a buffer.
use Rattle.std.proofs.Common.{◌≡◌, ℕ, ◌+◌, ◌≤◌, List, ◌++◌, length, take, drop, Option, Some, None, Result, Ok, Err, sym, ap, ◌∙◌, append_assoc}
use Rattle.std.proofs.Math.Seq.{take-append-add}
use Rattle.std.proofs.lemmas.List.{length-take-le, take-append-le, take_at}
use Rattle.std.specs.Io.{ReadsAtMost}
use borrow.Rule.Slice.PartMut.{post_of, put_mid}
use Rattle.std.specs.Io.KnownBytes.{Consumes, Keeps, ReadConsumes, prepend_known}
use Rattle.oim_records.specs.state.PieceTaking.{IsReadBehind}

-- A vector with its elements overwritten, and its length unchanged.
pub written-back : (n : ℕ) (new old : List ℕ) → length old ≡ n → length new ≡ length old → take n (new ++ drop (length new) old) ≡ new
written-back n new old long same = take_at new (drop (length new) old) n (same ∙ long)

-- Bytes that were taken follow those before them.
pub keeps-taken : (front taken whole : List ℕ) (before after : Option (List ℕ)) → whole ≡ front ++ taken → Consumes before after taken → Keeps (prepend_known front before) (prepend_known whole after)
keeps-taken front taken whole None after e h = tt
keeps-taken front taken whole (Some xs) None e h = absurd h
keeps-taken front taken whole (Some xs) (Some ys) e h = ap (λ w. w ++ ys) e ∙ append_assoc front taken ys ∙ ap (λ t. front ++ t) (sym h)

-- What was read into a part of a buffer follows the bytes before the part.
part-read : (from k n : ℕ) (xs buf : List ℕ) → from ≤ length xs → n ≤ length buf → take (from + n) (put_mid from k xs buf) ≡ take from xs ++ take n buf
part-read from k n xs buf low most =
    let rest = post_of from k xs in
    let size : length (take from xs) ≡ from = length-take-le from xs low in
    ap (λ m. take (m + n) (put_mid from k xs buf)) (sym size) ∙ take-append-add (take from xs) (buf ++ rest) n ∙ ap (λ t. take from xs ++ t) (take-append-le n buf rest most)

pub read-behind : {E : Type 0} (r : Result ℕ E) (before after : Option (List ℕ)) (from k : ℕ) (xs buf : List ℕ) → from ≤ length xs → ReadsAtMost r buf → ReadConsumes before after r buf
    → IsReadBehind before after from xs (put_mid from k xs buf) r
read-behind (Ok n) before after from k xs buf low most h = keeps-taken (take from xs) (take n buf) (take (from + n) (put_mid from k xs buf)) before after (part-read from k n xs buf low most.0) h.0
read-behind (Err e) before after from k xs buf low most h = h
