-- A counter of lines that passes a file from record to record.
use Rattle.std.proofs.Common.{◌≡◌, ◌∙◌, ◌≤◌, ◌++◌, ◌+◌, ◌-◌, [], ◌∷◌, ℕ, zero, suc, List, Option, Some, None, Bool, true, false, IfSome, ap, append_assoc, arith, drop, length, nat_eq, refl, sym, take}
use Rattle.std.specs.Prelude.{◌&&◌, fold, if◌then◌else◌}
use Rattle.std.specs.Io.KnownBytes.{prepend_known}
use Rattle.std.proofs.Math.Seq.{take-length}
use Rattle.std.proofs.lemmas.Bool.{ne_eqb}
use Rattle.std.proofs.lemmas.List.{drop-drop, length-drop, take-append-drop}
use Rattle.std.proofs.lemmas.List.Sums.{fold-append}
use Rattle.csv.specs.Reading.{strip_bom}
use Rattle.oim_records.specs.PieceTaking.{StripsMark, TakesBytes}
use Rattle.oim_places.specs.LineNumbers.{after_byte, begins, counter_for, line_in, line_of_record, one_byte_on}
use Rattle.oim_places.specs.declared.line_number.LineCounter.{LineCounter}
use Rattle.oim_places.specs.state.RecordLines.{CountsOn, IsOn, StopsAt, further, resumed}

pub counts_start : (known left : Option (List ℕ)) → StripsMark known left → CountsOn 0 known left (counter_for 0)
counts_start None left strips = tt
counts_start (Some bytes) None strips = strips
counts_start (Some bytes) (Some left) strips = ([], sym strips, refl)

-- Once the record has begun nothing changes.
stays : (c : LineCounter) (xs : List ℕ) → c.has_begun ≡ true → fold after_byte c xs ≡ c
stays c [] e = refl
stays c (x ∷ xs) e = ap (λ (d : LineCounter). fold after_byte d xs) (rw e refl) ∙ stays c xs e

-- So a counter that still looks has looked before.
looked : (c : LineCounter) (xs : List ℕ) → (fold after_byte c xs).has_begun ≡ false → c.has_begun ≡ false
looked c xs h = at c.has_begun refl
  where
    at : (b : Bool) → c.has_begun ≡ b → c.has_begun ≡ false
    at false e = e
    at true e = absurd (let same : c.has_begun ≡ false = sym (ap (λ (d : LineCounter). d.has_begun) (stays c xs e)) ∙ h in cc)

apart : (m : ℕ) → nat_eq (suc m) 0 ≡ false
apart m = ne_eqb (suc m) 0 (λ z. cc z)

and-false : (a : Bool) → (a && false) ≡ false
and-false true = refl
and-false false = refl

-- ---- a counter for a later record

-- A counter with this many records before the one that it looks for.
abbrev with_before : LineCounter → ℕ → LineCounter
with_before c n = record c { before = n }

moves_further : (k : ℕ) (c : LineCounter) (b n : ℕ) (g : Bool) → c.before ≡ n → begins c.spot b ≡ g → (nat_eq n 0 && g) ≡ false
    → one_byte_on (further k c) b ≡ further k (one_byte_on c b)
moves_further k c b n false is e h = rw (e, and-false (nat_eq (c.before + k) 0), and-false (nat_eq c.before 0)) refl
moves_further k c b zero true is e h = cc h
moves_further k c b (suc m) true is e h =
    let sum : suc m + k ≡ suc (m + k) = omega arith in
    let one : suc (m + k) - 1 ≡ m + k = omega arith in
    let two : suc m - 1 ≡ m = omega arith in
    rw (e, is, sum, one, two, apart (m + k), apart m) refl

byte_further : (k : ℕ) (c : LineCounter) (b : ℕ) → c.has_begun ≡ false → (after_byte c b).has_begun ≡ false → after_byte (further k c) b ≡ further k (after_byte c b)
byte_further k c b here next =
    let looks : (nat_eq c.before 0 && begins c.spot b) ≡ false = rw here at next in
    rw here (moves_further k c b c.before (begins c.spot b) refl refl looks)

fold_further : (k : ℕ) (c : LineCounter) (xs : List ℕ) → (fold after_byte c xs).has_begun ≡ false → fold after_byte (further k c) xs ≡ further k (fold after_byte c xs)
fold_further k c [] h = refl
fold_further k c (x ∷ xs) h =
    ap (λ (d : LineCounter). fold after_byte d xs) (byte_further k c x (looked c (x ∷ xs) h) (looked (after_byte c x) xs h)) ∙ fold_further k (after_byte c x) xs h

pub counts_further : (k number next : ℕ) (known left : Option (List ℕ)) (c : LineCounter) → number ≡ next + k → CountsOn next known left c → c.has_begun ≡ false
    → CountsOn number known left (further k c)
counts_further k number next None left c is counts looks = tt
counts_further k number next (Some bytes) None c is counts looks = counts
counts_further k number next (Some bytes) (Some left) c is counts looks = (
  counts.0,
  counts.1,
  ap (further k) counts.2 ∙ sym (fold_further k (counter_for next) counts.0 (ap (λ (d : LineCounter). d.has_begun) (sym counts.2) ∙ looks))
      ∙ ap (λ (n : ℕ). fold after_byte (counter_for n) counts.0) (sym is),
)

-- ---- bytes that are passed

split_more : (passed rest ys strip : List ℕ) (count : ℕ) → strip ≡ passed ++ (rest ++ ys) → strip ≡ (passed ++ take count rest) ++ (drop count rest ++ ys)
split_more passed rest ys strip count is =
    is ∙ ap (λ (t : List ℕ). passed ++ (t ++ ys)) (sym (take-append-drop count rest)) ∙ ap (λ (t : List ℕ). passed ++ t) (append_assoc (take count rest) (drop count rest) ys)
    ∙ sym (append_assoc passed (take count rest) (drop count rest ++ ys))

pub counts_pass : (number count : ℕ) (known behind : Option (List ℕ)) (rest : List ℕ) (c : LineCounter) → CountsOn number known (prepend_known rest behind) c
    → CountsOn number known (prepend_known (drop count rest) behind) (fold after_byte c (take count rest))
counts_pass number count None behind rest c counts = tt
counts_pass number count (Some bytes) None rest c counts = absurd counts
counts_pass number count (Some bytes) (Some ys) rest c counts = (
  counts.0 ++ take count rest,
  split_more counts.0 rest ys (strip_bom bytes) count counts.1,
  ap (λ (d : LineCounter). fold after_byte d (take count rest)) counts.2 ∙ sym (fold-append after_byte (counter_for number) counts.0 (take count rest)),
)

-- ---- a record that has begun

begins_now : (c : LineCounter) (b n : ℕ) (g : Bool) → c.before ≡ n → begins c.spot b ≡ g → (nat_eq n 0 && g) ≡ true → one_byte_on (further 1 c) b ≡ resumed (one_byte_on c b)
begins_now c b zero true is e h = rw (e, is) refl
begins_now c b zero false is e h = cc h
begins_now c b (suc m) true is e h = absurd (let no : nat_eq (suc m) 0 ≡ false = apart m in let yes : (nat_eq (suc m) 0 && true) ≡ true = h in let both : (false && true) ≡ true = rw no at yes in cc both)
begins_now c b (suc m) false is e h = absurd (let no : (nat_eq (suc m) 0 && false) ≡ false = and-false (nat_eq (suc m) 0) in cc)

byte_begins : (c : LineCounter) (b : ℕ) → c.has_begun ≡ false → (after_byte c b).has_begun ≡ true → after_byte (further 1 c) b ≡ resumed (after_byte c b)
byte_begins c b here found =
    let begun : (nat_eq c.before 0 && begins c.spot b) ≡ true = rw here at found in
    rw here (begins_now c b c.before (begins c.spot b) refl refl begun)

fold_begins : (c : LineCounter) (front : List ℕ) (last : ℕ) → (fold after_byte c front).has_begun ≡ false → (fold after_byte c (front ++ last ∷ [])).has_begun ≡ true
    → fold after_byte (further 1 c) (front ++ last ∷ []) ≡ resumed (fold after_byte c (front ++ last ∷ []))
fold_begins c front last looks found =
    let whole : fold after_byte c (front ++ last ∷ []) ≡ after_byte (fold after_byte c front) last = fold-append after_byte c front (last ∷ []) in
    let begun : (after_byte (fold after_byte c front) last).has_begun ≡ true = ap (λ (d : LineCounter). d.has_begun) (sym whole) ∙ found in
    fold-append after_byte (further 1 c) front (last ∷ []) ∙ ap (λ (d : LineCounter). after_byte d last) (fold_further 1 c front looks)
    ∙ byte_begins (fold after_byte c front) last looks begun ∙ ap resumed (sym whole)

-- The counter of the next record is that which has found this one.
pub counts_resumed : (number count : ℕ) (known behind : Option (List ℕ)) (rest : List ℕ) (c : LineCounter) → CountsOn number known (prepend_known rest behind) c → StopsAt c rest count
    → (fold after_byte c (take count rest)).has_begun ≡ true → CountsOn (number + 1) known (prepend_known (drop count rest) behind) (resumed (fold after_byte c (take count rest)))
counts_resumed number count None behind rest c counts stops found = tt
counts_resumed number count (Some bytes) None rest c counts stops found = absurd counts
counts_resumed number count (Some bytes) (Some ys) rest c counts stops found = (
  counts.0 ++ take count rest,
  split_more counts.0 rest ys (strip_bom bytes) count counts.1,
  ap resumed passed ∙ sym later ∙ ap (λ (t : List ℕ). fold after_byte (counter_for (number + 1)) t) (sym all),
)
  where
    first : LineCounter
    first = counter_for number

    -- All bytes that are passed.
    all : counts.0 ++ take count rest ≡ (counts.0 ++ stops.0) ++ stops.1 ∷ []
    all = ap (λ (t : List ℕ). counts.0 ++ t) stops.2 ∙ sym (append_assoc counts.0 stops.0 (stops.1 ∷ []))

    passed : fold after_byte c (take count rest) ≡ fold after_byte first ((counts.0 ++ stops.0) ++ stops.1 ∷ [])
    passed = ap (λ (d : LineCounter). fold after_byte d (take count rest)) counts.2 ∙ sym (fold-append after_byte first counts.0 (take count rest)) ∙ ap (λ (t : List ℕ). fold after_byte first t) all

    before : fold after_byte first (counts.0 ++ stops.0) ≡ fold after_byte c stops.0
    before = fold-append after_byte first counts.0 stops.0 ∙ ap (λ (d : LineCounter). fold after_byte d stops.0) (sym counts.2)

    later : fold after_byte (further 1 first) ((counts.0 ++ stops.0) ++ stops.1 ∷ []) ≡ resumed (fold after_byte first ((counts.0 ++ stops.0) ++ stops.1 ∷ []))
    later =
        fold_begins first (counts.0 ++ stops.0) stops.1 (ap (λ (d : LineCounter). d.has_begun) before ∙ stops.3)
        (ap (λ (d : LineCounter). d.has_begun) (sym passed) ∙ found)

pub has_line : (c : LineCounter) (line : ℕ) → line_in c ≡ Some line → c.has_begun ≡ true
has_line c line e = at c.has_begun e
  where
    at : (b : Bool) → (if b then Some c.line else None) ≡ Some line → b ≡ true
    at true e = refl
    at false e = cc e

pub no_line : (c : LineCounter) → line_in c ≡ None → c.has_begun ≡ false
no_line c e = at c.has_begun e
  where
    at : (b : Bool) → (if b then Some c.line else None) ≡ None → b ≡ false
    at true e = cc e
    at false e = refl

pub counts_found : (number : ℕ) (known left : Option (List ℕ)) (c : LineCounter) (line : ℕ) → CountsOn number known left c → line_in c ≡ Some line
    → IfSome known (λ bytes. line_of_record number bytes ≡ Some line)
counts_found number None left c line counts e = tt
counts_found number (Some bytes) None c line counts e = absurd counts
counts_found number (Some bytes) (Some left) c line counts e =
    let all : fold after_byte (counter_for number) (strip_bom bytes) ≡ c =
    ap (λ (t : List ℕ). fold after_byte (counter_for number) t) counts.1 ∙ fold-append after_byte (counter_for number) counts.0 left
    ∙ ap (λ (d : LineCounter). fold after_byte d left) (sym counts.2) ∙ stays c left (has_line c line e) in
    ap line_in all ∙ e

-- ---- pieces

-- A piece that was passed is replaced by the next one.
pub counts_load : (number : ℕ) (known left after : Option (List ℕ)) (piece : List ℕ) (c : LineCounter) → CountsOn number known left c → TakesBytes left piece after
    → CountsOn number known (prepend_known piece after) c
counts_load number None left after piece c counts takes = tt
counts_load number (Some bytes) None after piece c counts takes = absurd counts
counts_load number (Some bytes) (Some left) None piece c counts takes = takes
counts_load number (Some bytes) (Some left) (Some after) piece c counts takes = (counts.0, counts.1 ∙ ap (λ (t : List ℕ). counts.0 ++ t) takes.0, counts.2)

-- ---- a file that is passed

within_piece : (piece : List ℕ) (at count : ℕ) → at ≤ length piece → count ≤ length (drop at piece) → at + count ≤ length piece
within_piece piece at count here more = let rest : length (drop at piece) ≡ length piece - at = length-drop at piece in omega arith

-- The rest of a piece, as a range of it.
pub rest_is : (piece : List ℕ) (at : ℕ) → take (length piece - at) (drop at piece) ≡ drop at piece
rest_is piece at = ap (λ n. take n (drop at piece)) (sym (length-drop at piece)) ∙ take-length (drop at piece)

-- It looks for a later record.
pub on_further : (file : Option (List ℕ)) (next number : ℕ) (c d : LineCounter) (piece : List ℕ) (at : ℕ) (behind : Option (List ℕ)) → next ≤ number → d ≡ further (number - next) c
    → IsOn file next c piece at behind → IsOn file number d piece at behind
on_further file next number c d piece at behind most is on =
    let sum : number ≡ next + (number - next) = omega arith in
    rw is (record { within = on.within; looks = on.looks; counts = counts_further (number - next) number next file (prepend_known (drop at piece) behind) c sum on.counts on.looks })

-- It has passed bytes without finding the record.
pub on_passed : (file : Option (List ℕ)) (next count : ℕ) (c d : LineCounter) (piece : List ℕ) (at : ℕ) (behind : Option (List ℕ)) → count ≤ length (drop at piece)
    → d ≡ fold after_byte c (take count (drop at piece)) → d.has_begun ≡ false → IsOn file next c piece at behind → IsOn file next d piece (at + count) behind
on_passed file next count c d piece at behind most is looks on = record {
  within = within_piece piece at count on.within most;
  looks = looks;
  counts = rw (is, sym (drop-drop count at piece)) (counts_pass next count file behind (drop at piece) c on.counts);
}

-- It has found the record, and looks for the next one.
pub on_resumed : (file : Option (List ℕ)) (next count : ℕ) (c d e : LineCounter) (piece : List ℕ) (at : ℕ) (behind : Option (List ℕ)) → count ≤ length (drop at piece)
    → d ≡ fold after_byte c (take count (drop at piece)) → StopsAt c (drop at piece) count → d.has_begun ≡ true → e ≡ resumed d → IsOn file next c piece at behind
    → IsOn file (next + 1) e piece (at + count) behind
on_resumed file next count c d e piece at behind most is stops found last on =
    let begun : (fold after_byte c (take count (drop at piece))).has_begun ≡ true = ap (λ (x : LineCounter). x.has_begun) (sym is) ∙ found in
    rw last (record {
      within = within_piece piece at count on.within most;
      looks = refl;
      counts = rw (is, sym (drop-drop count at piece)) (counts_resumed next count file behind (drop at piece) c on.counts stops begun);
    })

-- The line at which it has found the record.
pub on_found : (file : Option (List ℕ)) (next count line : ℕ) (c d : LineCounter) (piece : List ℕ) (at : ℕ) (behind : Option (List ℕ)) → d ≡ fold after_byte c (take count (drop at piece))
    → line_in d ≡ Some line → IsOn file next c piece at behind → IfSome file (λ bytes. line_of_record next bytes ≡ Some line)
on_found file next count line c d piece at behind is found on =
    counts_found next file (prepend_known (drop count (drop at piece)) behind) d line (rw is (counts_pass next count file behind (drop at piece) c on.counts)) found
