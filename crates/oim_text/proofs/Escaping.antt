-- A text that is escaped part by part.
use Rattle.std.proofs.Common.{◌≡◌, ℕ, zero, suc, ◌+◌, ◌<◌, ◌≤◌, List, [], ◌∷◌, ◌++◌, Bool, true, false, cond, ltb, ◌&&◌, length, take, drop, get_or, length-take-le, refl, ap, ◌∙◌, arith, append-nil, take-add, take-take, take_at, drop_at, length-append, length-drop, sym}
use Rattle.std.specs.List.{flat_map, list_all, prefix_len}
use Rattle.std.proofs.lemmas.List.{take_more}
use Rattle.std.proofs.lemmas.Grind.{flat_map-append}
use Rattle.oim_json.specs.JsonText.{escaped_byte}
use Rattle.oim_json.specs.state.Writing.{is_unescaped}
use Rattle.oim_text.specs.Places.{Placed}
use Rattle.oim_text.proofs.PlacedBytes.{Placed-less, Placed-then}
use Rattle.oim_json.proofs.Quoted.{all_unescaped}

-- 255 if a byte is below another, as a vector compares them.
abbrev pub below : ℕ → ℕ → ℕ
below a b = cond (ltb a b) 255 0

one_passes : (b : Bool) (n m : ℕ) (rest : Bool) → suc n ≤ cond b (1 + m) 0 → (n ≤ m → rest ≡ true) → (b && rest) ≡ true
one_passes true n m rest le more = more (omega arith)
one_passes false n m rest le more = absurd (omega arith)

-- A prefix of a text of which each byte passes.
pub front_passes : (q : ℕ → Bool) (n : ℕ) (xs : List ℕ) → n ≤ prefix_len q xs → list_all q (take n xs) ≡ true
front_passes q zero xs h = refl
front_passes q (suc n) [] h = refl
front_passes q (suc n) (x ∷ xs) h = one_passes (q x) n (prefix_len q xs) (list_all q (take n xs)) h (front_passes q n xs)

-- One more byte of an escaped text.
pub escaped_more : (xs : List ℕ) (i d : ℕ) → i < length xs → flat_map escaped_byte (take (i + 1) xs) ≡ flat_map escaped_byte (take i xs) ++ escaped_byte (get_or xs i d)
escaped_more xs i d lt =
    ap (flat_map escaped_byte) (take_more xs i d lt) ∙ flat_map-append escaped_byte (take i xs) (get_or xs i d ∷ [])
    ∙ ap (λ t. flat_map escaped_byte (take i xs) ++ t) (append-nil (escaped_byte (get_or xs i d)))

-- One more run.
pub escaped_run : (xs : List ℕ) (n m : ℕ) → m ≤ prefix_len is_unescaped (drop n xs) → flat_map escaped_byte (take (n + m) xs) ≡ flat_map escaped_byte (take n xs) ++ take m (drop n xs)
escaped_run xs n m front =
    ap (flat_map escaped_byte) (take-add n m xs) ∙ flat_map-append escaped_byte (take n xs) (take m (drop n xs))
    ∙ ap (λ t. flat_map escaped_byte (take n xs) ++ t) (all_unescaped _ (front_passes is_unescaped m (drop n xs) front))

-- A byte that is escaped after a prefix of a text.
pub byte_copied : {a b c : List ℕ} {i j k : ℕ} (xs : List ℕ) (n d : ℕ) → n < length xs
    → Placed a b i (flat_map escaped_byte (take n xs)) j → Placed b c j (escaped_byte (get_or xs n d)) k → Placed a c i (flat_map escaped_byte (take (n + 1) xs)) k
byte_copied xs n d within p q = rw (escaped_more xs n d within) (Placed-then p q)

-- A block whose bytes follow an escaped prefix unescaped: only the run at its start counts.
pub block_front : {a b : List ℕ} {i : ℕ} (j : ℕ) (xs : List ℕ) (n m : ℕ) → i ≤ length a → n + 32 ≤ length xs → m ≤ 32 → m ≤ prefix_len is_unescaped (drop n xs)
    → Placed a b i (flat_map escaped_byte (take n xs) ++ take 32 (drop n xs)) (j + 32) → Placed a b i (flat_map escaped_byte (take (n + m) xs)) (j + m)
block_front {a} {b} {i} j xs n m within long few front p =
    let done = flat_map escaped_byte (take n xs) in
    let block = take 32 (drop n xs) in
    let wide : length block ≡ 32 = length-take-le 32 (drop n xs) (omega (arith, length-drop n xs)) in
    let both : length (done ++ block) ≡ length done + length block = length-append done block in
    let less = Placed-less (length done + m) within (omega (arith, both, wide)) p in
    let text : take (length done + m) (done ++ block) ≡ flat_map escaped_byte (take (n + m) xs) =
    take-add (length done) m (done ++ block) ∙ (λ k. take_at done block (length done) refl k ++ take m (drop_at done block (length done) refl k))
    ∙ ap (λ l. done ++ l) (take-take m 32 (drop n xs) few) ∙ sym (escaped_run xs n m front) in
    let place : i + (length done + m) ≡ j + m = omega (arith, p.moved, both, wide) in
    rw (text, place) at less

-- An escaped byte after that run, and the block after it.
pub block_byte : {a b c d : List ℕ} {i : ℕ} (j k : ℕ) (xs : List ℕ) (n m : ℕ) → i ≤ length a → n + m + 33 ≤ length xs → m ≤ 32 → m ≤ prefix_len is_unescaped (drop n xs)
    → Placed a b i (flat_map escaped_byte (take n xs) ++ take 32 (drop n xs)) (j + 32) → Placed b c (j + m) (escaped_byte (get_or xs (n + m) 0)) k
    → Placed c d k (take 32 (drop (n + (m + 1)) xs)) (k + 32) → Placed a d i (flat_map escaped_byte (take (n + (m + 1)) xs) ++ take 32 (drop (n + (m + 1)) xs)) (k + 32)
block_byte j k xs n m within long few front p q r =
    let on : n + m + 1 ≡ n + (m + 1) = omega arith in
    let byte = byte_copied xs (n + m) 0 (omega arith) (block_front j xs n m within (omega arith) few front p) q in
    Placed-then (rw on at byte) r
