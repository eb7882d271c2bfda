-- A text of ASCII characters is its bytes, so a test of its characters is a test of its bytes.
use Rattle.std.proofs.Common.{◌≡◌, ℕ, zero, suc, ◌+◌, ◌<◌, List, [], ◌∷◌, ◌++◌, length, get_or, take, drop, refl, sym, ap, ◌∙◌, Bool, true, false, cond, ◌&&◌, nat_lt, arith}
use Rattle.std.specs.List.{list_all, prefix_len}
use Rattle.std.specs.Str.{chars, IsAscii, IsUtf8, is_utf8}
use Rattle.std.proofs.lemmas.List.{at_drop_more, take-append-drop}
use Rattle.std.proofs.lemmas.Str.{IsUtf8-from_ascii, chars-IsAscii, is_utf8-from_IsUtf8}
use Rattle.oim_names.specs.Names.{begins_and_goes_on, is_name_start, is_name_char, is_ncname}

both : (a b : Bool) → (a && b) ≡ true → (a ≡ true) × (b ≡ true)
both true b h = (refl, h)
both false b h = absurd (cc)

-- An ASCII character that passes a test.
abbrev pub is_ascii_and : (ℕ → Bool) → ℕ → Bool
is_ascii_and p c = nat_lt c 128 && p c

is_low : (p : ℕ → Bool) (c : ℕ) → is_ascii_and p c ≡ true → c < 128
is_low p c h = let low : nat_lt c 128 ≡ true = (both (nat_lt c 128) (p c) h).0 in grind (arith, low)

are_ascii : (p : ℕ → Bool) (t : List ℕ) → list_all (is_ascii_and p) t ≡ true → IsAscii t
are_ascii p [] h i = omega arith
are_ascii p (b ∷ bs) h zero = is_low p b (both (is_ascii_and p b) (list_all (is_ascii_and p) bs) h).0
are_ascii p (b ∷ bs) h (suc i) = are_ascii p bs (both (is_ascii_and p b) (list_all (is_ascii_and p) bs) h).1 i

all_pass : (p : ℕ → Bool) (t : List ℕ) → list_all (is_ascii_and p) t ≡ true → list_all p t ≡ true
all_pass p [] h = refl
all_pass p (b ∷ bs) h =
    let each = both (is_ascii_and p b) (list_all (is_ascii_and p) bs) h in
    ap (λ d. d && list_all p bs) (both (nat_lt b 128) (p b) each.0).1 ∙ all_pass p bs each.1

one_more : (b : ℕ) (bs : List ℕ) → b < 128 → IsAscii bs → IsAscii (b ∷ bs)
one_more b bs low rest zero = low
one_more b bs low rest (suc i) = rest i

-- A text whose first byte passes one test and whose other bytes pass another, all ASCII.
pub ascii_name : (first other : ℕ → Bool) (t : List ℕ) → IsUtf8 t → 0 < length t → is_ascii_and first (get_or t 0 0) ≡ true → list_all (is_ascii_and other) (drop 1 t) ≡ true
    → (is_utf8 t && begins_and_goes_on first other (chars t)) ≡ true
ascii_name first other [] u some h rest = absurd (omega arith)
ascii_name first other (b ∷ bs) u some h rest =
    let spelt : chars (b ∷ bs) ≡ b ∷ bs = chars-IsAscii (b ∷ bs) (one_more b bs (is_low first b h) (are_ascii other bs rest)) in
    ap (λ d. d && begins_and_goes_on first other (chars (b ∷ bs))) (is_utf8-from_IsUtf8 (b ∷ bs) u)
    ∙ ap (begins_and_goes_on first other) spelt ∙ ap (λ d. d && list_all other bs) (both (nat_lt b 128) (first b) h).1 ∙ all_pass other bs rest

-- The items before the first one that fails a test pass it.
front_passes : (p : ℕ → Bool) (xs : List ℕ) → list_all p (take (prefix_len p xs) xs) ≡ true
front_passes p [] = refl
front_passes p (x ∷ xs) = by (p x) refl (front_passes p xs)
  where
    on : 1 + prefix_len p xs ≡ suc (prefix_len p xs)
    on = omega arith

    by : (b : Bool) → p x ≡ b → list_all p (take (prefix_len p xs) xs) ≡ true → list_all p (take (cond b (1 + prefix_len p xs) 0) (x ∷ xs)) ≡ true
    by true e k = ap (λ n. list_all p (take n (x ∷ xs))) on ∙ ap (λ d. d && list_all p (take (prefix_len p xs) xs)) e ∙ k
    by false e k = refl

-- The name at the start of a text: a byte that may begin a name, and the bytes after it that a name
-- may contain.
pub front_name : (t : List ℕ) → 0 < length t → is_ascii_and is_name_start (get_or t 0 0) ≡ true
    → is_ncname (take (1 + prefix_len (is_ascii_and is_name_char) (drop 1 t)) t) ≡ true
unfolding is_ncname
front_name [] some h = absurd (omega arith)
front_name (b ∷ bs) some h =
    let n = prefix_len (is_ascii_and is_name_char) bs in
    let on : 1 + n ≡ suc n = omega arith in
    let rest = front_passes (is_ascii_and is_name_char) bs in
    let ascii = one_more b (take n bs) (is_low is_name_start b h) (are_ascii is_name_char (take n bs) rest) in
    ap (λ k. is_ncname (take k (b ∷ bs))) on ∙ ascii_name is_name_start is_name_char (b ∷ take n bs) (IsUtf8-from_ascii (b ∷ take n bs) ascii) (omega arith) h rest

-- A list cut at one of its items.
pub cut_at : (t : List ℕ) (n m : ℕ) → n < length t → get_or t n 0 ≡ m → t ≡ take n t ++ m ∷ drop (n + 1) t
cut_at t n m h e = sym (take-append-drop n t) ∙ ap (λ s. take n t ++ s) (at_drop_more (λ xs. xs) t n 0 h ∙ ap (λ c. c ∷ drop (n + 1) t) e)
