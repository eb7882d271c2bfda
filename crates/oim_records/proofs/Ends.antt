-- Unquoted fields, by marks of the bytes that end a field.
use Rattle.std.proofs.Common.{◌≡◌, ◌≢◌, ◌+◌, ◌-◌, ◌≤◌, ◌<◌, ℕ, List, [], ◌∷◌, ◌++◌, drop, get_or, length, Bool, true, false, not, refl, ap, ◌∙◌, arith}
use Rattle.std.specs.Int.{bit_at}
use Rattle.std.specs.List.{prefix_len}
use Rattle.std.proofs.lemmas.List.{get_or-drop, length-drop}
use Rattle.std.proofs.lemmas.List.Sums.{prefix_len_is}
use native.Mathlib.Decide.{dec_lt}
use Rattle.oim_records.specs.state.Bytes.{ends_field, joins_field}
use Rattle.oim_records.specs.state.Fields.{IsReadTo}
use Rattle.oim_records.specs.declared.field.FieldRange.{FieldRange}
use Rattle.oim_records.proofs.FieldReads.{plain-field}
use Rattle.oim_records.proofs.RecordReads.{comma-reads, field-pushed}

-- Bit k marks byte `at + k`. From `done` on each byte that ends a field is marked, and no byte
-- before `done` is.
pub record AreEnds (xs : List ℕ) (at done m : ℕ) : Type 0 where
  pub set : (k : ℕ) → k < 64 → done ≤ at + k → ends_field (get_or xs (at + k) 0) ≡ true → bit_at m k ≡ 1
  pub within : (k : ℕ) → bit_at m k ≡ 1 → (k < 64) × (done ≤ at + k)

pub ends-next : (xs : List ℕ) (at behind m n mark : ℕ) → AreEnds xs at behind m → bit_at m mark ≡ 1 → bit_at n mark ≡ 0
    → ((k : ℕ) → k < mark → bit_at m k ≡ 0) → ((k : ℕ) → k < 64 → k ≢ mark → bit_at n k ≡ bit_at m k) → ((k : ℕ) → bit_at n k ≡ 1 → bit_at m k ≡ 1)
    → AreEnds xs at (at + mark + 1) n
ends-next xs at behind m n mark marks one cleared below kept more =
    let here = marks.within mark one in
    record {
      set = λ k small low special.
          let other : k ≢ mark = λ e. absurd (omega arith) in
          kept k (omega arith) other ∙ marks.set k small (omega arith) special;
      within = λ k e.
          let in_m = more k e in
          let b = (marks.within k in_m).0 in
          (b, above k e in_m);
    }
  where
    above : (k : ℕ) → bit_at n k ≡ 1 → bit_at m k ≡ 1 → at + mark + 1 ≤ at + k
    above k e in_m =
        elim (dec_lt mark k) [
          | yes h ↦ omega arith
          | no h ↦ elim (dec_lt k mark) [
            | yes l ↦ let z = below k l in absurd (omega arith)
            | no l ↦
                let same : k ≡ mark = omega arith in
                let z : bit_at n k ≡ 0 = ap (bit_at n) same ∙ cleared in
                absurd (omega arith)
          ]
        ]

-- The field that ends at the first mark.
pub ends-first : (xs : List ℕ) (at start m mark : ℕ) → AreEnds xs at start m → at ≤ start → bit_at m mark ≡ 1 → ((k : ℕ) → k < mark → bit_at m k ≡ 0)
    → at + 64 ≤ length xs → ends_field (get_or xs (at + mark) 0) ≡ true → at + mark ≡ start + prefix_len joins_field (drop start xs)
ends-first xs at start m mark marks low one below room end =
    let here = marks.within mark one in
    let above : start ≤ at + mark = here.1 in
    let small = here.0 in
    let n = at + mark - start in
    let size = length-drop start xs in
    let there : start + n ≡ at + mark = omega arith in
    let is = prefix_len_is joins_field (drop start xs) n 0 (omega arith) (λ k lt. passes k (omega arith)) (λ lt. ap joins_field (get_or-drop start xs n 0 ∙ ap (λ i. get_or xs i 0) there) ∙ ap not end) in
    omega (arith, is)
  where
    by : (i : ℕ) → i < mark → start ≤ at + i → (b : Bool) → ends_field (get_or xs (at + i) 0) ≡ b → joins_field (get_or xs (at + i) 0) ≡ true
    by i lt from true e =
        let here = marks.within mark one in
        let small = here.0 in
        let set = marks.set i (omega arith) from e in
        let zero = below i lt in
        absurd (omega arith)
    by i lt from false e = ap not e

    passes : (k : ℕ) → start + k < at + mark → joins_field (get_or (drop start xs) k 0) ≡ true
    passes k lt =
        let same : start + k ≡ at + (start + k - at) = omega arith in
        ap joins_field (get_or-drop start xs k 0 ∙ ap (λ i. get_or xs i 0) same) ∙ by (start + k - at) (omega arith) (omega arith) (ends_field (get_or xs (at + (start + k - at)) 0)) refl

-- One more field that has no quotes and ends with a comma.
pub plain-read : (old now : List ℕ) (ranges pushed : List FieldRange) (first start stop : ℕ) → get_or now start 0 ≢ 34 → stop ≡ start + prefix_len joins_field (drop start now) → stop < length now
    → get_or now stop 0 ≡ 44 → pushed ≡ ranges ++ (record { start = start; end = stop } ∷ []) → IsReadTo old now ranges first start → IsReadTo old now pushed first (stop + 1)
plain-read old now ranges pushed first start stop other e lt comma p h =
    let low : start ≤ stop = omega arith in
    let a = length-drop start now in
    let b = length-drop start old in
    let c = ap (λ (xs : List ℕ). length xs) h.behind in
    let range : FieldRange = record { start = start; end = stop } in
    let f = field-pushed old now now ranges pushed range first start stop h (plain-field now start stop (λ some. other) e) (low, omega arith) low refl refl p in
    comma-reads old now pushed first stop f (omega arith) comma
