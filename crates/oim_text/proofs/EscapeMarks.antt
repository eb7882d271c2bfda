-- The marks of the bytes that JSON escapes, with those of the first bytes shifted out.
use Rattle.std.proofs.Common.{◌≡◌, ℕ, zero, suc, ◌+◌, ◌-◌, ◌*◌, ◌/◌, ◌^◌, ◌≤◌, List, [], ◌∷◌, Bool, true, false, cond, length, take, drop, drop-drop, map, refl, sym, ap, ◌∙◌, arith}
use Rattle.std.specs.List.{prefix_len}
use Rattle.std.proofs.lemmas.List.{drop-map, drop-take}
use native.Mathlib.Nat.{pow-suc, mul_comm, zero-div, div-one, div-div-eq-div-mul}
use native.Mathlib.Decide.{dec_lt}
use lib.Lanes.{mask_l}
use lib.Count.{count_trailing_zeros}
use Rattle.oim_json.specs.state.Writing.{is_unescaped}
use Rattle.oim_text.specs.state.Escapes.{is_escaped}
use Rattle.oim_records.proofs.PassingRuns.{not-not, run_stops, run_through}

half : (b : Bool) (n : ℕ) → (cond b 1 0 + 2 * n) / 2 ≡ n
half true n = omega arith
half false n = omega arith

-- A mask without its lowest bits is that of the other lanes.
pub shifted : (k : ℕ) (ms : List Bool) → mask_l ms / 2 ^ k ≡ mask_l (drop k ms)
shifted zero ms = div-one (mask_l ms)
shifted (suc k) [] = zero-div (2 ^ suc k)
shifted (suc k) (m ∷ ms) =
    ap (λ n. mask_l (m ∷ ms) / n) (pow-suc 2 k ∙ mul_comm (2 ^ k) 2) ∙ sym (div-div-eq-div-mul (mask_l (m ∷ ms)) 2 (2 ^ k)) ∙ ap (λ n. n / 2 ^ k) (half m (mask_l ms))
    ∙ shifted k ms

halved : (ms : List Bool) → mask_l ms / 2 ≡ mask_l (drop 1 ms)
halved [] = refl
halved (m ∷ ms) = half m (mask_l ms)

-- The marks of a block after its first `done` bytes.
abbrev pub marks_behind : List ℕ → ℕ → ℕ
marks_behind text done = mask_l (drop done (map is_escaped (take 32 text)))

-- They are those of the bytes that are left of it.
left : (text : List ℕ) (done rest : ℕ) → done + rest ≡ 32 → marks_behind text done ≡ mask_l (map is_escaped (take rest (drop done text)))
left text done rest whole =
    ap mask_l (drop-map is_escaped done (take 32 text) ∙ ap (λ n. map is_escaped (drop done (take n text))) (sym whole) ∙ ap (map is_escaped) (drop-take done rest text))

-- Bytes below the first mark need no escape.
pub marks_stand : (text : List ℕ) (done run : ℕ) → 32 ≤ length text → done + run ≤ 32 → run ≤ count_trailing_zeros 64 (marks_behind text done) → run ≤ prefix_len is_unescaped (drop done text)
marks_stand text done run long within below =
    let rest = 32 - done in
    let whole : done + rest ≡ 32 = omega arith in
    let same = left text done rest whole in
    let seen : run ≤ count_trailing_zeros 64 (mask_l (map is_escaped (take rest (drop done text)))) = rw same at below in
    elim (dec_lt 0 (mask_l (map is_escaped (take rest (drop done text))))) [
      | yes some ↦ omega (arith, seen, run_stops is_escaped is_unescaped (λ x. not-not (is_unescaped x)) text done rest (omega arith) (omega arith) some)
      | no none ↦ omega (arith, run_through is_escaped is_unescaped (λ x. not-not (is_unescaped x)) text done rest (omega arith) (omega arith))
    ]

-- Shifting out the marks of more bytes gives the marks after them.
pub more_behind : (text : List ℕ) (done run marks : ℕ) → marks ≡ marks_behind text done → marks / 2 ^ run / 2 ≡ marks_behind text (done + (run + 1))
more_behind text done run marks is =
    let ms = map is_escaped (take 32 text) in
    let on : done + run + 1 ≡ done + (run + 1) = omega arith in
    ap (λ n. n / 2 ^ run / 2) is ∙ ap (λ n. n / 2) (shifted run (drop done ms)) ∙ halved (drop run (drop done ms))
    ∙ ap mask_l (ap (drop 1) (drop-drop run done ms) ∙ drop-drop 1 (done + run) ms ∙ ap (λ n. drop n ms) on)
