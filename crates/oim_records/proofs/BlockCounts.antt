-- The rows and the cut after a block, by the mask of its line ends.
use Rattle.std.proofs.Common.{◌≡◌, ℕ, zero, suc, ◌+◌, ◌-◌, ◌*◌, ◌^◌, ◌<◌, ◌≤◌, Bool, true, false, cond, List, [], ◌∷◌, length, refl, sym, ap, subst, ◌∙◌, arith, pow-suc}
use Rattle.std.specs.Prelude.{if◌then◌else◌}
use Rattle.std.specs.Int.RustNames.{count_ones}
use Rattle.std.specs.Simd.Lanes.{mask_l}
use Rattle.std.proofs.Math.Nat.{one-le-pow}
use Rattle.std.proofs.lemmas.Nat.{leading_top, ones_le_self}
use Rattle.std.specs.Int.Count.{count_leading_zeros}
use Rattle.std.proofs.lemmas.Simd.{ones-mask_l_cons}
use Rattle.oim_records.specs.state.Blocks.{block_scanned, but, cut_behind, cut_rows_behind, firsts, rows_behind}
use Rattle.oim_records.specs.state.Places.{is_between}
use Rattle.oim_records.specs.declared.csv_state.CsvState.{CsvState}
use Rattle.oim_records.specs.declared.scan.Scan.{Scan}

pub rows-counted : (rows : ℕ) (before : Bool) (es : List Bool) → rows_behind rows before es ≡ rows + count_ones (mask_l (firsts before es))
unfolding rows_behind firsts
rows-counted rows before [] = omega (arith, ones_le_self 0)
rows-counted rows before (e ∷ es) =
    let all = ones-mask_l_cons (but e before) (firsts e es) in
    rows-counted (rows + (if but e before then 1 else 0)) e es ∙ omega arith

-- No line ends.
abbrev Stands : ℕ → ℕ → ℕ → ℕ → Bool → List Bool → Type 0
Stands cut seen cut_rows rows before es = (rows_behind rows before es ≡ rows) × (cut_behind cut seen es ≡ cut) × (cut_rows_behind cut_rows rows before es ≡ cut_rows)

but-false : (b : Bool) → but false b ≡ false
but-false b = refl

pub no-end : (cut seen cut_rows rows : ℕ) (before : Bool) (es : List Bool) → mask_l es ≡ 0 → Stands cut seen cut_rows rows before es
unfolding rows_behind cut_behind cut_rows_behind
no-end cut seen cut_rows rows before [] none = (refl, refl, refl)
no-end cut seen cut_rows rows before (true ∷ es) none = absurd (omega arith)
no-end cut seen cut_rows rows before (false ∷ es) none =
    let more = no-end cut (seen + 1) cut_rows (rows + 0) false es (omega arith) in
    let same : rows + 0 ≡ rows = omega arith in
    (more.0 ∙ same, more.1, more.2)

-- The last line end ends the last record.
pub rows-at-cut : (cut_rows rows : ℕ) (before : Bool) (es : List Bool) → 0 < mask_l es → cut_rows_behind cut_rows rows before es ≡ rows_behind rows before es
unfolding rows_behind cut_rows_behind
rows-at-cut cut_rows rows before [] some = absurd (omega arith)
rows-at-cut cut_rows rows before (false ∷ es) some = rows-at-cut cut_rows (rows + 0) false es (omega arith)
rows-at-cut cut_rows rows before (true ∷ es) some =
    let now = rows + (if but true before then 1 else 0) in
    at now (mask_l es) refl (rows-at-cut now now true es)
  where
    at : (now m : ℕ) → mask_l es ≡ m → (0 < mask_l es → cut_rows_behind now now true es ≡ rows_behind now true es) → cut_rows_behind now now true es ≡ rows_behind now true es
    at now zero e rest = let more = no-end 0 0 now now true es e in more.2 ∙ sym more.0
    at now (suc m) e rest = rest (omega arith)

halved : (e : Bool) (j m : ℕ) → 2 ^ suc j ≤ cond e 1 0 + 2 * m → cond e 1 0 + 2 * m < 2 ^ suc (suc j) → (2 ^ j ≤ m) × (m < 2 ^ suc j)
halved true j m low high = (omega (arith, pow-suc 2 j), omega (arith, pow-suc 2 (suc j), pow-suc 2 j))
halved false j m low high = (omega (arith, pow-suc 2 j), omega (arith, pow-suc 2 (suc j), pow-suc 2 j))

-- The cut is after the highest bit.
pub cut-at : (cut seen j : ℕ) (es : List Bool) → 2 ^ j ≤ mask_l es → mask_l es < 2 ^ suc j → cut_behind cut seen es ≡ seen + suc j
unfolding cut_behind
cut-at cut seen j [] low high = absurd (omega (arith, one-le-pow j 2))
cut-at cut seen j (e ∷ es) low high = at e j (mask_l es) refl low high (λ i. cut-at (if e then seen + 1 else cut) (seen + 1) i es)
  where
    at : (e : Bool) (j m : ℕ) → mask_l es ≡ m → 2 ^ j ≤ cond e 1 0 + 2 * mask_l es → cond e 1 0 + 2 * mask_l es < 2 ^ suc j
        → ((i : ℕ) → 2 ^ i ≤ mask_l es → mask_l es < 2 ^ suc i → cut_behind (if e then seen + 1 else cut) (seen + 1) es ≡ seen + 1 + suc i)
        → cut_behind (if e then seen + 1 else cut) (seen + 1) es ≡ seen + suc j
    at true zero zero none low high rest = (no-end (seen + 1) (seen + 1) 0 0 false es none).1 ∙ omega arith
    at false zero zero none low high rest = absurd (omega arith)
    at true (suc j) zero none low high rest = absurd (omega (arith, pow-suc 2 j, one-le-pow j 2))
    at false (suc j) zero none low high rest = absurd (omega (arith, one-le-pow (suc j) 2))
    at e zero (suc m) some low high rest = absurd (omega arith)
    at e (suc j) (suc m) some low high rest = let half = halved e j (mask_l es) low high in rest j half.0 half.1 ∙ omega arith

-- The scan after a block in which no line ends outside quotes.
pub block-none : (s : Scan) (p : CsvState) (es : List Bool) (ends rows : ℕ) → length es ≡ 64 → ends ≡ mask_l es → ends ≡ 0 → rows ≡ count_ones (mask_l (firsts (is_between s.place) es))
    → ◌≡◌ {A = Scan} (record { place = p; seen = s.seen + 64; rows = s.rows + rows; cut = s.cut; cut_rows = s.cut_rows }) (block_scanned s p es)
block-none s p es ends rows long is none counted =
    let stands = no-end s.cut s.seen s.cut_rows s.rows (is_between s.place) es (sym is ∙ none) in
    let all : rows_behind s.rows (is_between s.place) es ≡ s.rows + rows = rows-counted s.rows (is_between s.place) es ∙ ap (λ n. s.rows + n) (sym counted) in
    rw (long, all, stands.1, stands.2) refl

-- The scan after a block in which some do.
pub block-some : (s : Scan) (p : CsvState) (es : List Bool) (ends rows before : ℕ) → length es ≡ 64 → ends ≡ mask_l es → 0 < ends → ends < 2 ^ 64
    → rows ≡ count_ones (mask_l (firsts (is_between s.place) es)) → before ≡ count_leading_zeros 64 ends
    → ◌≡◌ {A = Scan} (record { place = p; seen = s.seen + 64; rows = s.rows + rows; cut = s.seen + 64 - before; cut_rows = s.rows + rows }) (block_scanned s p es)
block-some s p es ends rows before long is some small counted leads =
    let t = leading_top 64 ends some small in
    let j = t.0 in
    let low : 2 ^ j ≤ mask_l es = subst (λ m. 2 ^ j ≤ m) is t.2 in
    let high : mask_l es < 2 ^ suc j = subst (λ m. m < 2 ^ suc j) is t.3 in
    let cut : cut_behind s.cut s.seen es ≡ s.seen + 64 - before = cut-at s.cut s.seen j es low high ∙ omega (arith, leads, t.1) in
    let all : rows_behind s.rows (is_between s.place) es ≡ s.rows + rows = rows-counted s.rows (is_between s.place) es ∙ ap (λ n. s.rows + n) (sym counted) in
    let last : cut_rows_behind s.cut_rows s.rows (is_between s.place) es ≡ s.rows + rows = rows-at-cut s.cut_rows s.rows (is_between s.place) es (subst (λ m. 0 < m) is some) ∙ all in
    rw (long, cut, all, last) refl
