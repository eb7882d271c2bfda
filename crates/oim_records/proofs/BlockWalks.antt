-- A scan of a block by which of its bytes are inside quotes.
use Rattle.std.proofs.Common.{◌≡◌, ℕ, ◌+◌, ◌*◌, ◌⊎◌, inl, inr, Bool, true, false, cond, List, [], ◌∷◌, length, refl, sym, ap, subst, ◌∙◌, arith, add-zero}
use Rattle.std.specs.Prelude.{◌==◌, ◌&&◌}
use Rattle.std.specs.Simd.Lanes.{mask_l}
use Rattle.std.proofs.lemmas.Bool.Decides.{eqb_tells}
use Rattle.oim_records.specs.state.Bits.{differ}
use Rattle.oim_records.specs.state.Blocks.{block_scanned, but, cut_behind, cut_rows_behind, is_opener, led, may_open, rows_behind}
use Rattle.oim_records.specs.Lines.{ends_line}
use Rattle.oim_records.specs.state.Bytes.{is_quote}
use Rattle.oim_records.specs.state.Places.{ends_record, is_between, place_after}
use Rattle.oim_records.specs.state.Places.{is_quoted}
use Rattle.oim_records.specs.state.Scans.{scan_after, scanned}
use Rattle.oim_records.specs.declared.csv_state.CsvState.{CsvState}
use Rattle.oim_records.specs.declared.csv_state.CsvState.TheVariants as place
use Rattle.oim_records.specs.declared.scan.Scan.{Scan}

-- Whether a scan is inside quotes after each byte.
unfoldable pub insides : Bool → List ℕ → List Bool
insides inside [] = []
insides inside (c ∷ xs) = differ inside (is_quote c) ∷ insides (differ inside (is_quote c)) xs

-- The bytes that end a line outside quotes.
unfoldable pub line_ends : Bool → List ℕ → List Bool
line_ends inside [] = []
line_ends inside (c ∷ xs) = but (ends_line c) (differ inside (is_quote c)) ∷ line_ends (differ inside (is_quote c)) xs

-- The quotes that would open quotes where a quote cannot.
unfoldable pub strays : Bool → Bool → List ℕ → List Bool
strays inside ready [] = []
strays inside ready (c ∷ xs) = but (is_quote c && differ inside (is_quote c)) ready ∷ strays (differ inside (is_quote c)) (is_opener c) xs

-- The place after these bytes.
unfoldable pub led_behind : CsvState → Bool → List ℕ → CsvState
led_behind p inside [] = p
led_behind p inside (c ∷ xs) = led_behind (led (differ inside (is_quote c)) c) (differ inside (is_quote c)) xs

-- One byte that is not a stray quote.
abbrev Steps : Bool → CsvState → ℕ → Type 0
Steps ready p c = (is_quoted p ≡ false → ready ≡ may_open p) → but (is_quote c && differ (is_quoted p) (is_quote c)) ready ≡ false
    → (place_after p c ≡ led (differ (is_quoted p) (is_quote c)) c)
    × (is_between (place_after p c) ≡ but (ends_line c) (differ (is_quoted p) (is_quote c)))
    × (ends_record p c ≡ but (but (ends_line c) (differ (is_quoted p) (is_quote c))) (is_between p))

by-byte : (P : ℕ → Type 0) → P 34 → P 44 → P 10 → P 13
    → ((c : ℕ) → (c == 34) ≡ false → (c == 44) ≡ false → (c == 10) ≡ false → (c == 13) ≡ false → P c) → (c : ℕ) → P c
by-byte P q m n r rest c = at (c == 34) (c == 44) (c == 10) (c == 13) refl refl refl refl (eqb_tells c 34) (eqb_tells c 44) (eqb_tells c 10) (eqb_tells c 13)
  where
    at : (a b d e : Bool) → (c == 34) ≡ a → (c == 44) ≡ b → (c == 10) ≡ d → (c == 13) ≡ e
        → (((c == 34) ≡ true) × (c ≡ 34)) ⊎ (((c == 34) ≡ false) × (c ≡ 34 → ⊥)) → (((c == 44) ≡ true) × (c ≡ 44)) ⊎ (((c == 44) ≡ false) × (c ≡ 44 → ⊥))
        → (((c == 10) ≡ true) × (c ≡ 10)) ⊎ (((c == 10) ≡ false) × (c ≡ 10 → ⊥)) → (((c == 13) ≡ true) × (c ≡ 13)) ⊎ (((c == 13) ≡ false) × (c ≡ 13 → ⊥)) → P c
    at a b d e f g h i (inl x) y z w = subst P (sym x.1) q
    at a b d e f g h i (inr x) (inl y) z w = subst P (sym y.1) m
    at a b d e f g h i (inr x) (inr y) (inl z) w = subst P (sym z.1) n
    at a b d e f g h i (inr x) (inr y) (inr z) (inl w) = subst P (sym w.1) r
    at a b d e f g h i (inr x) (inr y) (inr z) (inr w) = rest c x.0 y.0 z.0 w.0

at-quote : (ready : Bool) (p : CsvState) → Steps ready p 34
at-quote ready place.Between h none = (refl, refl, refl)
at-quote ready place.FieldStart h none = (refl, refl, refl)
at-quote true place.Field h none = let e = h refl in cc
at-quote false place.Field h none = cc
at-quote ready place.Quoted h none = (refl, refl, refl)
at-quote ready place.QuoteSeen h none = (refl, refl, refl)

at-comma : (ready : Bool) (p : CsvState) → Steps ready p 44
at-comma ready place.Between h none = (refl, refl, refl)
at-comma ready place.FieldStart h none = (refl, refl, refl)
at-comma ready place.Field h none = (refl, refl, refl)
at-comma ready place.Quoted h none = (refl, refl, refl)
at-comma ready place.QuoteSeen h none = (refl, refl, refl)

at-lf : (ready : Bool) (p : CsvState) → Steps ready p 10
at-lf ready place.Between h none = (refl, refl, refl)
at-lf ready place.FieldStart h none = (refl, refl, refl)
at-lf ready place.Field h none = (refl, refl, refl)
at-lf ready place.Quoted h none = (refl, refl, refl)
at-lf ready place.QuoteSeen h none = (refl, refl, refl)

at-cr : (ready : Bool) (p : CsvState) → Steps ready p 13
at-cr ready place.Between h none = (refl, refl, refl)
at-cr ready place.FieldStart h none = (refl, refl, refl)
at-cr ready place.Field h none = (refl, refl, refl)
at-cr ready place.Quoted h none = (refl, refl, refl)
at-cr ready place.QuoteSeen h none = (refl, refl, refl)

at-other : (ready : Bool) (p : CsvState) (c : ℕ) → (c == 34) ≡ false → (c == 44) ≡ false → (c == 10) ≡ false → (c == 13) ≡ false → Steps ready p c
at-other ready place.Between c q m n r h none = simp (q, m, n, r) (refl, refl, refl)
at-other ready place.FieldStart c q m n r h none = simp (q, m, n, r) (refl, refl, refl)
at-other ready place.Field c q m n r h none = simp (q, m, n, r) (refl, refl, refl)
at-other ready place.Quoted c q m n r h none = simp (q, n, r) (refl, refl, refl)
at-other ready place.QuoteSeen c q m n r h none = simp (q, m, n, r) (refl, refl, refl)

byte-steps : (ready : Bool) (p : CsvState) (c : ℕ) → Steps ready p c
byte-steps ready p = by-byte (Steps ready p) (at-quote ready p) (at-comma ready p) (at-lf ready p) (at-cr ready p) (at-other ready p)

led-quoted : (inside : Bool) (c : ℕ) → inside ≡ is_quoted (led inside c)
led-quoted true c = refl
led-quoted false c = by-byte (λ c. false ≡ is_quoted (led false c)) refl refl refl refl (λ c q m n r. rw (q, m, n, r) refl) c

led-ready : (inside : Bool) (c : ℕ) → inside ≡ false → is_opener c ≡ may_open (led inside c)
led-ready true c e = cc
led-ready false c e = by-byte (λ c. is_opener c ≡ may_open (led false c)) refl refl refl refl (λ c q m n r. rw (q, m, n, r) refl) c

head-none : (b : Bool) (m : ℕ) → cond b 1 0 + 2 * m ≡ 0 → (b ≡ false) × (m ≡ 0)
head-none true m e = absurd (omega arith)
head-none false m e = (refl, omega arith)

stepped : (inside ready : Bool) (p : CsvState) (c : ℕ) → inside ≡ is_quoted p → (inside ≡ false → ready ≡ may_open p) → but (is_quote c && differ inside (is_quote c)) ready ≡ false
    → (place_after p c ≡ led (differ inside (is_quote c)) c)
    × (is_between (place_after p c) ≡ but (ends_line c) (differ inside (is_quote c)))
    × (ends_record p c ≡ but (but (ends_line c) (differ inside (is_quote c))) (is_between p))
stepped inside ready p c same known none =
    let step = byte-steps ready p c (λ e. known (same ∙ e)) (subst (λ b. but (is_quote c && differ b (is_quote c)) ready ≡ false) same none) in
    rw same step

-- A block without a stray quote.
pub block-walks : (s : Scan) (inside ready : Bool) (xs : List ℕ) → inside ≡ is_quoted s.place → (inside ≡ false → ready ≡ may_open s.place) → mask_l (strays inside ready xs) ≡ 0
    → scanned s xs ≡ block_scanned s (led_behind s.place inside xs) (line_ends inside xs)
unfolding scanned strays led_behind line_ends rows_behind cut_behind cut_rows_behind
block-walks s inside ready [] same known none = rw (add-zero s.seen) refl
block-walks s inside ready (c ∷ xs) same known none =
    let i = differ inside (is_quote c) in
    let ends = but (ends_line c) i in
    let heads = head-none (but (is_quote c && i) ready) (mask_l (strays i (is_opener c) xs)) none in
    let step = stepped inside ready s.place c same known heads.0 in
    let long : s.seen + 1 + length (line_ends i xs) ≡ s.seen + length (ends ∷ line_ends i xs) = omega arith in
    block-walks (scan_after s c) i (is_opener c) xs (led-quoted i c ∙ ap is_quoted (sym step.0)) (λ no. led-ready i c no ∙ ap may_open (sym step.0)) heads.1
    ∙ rw (step.1, step.2, step.0, long) refl
