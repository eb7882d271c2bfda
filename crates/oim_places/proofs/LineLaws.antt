-- The line of a record is that of its first byte.
use Rattle.std.proofs.Common.{◌≡◌, ◌≤◌, ◌∙◌, ◌⊎◌, inl, inr, ◌-◌, ◌++◌, ℕ, zero, suc, List, [], ◌∷◌, drop, length, Option, Some, None, Bool, true, false, refl, sym, ap, subst, arith, nat_eq}
use Rattle.std.specs.Prelude.{◌==◌, ◌&&◌, fold}
use Rattle.std.proofs.lemmas.Bool.{eqb-true, ne_eqb}
use Rattle.csv.specs.Machine.{field_after, fields_after, is_end, step}
use Rattle.csv.specs.Reading.{default_config, strip_bom}
use Rattle.csv.specs.declared.parser.State.{State}
use Rattle.csv.specs.declared.parser.State.TheVariants as state
use Rattle.oim_records.specs.Cuts.{is_between}
use Rattle.oim_records.specs.Grids.{Field, Record, grid, records_left}
use Rattle.oim_records.proofs.RecordLaws.{Holds, all_records, between-start, left-all}
use Rattle.oim_records.specs.Lines.{ends_line}
use Rattle.oim_places.specs.LineNumbers.{HasLine, LineLaw, after_byte, after_spot, begins, line_in, line_of_record, next_line}
use Rattle.oim_places.specs.declared.line_number.LineCounter.{LineCounter}
use Rattle.oim_places.specs.declared.line_number.Spot.{Spot}
use Rattle.oim_places.specs.declared.line_number.Spot.TheVariants.{Between, Start, Field as InField, Quoted, Quote}

-- What a counter keeps of the machine that reads records.
abbrev spot_of : State → Spot
spot_of state.StartRecord = Between
spot_of state.AfterCr = Between
spot_of state.StartField = Start
spot_of state.InField = InField
spot_of state.InQuoted = Quoted
spot_of state.AfterQuote = Quote
spot_of state.InEscape = InField
spot_of state.InComment = InField

-- The machine has neither escapes nor comments.
abbrev is_met : State → Bool
is_met state.StartRecord = true
is_met state.AfterCr = true
is_met state.StartField = true
is_met state.InField = true
is_met state.InQuoted = true
is_met state.AfterQuote = true
is_met state.InEscape = false
is_met state.InComment = false

-- ---- what a byte does

-- Inside a record, that goes on.
record Inside (s : State) (b : ℕ) : Type 0 where
  begun : begins (spot_of s) b ≡ false
  old : is_between s ≡ false
  goes : is_end (step default_config s b).1 ≡ false
  new : is_between (step default_config s b).0 ≡ false

-- Inside a record, that ends.
record Ends (s : State) (b : ℕ) : Type 0 where
  begun : begins (spot_of s) b ≡ false
  old : is_between s ≡ false
  goes : is_end (step default_config s b).1 ≡ true
  new : is_between (step default_config s b).0 ≡ true

-- Between records, that it does not begin.
record Blank (s : State) (b : ℕ) (fields : List Field) (field : Field) : Type 0 where
  begun : begins (spot_of s) b ≡ false
  old : is_between s ≡ true
  goes : is_end (step default_config s b).1 ≡ false
  new : is_between (step default_config s b).0 ≡ true
  holds : Holds s fields field → Holds (step default_config s b).0 (fields_after (step default_config s b).1 fields field) (field_after (step default_config s b).1 b field)

-- Between records, and begins one.
record Starts (s : State) (b : ℕ) : Type 0 where
  begun : begins (spot_of s) b ≡ true
  old : is_between s ≡ true
  goes : is_end (step default_config s b).1 ≡ false
  new : is_between (step default_config s b).0 ≡ false
  text : ends_line b ≡ false

record Moves (s : State) (b : ℕ) (fields : List Field) (field : Field) : Type 0 where
  spot : after_spot (spot_of s) b ≡ spot_of (step default_config s b).0
  met : is_met (step default_config s b).0 ≡ true
  kind : Inside s b ⊎ (Ends s b ⊎ (Blank s b fields field ⊎ Starts s b))

-- A byte is a quote, a comma, CR, LF or another.
bytes : (P : ℕ → Type 0) (b : ℕ) → P 34 → P 44 → P 13 → P 10
    → ((b == 34) ≡ false → (b == 44) ≡ false → (b == 13) ≡ false → (b == 10) ≡ false → P b) → P b
bytes P b quote comma cr lf other = at34 (b == 34) refl
  where
    is : (k : ℕ) → (b == k) ≡ true → P k → P b
    is k e p = subst P (sym (eqb-true b k e)) p

    at10 : (x : Bool) → (b == 10) ≡ x → (b == 34) ≡ false → (b == 44) ≡ false → (b == 13) ≡ false → P b
    at10 true e q k c = is 10 e lf
    at10 false e q k c = other q k c e

    at13 : (x : Bool) → (b == 13) ≡ x → (b == 34) ≡ false → (b == 44) ≡ false → P b
    at13 true e q k = is 13 e cr
    at13 false e q k = at10 (b == 10) refl q k e

    at44 : (x : Bool) → (b == 44) ≡ x → (b == 34) ≡ false → P b
    at44 true e q = is 44 e comma
    at44 false e q = at13 (b == 13) refl q e

    at34 : (x : Bool) → (b == 34) ≡ x → P b
    at34 true e = is 34 e quote
    at34 false e = at44 (b == 44) refl e

moves : (s : State) (b : ℕ) (fields : List Field) (field : Field) → is_met s ≡ true → Moves s b fields field
moves state.InEscape b fields field met = cc met
moves state.InComment b fields field met = cc met
moves state.StartRecord b fields field met = bytes (λ b. Moves state.StartRecord b fields field) b
    (record { spot = refl; met = refl; kind = inr (inr (inr (record { begun = refl; old = refl; goes = refl; new = refl; text = refl }))) })
    (record { spot = refl; met = refl; kind = inr (inr (inr (record { begun = refl; old = refl; goes = refl; new = refl; text = refl }))) })
    (record { spot = refl; met = refl; kind = inr (inr (inl (record { begun = refl; old = refl; goes = refl; new = refl; holds = λ h. h }))) })
    (record { spot = refl; met = refl; kind = inr (inr (inl (record { begun = refl; old = refl; goes = refl; new = refl; holds = λ h. h }))) })
    (λ q k c l. record {
      spot = rw (q, k, c, l) refl;
      met = rw (q, k, c, l) refl;
      kind = inr (inr (inr (record { begun = rw (c, l) refl; old = refl; goes = rw (q, k, c, l) refl; new = rw (q, k, c, l) refl; text = rw (c, l) refl })));
    })
moves state.AfterCr b fields field met = bytes (λ b. Moves state.AfterCr b fields field) b
    (record { spot = refl; met = refl; kind = inr (inr (inr (record { begun = refl; old = refl; goes = refl; new = refl; text = refl }))) })
    (record { spot = refl; met = refl; kind = inr (inr (inr (record { begun = refl; old = refl; goes = refl; new = refl; text = refl }))) })
    (record { spot = refl; met = refl; kind = inr (inr (inl (record { begun = refl; old = refl; goes = refl; new = refl; holds = λ h. h }))) })
    (record { spot = refl; met = refl; kind = inr (inr (inl (record { begun = refl; old = refl; goes = refl; new = refl; holds = λ h. h }))) })
    (λ q k c l. record {
      spot = rw (q, k, c, l) refl;
      met = rw (q, k, c, l) refl;
      kind = inr (inr (inr (record { begun = rw (c, l) refl; old = refl; goes = rw (q, k, c, l) refl; new = rw (q, k, c, l) refl; text = rw (c, l) refl })));
    })
moves state.StartField b fields field met = bytes (λ b. Moves state.StartField b fields field) b
    (record { spot = refl; met = refl; kind = inl (record { begun = refl; old = refl; goes = refl; new = refl }) })
    (record { spot = refl; met = refl; kind = inl (record { begun = refl; old = refl; goes = refl; new = refl }) })
    (record { spot = refl; met = refl; kind = inr (inl (record { begun = refl; old = refl; goes = refl; new = refl })) })
    (record { spot = refl; met = refl; kind = inr (inl (record { begun = refl; old = refl; goes = refl; new = refl })) })
    (λ q k c l. record {
      spot = rw (q, k, c, l) refl;
      met = rw (q, k, c, l) refl;
      kind = inl (record { begun = refl; old = refl; goes = rw (q, k, c, l) refl; new = rw (q, k, c, l) refl });
    })
moves state.InField b fields field met = bytes (λ b. Moves state.InField b fields field) b
    (record { spot = refl; met = refl; kind = inl (record { begun = refl; old = refl; goes = refl; new = refl }) })
    (record { spot = refl; met = refl; kind = inl (record { begun = refl; old = refl; goes = refl; new = refl }) })
    (record { spot = refl; met = refl; kind = inr (inl (record { begun = refl; old = refl; goes = refl; new = refl })) })
    (record { spot = refl; met = refl; kind = inr (inl (record { begun = refl; old = refl; goes = refl; new = refl })) })
    (λ q k c l. record {
      spot = rw (q, k, c, l) refl;
      met = rw (k, c, l) refl;
      kind = inl (record { begun = refl; old = refl; goes = rw (k, c, l) refl; new = rw (k, c, l) refl });
    })
moves state.InQuoted b fields field met = bytes (λ b. Moves state.InQuoted b fields field) b
    (record { spot = refl; met = refl; kind = inl (record { begun = refl; old = refl; goes = refl; new = refl }) })
    (record { spot = refl; met = refl; kind = inl (record { begun = refl; old = refl; goes = refl; new = refl }) })
    (record { spot = refl; met = refl; kind = inl (record { begun = refl; old = refl; goes = refl; new = refl }) })
    (record { spot = refl; met = refl; kind = inl (record { begun = refl; old = refl; goes = refl; new = refl }) })
    (λ q k c l. record {
      spot = rw q refl;
      met = rw q refl;
      kind = inl (record { begun = refl; old = refl; goes = rw q refl; new = rw q refl });
    })
moves state.AfterQuote b fields field met = bytes (λ b. Moves state.AfterQuote b fields field) b
    (record { spot = refl; met = refl; kind = inl (record { begun = refl; old = refl; goes = refl; new = refl }) })
    (record { spot = refl; met = refl; kind = inl (record { begun = refl; old = refl; goes = refl; new = refl }) })
    (record { spot = refl; met = refl; kind = inr (inl (record { begun = refl; old = refl; goes = refl; new = refl })) })
    (record { spot = refl; met = refl; kind = inr (inl (record { begun = refl; old = refl; goes = refl; new = refl })) })
    (λ q k c l. record {
      spot = rw (q, k, c, l) refl;
      met = rw (q, k, c, l) refl;
      kind = inl (record { begun = refl; old = refl; goes = rw (q, k, c, l) refl; new = rw (q, k, c, l) refl });
    })

-- ---- the counter

-- A counter at a line, searching the record after n others.
abbrev counter : Spot → ℕ × Bool → ℕ → LineCounter
counter spot at n = record { spot = spot; after_cr = at.1; line = at.0; before = n; has_begun = false }

and-false : (a : Bool) → (a && false) ≡ false
and-false true = refl
and-false false = refl

passes : (spot : Spot) (at : ℕ × Bool) (n b : ℕ) → begins spot b ≡ false → after_byte (counter spot at n) b ≡ counter (after_spot spot b) (next_line at b) n
passes spot at n b e = rw (e, and-false (nat_eq n 0)) refl

apart : (m : ℕ) → nat_eq (suc m) 0 ≡ false
apart m = ne_eqb (suc m) 0 (λ z. cc z)

one_less : (m : ℕ) → suc m - 1 ≡ m
one_less m = omega arith

counts : (spot : Spot) (at : ℕ × Bool) (m b : ℕ) → begins spot b ≡ true → after_byte (counter spot at (suc m)) b ≡ counter (after_spot spot b) (next_line at b) m
counts spot at m b e = rw (e, apart m, one_less m) refl

-- The counter that has found its record.
abbrev found_at : Spot → ℕ × Bool → ℕ → LineCounter
found_at spot at b = record { spot = after_spot spot b; after_cr = nat_eq b 13; line = at.0; before = 0; has_begun = true }

stops : (spot : Spot) (at : ℕ × Bool) (b : ℕ) → begins spot b ≡ true → ends_line b ≡ false → after_byte (counter spot at 0) b ≡ found_at spot at b
stops spot at b e text = rw (e, text) refl

stays : (spot : Spot) (at : ℕ × Bool) (b : ℕ) (xs : List ℕ) → fold after_byte (found_at spot at b) xs ≡ found_at spot at b
stays spot at b [] = refl
stays spot at b (x ∷ xs) = stays spot at b xs

-- ---- what is found

record Begins (at : ℕ × Bool) (xs : List ℕ) (records : List Record) (n line : ℕ) : Type 0 where
  front : List ℕ
  first : ℕ
  rest : List ℕ
  split : xs ≡ front ++ first ∷ rest
  text : ends_line first ≡ false
  left : records_left state.StartRecord (first ∷ rest) ≡ drop n records
  counted : line ≡ (fold next_line at front).0

abbrev Found : ℕ × Bool → List ℕ → List Record → ℕ → Option ℕ → Type 0
Found at xs records n None = length records ≤ n
Found at xs records n (Some line) = Begins at xs records n line

-- One byte further on.
further : (at : ℕ × Bool) (b : ℕ) (xs : List ℕ) (records : List Record) (n : ℕ) (o : Option ℕ) → Found (next_line at b) xs records n o → Found at (b ∷ xs) records n o
further at b xs records n None h = h
further at b xs records n (Some line) h = record { front = b ∷ h.front; first = h.first; rest = h.rest; split = ap (λ (t : List ℕ). b ∷ t) h.split; text = h.text; left = h.left; counted = h.counted }

abbrev no_records : List Record
no_records = []

-- One record further on.
behind : (at : ℕ × Bool) (xs : List ℕ) (records : List Record) (n : ℕ) (o : Option ℕ) → Found at xs (drop 1 records) n o → Found at xs records (suc n) o
behind at xs [] n None h = omega arith
behind at xs (x ∷ records) n None h = omega arith
behind at xs [] n (Some line) h = record { front = h.front; first = h.first; rest = h.rest; split = h.split; text = h.text; left = h.left ∙ none n; counted = h.counted }
  where
    none : (n : ℕ) → drop n no_records ≡ drop (suc n) no_records
    none zero = refl
    none (suc n) = refl
behind at xs (x ∷ records) n (Some line) h = record { front = h.front; first = h.first; rest = h.rest; split = h.split; text = h.text; left = h.left; counted = h.counted }

-- The records that have not begun.
abbrev ahead : Bool → List Record → List Record
ahead true records = records
ahead false records = drop 1 records

goal_of : List ℕ → State → List Field → Field → ℕ → ℕ × Bool → Type 0
goal_of xs s fields field n at =
    Found at xs (ahead (is_between s) (all_records s fields field xs)) n (line_in (fold after_byte (counter (spot_of s) at n) xs))

at_end : (s : State) (fields : List Field) (field : Field) (n : ℕ) (at : ℕ × Bool) → goal_of [] s fields field n at
unfolding goal_of all_records
at_end state.StartRecord fields field n at = omega arith
at_end state.AfterCr fields field n at = omega arith
at_end state.StartField fields field n at = omega arith
at_end state.InField fields field n at = omega arith
at_end state.InQuoted fields field n at = omega arith
at_end state.AfterQuote fields field n at = omega arith
at_end state.InEscape fields field n at = omega arith
at_end state.InComment fields field n at = omega arith

-- Between records nothing is at hand.
fresh : (s : State) (fields : List Field) (field : Field) (xs : List ℕ) → is_between s ≡ true → Holds s fields field
    → all_records s fields field xs ≡ records_left state.StartRecord xs
fresh state.StartRecord fields field xs e h = rw (h.0, h.1) (sym (left-all state.StartRecord xs))
fresh state.AfterCr fields field xs e h = rw (h.0, h.1) (sym (left-all state.AfterCr xs) ∙ between-start state.AfterCr xs refl)
fresh state.StartField fields field xs e h = cc e
fresh state.InField fields field xs e h = cc e
fresh state.InQuoted fields field xs e h = cc e
fresh state.AfterQuote fields field xs e h = cc e
fresh state.InEscape fields field xs e h = cc e
fresh state.InComment fields field xs e h = cc e

-- Inside a record anything may be at hand.
any : (s : State) (fields : List Field) (field : Field) → is_met s ≡ true → is_between s ≡ false → Holds s fields field
any state.StartRecord fields field met e = cc e
any state.AfterCr fields field met e = cc e
any state.StartField fields field met e = tt
any state.InField fields field met e = tt
any state.InQuoted fields field met e = tt
any state.AfterQuote fields field met e = tt
any state.InEscape fields field met e = tt
any state.InComment fields field met e = cc met

nothing : (s : State) → is_between s ≡ true → Holds s [] []
nothing state.StartRecord e = (refl, refl)
nothing state.AfterCr e = (refl, refl)
nothing state.StartField e = cc e
nothing state.InField e = cc e
nothing state.InQuoted e = cc e
nothing state.AfterQuote e = cc e
nothing state.InEscape e = cc e
nothing state.InComment e = cc e

lines : (xs : List ℕ) (s : State) (fields : List Field) (field : Field) (n : ℕ) (at : ℕ × Bool) → is_met s ≡ true → Holds s fields field → goal_of xs s fields field n at
unfolding goal_of all_records
lines [] s fields field n at met holds = at_end s fields field n at
lines (b ∷ xs) s fields field n at met holds = by (λ t fs f m here is has. lines xs t fs f m here is has) (moves s b fields field met)
  where
    Rest : Type 0
    Rest = (t : State) (fs : List Field) (f : Field) (m : ℕ) (here : ℕ × Bool) → is_met t ≡ true → Holds t fs f → goal_of xs t fs f m here

    s₁ : State
    s₁ = (step default_config s b).0

    f₁ : List Field
    f₁ = fields_after (step default_config s b).1 fields field

    p₁ : Field
    p₁ = field_after (step default_config s b).1 b field

    -- The counter and the machine go on together.
    on : (m : ℕ) (recs : List Record) → Moves s b fields field → after_byte (counter (spot_of s) at n) b ≡ counter (after_spot (spot_of s) b) (next_line at b) m
        → Found (next_line at b) xs recs m (line_in (fold after_byte (counter (spot_of s₁) (next_line at b) m) xs))
        → Found (next_line at b) xs recs m (line_in (fold after_byte (after_byte (counter (spot_of s) at n) b) xs))
    on m recs v is h = rw (is, v.spot) h

    by : Rest → Moves s b fields field → goal_of (b ∷ xs) s fields field n at
    by go v = kinds v v.kind
      where
        inside : Moves s b fields field → Inside s b → goal_of (b ∷ xs) s fields field n at
        inside v i =
            let more : goal_of xs s₁ f₁ p₁ n (next_line at b) = go s₁ f₁ p₁ n (next_line at b) v.met (any s₁ f₁ p₁ v.met i.new) in
            let here = on n (drop 1 (all_records s₁ f₁ p₁ xs)) v (passes (spot_of s) at n b i.begun) (rw i.new at more) in
            rw (i.old, i.goes) (further at b xs _ n _ here)

        ends : Moves s b fields field → Ends s b → goal_of (b ∷ xs) s fields field n at
        ends v i =
            let more : goal_of xs s₁ [] [] n (next_line at b) = go s₁ [] [] n (next_line at b) v.met (nothing s₁ i.new) in
            let here = on n (all_records s₁ [] [] xs) v (passes (spot_of s) at n b i.begun) (rw i.new at more) in
            rw (i.old, i.goes) (further at b xs _ n _ here)

        blank : Moves s b fields field → Blank s b fields field → goal_of (b ∷ xs) s fields field n at
        blank v i =
            let more : goal_of xs s₁ f₁ p₁ n (next_line at b) = go s₁ f₁ p₁ n (next_line at b) v.met (i.holds holds) in
            let here = on n (all_records s₁ f₁ p₁ xs) v (passes (spot_of s) at n b i.begun) (rw i.new at more) in
            rw (i.old, i.goes) (further at b xs _ n _ here)

        starts : (k : ℕ) → n ≡ k → Moves s b fields field → Starts s b → goal_of (b ∷ xs) s fields field n at
        starts zero is v i =
            let found : Found at (b ∷ xs) (all_records s fields field (b ∷ xs)) 0 (line_in (fold after_byte (after_byte (counter (spot_of s) at 0) b) xs)) =
            rw (stops (spot_of s) at b i.begun i.text, stays (spot_of s) at b xs) (record {
              front = [];
              first = b;
              rest = xs;
              split = refl;
              text = i.text;
              left = sym (fresh s fields field (b ∷ xs) i.old holds);
              counted = refl;
            }) in
            rw (is, i.old) found
        starts (suc m) is v i =
            let more : goal_of xs s₁ f₁ p₁ m (next_line at b) = go s₁ f₁ p₁ m (next_line at b) v.met (any s₁ f₁ p₁ v.met i.new) in
            let here = on m (drop 1 (all_records s₁ f₁ p₁ xs)) v (ap (λ k. after_byte (counter (spot_of s) at k) b) is ∙ counts (spot_of s) at m b i.begun) (rw i.new at more) in
            rw (i.old, i.goes, is) (behind at (b ∷ xs) _ m _ (further at b xs _ m _ (rw is at here)))

        kinds : Moves s b fields field → Inside s b ⊎ (Ends s b ⊎ (Blank s b fields field ⊎ Starts s b)) → goal_of (b ∷ xs) s fields field n at
        kinds v (inl i) = inside v i
        kinds v (inr (inl i)) = ends v i
        kinds v (inr (inr (inl i))) = blank v i
        kinds v (inr (inr (inr i))) = starts n refl v i

told : (text : List ℕ) (bytes : List ℕ) (number : ℕ) (o : Option ℕ) → strip_bom bytes ≡ text → Found (1, false) text (grid bytes) number o → HasLine bytes number o
told text bytes number None is h = h
told text bytes number (Some line) is h = record { front = h.front; first = h.first; rest = h.rest; split = is ∙ h.split; text = h.text; records = h.left; counted = h.counted }

pub lines_of_records : LineLaw
unfolding goal_of
lines_of_records number bytes =
    let all : goal_of (strip_bom bytes) state.StartRecord [] [] number (1, false) = lines (strip_bom bytes) state.StartRecord [] [] number (1, false) refl (refl, refl) in
    told (strip_bom bytes) bytes number (line_of_record number bytes) refl (rw (left-all state.StartRecord (strip_bom bytes)) all)
