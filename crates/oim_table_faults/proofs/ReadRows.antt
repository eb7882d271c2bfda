-- What is left of a table's bad rows after one more row was read.
use Rattle.std.proofs.Common.{◌≡◌, ◌∙◌, ◌++◌, ◌+◌, ℕ, zero, suc, arith, drop, slice_get, Bool, true, false, List, [], ◌∷◌, Option, Some, None, Result, refl, sym, ap, subst, option_map, unwrap_or, IfSome, IsSome, OnSome}
use Rattle.std.specs.Prelude.{◌||◌, if◌then◌else◌, is_none, nat_lt}
use Rattle.std.specs.List.{list_any}
use Rattle.std.specs.Str.{bytes_eq}
use Rattle.csv.specs.Records.{field_at}
use Rattle.oim_records.specs.Grids.{Field, Record, grid}
use Rattle.oim_records.specs.Reads.{StartsFile, TakesRecord}
use Rattle.oim_report.specs.ReportValue.{ReportValue}
use Rattle.oim_rows.specs.Header.{Header, file_header_fault, or_else}
use Rattle.oim_rows.specs.RowFacts.{TableHeaderValue, id_place_of, ids_after, row_fault}
use Rattle.oim_rows.specs.Streams.{TakesHeader, answer_of}
use Rattle.oim_rows.specs.declared.fault.TableFault.{TableFault}
use Rattle.oim_table_faults.specs.Reading.{FaultsLeft, GivesBadRow, IsCurrent}
use Rattle.oim_table_faults.specs.TableFaults.{alone_or, bad_rows, bad_rows_of, cell_faults, faults_of_row, ids_up_to, row_before}
use Rattle.oim_table_faults.specs.state.Rows.{EarlierRows, HaveSame, IsReading, Steps, StillLeft, if_any, repeats}
use Rattle.oim_table_faults.proofs.OwnFaults.{own_apart}

-- THE SAME IDENTIFIERS

repeats-same : (table : ℕ) (o : Option ℕ) (n : ℕ) (a b : List Field) (r : Record) → HaveSame a b → repeats table o n a r ≡ repeats table o n b r
repeats-same table None n a b r same = refl
repeats-same table (Some p) n a b r same = rw (same (unwrap_or (field_at r p) [])) refl

faults-same : (g : TableHeaderValue) (n : ℕ) (a b : List Field) (r : Record) → HaveSame a b → faults_of_row g n a r ≡ faults_of_row g n b r
faults-same g n a b r same =
    let own : row_fault g n a r ≡ row_fault g n b r =
    own_apart g n a r ∙ ap (λ x. or_else (row_fault g n [] r) x) (repeats-same g.table (id_place_of g) n a b r same) ∙ sym (own_apart g n b r) in
    ap (λ (o : Option TableFault). alone_or o (cell_faults g n r)) own

pub any_more : (f : Field → Bool) (a : List Field) (x : Field) → list_any f (a ++ x ∷ []) ≡ (list_any f a || list_any f (x ∷ []))
any_more f [] x = refl
any_more f (y ∷ a) x = by (f y) (any_more f a x)
  where
    by : (b : Bool) → list_any f (a ++ x ∷ []) ≡ (list_any f a || list_any f (x ∷ [])) → (b || list_any f (a ++ x ∷ [])) ≡ ((b || list_any f a) || list_any f (x ∷ []))
    by true more = refl
    by false more = more

ids_after-same : (o : Option ℕ) (a b : List Field) (r : Record) → HaveSame a b → HaveSame (ids_after o a r) (ids_after o b r)
ids_after-same None a b r same = same
ids_after-same (Some p) a b r same =
    let f = unwrap_or (field_at r p) [] in
    λ id. any_more (bytes_eq id) a f ∙ ap (λ (k : Bool). k || list_any (bytes_eq id) (f ∷ [])) (same id) ∙ sym (any_more (bytes_eq id) b f)

ids-same : (g : TableHeaderValue) (n : ℕ) (a b : List Field) (r : Record) → HaveSame a b → HaveSame (ids_up_to g n a r) (ids_up_to g n b r)
ids-same g n a b r same = by (is_none (row_fault g n [] r))
  where
    by : (k : Bool) → HaveSame (if k then ids_after (id_place_of g) a r else a) (if k then ids_after (id_place_of g) b r else b)
    by true = ids_after-same (id_place_of g) a b r same
    by false = same

pub bad_rows-same : (g : TableHeaderValue) (n : ℕ) (a b : List Field) (rows : List Record) → HaveSame a b → bad_rows g n a rows ≡ bad_rows g n b rows
unfolding bad_rows
bad_rows-same g n a b [] same = refl
bad_rows-same g n a b (r ∷ rows) same =
    ap (λ es. row_before es (if nat_lt g.limit n then [] else bad_rows g (n + 1) (ids_up_to g n a r) rows)) (faults-same g n a b r same)
    ∙ ap (λ later. row_before (faults_of_row g n b r) (if nat_lt g.limit n then [] else later))
    (bad_rows-same g (n + 1) (ids_up_to g n a r) (ids_up_to g n b r) rows (ids-same g n a b r same))

-- ONE ROW

-- The first row, and the rows after it.
row_taken : (g : TableHeaderValue) (n : ℕ) (ids more : List Field) (r : Record) (rows : List Record) (faults : List TableFault) (past : Bool) → faults ≡ faults_of_row g n ids r
    → HaveSame more (ids_up_to g n ids r) → nat_lt g.limit n ≡ past → bad_rows g n ids (r ∷ rows) ≡ row_before faults (if past then [] else bad_rows g (n + 1) more rows)
unfolding bad_rows
row_taken g n ids more r rows faults past are same is =
    ap (λ es. row_before es (if nat_lt g.limit n then [] else bad_rows g (n + 1) (ids_up_to g n ids r) rows)) (sym are)
    ∙ ap (λ (k : Bool). row_before faults (if k then [] else bad_rows g (n + 1) (ids_up_to g n ids r) rows)) is
    ∙ ap (λ later. row_before faults (if past then [] else later)) (sym (bad_rows-same g (n + 1) more (ids_up_to g n ids r) rows same))

steps_within : (rows later : List (List TableFault)) (faults : List TableFault) (result : Option (List TableFault)) (new : FaultsLeft) → rows ≡ row_before faults later → result ≡ if_any faults
    → new.answered ≡ None → new.left ≡ Some later → Steps rows result new
steps_within rows later [] result new is gives on left =
    subst (λ (o : Option (List TableFault)). Steps rows o new) (sym gives)
    (subst (λ (a : Option (Option TableFault)). StillLeft new.table rows a new.left) (sym on) (left ∙ ap (λ (rs : List (List TableFault)). Some rs) (sym is)))
steps_within rows later (e ∷ es) result new is gives on left = subst (λ (o : Option (List TableFault)). Steps rows o new) (sym gives) (later, is, left)

steps_past : (rows : List (List TableFault)) (faults : List TableFault) (result : Option (List TableFault)) (new : FaultsLeft) → rows ≡ row_before faults [] → result ≡ if_any faults
    → new.answered ≡ Some None → new.left ≡ Some [] → Steps rows result new
steps_past rows [] result new is gives ended left =
    subst (λ (o : Option (List TableFault)). Steps rows o new) (sym gives) (subst (λ (a : Option (Option TableFault)). StillLeft new.table rows a new.left) (sym ended) is)
steps_past rows (e ∷ es) result new is gives ended left = subst (λ (o : Option (List TableFault)). Steps rows o new) (sym gives) ([], is, left)

-- A row that is not past the limit was read.
pub row_within : (g : TableHeaderValue) (n : ℕ) (ids more : List Field) (r : Record) (faults : List TableFault) (old new : Option (List Record)) (result : Option (List TableFault)) (after : FaultsLeft)
    → TakesRecord old true r new → faults ≡ faults_of_row g n ids r → HaveSame more (ids_up_to g n ids r) → nat_lt g.limit n ≡ false → result ≡ if_any faults
    → after.answered ≡ None → after.left ≡ option_map (bad_rows g (n + 1) more) new → IfSome (option_map (bad_rows g n ids) old) (λ rows. Steps rows result after)
row_within g n ids more r faults None new result after took are same within gives on left = tt
row_within g n ids more r faults (Some []) new result after took are same within gives on left = cc took.0
row_within g n ids more r faults (Some (x ∷ rest)) new result after took are same within gives on left =
    let is = row_taken g n ids more r rest faults false are same within in
    steps_within (bad_rows g n ids (x ∷ rest)) (bad_rows g (n + 1) more rest) faults result after
    (subst (λ (y : Record). bad_rows g n ids (y ∷ rest) ≡ row_before faults (bad_rows g (n + 1) more rest)) took.1 is) gives on
    (left ∙ ap (option_map (bad_rows g (n + 1) more)) took.2)

-- The first row past the limit was read.
pub row_past : (g : TableHeaderValue) (n : ℕ) (ids more : List Field) (r : Record) (faults : List TableFault) (old new : Option (List Record)) (result : Option (List TableFault)) (after : FaultsLeft)
    → TakesRecord old true r new → faults ≡ faults_of_row g n ids r → HaveSame more (ids_up_to g n ids r) → nat_lt g.limit n ≡ true → result ≡ if_any faults
    → after.answered ≡ Some None → after.left ≡ Some [] → IfSome (option_map (bad_rows g n ids) old) (λ rows. Steps rows result after)
row_past g n ids more r faults None new result after took are same past gives ended left = tt
row_past g n ids more r faults (Some []) new result after took are same past gives ended left = cc took.0
row_past g n ids more r faults (Some (x ∷ rest)) new result after took are same past gives ended left =
    let is = row_taken g n ids more r rest faults true are same past in
    steps_past (bad_rows g n ids (x ∷ rest)) faults result after (subst (λ (y : Record). bad_rows g n ids (y ∷ rest) ≡ row_before faults []) took.1 is) gives ended left

-- No row was left.
pub none_left : (g : TableHeaderValue) (n : ℕ) (ids : List Field) (r : Record) (old new : Option (List Record)) → TakesRecord old false r new
    → IfSome (option_map (bad_rows g n ids) old) (λ rows. rows ≡ [])
unfolding bad_rows
none_left g n ids r None new took = tt
none_left g n ids r (Some []) new took = refl
none_left g n ids r (Some (x ∷ rest)) new took = cc took.0

-- THE CURRENT ROW

taken_at : (records : List Record) (n : ℕ) (r : Record) (after : Option (List Record)) → TakesRecord (Some (drop n records)) true r after
    → (slice_get records n ≡ Some r) × (after ≡ Some (drop (suc n) records))
taken_at [] zero r after took = cc took.0
taken_at [] (suc n) r after took = cc took.0
taken_at (x ∷ rest) zero r after took = (ap Some (sym took.1), took.2)
taken_at (x ∷ rest) (suc n) r after took = taken_at rest n r after took

pub on_some : {A : Type 0} (o : Option A) (P : Type 0) → P → OnSome o P
on_some None P h = tt
on_some (Some x) P h = h

-- One more row was read, and is the current one.
pub row_read : (file : Option (List ℕ)) (n : ℕ) (r : Record) (left after : Option (List Record)) → IsReading file n left → TakesRecord left true r after
    → IsReading file (n + 1) after × IsCurrent file (n + 1) r
row_read None n r left after reading took = (tt, tt)
row_read (Some bytes) n r left after reading took =
    let taken = taken_at (grid bytes) (n + 1) r after (subst (λ l. TakesRecord l true r after) reading took) in
    let one : suc (n + 1) ≡ (n + 1) + 1 = omega arith in
    (taken.1 ∙ ap (λ k. Some (drop k (grid bytes))) one, taken.0)

-- WHAT WAS FOUND

pub still_left : (o : Option (List (List TableFault))) (table : ℕ) (answered : Option (Option TableFault)) → answered ≡ None → IfSome o (λ rows. StillLeft table rows answered o)
still_left o table answered none = subst (λ (a : Option (Option TableFault)). IfSome o (λ rows. StillLeft table rows a o)) (sym none) (by o)
  where
    by : (q : Option (List (List TableFault))) → IfSome q (λ rows. q ≡ Some rows)
    by None = tt
    by (Some rows) = refl

-- A settled table answers its end, and then no row was left.
pub settled_gives : (table : ℕ) (o left : Option (List (List TableFault))) (answered : Option (Option TableFault)) (result : Result (Option (List TableFault)) TableFault)
    → IfSome o (λ rows. StillLeft table rows answered left) → IfSome answered (λ kept. result ≡ answer_of kept) → IsSome answered → IfSome o (λ rows. GivesBadRow table rows result left)
settled_gives table None left answered result still gives settled = tt
settled_gives table (Some rows) left None result still gives settled = cc settled
settled_gives table (Some rows) left (Some None) result still gives settled = subst (λ (a : Result (Option (List TableFault)) TableFault). GivesBadRow table rows a left) (sym gives) still
settled_gives table (Some rows) left (Some (Some e)) result still gives settled = subst (λ (a : Result (Option (List TableFault)) TableFault). GivesBadRow table rows a left) (sym gives) still

-- THE FIRST ROW

opened_at : (report : ReportValue) (table limit : ℕ) (rs : List Record) (new : Option (List Record)) (h : Header) → TakesHeader report table (Some rs) h new
    → (option_map (bad_rows (record { report = report; table = table; limit = limit; columns = h }) 1 []) new ≡ Some (bad_rows_of report table limit rs)) × (file_header_fault report table rs ≡ None)
opened_at report table limit [] new h took = absurd took
opened_at report table limit (r ∷ rows) new h took = (rw (took.2, took.1) refl, took.0)

-- The rows are left.
pub reads_rows : (report : ReportValue) (table : ℕ) (known : Option (List ℕ)) (old new : Option (List Record)) (h : Header) → StartsFile known old → TakesHeader report table old h new
    → IsReading known 0 new
reads_rows report table None old new h starts took = tt
reads_rows report table (Some bytes) old new h starts took = by (grid bytes) (rw starts at took)
  where
    by : (rs : List Record) → TakesHeader report table (Some rs) h new → new ≡ Some (drop 1 rs)
    by [] took = absurd took
    by (r ∷ rows) took = took.2

-- The bad rows under a header without a fault are those of the table.
pub opened_rows : (report : ReportValue) (table limit : ℕ) (known : Option (List ℕ)) (old new : Option (List Record)) (h : Header) (g : TableHeaderValue) (rows : EarlierRows) → StartsFile known old
    → TakesHeader report table old h new → g ≡ record { report = report; table = table; limit = limit; columns = h } → rows ≡ record { header = g; ids = [] }
    → IfSome known (λ bytes. (option_map (bad_rows rows.header 1 rows.ids) new ≡ Some (bad_rows_of report table limit (grid bytes))) × (file_header_fault report table (grid bytes) ≡ None))
opened_rows report table limit None old new h g rows starts took reading begun = tt
opened_rows report table limit (Some bytes) old new h g rows starts took reading begun = rw (begun, reading) (opened_at report table limit (grid bytes) new h (rw starts at took))
