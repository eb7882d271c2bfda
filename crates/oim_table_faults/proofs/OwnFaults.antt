-- The fault of a row itself, apart from its cells: what it owes to the earlier rows.
use Rattle.std.proofs.Common.{◌≡◌, ◌∙◌, ◌+◌, ℕ, Bool, true, false, not, List, [], Option, Some, None, option_map, unwrap_or, refl, sym}
use Rattle.std.specs.Prelude.{if◌then◌else◌, nat_lt}
use Rattle.std.specs.List.{list_any}
use Rattle.std.specs.Str.{bytes_eq}
use Rattle.csv.specs.Records.{field_at}
use Rattle.oim_names.specs.Names.{is_row_identifier}
use Rattle.oim_records.specs.Grids.{Field, Record}
use Rattle.oim_rows.specs.Header.{fault_at, is_empty, or_else}
use Rattle.oim_rows.specs.RowFacts.{TableHeaderValue, id_fault, id_place_of, limit_fault, ragged_fault, row_fault, text_fault}
use Rattle.oim_rows.specs.declared.fault.TableFault.{TableFault}
use Rattle.oim_rows.specs.declared.fault.TableKind.TheVariants as kind
use Rattle.oim_table_faults.specs.state.Rows.{repeats}

id_apart : (g : TableHeaderValue) (o : Option ℕ) (n : ℕ) (ids : List Field) (r : Record) → id_fault g o n ids r ≡ or_else (id_fault g o n [] r) (repeats g.table o n ids r)
id_apart g None n ids r = refl
id_apart g (Some p) n ids r = by (is_empty f) (is_row_identifier f) (list_any (bytes_eq f) ids)
  where
    f : Field
    f = unwrap_or (field_at r p) []

    by : (e i a : Bool)
        → option_map (fault_at g.table n (p + 1)) (if e then Some kind.MissingRowId else if not i then Some kind.BadRowId else if a then Some kind.RepeatedRowId else None)
        ≡ or_else (option_map (fault_at g.table n (p + 1)) (if e then Some kind.MissingRowId else if not i then Some kind.BadRowId else if false then Some kind.RepeatedRowId else None))
        (if a then Some (fault_at g.table n (p + 1) kind.RepeatedRowId) else None)
    by true i a = refl
    by false false a = refl
    by false true true = refl
    by false true false = refl

-- A row's own fault, and then that of an identifier that an earlier row has.
pub own_apart : (g : TableHeaderValue) (n : ℕ) (ids : List Field) (r : Record) → row_fault g n ids r ≡ or_else (row_fault g n [] r) (repeats g.table (id_place_of g) n ids r)
own_apart g n ids r =
    by (ragged_fault g n r) (text_fault g n r) (limit_fault g n) (id_fault g (id_place_of g) n [] r) (id_fault g (id_place_of g) n ids r)
    (repeats g.table (id_place_of g) n ids r) (id_apart g (id_place_of g) n ids r)
  where
    by : (a b c d e x : Option TableFault) → e ≡ or_else d x → or_else a (or_else b (or_else c e)) ≡ or_else (or_else a (or_else b (or_else c d))) x
    by (Some f) b c d e x h = refl
    by None (Some f) c d e x h = refl
    by None None (Some f) d e x h = refl
    by None None None d e x h = h

first_none : (a b : Option TableFault) → or_else a b ≡ None → a ≡ None
first_none None b e = refl
first_none (Some x) b e = cc e

third_none : (a b c d : Option TableFault) → or_else a (or_else b (or_else c d)) ≡ None → c ≡ None
third_none None None None d e = refl
third_none None None (Some x) d e = cc e
third_none None (Some x) c d e = cc e
third_none (Some x) b c d e = cc e

-- A row without a fault of its own has none whatever the earlier rows are.
pub none_apart : (g : TableHeaderValue) (n : ℕ) (ids : List Field) (r : Record) → row_fault g n ids r ≡ None → row_fault g n [] r ≡ None
none_apart g n ids r none = first_none (row_fault g n [] r) (repeats g.table (id_place_of g) n ids r) (sym (own_apart g n ids r) ∙ none)

-- It is not past the limit.
pub within_limit : (g : TableHeaderValue) (n : ℕ) (ids : List Field) (r : Record) → row_fault g n ids r ≡ None → nat_lt g.limit n ≡ false
within_limit g n ids r none =
    by (nat_lt g.limit n) (third_none (ragged_fault g n r) (text_fault g n r) (limit_fault g n) (id_fault g (id_place_of g) n ids r) none)
  where
    by : (b : Bool) → (if b then Some (fault_at g.table n 0 kind.TooManyRows) else None) ≡ None → b ≡ false
    by true e = cc e
    by false e = refl
