-- What levels write gives in a row what the definition requires: the constant if it does not depend
-- on the row, else what its reference names.
use Rattle.std.proofs.Common.{◌≡◌, ◌<◌, ◌^◌, ℕ, List, [], ◌∷◌, length, Option, Some, None, refl, sym, ap, ◌∙◌, arith, zero-add}
use Rattle.std.specs.Prelude.{decimal}
use Rattle.std.specs.Option.{option_map, option_map_or, option_and_then, option_or, unwrap_or}
use Rattle.std.specs.Str.{bytes_eq}
use Rattle.std.proofs.lemmas.List.FromFn.{get_or-map-range_with_len}
use Rattle.std.proofs.lemmas.List.Quantifiers.{position-Some}
use Rattle.oim_cells.specs.Cells.{Meaning, meaning_of}
use Rattle.oim_cells.specs.Cells as m
use Rattle.oim_report.specs.Readers.{column_named, no_column, parameter_of}
use Rattle.oim_report.specs.declared.data.Column.{Column as AColumn}
use Rattle.oim_report.specs.declared.data.Written.{Written}
use Rattle.oim_report.specs.declared.data.Written.TheVariants as w
use Rattle.oim_report.specs.declared.data.WrittenDecimals.{WrittenDecimals}
use Rattle.oim_report.specs.declared.data.WrittenDecimals.TheVariants as d
use Rattle.oim_resolve.specs.Cell.{Cell, text_at}
use Rattle.oim_resolve.specs.Values.{Read, decimals_value, not_empty, referred, value}
use Rattle.oim_rows.specs.RowFacts.{cell_at, field_or_empty, source_of_column}
use Rattle.oim_fast.specs.state.Pieces.{constant_meaning, constant_stated}
use Rattle.oim_row.specs.Rows.{RowValue, columns_in}
use Rattle.oim_row.specs.state.Rows.{cell_in}
use Rattle.oim_row.specs.Sources.{Column, RowNumber, SourceValue, cell_or_parameter, place_named, source_decimals, source_text, source_written}
use Rattle.oim_row.proofs.Texts.{empty_meaning, number_meaning}

by_text : (t : List ℕ) (q : Option (List ℕ)) → option_map_or meaning_of (option_or (not_empty t) q) m.Absent ≡ meaning_of (cell_or_parameter t (unwrap_or q []))
by_text [] None = sym empty_meaning
by_text [] (Some p) = refl
by_text (b ∷ bs) q = refl

none_of : {A B : Type 0} (f : A → B) (o : Option A) → option_map f o ≡ None → o ≡ None
none_of f None e = refl
none_of f (Some x) e = absurd (cc)

some_of : {A B : Type 0} (f : A → B) (o : Option A) (y : B) → option_map f o ≡ Some y → (x : A) × (o ≡ Some x) × (y ≡ f x)
some_of f None y e = absurd (cc)
some_of f (Some x) y e = (x, refl, cc)

module _ (x : RowValue) (c : ℕ) where
  abbrev cell : Cell
  cell = cell_in x c

  abbrev parameter : List ℕ → Option (List ℕ)
  parameter n = parameter_of x.header.report x.header.table n

  -- The text of a cell in range.
  pub text_is : (i : ℕ) → i < length (columns_in x.header) → text_at cell i ≡ field_or_empty x.fields (source_of_column x.header.columns i)
  text_is i b = get_or-map-range_with_len (cell_at x.header.columns x.fields) 0 (length (columns_in x.header)) i i [] b (zero-add i)

  named_text : (n : List ℕ) (o : Option ℕ) → column_named x.header.report x.header.table n ≡ o
      → not_empty (field_or_empty x.fields (option_and_then (source_of_column x.header.columns) o)) ≡ option_and_then (λ i. not_empty (text_at cell i)) o
  named_text n None e = refl
  named_text n (Some i) e = ap not_empty (sym (text_is i (position-Some (λ (k : AColumn). bytes_eq k.id n) (columns_in x.header) i no_column e).0))

  -- What a name refers to, by its place in the header.
  referred_at : (n : List ℕ) (o : Option ℕ) → place_named x.header n ≡ o → referred cell n ≡ option_map_or meaning_of (option_or (not_empty (field_or_empty x.fields o)) (parameter n)) m.Absent
  referred_at n o e =
      sym (ap (λ t. option_map_or meaning_of (option_or t (parameter n)) m.Absent)
      (ap (λ p. not_empty (field_or_empty x.fields p)) (sym e) ∙ named_text n (column_named x.header.report x.header.table n) refl))

  named_constant : (n : List ℕ) → place_named x.header n ≡ None → referred cell n ≡ option_map_or meaning_of (parameter n) m.Absent
  named_constant n e = referred_at n None e

  named_source : (n : List ℕ) (s : SourceValue) → option_map (λ place. Column place (unwrap_or (parameter n) [])) (place_named x.header n) ≡ Some s → referred cell n ≡ meaning_of (source_text x s)
  named_source n s e =
      let at = some_of (λ place. Column place (unwrap_or (parameter n) [])) (place_named x.header n) s e in
      referred_at n (Some at.0) at.1 ∙ by_text (field_or_empty x.fields (Some at.0)) (parameter n) ∙ ap (λ q. meaning_of (source_text x q)) (sym at.2)

  numbered : (s : SourceValue) → x.number < 2 ^ 32 → Some RowNumber ≡ Some s → m.Text (decimal x.number) ≡ meaning_of (source_text x s)
  numbered s few e =
      let same : RowNumber ≡ s = cc e in
      sym (number_meaning x.number (omega arith)) ∙ ap (λ q. meaning_of (source_text x q)) same

  -- Dimensions.
  pub value_constant : (e : Written) → source_written x.header e ≡ None → value cell e ≡ constant_meaning x.header e
  value_constant w.Absent h = refl
  value_constant w.Nil h = refl
  value_constant w.Empty h = refl
  value_constant (w.Text t) h = refl
  value_constant (w.RowNumber s) h = absurd (cc h)
  value_constant (w.Named n s) h = named_constant n (none_of _ (place_named x.header n) h)

  pub value_referred : (e : Written) (s : SourceValue) → x.number < 2 ^ 32 → source_written x.header e ≡ Some s → value cell e ≡ meaning_of (source_text x s)
  value_referred w.Absent s few h = absurd (cc h)
  value_referred w.Nil s few h = absurd (cc h)
  value_referred w.Empty s few h = absurd (cc h)
  value_referred (w.Text t) s few h = absurd (cc h)
  value_referred (w.RowNumber side) s few h = numbered s few h
  value_referred (w.Named n side) s few h = named_source n s h

  -- Decimals.
  pub stated_constant : (e : WrittenDecimals) → source_decimals x.header e ≡ None → decimals_value cell e ≡ constant_stated x.header e
  stated_constant d.Absent h = refl
  stated_constant (d.Fixed a) h = refl
  stated_constant d.RowNumber h = absurd (cc h)
  stated_constant (d.Named n) h = ap Read (named_constant n (none_of _ (place_named x.header n) h))

  pub stated_referred : (e : WrittenDecimals) (s : SourceValue) → x.number < 2 ^ 32 → source_decimals x.header e ≡ Some s → decimals_value cell e ≡ Read (meaning_of (source_text x s))
  stated_referred d.Absent s few h = absurd (cc h)
  stated_referred (d.Fixed a) s few h = absurd (cc h)
  stated_referred d.RowNumber s few h = ap Read (numbered s few h)
  stated_referred (d.Named n) s few h = ap Read (named_source n s h)
