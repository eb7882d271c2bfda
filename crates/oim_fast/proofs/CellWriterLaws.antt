-- What is prepared for the cells of a table's rows, and what is written of a cell.
use Rattle.std.proofs.Common.{◌≡◌, ◌⊎◌, inl, inr, ◌<◌, ◌^◌, ℕ, Bool, true, false, List, ◌++◌, length, map, set, take, get_or, Option, Some, None, IfSome, Result, Ok, Err, sym, ap, subst, ◌∙◌, arith, append-nil}
use Rattle.std.specs.List.{All, list_all, slice_get}
use Rattle.std.proofs.lemmas.List.{get_or-map, length-map}
use Rattle.std.proofs.lemmas.Option.{slice_get_within}
use Rattle.std.proofs.Math.Seq.{take-append_seam}
use Rattle.oim_cells.specs.Cells.{Meaning, meaning_of}
use Rattle.oim_json.specs.state.Writing.{is_unescaped}
use Rattle.oim_report.specs.ReportValue.{ReportValue}
use Rattle.oim_report.specs.declared.data.Level.{Level}
use Rattle.oim_report.specs.declared.data.WrittenDecimals.{WrittenDecimals}
use Rattle.oim_report.specs.declared.kind.Kind.{Kind}
use Rattle.oim_resolve.specs.FactValues.{text_in}
use Rattle.oim_resolve.specs.Facts.{cell_result, fact_meaning, fact_of, is_absent, is_numeric}
use Rattle.oim_resolve.specs.Written.{levels}
use Rattle.oim_rows.specs.RowFacts.{TableHeaderValue, field_or_empty}
use Rattle.oim_fast.specs.state.CellValues.{IsValue}
use Rattle.oim_fast.specs.state.CellWriters.{IsCellWriter, IsInRow, PutsCell, PutsSaid, column_at}
use Rattle.oim_fast.specs.state.Columns.{AreFactColumns, IsFactColumn}
use Rattle.oim_fast.specs.state.FactTexts.{AddsFact, IsOfReferences, IsWithin, PutsFact, object_text, value_of}
use Rattle.oim_fast.specs.state.Facts.{WritesFact, fact_text, start_text}
use Rattle.oim_resolve.specs.FactParts.{FactParts as Fact}
use Rattle.oim_fast.specs.declared.table.cell_writer.CellWriter.{CellWriter}
use Rattle.oim_fast.proofs.MakerLaws.{ready_again}
use Rattle.oim_fast.specs.state.FrameTexts.{FrameValue, Segment}
use Rattle.oim_fast.specs.state.Frames.{AreFrameDecimals, IsTextOf}
use Rattle.oim_fast.specs.state.KeptFrames.{IsTextFor}
use Rattle.oim_row.specs.References.{IsFresh, Key, ReferenceValue, key_of}
use Rattle.oim_row.specs.Rows.{RowValue, column_in}
use Rattle.oim_row.specs.state.Rows.{cell_in}
use Rattle.oim_fast.specs.declared.frame.fact_column.FactColumn.{FactColumn}
use Rattle.oim_fast.specs.declared.frame.frame_decimals.FrameDecimals.{FrameDecimals}
use Rattle.oim_fast.specs.declared.frame.frame_decimals.FrameDecimals.TheVariants as decimals
use Rattle.oim_fast.specs.declared.frame.value.Value.{Value}
use Rattle.oim_row.specs.declared.group_cells.GroupCell.{GroupCell}
use Rattle.oim_fast.proofs.FoundLaws.{absent_given, fact_given, text_given}
use Rattle.oim_fast.proofs.FrameLaws.{levels_are, references_within}
use Rattle.oim_fast.proofs.PlainNumerals.{given_is_plain}
use Rattle.oim_row.proofs.Refreshed.{set_all, set_map}
use Rattle.oim_fast.proofs.RowLaws.{text_is}
use Rattle.oim_fast.proofs.SoundLaws.{chosen_sound}

-- THE REFERENCES OF A FRAME

module _ (f : TableHeaderValue) (rs : List ReferenceValue) where
  key_within : (i : ℕ) (k : Key) → slice_get (map key_of rs) i ≡ Some k → i < length rs
  key_within i k e = omega (arith, slice_get_within (map key_of rs) i k e, length-map rs key_of)

  decimals_within : (o : Option WrittenDecimals) (text : List ℕ) (d : FrameDecimals) → AreFrameDecimals f (map key_of rs) o text d → IsWithin (length rs) d
  decimals_within o text decimals.Settled h = tt
  decimals_within None text (decimals.Reference i) h = absurd (cc (h.1))
  decimals_within (Some w) text (decimals.Reference i) (none, source, is, at) = key_within i _ at
  decimals_within o text decimals.Unknown h = tt

  pub of_references : (ls : List Level) (lead : List ℕ) (t : FrameValue) → IsTextOf f (map key_of rs) ls lead t → IsOfReferences (length rs) t
  of_references ls lead t h = record {
    dimensions = subst (λ (n : ℕ). All (λ (s : Segment). s.reference < n) t.segments) (length-map rs key_of) (references_within f (map key_of rs) ls lead t h);
    decimals = λ number. decimals_within _ t.settled t.decimals (h.decimals.numbers number);
    others = h.decimals.others;
  }

-- A number's value needs no escape.
pub value_is_plain : (r : ReportValue) (k : Kind) (m : Meaning) (v : Value) → IsValue r k m v → is_numeric k ≡ true → IfSome (value_of v) (λ t. list_all is_unescaped t ≡ true)
value_is_plain r k m v h number = subst (λ (o : Option (List ℕ)). IfSome o (λ t. list_all is_unescaped t ≡ true)) (ap text_in h.given) (given_is_plain r k m number)

-- A CELL

-- The meaning of a column's cell.
pub cell_meaning : (x : RowValue) (cells : List GroupCell) (c : FactColumn) → IsFactColumn x.header cells c → meaning_of (field_or_empty x.fields (Some c.place)) ≡ fact_meaning (cell_in x c.column)
cell_meaning x cells c h = ap meaning_of (ap (field_or_empty x.fields) (sym h.there) ∙ sym (text_is x c.column c.column h.range))

pub nothing_written : (x : RowValue) (c : ℕ) (text : List ℕ) → is_absent (fact_meaning (cell_in x c)) ≡ true → WritesFact (cell_result (cell_in x c)) text text
nothing_written x c text e = record { fact = None; is = absent_given (cell_in x c) e; text = sym (append-nil text) }

module _ (x : RowValue) (cells : List GroupCell) (c : FactColumn) (rs : List ReferenceValue) (t : FrameValue) (v : Value) (start old new : List ℕ)
    (few : x.number < 2 ^ 32) (column : IsFactColumn x.header cells c) (fresh : All (IsFresh x) rs) (text : IsTextFor x (map key_of rs) c.column t)
    (value : IsValue x.header.report t.kind (fact_meaning (cell_in x c.column)) v) (begins : start ≡ start_text x) where
  adds_fact : AddsFact rs t v start old new → WritesFact (cell_result (cell_in x c.column)) old new
  adds_fact adds =
      let here = cell_in x c.column in
      let levels_is : IsTextOf x.header (map key_of rs) (levels here) (Rattle.oim_fast.specs.state.Facts.column_lead x.header c.column) t =
      subst (λ (ls : List Level). IsTextOf x.header (map key_of rs) ls (Rattle.oim_fast.specs.state.Facts.column_lead x.header c.column) t) (sym (levels_are x c.column text.choices column.from text.chosen)) text.text in
      record {
        fact = Some (fact_of here);
        is = fact_given x c.column few rs fresh t v levels_is text.concept value adds.dimensions adds.decimals value.known (chosen_sound x c.column (column_in x.header c.column).from text.choices column.from text.chosen);
        text = adds.text ∙ ap (λ q. old ++ (q ++ object_text rs t v)) begins ∙ ap (λ q. old ++ q) (text_given x c.column few rs fresh t v levels_is text.concept value adds.dimensions adds.decimals);
      }

  pub puts_fact : {E : Type 0} (r : Result Bool E) → PutsFact rs t v start old new r → PutsCell x c.column old new r
  puts_fact (Ok true) h = adds_fact h
  puts_fact (Ok false) h = h
  puts_fact (Err e) h = h

-- What is put of a value is put of the cell that gives it.
pub value_said : {E : Type 0} (x : RowValue) (rs : List ReferenceValue) (t : FrameValue) (v : Value) (start cell old new : List ℕ) → IsValue x.header.report t.kind (meaning_of cell) v
    → (r : Result Bool E) → PutsFact rs t v start old new r → PutsSaid x rs t start cell old new r
value_said x rs t v start cell old new value (Ok true) h = inr (v, value, h)
value_said x rs t v start cell old new value (Ok false) h = h
value_said x rs t v start cell old new value (Err e) h = h

-- What is put of a cell's text is put of the cell.
module _ (x : RowValue) (cells : List GroupCell) (c : FactColumn) (rs : List ReferenceValue) (t : FrameValue) (start old new : List ℕ)
    (few : x.number < 2 ^ 32) (column : IsFactColumn x.header cells c) (fresh : All (IsFresh x) rs) (text : IsTextFor x (map key_of rs) c.column t) (begins : start ≡ start_text x) where
  abbrev said : Meaning
  said = meaning_of (field_or_empty x.fields (Some c.place))

  said_fact : ((is_absent said ≡ true) × (new ≡ old)) ⊎ ((v : Value) × IsValue x.header.report t.kind said v × AddsFact rs t v start old new) → WritesFact (cell_result (cell_in x c.column)) old new
  said_fact (inl h) = subst (λ (q : List ℕ). WritesFact (cell_result (cell_in x c.column)) old q) (sym h.1) (nothing_written x c.column old (ap is_absent (sym (cell_meaning x cells c column)) ∙ h.0))
  said_fact (inr h) =
      let value : IsValue x.header.report t.kind (fact_meaning (cell_in x c.column)) h.0 = subst (λ (m : Meaning). IsValue x.header.report t.kind m h.0) (cell_meaning x cells c column) h.1 in
      adds_fact x cells c rs t h.0 start old new few column fresh text value begins h.2

  pub puts_said : {E : Type 0} (r : Result Bool E) → PutsSaid x rs t start (field_or_empty x.fields (Some c.place)) old new r → PutsCell x c.column old new r
  puts_said (Ok true) h = said_fact h
  puts_said (Ok false) h = h
  puts_said (Err e) h = h

-- THE COLUMNS

pub column_there : (f : TableHeaderValue) (cells : List GroupCell) (cs : List FactColumn) (i : ℕ) (c : FactColumn) → AreFactColumns f cells cs → i < length cs → c ≡ get_or cs i c → c.column ≡ column_at f i
column_there f cells cs i c h lt is =
    ap (λ (k : FactColumn). k.column) is ∙ sym (get_or-map (λ (k : FactColumn). k.column) cs i c 0 lt) ∙ ap (λ ys. get_or ys i 0) h.columns

pub columns_length : (f : TableHeaderValue) (cells : List GroupCell) (cs : List FactColumn) → AreFactColumns f cells cs → length cs ≡ length (Rattle.oim_fast.specs.Facts.fact_columns_in f f.columns)
columns_length f cells cs h = sym (length-map cs (λ (k : FactColumn). k.column)) ∙ ap length h.columns

-- A column was searched.
pub column_set : (f : TableHeaderValue) (cells later : List GroupCell) (cs : List FactColumn) (i : ℕ) (c new : FactColumn) → AreFactColumns f cells cs → i < length cs → c ≡ get_or cs i c
    → later ≡ cells → new.column ≡ c.column → IsFactColumn f later new → AreFactColumns f later (set cs i new)
column_set f cells later cs i c new h lt is kept same column = record {
  columns = set_map (λ (k : FactColumn). k.column) cs i c new lt is same ∙ h.columns;
  are = set_all (IsFactColumn f later) cs i new (subst (λ (gs : List GroupCell). All (IsFactColumn f gs) cs) (sym kept) h.are) column;
}

-- What is prepared in a row is prepared for the rows under its header.
pub again : (x : RowValue) (w : CellWriter) → IsInRow x w → IsCellWriter x.header w
again x w h = record { columns = h.columns; maker = ready_again x w.maker h.maker; frames = h.frames; lead = h.lead }

-- A cell was written, or was left.
pub cell_done : {E : Type 0} (x : RowValue) (c : ℕ) (old new : List ℕ) (r : Result Bool E) (b : Bool) → PutsCell x c old new r → r ≡ Ok b → b ≡ true → WritesFact (cell_result (cell_in x c)) old new
cell_done x c old new (Ok true) b h e k = h
cell_done x c old new (Ok false) b h e k = absurd (cc (e, k))
cell_done x c old new (Err f) b h e k = absurd (cc e)

pub cell_left : {E : Type 0} (x : RowValue) (c : ℕ) (old new : List ℕ) (r : Result Bool E) (b : Bool) → PutsCell x c old new r → r ≡ Ok b → b ≡ false → new ≡ old
cell_left x c old new (Ok true) b h e k = absurd (cc (e, k))
cell_left x c old new (Ok false) b h e k = h
cell_left x c old new (Err f) b h e k = h

pub cell_failed : {E : Type 0} (x : RowValue) (c : ℕ) (old new : List ℕ) (r : Result Bool E) (e : E) → PutsCell x c old new r → r ≡ Err e → new ≡ old
cell_failed x c old new (Ok b) e h is = absurd (cc is)
cell_failed x c old new (Err f) e h is = h

-- What was written of a cell is taken back.
pub taken_back : {E : Type 0} {answer : Result (Option Fact) E} (old new : List ℕ) (n : ℕ) → n ≡ length old → WritesFact answer old new → take n new ≡ old
taken_back old new n is g = ap (λ (m : ℕ). take m new) is ∙ ap (take (length old)) g.text ∙ take-append_seam old (fact_text g.fact)
