-- Faults of one row with what is at their places.
use Rattle.std.proofs.Common.{◌≡◌, ◌<◌, ◌∙◌, ◌++◌, ℕ, zero, suc, arith, List, [], ◌∷◌, Option, Some, None, Result, Ok, IfOk, IfSome, ap, map, refl, slice_get, subst, sym, unwrap_or}
use Rattle.std.specs.List.{All, flat_map}
use Rattle.std.proofs.lemmas.List.{map-append}
use Rattle.std.proofs.lemmas.List.Elements.{All-head, All-weaker}
use Rattle.csv.specs.Records.{fields_of}
use Rattle.oim_records.specs.Grids.{Record, grid}
use Rattle.oim_rows.specs.declared.fault.TableFault.{TableFault}
use Rattle.oim_rows.specs.Header.{file_header_fault}
use Rattle.oim_table_faults.specs.Reading.{GivesBadRow, IsCurrent}
use Rattle.oim_table_faults.specs.TableFaults.{alone_or, bad_rows_of, faults_of_rows}
use Rattle.oim_places.specs.FaultLists.{AreAt, ArePlacesIn, GivesRow, HasPlaceIn, LocatedLeft, RecordsByRow, header_or, record_of}
use Rattle.oim_places.specs.FaultPlaces.{HasRow, column_text, stands_at}
use Rattle.oim_places.specs.LineNumbers.{line_of_record}
use Rattle.oim_places.specs.declared.bad_rows.LocatedFault.{LocatedFault}
use Rattle.oim_places.specs.declared.fault_places.FaultRecord.{FaultRecord}
use Rattle.oim_places.specs.state.FaultLists.{HasHeader, HasRowOf, IsPlacedIn}
use Rattle.oim_places.specs.state.FaultPlaces.{IsFirstIn}
use Rattle.oim_places.proofs.FaultPlaces.{row_is}

-- The header and a row of one file.
pub has_row : (heads cells : Option (List ℕ)) (number : ℕ) (header row : Record) → heads ≡ cells → HasHeader heads header → HasRowOf cells number row
    → IfSome cells (λ bytes. HasRow (grid bytes) number header row)
has_row heads None number header row same head is = tt
has_row heads (Some bytes) number header row same head is = (subst (λ o. HasHeader o header) same head, is)

-- The current row of a table is the row at hand.
pub row_of : (file : Option (List ℕ)) (before number : ℕ) (current row : Record) → before < number → IsCurrent file number current → row ≡ current → HasRowOf file number row
row_of None before number current row more is same = tt
row_of (Some bytes) before zero current row more is same = absurd (omega arith)
row_of (Some bytes) before (suc number) current row more is same = is ∙ ap Some (sym same)

-- The record of this number begins at this line of the bytes.
abbrev pub IsLineAt : ℕ → ℕ → List ℕ → Type 0
IsLineAt number line bytes = line_of_record number bytes ≡ Some line

-- A fault of this record, which begins at this line, with what is at its place.
abbrev pub IsPlaced : ℕ → ℕ → Record → Record → LocatedFault → Type 0
IsPlaced number line header row l = (l.fault.row ≡ number) × IsPlacedIn header row line l.fault.column l.place

texts_of : (cells : Option (List ℕ)) (number line : ℕ) (header row : Record) (l : LocatedFault) → IfSome cells (λ bytes. HasRow (grid bytes) number header row)
    → IsPlaced number line header row l
    → IfSome cells (λ bytes. (l.place.header ≡ (stands_at bytes l.fault.row l.fault.column).header) × (l.place.cell ≡ (stands_at bytes l.fault.row l.fault.column).cell))
texts_of None number line header row l has placed = tt
texts_of (Some bytes) number line header row l has placed = (
  placed.1.0 ∙ ap (λ o. column_text (unwrap_or o []) l.fault.column) (sym has.0),
  placed.1.1 ∙ ap (λ r. column_text r l.fault.column) (sym (row_is (grid bytes) l.fault.row row (subst (λ n. HasRow (grid bytes) n header row) (sym placed.0) has).1)),
)

line_of : (lines : Option (List ℕ)) (number line : ℕ) (header row : Record) (l : LocatedFault) → IfSome lines (IsLineAt number line) → IsPlaced number line header row l
    → IfSome lines (λ bytes. l.place.line ≡ (stands_at bytes l.fault.row l.fault.column).line)
line_of None number line header row l at placed = tt
line_of (Some bytes) number line header row l at placed = placed.1.2 ∙ sym at ∙ ap (λ n. line_of_record n bytes) (sym placed.0)

pub places_of : (cells lines : Option (List ℕ)) (number line : ℕ) (header row : Record) (located : List LocatedFault) → IfSome cells (λ bytes. HasRow (grid bytes) number header row)
    → IfSome lines (IsLineAt number line) → All (IsPlaced number line header row) located → ArePlacesIn cells lines located
places_of cells lines number line header row located has at placed =
    All-weaker (IsPlaced number line header row) (HasPlaceIn cells lines) (λ l h. (texts_of cells number line header row l has h, line_of lines number line header row l at h)) located placed

pub records_of : (cells : Option (List ℕ)) (number line : ℕ) (header row : Record) (located : List LocatedFault) → IfSome cells (λ bytes. HasRow (grid bytes) number header row)
    → All (IsPlaced number line header row) located → AreAt cells header row located
records_of None number line header row located has placed = tt
records_of (Some bytes) number line header row located has placed =
    All-weaker (IsPlaced number line header row) (λ l. HasRow (grid bytes) l.fault.row header row) (λ l h. subst (λ n. HasRow (grid bytes) n header row) (sym h.0) has) located placed

-- An answer of the faults is one of the faults with their places.
pub gives_located : (table : ℕ) (rows : Option (List (List TableFault))) (faults : List TableFault) (located : List LocatedFault) (after : Option (List (List TableFault)))
    → map (λ l. l.fault) located ≡ faults → IfSome rows (λ rows. GivesBadRow table rows (Ok (Some faults)) after) → IfSome rows (λ rows. GivesRow table rows (Ok (Some located)) after)
gives_located table None faults located after is gives = tt
gives_located table (Some rows) faults located None is gives = absurd gives
gives_located table (Some rows) faults located (Some later) is gives = gives ∙ ap (λ fs. fs ∷ later) (sym is)

-- ---- the first fault

left_first : (table : ℕ) (f : TableFault) (l : LocatedFault) (located : List LocatedFault) (rows : List (List TableFault)) (after : Option (List (List TableFault))) → l.fault ≡ f
    → GivesRow table rows (Ok (Some (l ∷ located))) after → (others : List TableFault) × (later : List (List TableFault)) × (rows ≡ (f ∷ others) ∷ later)
left_first table f l located rows None is gives = absurd gives
left_first table f l located rows (Some later) is gives = (map (λ x. x.fault) located, later, gives ∙ ap (λ x. (x ∷ map (λ x. x.fault) located) ∷ later) is)

lefts_first : (table : ℕ) (f : TableFault) (l : LocatedFault) (located : List LocatedFault) (left after : Option (List (List TableFault))) → l.fault ≡ f
    → IfSome left (λ rows. GivesRow table rows (Ok (Some (l ∷ located))) after) → IfSome left (λ rows. (others : List TableFault) × (later : List (List TableFault)) × (rows ≡ (f ∷ others) ∷ later))
lefts_first table f l located None after is gives = tt
lefts_first table f l located (Some rows) after is gives = left_first table f l located rows after is gives

cells_first : (cells : Option (List ℕ)) (header row : Record) (l : LocatedFault) (located : List LocatedFault) → AreAt cells header row (l ∷ located)
    → IfSome cells (λ bytes. HasRow (grid bytes) l.fault.row header row)
cells_first None header row l located at = tt
cells_first (Some bytes) header row l located at = All-head (λ l. HasRow (grid bytes) l.fault.row header row) l located at

-- The first fault of a row that is given is the first of all that are left.
first_is : (old new : LocatedLeft) (located : List LocatedFault) (l : LocatedFault) (f : TableFault) (r : FaultRecord) → slice_get located 0 ≡ Some l → l.fault ≡ f
    → IfSome old.left (λ rows. GivesRow old.table rows (Ok (Some located)) new.left) → ArePlacesIn old.cells old.lines located → AreAt old.cells new.header new.row located
    → fields_of r.cells.header ≡ new.header → fields_of r.cells.row ≡ new.row → r.place ≡ l.place → IsFirstIn old f r
first_is old new [] l f r item is gives places cells header row place = absurd (cc item)
first_is old new (x ∷ located) l f r item is gives places cells header row place =
    let one : x ≡ l = cc item in
    let same : x.fault ≡ f = ap (λ (y : LocatedFault). y.fault) one ∙ is in
    let here : r.place ≡ x.place = place ∙ ap (λ (y : LocatedFault). y.place) (sym one) in
    let has : HasPlaceIn old.cells old.lines x = All-head (HasPlaceIn old.cells old.lines) x located places in
    record {
      first = lefts_first old.table f x located old.left new.left same gives;
      cells = rw (header, row, ← same) (cells_first old.cells new.header new.row x located cells);
      texts = rw (here, ← same) has.0;
      line = rw (here, ← same) has.1;
    }

-- The same of an answer.
pub first_given : (old new : LocatedLeft) (answer : Result (Option (List LocatedFault)) TableFault) (located : List LocatedFault) (l : LocatedFault) (f : TableFault) (r : FaultRecord)
    → answer ≡ Ok (Some located) → slice_get located 0 ≡ Some l → l.fault ≡ f → IfSome old.left (λ rows. GivesRow old.table rows answer new.left)
    → IfOk answer (λ o. IfSome o (λ x. ArePlacesIn old.cells old.lines x)) → IfOk answer (λ o. IfSome o (λ x. AreAt old.cells new.header new.row x))
    → fields_of r.cells.header ≡ new.header → fields_of r.cells.row ≡ new.row → r.place ≡ l.place → IsFirstIn old f r
first_given old new answer located l f r e item is gives places cells header row place =
    first_is old new located l f r item is (subst (λ a. IfSome old.left (λ rows. GivesRow old.table rows a new.left)) e gives)
    (subst (λ a. IfOk a (λ o. IfSome o (λ x. ArePlacesIn old.cells old.lines x))) e places)
    (subst (λ a. IfOk a (λ o. IfSome o (λ x. AreAt old.cells new.header new.row x))) e cells) header row place

-- ---- the records of all faults

mapped : (g : TableFault → Record) (rows : List (List TableFault)) → map g (faults_of_rows rows) ≡ flat_map (λ faults. map g faults) rows
mapped g [] = refl
mapped g (faults ∷ rows) = map-append g faults (faults_of_rows rows) ∙ ap (λ t. map g faults ++ t) (mapped g rows)

by_row : (g : TableFault → Record) (header : Option TableFault) (rows : List (List TableFault)) → map g (alone_or header (faults_of_rows rows)) ≡ flat_map (λ faults. map g faults) (header_or header rows)
by_row g None rows = mapped g rows
by_row g (Some e) rows = refl

pub records_by_row : RecordsByRow
records_by_row id cause report table limit bytes = by_row (λ f. record_of id bytes f (cause f)) (file_header_fault report table (grid bytes)) (bad_rows_of report table limit (grid bytes))
