-- The fault of a table whose file is read again, and what is at its place.
use Rattle.std.proofs.Common.{◌≡◌, ◌∙◌, ℕ, zero, suc, List, [], ◌∷◌, Option, Some, None, Result, Ok, Err, IfOk, IfSome, false, ap, inr, refl, subst, sym, unwrap_or}
use Rattle.csv.specs.Records.{fields_of}
use Rattle.oim_files.specs.Folders.{Files, IsFolderOf}
use Rattle.oim_files.specs.Metadata.{profile}
use Rattle.oim_files.specs.Steps.{GivesRest, HasRead}
use Rattle.oim_records.specs.Grids.{Record, grid}
use Rattle.oim_report.specs.ReportValue.{ReportValue}
use Rattle.oim_rows.specs.Header.{file_header_fault}
use Rattle.oim_rows.specs.declared.fault.TableFault.{TableFault}
use Rattle.oim_table_faults.specs.Laws.{FirstIsOfStream, first_in}
use Rattle.oim_table_faults.specs.TableFaults.{alone_or, bad_rows_of, faults_of_rows}
use Rattle.oim_places.specs.Reports.{IsReportOf}
use Rattle.oim_places.specs.FaultLists.{IsStartOf, LocatedLeft, faults_by_row, header_or}
use Rattle.oim_places.specs.FaultPlaces.{HasRecordOf, HasRow, IsPlaceAt, IsRowAt, fault_of_file, is_of_file, row_or_empty, stands_at}
use Rattle.oim_places.specs.FolderFiles.{FoundAt}
use Rattle.oim_places.specs.LineNumbers.{line_of_record}
use Rattle.oim_places.specs.declared.fault_places.FaultRecord.{FaultRecord}
use Rattle.oim_places.specs.state.FaultPlaces.{IsFirstIn}

-- ---- the first fault

first_listed : (header : Option TableFault) (rows : List (List TableFault)) (f : TableFault) (others : List TableFault) (later : List (List TableFault))
    → header_or header rows ≡ (f ∷ others) ∷ later → first_in (alone_or header (faults_of_rows rows)) ≡ Some f
first_listed (Some e) rows f others later is = let same : e ≡ f = cc in ap Some same
first_listed None rows f others later is = rw is refl

pub first_of_file : (law : FirstIsOfStream) (report : ReportValue) (f : TableFault) (bytes : List ℕ) (left : Option (List (List TableFault))) → left ≡ Some (faults_by_row report f.table profile.rows (grid bytes))
    → IfSome left (λ rows. (others : List TableFault) × (later : List (List TableFault)) × (rows ≡ (f ∷ others) ∷ later)) → fault_of_file report f.table bytes ≡ Some f
first_of_file law report f bytes left is first =
    let listed = subst (λ o. IfSome o (λ rows. (others : List TableFault) × (later : List (List TableFault)) × (rows ≡ (f ∷ others) ∷ later))) is first in
    sym (law report f.table profile.rows (Some bytes))
    ∙ first_listed (file_header_fault report f.table (grid bytes)) (bad_rows_of report f.table profile.rows (grid bytes)) f listed.0 listed.1 listed.2

-- ---- what is there

pub row_is : (records : List Record) (number : ℕ) (row : Record) → IsRowAt records number row → row_or_empty records number ≡ row
row_is records zero row is = sym is
row_is records (suc number) row is = ap (λ o. unwrap_or o []) is

line_is : (line o : Option ℕ) → line ≡ o → IfSome line (λ n. o ≡ Some n)
line_is None o is = tt
line_is (Some n) o is = sym is

record_found : (law : FirstIsOfStream) (known : Option Files) (path : List ℕ) (report : ReportValue) (f : TableFault) (rows : LocatedLeft) (r : FaultRecord)
    → FoundAt known path (IsStartOf report f.table rows) → (rows.heads ≡ rows.cells → IsFirstIn rows f r) → FoundAt known path (HasRecordOf report f r.cells)
record_found law None path report f rows r found first = tt
record_found law (Some files) path report f rows r found first =
    let bytes = found.0 in
    let start = found.2 in
    let of = start.1 in
    let same : rows.heads ≡ rows.cells = of.0 ∙ sym of.1 in (
      bytes,
      found.1,
      (
        subst (λ o. IfSome o (λ bytes. HasRow (grid bytes) f.row (fields_of r.cells.header) (fields_of r.cells.row))) of.1 (first same).cells,
        inr (first_of_file law report f bytes rows.left start.0 (first same).first),
      ),
    )

place_found : (law : FirstIsOfStream) (known : Option Files) (path : List ℕ) (report : ReportValue) (f : TableFault) (rows : LocatedLeft) (r : FaultRecord) → is_of_file f.kind ≡ false
    → FoundAt known path (IsStartOf report f.table rows) → (rows.heads ≡ rows.cells → IsFirstIn rows f r) → IfSome known (λ files. IsPlaceAt files path report f r.place)
place_found law None path report f rows r is found first = tt
place_found law (Some files) path report f rows r is found first =
    let bytes = found.0 in
    let start = found.2 in
    let of = start.1 in
    let same : rows.heads ≡ rows.cells = of.0 ∙ sym of.1 in
    let texts = subst (λ o. IfSome o (λ bytes. (r.place.header ≡ (stands_at bytes f.row f.column).header) × (r.place.cell ≡ (stands_at bytes f.row f.column).cell))) of.1 (first same).texts in
    let line = subst (λ o. IfSome o (λ bytes. r.place.line ≡ (stands_at bytes f.row f.column).line)) of.2 (first same).line in (
      is,
      (bytes, found.1, (first_of_file law report f bytes rows.left start.0 (first same).first, (texts.0, texts.1, line_is r.place.line (line_of_record f.row bytes) line))),
    )

-- The same of an answer.
pub records_found : {E : Type 0} (law : FirstIsOfStream) (known : Option Files) (path : List ℕ) (report : ReportValue) (f : TableFault) (rows : LocatedLeft) (r : Result (Option FaultRecord) E)
    → FoundAt known path (IsStartOf report f.table rows) → IfOk r (λ o. IfSome o (λ x. rows.heads ≡ rows.cells → IsFirstIn rows f x)) → IfOk r (λ o. IfSome o (λ x. FoundAt known path (HasRecordOf report f x.cells)))
records_found law known path report f rows (Err e) found first = tt
records_found law known path report f rows (Ok None) found first = tt
records_found law known path report f rows (Ok (Some x)) found first = record_found law known path report f rows x found first

pub places_found : {E : Type 0} (law : FirstIsOfStream) (known : Option Files) (path : List ℕ) (report : ReportValue) (f : TableFault) (rows : LocatedLeft) (r : Result (Option FaultRecord) E)
    → is_of_file f.kind ≡ false → FoundAt known path (IsStartOf report f.table rows) → IfOk r (λ o. IfSome o (λ x. rows.heads ≡ rows.cells → IsFirstIn rows f x))
    → IfOk r (λ o. IfSome o (λ x. IfSome known (λ files. IsPlaceAt files path report f x.place)))
places_found law known path report f rows (Err e) is found first = tt
places_found law known path report f rows (Ok None) is found first = tt
places_found law known path report f rows (Ok (Some x)) is found first = place_found law known path report f rows x is found first

-- ---- the report

pub report_is : (known : Option Files) (base meta types items : List ℕ) (r : ReportValue) → IsFolderOf base meta
    → IfSome known (λ files. HasRead files meta items) → IfSome known (λ files. GivesRest files base items types (Ok r)) → IfSome known (λ files. IsReportOf files meta types r)
report_is None base meta types items r folder read rest = tt
report_is (Some files) base meta types items r folder read rest = let gives = rest meta read in (base, folder, gives.1)
