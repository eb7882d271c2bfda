-- The records of the file of faults that are written for a table, up to a limit.
use Rattle.std.proofs.Common.{◌≡◌, ◌∙◌, ◌++◌, ◌+◌, ◌<◌, ℕ, zero, suc, List, [], ◌∷◌, Option, Some, None, Result, Ok, Err, IfOk, IfSome, false, ap, append-nil, append_assoc, drop, get_or, inl, inr, length, map, refl, subst, sym}
use Rattle.std.specs.Io.KnownBytes.{Appends}
use Rattle.std.specs.List.{AllZip}
use Rattle.std.proofs.lemmas.List.{drop_more}
use Rattle.std.proofs.lemmas.List.Elements.{All-head, All-tail}
use Rattle.csv.proofs.WriteFacts.{appends-more, appends-none}
use Rattle.csv.specs.Writing.{default_writer, row_text}
use Rattle.oim_files.specs.Folders.{Files}
use Rattle.oim_files.specs.Metadata.{profile}
use Rattle.oim_records.specs.Grids.{Record, grid}
use Rattle.oim_report.specs.ReportValue.{ReportValue}
use Rattle.oim_rows.specs.Streams.{IsOutside}
use Rattle.oim_rows.specs.declared.fault.TableFault.{TableFault}
use Rattle.oim_rows.specs.Header.{file_header_fault}
use Rattle.oim_table_faults.specs.Laws.{FirstIsOfStream, first_in}
use Rattle.oim_table_faults.specs.TableFaults.{alone_or, bad_rows_of, faults_of_rows}
use Rattle.oim_places.specs.FaultLists.{ArePlacesIn, AreReadersOf, GivesRow, HasPlaceIn, IsStartOf, KeepsFiles, LocatedLeft, faults_by_row, header_or, record_of}
use Rattle.oim_places.specs.FaultPlaces.{IsTablePath, fault_of_file, is_of_file, unknown_place}
use Rattle.oim_places.specs.FolderFiles.{FoundAt}
use Rattle.oim_places.specs.FaultRows.{no_cause}
use Rattle.oim_places.specs.declared.bad_rows.LocatedFault.{LocatedFault}
use Rattle.oim_places.specs.declared.fault_cause.FaultCause.{FaultCause}
use Rattle.oim_explain.specs.ListedFaults.{IsRecordOf, ListsAlone, ListsTable, Writes, WritesEach, WritesRows, fault_text, listed_of, room_after, texts_of, up_to}
use Rattle.oim_explain.specs.state.ListedRows.{ListsRows, StartsRows, StartsWith, located_record, more_text}
use Rattle.oim_explain.specs.declared.fault_list.ListedFaults.{ListedFaults}

-- ---- records

-- No record.
pub writes_none : (a : Option (List ℕ)) (id : List ℕ) (room : ℕ) → Writes a a id room [] (Some room)
writes_none a id room = (appends-none a, refl)

-- One record before the others.
pub writes_one : (a b c : Option (List ℕ)) (id : List ℕ) (room less : ℕ) (r : Record) (rows : List Record) (after : Option ℕ) → room ≡ suc less → Appends a b (row_text default_writer r)
    → Writes b c id less rows after → Writes a c id room (r ∷ rows) after
writes_one a b c id room less r rows after is one others =
    rw is (appends-more a b c (row_text default_writer r) (texts_of (up_to id less rows)) one others.0, others.1)

-- The record that there are more.
pub writes_more : (a b : Option (List ℕ)) (id : List ℕ) (room : ℕ) (r : Record) (rows : List Record) → room ≡ 0 → Appends a b (more_text id) → Writes a b id room (r ∷ rows) None
writes_more a b id room r rows is more = rw is (subst (Appends a b) (sym (append-nil (more_text id))) more, refl)

room_then : (room less : ℕ) (xs ys : List Record) → Some less ≡ room_after room xs → room_after room (xs ++ ys) ≡ room_after less ys
room_then room less [] ys is = ap (λ n. room_after n ys) (sym (cc is))
room_then zero less (x ∷ xs) ys is = cc is
room_then (suc room) less (x ∷ xs) ys is = room_then room less xs ys is

room_cut : (room : ℕ) (xs ys : List Record) → None ≡ room_after room xs → room_after room (xs ++ ys) ≡ None
room_cut room [] ys is = cc is
room_cut zero (x ∷ xs) ys is = refl
room_cut (suc room) (x ∷ xs) ys is = room_cut room xs ys is

up_to_then : (id : List ℕ) (room less : ℕ) (xs ys : List Record) → Some less ≡ room_after room xs → up_to id room (xs ++ ys) ≡ up_to id room xs ++ up_to id less ys
up_to_then id room less [] ys is = ap (λ n. up_to id n ys) (sym (cc is))
up_to_then id zero less (x ∷ xs) ys is = cc is
up_to_then id (suc room) less (x ∷ xs) ys is = ap (λ t. x ∷ t) (up_to_then id room less xs ys is)

up_to_cut : (id : List ℕ) (room : ℕ) (xs ys : List Record) → None ≡ room_after room xs → up_to id room (xs ++ ys) ≡ up_to id room xs
up_to_cut id room [] ys is = cc is
up_to_cut id zero (x ∷ xs) ys is = refl
up_to_cut id (suc room) (x ∷ xs) ys is = ap (λ t. x ∷ t) (up_to_cut id room xs ys is)

texts-append : (xs ys : List Record) → texts_of (xs ++ ys) ≡ texts_of xs ++ texts_of ys
texts-append [] ys = refl
texts-append (x ∷ xs) ys = ap (λ t. row_text default_writer x ++ t) (texts-append xs ys) ∙ sym (append_assoc (row_text default_writer x) (texts_of xs) (texts_of ys))

-- The others after the first ones.
writes_then : (a b c : Option (List ℕ)) (id : List ℕ) (room less : ℕ) (xs ys : List Record) (after : Option ℕ) → Writes a b id room xs (Some less) → Writes b c id less ys after
    → Writes a c id room (xs ++ ys) after
writes_then a b c id room less xs ys after first others = (
  subst (Appends a c) (sym (ap texts_of (up_to_then id room less xs ys first.1) ∙ texts-append (up_to id room xs) (up_to id less ys)))
      (appends-more a b c (texts_of (up_to id room xs)) (texts_of (up_to id less ys)) first.0 others.0),
  others.1 ∙ sym (room_then room less xs ys first.1),
)

-- Only the first ones, if there is no room for the others.
writes_cut : (a b : Option (List ℕ)) (id : List ℕ) (room : ℕ) (xs ys : List Record) → Writes a b id room xs None → Writes a b id room (xs ++ ys) None
writes_cut a b id room xs ys first = (
  subst (Appends a b) (sym (ap texts_of (up_to_cut id room xs ys first.1))) first.0,
  sym (room_cut room xs ys first.1),
)

-- ---- records with some cause

zip_append : {A : Type 0} (R : A → Record → Type 0) (xs ys : List A) (rs ss : List Record) → AllZip R xs rs → AllZip R ys ss → AllZip R (xs ++ ys) (rs ++ ss)
zip_append R [] ys [] ss one other = other
zip_append R [] ys (r ∷ rs) ss one other = absurd one
zip_append R (x ∷ xs) ys [] ss one other = absurd one
zip_append R (x ∷ xs) ys (r ∷ rs) ss one other = (one.0, zip_append R xs ys rs ss one.1 other)

-- Records for which there is no room.
any_records : {A : Type 0} (rec : A → FaultCause → Record) (xs : List A) → (rs : List Record) × AllZip (IsRecordOf rec) xs rs
any_records rec [] = ([], tt)
any_records rec (x ∷ xs) = let others = any_records rec xs in (rec x no_cause ∷ others.0, ((no_cause, refl), others.1))

pub each_none : {A : Type 0} (a : Option (List ℕ)) (id : List ℕ) (room : ℕ) (rec : A → FaultCause → Record) → WritesEach a a id room rec [] (Some room)
each_none a id room rec = record { records = []; each = tt; written = writes_none a id room }

pub each_one : {A : Type 0} (a b c : Option (List ℕ)) (id : List ℕ) (room less : ℕ) (rec : A → FaultCause → Record) (x : A) (xs : List A) (cause : FaultCause) (after : Option ℕ)
    → room ≡ suc less → Appends a b (row_text default_writer (rec x cause)) → WritesEach b c id less rec xs after → WritesEach a c id room rec (x ∷ xs) after
each_one a b c id room less rec x xs cause after is one others =
    record { records = rec x cause ∷ others.records; each = ((cause, refl), others.each); written = writes_one a b c id room less (rec x cause) others.records after is one others.written }

pub each_more : {A : Type 0} (a b : Option (List ℕ)) (id : List ℕ) (room : ℕ) (rec : A → FaultCause → Record) (x : A) (xs : List A) → room ≡ 0 → Appends a b (more_text id)
    → WritesEach a b id room rec (x ∷ xs) None
each_more a b id room rec x xs is more =
    let others = any_records rec xs in
    record { records = rec x no_cause ∷ others.0; each = ((no_cause, refl), others.1); written = writes_more a b id room (rec x no_cause) others.0 is more }

-- The others after the first ones.
each_then : {A : Type 0} (a b c : Option (List ℕ)) (id : List ℕ) (room less : ℕ) (rec : A → FaultCause → Record) (xs ys : List A) (after : Option ℕ) → WritesEach a b id room rec xs (Some less)
    → WritesEach b c id less rec ys after → WritesEach a c id room rec (xs ++ ys) after
each_then a b c id room less rec xs ys after first others =
    record {
      records = first.records ++ others.records;
      each = zip_append (IsRecordOf rec) xs ys first.records others.records first.each others.each;
      written = writes_then a b c id room less first.records others.records after first.written others.written;
    }

-- Only the first ones, if there is no room for the others.
each_cut : {A : Type 0} (a b : Option (List ℕ)) (id : List ℕ) (room : ℕ) (rec : A → FaultCause → Record) (xs ys : List A) → WritesEach a b id room rec xs None
    → WritesEach a b id room rec (xs ++ ys) None
each_cut a b id room rec xs ys first =
    let others = any_records rec ys in
    record {
      records = first.records ++ others.0;
      each = zip_append (IsRecordOf rec) xs ys first.records others.0 first.each others.1;
      written = writes_cut a b id room first.records others.0 first.written;
    }

-- ---- rows

-- No row is left.
pub rows_end : (a : Option (List ℕ)) (table : ℕ) (id : List ℕ) (rec : TableFault → FaultCause → Record) (room : ℕ) (rows : List (List TableFault)) → rows ≡ []
    → WritesRows a a table id rec room rows (Some room)
rows_end a table id rec room rows is = rw is (inl (each_none a id room rec))

-- The reader or memory failed.
pub rows_failed : (a b : Option (List ℕ)) (table : ℕ) (id : List ℕ) (rec : TableFault → FaultCause → Record) (room : ℕ) (rows : List (List TableFault)) (e : TableFault) → IsOutside table e
    → Appends a b (fault_text id e unknown_place no_cause) → WritesRows a b table id rec room rows (Some room)
rows_failed a b table id rec room rows e outside ends =
    inr (record { front = []; rest = rows; failure = e; between = a; outside = outside; begins = refl; fits = refl; written = each_none a id room rec; ends = ends })

-- One row before the others.
pub rows_then : (a b c : Option (List ℕ)) (table : ℕ) (id : List ℕ) (rec : TableFault → FaultCause → Record) (room less : ℕ) (faults : List TableFault) (later : List (List TableFault)) (after : Option ℕ)
    → WritesEach a b id room rec faults (Some less) → WritesRows b c table id rec less later after → WritesRows a c table id rec room (faults ∷ later) after
rows_then a b c table id rec room less faults later after first (inl all) =
    inl (each_then a b c id room less rec faults (faults_of_rows later) after first all)
rows_then a b c table id rec room less faults later after first (inr short) =
    inr (record {
      front = faults ∷ short.front;
      rest = short.rest;
      failure = short.failure;
      between = short.between;
      outside = short.outside;
      begins = ap (λ rows. faults ∷ rows) short.begins;
      fits = short.fits;
      written = each_then a b short.between id room less rec faults (faults_of_rows short.front) after first short.written;
      ends = short.ends;
    })

-- One row for which there is no room.
pub rows_cut : (a b : Option (List ℕ)) (table : ℕ) (id : List ℕ) (rec : TableFault → FaultCause → Record) (room : ℕ) (faults : List TableFault) (later : List (List TableFault))
    → WritesEach a b id room rec faults None → WritesRows a b table id rec room (faults ∷ later) None
rows_cut a b table id rec room faults later first = inl (each_cut a b id room rec faults (faults_of_rows later) first)

-- ---- places

record_is : (id bytes : List ℕ) (l : LocatedFault) (c : FaultCause) → HasPlaceIn (Some bytes) (Some bytes) l → located_record id l c ≡ record_of id bytes l.fault c
record_is id bytes l c has = rw (has.0.0, has.0.1, has.1) refl

records_are : (id bytes : List ℕ) (located : List LocatedFault) (records : List Record) → ArePlacesIn (Some bytes) (Some bytes) located → AllZip (IsRecordOf (located_record id)) located records
    → AllZip (IsRecordOf (record_of id bytes)) (map (λ l. l.fault) located) records
records_are id bytes [] [] places each = tt
records_are id bytes [] (r ∷ records) places each = absurd each
records_are id bytes (l ∷ located) [] places each = absurd each
records_are id bytes (l ∷ located) (r ∷ records) places each =
    let one = All-head (HasPlaceIn (Some bytes) (Some bytes)) l located places in
    let others = All-tail (HasPlaceIn (Some bytes) (Some bytes)) l located places in
    ((each.0.0, each.0.1 ∙ record_is id bytes l each.0.0 one), records_are id bytes located records others each.1)

-- The records of faults with their places are those of the faults.
each_is : (a b : Option (List ℕ)) (id bytes : List ℕ) (room : ℕ) (located : List LocatedFault) (after : Option ℕ) → ArePlacesIn (Some bytes) (Some bytes) located
    → WritesEach a b id room (located_record id) located after → WritesEach a b id room (record_of id bytes) (map (λ l. l.fault) located) after
each_is a b id bytes room located after places w =
    record { records = w.records; each = records_are id bytes located w.records places w.each; written = w.written }

-- The fault at a place, and those after it.
pub next_is : (located : List LocatedFault) (i : ℕ) (l : LocatedFault) → l ≡ get_or located i l → i < length located → drop i located ≡ l ∷ drop (i + 1) located
next_is located i l is lt = drop_more located i l lt ∙ ap (λ x. x ∷ drop (i + 1) located) (sym is)

-- ---- the rows that are left

-- What is still to be written of the rows that are left completes what was written of all rows.
abbrev pub Completes : (from now : Option (List ℕ)) → (table : ℕ) → (id : List ℕ) → (TableFault → FaultCause → Record) → (room less : ℕ) → (start : List (List TableFault)) → (left : Option (List (List TableFault))) → Type 0
Completes from now table id rec room less start None = ⊥
Completes from now table id rec room less start (Some later) = (out : Option (List ℕ)) (after : Option ℕ) → WritesRows now out table id rec less later after → WritesRows from out table id rec room start after

pub completes_first : (a : Option (List ℕ)) (table : ℕ) (id : List ℕ) (rec : TableFault → FaultCause → Record) (room : ℕ) (left : Option (List (List TableFault))) → IfSome left (λ start. Completes a a table id rec room room start left)
completes_first a table id rec room None = tt
completes_first a table id rec room (Some rows) = λ out after given. given

pub completes_more : (from a b : Option (List ℕ)) (table : ℕ) (id bytes : List ℕ) (room less rest : ℕ) (all left next : Option (List (List TableFault))) (located : List LocatedFault)
    → IfSome all (λ start. Completes from a table id (record_of id bytes) room less start left) → IfSome left (λ rows. GivesRow table rows (Ok (Some located)) next)
    → ArePlacesIn (Some bytes) (Some bytes) located → WritesEach a b id less (located_record id) located (Some rest) → IfSome all (λ start. Completes from b table id (record_of id bytes) room rest start next)
completes_more from a b table id bytes room less rest None left next located completes gives places written = tt
completes_more from a b table id bytes room less rest (Some start) None next located completes gives places written = absurd completes
completes_more from a b table id bytes room less rest (Some start) (Some rows) None located completes gives places written = absurd gives
completes_more from a b table id bytes room less rest (Some start) (Some rows) (Some later) located completes gives places written = λ out after others.
    completes out after (subst (λ rs. WritesRows a out table id (record_of id bytes) less rs after) (sym gives)
    (rows_then a b out table id (record_of id bytes) less rest (map (λ l. l.fault) located) later after
    (each_is a b id bytes less located (Some rest) places written) others))

pub completes_cut : (from a b : Option (List ℕ)) (table : ℕ) (id bytes : List ℕ) (room less : ℕ) (all left next : Option (List (List TableFault))) (located : List LocatedFault)
    → IfSome all (λ start. Completes from a table id (record_of id bytes) room less start left) → IfSome left (λ rows. GivesRow table rows (Ok (Some located)) next)
    → ArePlacesIn (Some bytes) (Some bytes) located → WritesEach a b id less (located_record id) located None → IfSome all (λ start. WritesRows from b table id (record_of id bytes) room start None)
completes_cut from a b table id bytes room less None left next located completes gives places written = tt
completes_cut from a b table id bytes room less (Some start) None next located completes gives places written = absurd completes
completes_cut from a b table id bytes room less (Some start) (Some rows) None located completes gives places written = absurd gives
completes_cut from a b table id bytes room less (Some start) (Some rows) (Some later) located completes gives places written =
    completes b None (subst (λ rs. WritesRows a b table id (record_of id bytes) less rs None) (sym gives)
    (rows_cut a b table id (record_of id bytes) less (map (λ l. l.fault) located) later
    (each_is a b id bytes less located None places written)))

pub completes_end : (from a : Option (List ℕ)) (table : ℕ) (id : List ℕ) (rec : TableFault → FaultCause → Record) (room less : ℕ) (all left next : Option (List (List TableFault)))
    → IfSome all (λ start. Completes from a table id rec room less start left) → IfSome left (λ rows. GivesRow table rows (Ok None) next)
    → IfSome all (λ start. WritesRows from a table id rec room start (Some less))
completes_end from a table id rec room less None left next completes gives = tt
completes_end from a table id rec room less (Some start) None next completes gives = absurd completes
completes_end from a table id rec room less (Some start) (Some rows) next completes gives = completes a (Some less) (rows_end a table id rec less rows gives)

pub completes_failed : (from a b : Option (List ℕ)) (table : ℕ) (id : List ℕ) (rec : TableFault → FaultCause → Record) (room less : ℕ) (all left next : Option (List (List TableFault))) (e : TableFault)
    → IfSome all (λ start. Completes from a table id rec room less start left) → IfSome left (λ rows. GivesRow table rows (Err e) next) → Appends a b (fault_text id e unknown_place no_cause)
    → IfSome all (λ start. WritesRows from b table id rec room start (Some less))
completes_failed from a b table id rec room less None left next e completes gives ends = tt
completes_failed from a b table id rec room less (Some start) None next e completes gives ends = absurd completes
completes_failed from a b table id rec room less (Some start) (Some rows) next e completes gives ends = completes b (Some less) (rows_failed a b table id rec less rows e gives ends)

-- The cells and lines of a file whose bytes are known.
pub places_known : (rows : LocatedLeft) (bytes : List ℕ) (located : List LocatedFault) → AreReadersOf rows.heads rows.cells rows.lines bytes
    → (rows.heads ≡ rows.cells → ArePlacesIn rows.cells rows.lines located) → ArePlacesIn (Some bytes) (Some bytes) located
places_known rows bytes located of places =
    subst (λ o. ArePlacesIn (Some bytes) o located) of.2 (subst (λ o. ArePlacesIn o rows.lines located) of.1 (places (of.0 ∙ sym of.1)))

-- The readers of rows that were read on.
pub readers_kept : (old new : LocatedLeft) (bytes : List ℕ) → KeepsFiles old new → AreReadersOf old.heads old.cells old.lines bytes → AreReadersOf new.heads new.cells new.lines bytes
readers_kept old new bytes same of = (same.1 ∙ of.0, same.2 ∙ of.1, same.3 ∙ of.2)

pub kept_on : (old now new : LocatedLeft) → KeepsFiles old now → KeepsFiles now new → KeepsFiles old new
kept_on old now new same more = (more.0 ∙ same.0, more.1 ∙ same.1, more.2 ∙ same.2, more.3 ∙ same.3)

-- ---- the first row

first_row_starts : (f : TableFault) (located : List LocatedFault) (rows later : List (List TableFault)) → StartsWith f located → rows ≡ map (λ l. l.fault) located ∷ later → StartsRows f rows
first_row_starts f located rows later (first, others, are, same) gives =
    (map (λ l. l.fault) others, later, gives ∙ ap (λ ls. map (λ l. l.fault) ls ∷ later) are ∙ ap (λ e. (e ∷ map (λ l. l.fault) others) ∷ later) same)

-- The rows begin with the fault, and their records were written.
pub rows_listed : (from a out : Option (List ℕ)) (table : ℕ) (id bytes : List ℕ) (f : TableFault) (most less : ℕ) (left next : Option (List (List TableFault))) (located : List LocatedFault) (after : Option ℕ) (shared : ℕ)
    → StartsWith f located → IfSome left (λ rows. GivesRow table rows (Ok (Some located)) next) → ArePlacesIn (Some bytes) (Some bytes) located
    → WritesEach from a id most (located_record id) located (Some less) → IfSome next (λ later. WritesRows a out table id (record_of id bytes) less later after)
    → IfSome left (λ rows. ListsRows from out table id f most (record_of id bytes) rows (listed_of most after shared))
rows_listed from a out table id bytes f most less None next located after shared starts gives places first others = tt
rows_listed from a out table id bytes f most less (Some rows) None located after shared starts gives places first others = absurd gives
rows_listed from a out table id bytes f most less (Some rows) (Some later) located after shared starts gives places first others =
    inr (
      first_row_starts f located rows later starts gives,
      (
        after,
        shared,
        refl,
        subst (λ rs. WritesRows from out table id (record_of id bytes) most rs after) (sym gives)
            (rows_then from a out table id (record_of id bytes) most less (map (λ l. l.fault) located) later after
            (each_is from a id bytes most located (Some less) places first) others),
      ),
    )

pub rows_listed_cut : (from out : Option (List ℕ)) (table : ℕ) (id bytes : List ℕ) (f : TableFault) (most : ℕ) (left next : Option (List (List TableFault))) (located : List LocatedFault) (shared : ℕ)
    → StartsWith f located → IfSome left (λ rows. GivesRow table rows (Ok (Some located)) next) → ArePlacesIn (Some bytes) (Some bytes) located
    → WritesEach from out id most (located_record id) located None
    → IfSome left (λ rows. ListsRows from out table id f most (record_of id bytes) rows (listed_of most None shared))
rows_listed_cut from out table id bytes f most None next located shared starts gives places first = tt
rows_listed_cut from out table id bytes f most (Some rows) None located shared starts gives places first = absurd gives
rows_listed_cut from out table id bytes f most (Some rows) (Some later) located shared starts gives places first =
    inr (
      first_row_starts f located rows later starts gives,
      (
        None,
        shared,
        refl,
        subst (λ rs. WritesRows from out table id (record_of id bytes) most rs None) (sym gives)
            (rows_cut from out table id (record_of id bytes) most (map (λ l. l.fault) located) later
            (each_is from out id bytes most located None places first)),
      ),
    )

-- Only the record of the run's fault was written.
pub rows_alone : {E : Type 0} (from out : Option (List ℕ)) (table : ℕ) (id : List ℕ) (f : TableFault) (most : ℕ) (rec : TableFault → FaultCause → Record) (left : Option (List (List TableFault))) (r : Result ListedFaults E)
    → IfOk r (ListsAlone from out id f) → IfSome left (λ rows. IfOk r (λ listed. ListsRows from out table id f most rec rows listed))
rows_alone from out table id f most rec None r alone = tt
rows_alone from out table id f most rec (Some rows) (Ok listed) alone = inl alone
rows_alone from out table id f most rec (Some rows) (Err e) alone = tt

-- ---- a table of a report

pub table_alone : {E : Type 0} (known : Option Files) (from out : Option (List ℕ)) (meta : List ℕ) (report : ReportValue) (id : List ℕ) (f : TableFault) (most : ℕ) (r : Result ListedFaults E)
    → IfOk r (ListsAlone from out id f) → IfSome known (λ files. IfOk r (ListsTable from out files meta report id f most))
table_alone None from out meta report id f most r alone = tt
table_alone (Some files) from out meta report id f most (Ok listed) alone = inl alone
table_alone (Some files) from out meta report id f most (Err e) alone = tt

first_listed : (header : Option TableFault) (rows : List (List TableFault)) (f : TableFault) (others : List TableFault) (later : List (List TableFault))
    → header_or header rows ≡ (f ∷ others) ∷ later → first_in (alone_or header (faults_of_rows rows)) ≡ Some f
first_listed (Some e) rows f others later is = let same : e ≡ f = cc in ap Some same
first_listed None rows f others later is = rw is refl

-- The fault with which the rows of a file begin is its first.
first_of_rows : (law : FirstIsOfStream) (report : ReportValue) (f : TableFault) (bytes : List ℕ) → StartsRows f (faults_by_row report f.table profile.rows (grid bytes))
    → fault_of_file report f.table bytes ≡ Some f
first_of_rows law report f bytes starts =
    sym (law report f.table profile.rows (Some bytes))
    ∙ first_listed (file_header_fault report f.table (grid bytes)) (bad_rows_of report f.table profile.rows (grid bytes)) f starts.0 starts.1 starts.2

-- What was written of the rows of a file is what was written of its table.
of_table : (law : FirstIsOfStream) (files : Files) (from out : Option (List ℕ)) (meta path : List ℕ) (report : ReportValue) (id : List ℕ) (f : TableFault) (most : ℕ) (bytes : List ℕ) (listed : ListedFaults)
    → is_of_file f.kind ≡ false → IsTablePath meta report f.table path → files path ≡ Some bytes
    → ListsRows from out f.table id f most (record_of id bytes) (faults_by_row report f.table profile.rows (grid bytes)) listed → ListsTable from out files meta report id f most listed
of_table law files from out meta path report id f most bytes listed is at found (inl alone) = inl alone
of_table law files from out meta path report id f most bytes listed is at found (inr (starts, all)) =
    inr (path, at, (is, (bytes, found, (first_of_rows law report f bytes starts, all))))

pub table_listed : {E : Type 0} (law : FirstIsOfStream) (known : Option Files) (from out : Option (List ℕ)) (meta path : List ℕ) (report : ReportValue) (id : List ℕ) (f : TableFault) (most : ℕ) (rows : LocatedLeft) (r : Result ListedFaults E)
    → is_of_file f.kind ≡ false → IsTablePath meta report f.table path → rows.table ≡ f.table → FoundAt known path (IsStartOf report f.table rows)
    → ((bytes : List ℕ) → AreReadersOf rows.heads rows.cells rows.lines bytes → IfSome rows.left (λ left. IfOk r (λ listed. ListsRows from out rows.table id f most (record_of id bytes) left listed)))
    → IfSome known (λ files. IfOk r (ListsTable from out files meta report id f most))
table_listed law None from out meta path report id f most rows r is at same found lists = tt
table_listed law (Some files) from out meta path report id f most rows (Err e) is at same found lists = tt
table_listed law (Some files) from out meta path report id f most rows (Ok listed) is at same found lists =
    let bytes = found.0 in
    let start = found.2 in
    let given : ListsRows from out rows.table id f most (record_of id bytes) (faults_by_row report f.table profile.rows (grid bytes)) listed =
    subst (λ o. IfSome o (λ left. ListsRows from out rows.table id f most (record_of id bytes) left listed)) start.0 (lists bytes start.1) in
    of_table law files from out meta path report id f most bytes listed is at found.1
    (subst (λ t. ListsRows from out t id f most (record_of id bytes) (faults_by_row report f.table profile.rows (grid bytes)) listed) same given)
