-- The end of a run, from the end of its conversion.
use Rattle.std.specs.Prelude.{◌≡◌, ◌⊎◌, Bool, true, false, if◌then◌else◌, ℕ, suc, List, [], ◌∷◌, ◌++◌, map, take, ◌+◌, ◌<◌, Option, Some, None, IfSome, Ok, Err, length, slice_index_or}
use Rattle.std.proofs.Common.{refl, sym, ap, subst, ◌∙◌, inl, inr}
use Rattle.std.proofs.lemmas.List.{length-append, map_more}
use Rattle.std.specs.Io.KnownBytes.{Appends, Keeps}
use Rattle.oim_convert.specs.Answer.{streams}
use Rattle.oim_convert.specs.Files.{AreFilesOf}
use Rattle.oim_records.specs.Reads.{IsFileOf}
use Rattle.oim_convert.specs.Runs.{early_fault}
use Rattle.oim_convert.specs.declared.fault.ConvertFault.{ConvertFault}
use Rattle.oim_convert.specs.declared.fault.ConvertFault.TheVariants as fault
use Rattle.oim_json.specs.Sinks.{SinkView, Unwritten}
use Rattle.oim_json.specs.declared.layout.Layout.{Layout}
use Rattle.oim_report.specs.Readers.{no_table}
use Rattle.oim_report.specs.ReportValue.{ReportValue}
use Rattle.oim_report.specs.declared.data.Table.{Table}
use Rattle.oim_rows.specs.Streams.{Stream}
use Rattle.oim_run.proofs.Answered.{as_one, in_range}
use Rattle.oim_run.proofs.Waiting.{appends_then, keeps_same, took_all, took_some}
use Rattle.oim_json.specs.declared.mark.Mark.TheVariants as «marks»
use Rattle.oim_files.specs.Metadata.{profile}
use Rattle.oim_run.specs.Buffers.{Buffered, flushed}
use Rattle.oim_run.specs.state.Buffers.{told_behind}
use Rattle.std.specs.Borrow.{Bor}
use Rattle.oim_files.specs.Folders.{Files, IsFolderOf, first_at}
use Rattle.oim_run.specs.Outcomes.{EndsAs, Leaves}
use Rattle.oim_run.specs.Runs.{Converted, EndsOver, files_of, range_fault, table_file, table_files}
use Rattle.oim_files.specs.Steps.{GivesReport, steps}
use Rattle.oim_files.specs.declared.early_fault.EarlyFault.{EarlyFault}
use Rattle.oim_files.specs.declared.early_fault.EarlyFault.TheVariants as early
use Rattle.oim_run.specs.Early.{EndsAt, no_memory, outcome_of}
use Rattle.oim_run.specs.declared.outcome.Outcome.{Outcome}
use Rattle.oim_run.specs.declared.outcome.Outcome.TheVariants as outcome

-- There are as many files as readers.
pub as_many : {R : Type 0} (told : R → Option (List ℕ)) (rs : List (Option R)) (fs : List (Option (List ℕ))) → AreFilesOf told rs fs → length rs ≡ length fs
as_many told [] [] are = refl
as_many told [] (f ∷ fs) are = absurd are
as_many told (r ∷ rs) [] are = absurd are
as_many told (r ∷ rs) (f ∷ fs) are = ap suc (as_many told rs fs are.1)

-- A conversion for which memory ran out while the names were made.
pub no_memory_ends : (workers : ℕ) (layout : Layout) (early : Option ConvertFault) (report : ReportValue) (ss : List Stream) (sink : SinkView) → EndsAs workers layout early report ss sink sink (outcome.Run fault.Memory)
no_memory_ends workers layout None report ss sink = (refl, keeps_same sink.told)
no_memory_ends workers layout (Some f) report ss sink = (inr refl, (refl, keeps_same sink.told))

-- A report whose tables each have a file or none.
run_ends : (layout : Layout) (workers ring : ℕ) (report : ReportValue) (files : List (Option (List ℕ))) (old new : SinkView) (o : Outcome) → length files ≡ length report.tables
    → EndsAs workers layout (early_fault workers ring (length files) (length report.tables)) report (streams report profile.rows files) old new o
    → EndsAs workers layout (range_fault workers ring) report (streams report profile.rows files) old new o
run_ends layout workers ring report files old new o many =
    subst (λ early. EndsAs workers layout early report (streams report profile.rows files) old new o) (in_range workers ring (length files) (length report.tables) many)

length_map : {A B : Type 0} (f : A → B) (xs : List A) → length (map f xs) ≡ length xs
length_map f [] = refl
length_map f (x ∷ xs) = ap suc (length_map f xs)

-- Readers of the first tables, and of the next one.
files_more : {R : Type 0} (told : R → Option (List ℕ)) (rs : List (Option R)) (fs : List (Option (List ℕ))) (r : Option R) (f : Option (List ℕ))
    → AreFilesOf told rs fs → IsFileOf told r f → AreFilesOf told (rs ++ r ∷ []) (fs ++ f ∷ [])
files_more told [] [] r f are is = (is, tt)
files_more told [] (g ∷ gs) r f are is = absurd are
files_more told (s ∷ ss) [] r f are is = absurd are
files_more told (s ∷ ss) (g ∷ gs) r f are is = (are.0, files_more told ss gs r f are.1 is)

pub one_more : {R : Type 0} (told : R → Option (List ℕ)) (known : Option Files) (base path : List ℕ) (tables : List Table) (i : ℕ) (rs rs' : List (Option R)) (r : Option R)
    → i < length tables → path ≡ base ++ (slice_index_or tables i no_table).url → rs' ≡ rs ++ r ∷ []
    → IfSome known (λ at. AreFilesOf told rs (map (table_file at base) (take i tables)))
    → IfSome known (λ at. IsFileOf told r (at path))
    → IfSome known (λ at. AreFilesOf told rs' (map (table_file at base) (take (i + 1) tables)))
one_more told None base path tables i rs rs' r l is more are opened = tt
one_more told (Some at) base path tables i rs rs' r l is more are opened =
    let opened' : IsFileOf told r (at (base ++ (slice_index_or tables i no_table).url)) = subst (λ p. IsFileOf told r (at p)) is opened in
    let both = files_more told rs (map (table_file at base) (take i tables)) r (at (base ++ (slice_index_or tables i no_table).url)) are opened' in
    let same : map (table_file at base) (take (i + 1) tables) ≡ map (table_file at base) (take i tables)
    ++ table_file at base (slice_index_or tables i no_table) ∷ [] = map_more (table_file at base) tables i no_table l in
    subst (λ xs. AreFilesOf told xs (map (table_file at base) (take (i + 1) tables))) (sym more)
    (subst (λ fs. AreFilesOf told (rs ++ r ∷ []) fs) (sym same) both)

pub one_longer : {A : Type 0} (xs ys : List A) (x : A) (n : ℕ) → ys ≡ xs ++ x ∷ [] → length xs ≡ n → length ys ≡ n + 1
one_longer xs ys x n more is = ap length more ∙ length-append xs (x ∷ []) ∙ ap (λ k. k + 1) is

-- A run through a buffer, with the paths and values of its settings.
pub over_same : (files : Files) (meta meta' types types' : List ℕ) (workers workers' ring ring' : ℕ) (layout layout' : Layout) (old new : Option (List ℕ)) (o : Outcome)
    → (meta ≡ meta') × (types ≡ types') → (workers ≡ workers') × (ring ≡ ring') × (layout ≡ layout')
    → Buffered (EndsOver files meta types workers ring layout) old new o → Buffered (EndsOver files meta' types' workers' ring' layout') old new o
over_same files meta meta' types types' workers workers' ring ring' layout layout' old new o paths others ends =
    subst (λ l. Buffered (EndsOver files meta' types' workers' ring' l) old new o) others.2
    (subst (λ r. Buffered (EndsOver files meta' types' workers' r layout) old new o) others.1
    (subst (λ w. Buffered (EndsOver files meta' types' w ring layout) old new o) others.0
    (subst (λ t. Buffered (EndsOver files meta' t workers ring layout) old new o) paths.1
    (subst (λ m. Buffered (EndsOver files m types workers ring layout) old new o) paths.0 ends))))

-- A property of files in memory, by their lent texts.
pub over_texts : (p q r a b x : Bor (List ℕ)) (metadata types table : List ℕ) (P : Files → Type 0) → a.now ≡ metadata → b.now ≡ types → x.now ≡ table
    → P (first_at ((p, a) ∷ (q, b) ∷ (r, x) ∷ [])) → P (files_of ((p.now, metadata) ∷ (q.now, types) ∷ (r.now, table) ∷ []))
over_texts p q r a b x metadata types table P one two three given =
    subst (λ z. P (files_of ((p.now, metadata) ∷ (q.now, types) ∷ (r.now, z) ∷ []))) three
    (subst (λ z. P (files_of ((p.now, metadata) ∷ (q.now, z) ∷ (r.now, x.now) ∷ []))) two
    (subst (λ z. P (files_of ((p.now, z) ∷ (q.now, b.now) ∷ (r.now, x.now) ∷ []))) one given))

-- A run that stops before the conversion.
pub stops : (known : Option Files) (base meta types : List ℕ) (workers ring : ℕ) (layout : Layout) (sink : SinkView) (e : EarlyFault) (o : Outcome) → IsFolderOf base meta
    → IfSome known (λ files. GivesReport files base meta types (Err e)) → o ≡ outcome_of e
    → IfSome known (λ files. EndsOver files meta types workers ring layout sink sink o)
stops None base meta types workers ring layout sink e o folder stop told = tt
stops (Some files) base meta types workers ring layout sink e o folder stop told =
    record { base = base; folder = folder; ends = inl (record { fault = e; stops = stop; told = told }, (refl, keeps_same sink.told)) }

early_left : (workers : ℕ) (range : Option ConvertFault) (sink : SinkView) (e : EarlyFault) → Leaves workers range sink sink (outcome_of e)
early_left workers range sink (early.Report s x) = (refl, keeps_same sink.told)
early_left workers range sink (early.CannotRead path) = (refl, keeps_same sink.told)
early_left workers range sink early.Memory = inl (refl, (refl, keeps_same sink.told))

pub early_leaves : (workers : ℕ) (range : Option ConvertFault) (sink : SinkView) (e : EarlyFault) (o : Outcome) → o ≡ outcome_of e → Leaves workers range sink sink o
early_leaves workers range sink e o told = subst (Leaves workers range sink sink) (sym told) (early_left workers range sink e)

-- The conversion of a report's tables.
pub tables_end : {R : Type 0} (told : R → Option (List ℕ)) (known : Option Files) (base : List ℕ) (workers ring : ℕ) (layout : Layout)
    (old new : SinkView) (o : Outcome) (report : ReportValue) (readers : List (Option R))
    → IfSome known (λ files. AreFilesOf told readers (table_files files base report))
    → ((files : List (Option (List ℕ))) → AreFilesOf told readers files
    → EndsAs workers layout (early_fault workers ring (length files) (length report.tables)) report (streams report profile.rows files) old new o)
    → IfSome known (λ files. EndsAs workers layout (range_fault workers ring) report (streams report profile.rows (table_files files base report)) old new o)
tables_end told None base workers ring layout old new o report readers are converts = tt
tables_end told (Some files) base workers ring layout old new o report readers are converts =
    let tables = table_files files base report in
    run_ends layout workers ring report tables old new o (length_map (table_file files base) report.tables) (converts tables are)

-- A conversion for which memory ran out while the readers of its tables were made.
pub short_end : (known : Option Files) (base : List ℕ) (workers ring : ℕ) (layout : Layout) (sink : SinkView) (o : Outcome) (report : ReportValue) → o ≡ no_memory
    → IfSome known (λ files. EndsAs workers layout (range_fault workers ring) report (streams report profile.rows (table_files files base report)) sink sink o)
short_end None base workers ring layout sink o report none = tt
short_end (Some files) base workers ring layout sink o report none =
    let tables = table_files files base report in
    subst (EndsAs workers layout (range_fault workers ring) report (streams report profile.rows tables) sink sink) (sym none)
    (no_memory_ends workers layout (range_fault workers ring) report (streams report profile.rows tables) sink)

-- A run that has its report.
pub runs : (known : Option Files) (base meta types : List ℕ) (workers ring : ℕ) (layout : Layout) (old new : SinkView) (o : Outcome) (report : ReportValue) → IsFolderOf base meta
    → IfSome known (λ files. GivesReport files base meta types (Ok report))
    → IfSome known (λ files. EndsAs workers layout (range_fault workers ring) report (streams report profile.rows (table_files files base report)) old new o)
    → IfSome known (λ files. EndsOver files meta types workers ring layout old new o)
runs None base meta types workers ring layout old new o report folder is ends = tt
runs (Some files) base meta types workers ring layout old new o report folder is ends =
    record {
      base = base;
      folder = folder;
      ends = inr (record { report = report; passed = is.0; given = is.1; ends = ends });
    }

-- A run with one worker, as one with settings in range.

over_ends : (files : Files) (base meta types : List ℕ) (workers ring : ℕ) (layout : Layout) (old new : SinkView) (o : Outcome) → workers ≡ 1 → range_fault workers ring ≡ None
    → (EndsAt (steps files base meta types) o × Unwritten old new) ⊎ Converted files base meta types 1 1 layout old new o
    → (EndsAt (steps files base meta types) o × Unwritten old new) ⊎ Converted files base meta types workers ring layout old new o
over_ends files base meta types workers ring layout old new o one range (inl early) = inl early
over_ends files base meta types workers ring layout old new o one range (inr is) =
    let found = streams is.report profile.rows (table_files files base is.report) in
    inr (record {
      report = is.report;
      passed = is.passed;
      given = is.given;
      ends = as_one (λ w early. EndsAs w layout early is.report found old new o) workers (range_fault workers ring) None one range is.ends;
    })

pub alone_over : (known : Option Files) (meta types : List ℕ) (workers ring : ℕ) (layout : Layout) (old new : SinkView) (o : Outcome) → workers ≡ 1 → range_fault workers ring ≡ None
    → IfSome known (λ files. EndsOver files meta types 1 1 layout old new o)
    → IfSome known (λ files. EndsOver files meta types workers ring layout old new o)
alone_over None meta types workers ring layout old new o one range ends = tt
alone_over (Some files) meta types workers ring layout old new o one range ends =
    record { base = ends.base; folder = ends.folder; ends = over_ends files ends.base meta types workers ring layout old new o one range ends.ends }

-- What every outcome leaves in the sink.
pub short_leaves : (workers : ℕ) (range : Option ConvertFault) (sink : SinkView) (o : Outcome) → o ≡ no_memory → Leaves workers range sink sink o
short_leaves workers range sink o none = subst (Leaves workers range sink sink) (sym none) (inl (refl, (refl, keeps_same sink.told)))

pub run_leaves : (workers ring readers tables : ℕ) (old new : SinkView) (o : Outcome) → readers ≡ tables
    → Leaves workers (early_fault workers ring readers tables) old new o → Leaves workers (range_fault workers ring) old new o
run_leaves workers ring readers tables old new o many = subst (λ early. Leaves workers early old new o) (in_range workers ring readers tables many)

-- Through a buffer.

-- `old` is what the writer held before the run, and the buffer has what it held when the buffer was
-- made.
pub behind : (ends : SinkView → SinkView → Outcome → Type 0) (before after : SinkView) (ended o : Outcome) (done : Bool) (old first new : Option (List ℕ))
    → before.mark ≡ «marks».Fine → before.told ≡ told_behind old old [] → ends before after ended
    → (done ≡ true → Keeps after.told (told_behind first new [])) → (rest : List ℕ) × Keeps after.told (told_behind first new rest)
    → o ≡ (if done then ended else flushed ended) → Buffered ends old new o
behind ends before after ended o true old first new fine told run all some is =
    inr (record {
      ended = ended;
      before = before;
      after = after;
      fine = fine;
      run = run;
      last = inl (is, (λ text wrote. took_all old first new text (appends_then _ _ _ text (subst (λ t. Appends t after.told text) told wrote) (all refl))));
    })
behind ends before after ended o false old first new fine told run all some is =
    inr (record {
      ended = ended;
      before = before;
      after = after;
      fine = fine;
      run = run;
      last = inr (is, (λ text wrote. took_some old first new some.0 text (appends_then _ _ _ text (subst (λ t. Appends t after.told text) told wrote) some.1)));
    })

pub behind_told : (known : Option Files) (meta types : List ℕ) (workers ring : ℕ) (layout : Layout) (before after : SinkView) (ended o : Outcome) (done : Bool)
    (old first new : Option (List ℕ)) → before.mark ≡ «marks».Fine → before.told ≡ told_behind old old []
    → IfSome known (λ files. EndsOver files meta types workers ring layout before after ended)
    → (done ≡ true → Keeps after.told (told_behind first new [])) → (rest : List ℕ) × Keeps after.told (told_behind first new rest)
    → o ≡ (if done then ended else flushed ended)
    → IfSome known (λ files. Buffered (EndsOver files meta types workers ring layout) old new o)
behind_told None meta types workers ring layout before after ended o done old first new fine told run all some ends = tt
behind_told (Some files) meta types workers ring layout before after ended o done old first new fine told run all some ends =
    behind (EndsOver files meta types workers ring layout) before after ended o done old first new fine told run all some ends

pub no_buffer : (known : Option Files) (meta types : List ℕ) (workers ring : ℕ) (layout : Layout) (o : Outcome) (held : Option (List ℕ)) → o ≡ no_memory
    → IfSome known (λ files. Buffered (EndsOver files meta types workers ring layout) held held o)
no_buffer None meta types workers ring layout o held is = tt
no_buffer (Some files) meta types workers ring layout o held is = inl (is, keeps_same held)
