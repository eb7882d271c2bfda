-- The output of a document, the outcome of its run, and what is printed of it, on worked cases.
use Rattle.std.proofs.Common.{◌≡◌, ◌∙◌, ◌++◌, ◌∷◌, [], ℕ, List, Option, Some, None, true, false, ap, arith, codes, inl, inr, refl, subst, sym}
use Rattle.std.specs.Str.{bytes_eq, chars}
use lib.Utf8.{encode}
use Rattle.std.specs.Io.KnownBytes.{Appends}
use Rattle.oim_convert.specs.declared.fault.ConvertFault.TheVariants as fault
use Rattle.oim_json.specs.Sinks.{SinkView, sink_at}
use Rattle.oim_json.specs.declared.layout.Layout.TheVariants as layout
use Rattle.oim_json.specs.declared.mark.Mark.TheVariants as marks
use Rattle.oim_json.specs.declared.mark.WriteFault.TheVariants as write
use Rattle.oim_rows.specs.Header.{fault_at}
use Rattle.oim_rows.specs.declared.fault.TableKind.TheVariants as table
use Rattle.oim_run.specs.CommandLine.{IsInput}
use Rattle.oim_run.specs.Lines.{status_of}
use Rattle.oim_run.specs.Outputs.{Deed, Did, Ended, EndsFor, EndsTold, IsLeftOut, IsLeftUncounted, IsLeftUnwritten, IsToldBy, Opened, RunsOnce, RunsTo, RunsTold, Says, SaysLast}
use Rattle.oim_run.specs.state.Outputs.{RunsInto}
use Rattle.oim_run.specs.declared.run_end.RunEnd.{RunEnd}
use Rattle.oim_run.specs.declared.run_end.RunEnd.TheVariants as ending
use Rattle.oim_run.specs.declared.outcome.Outcome.{Outcome}
use Rattle.oim_run.specs.declared.outcome.Outcome.TheVariants as outcome
use Rattle.oim_run.specs.declared.request.Request.{Request}

-- Deeds.
abbrev o_json : List ℕ
o_json = codes "o.json"

abbrev f_csv : List ℕ
f_csv = codes "f.csv"

abbrev c_json : List ℕ
c_json = codes "c.json"

abbrev refused_path : Deed
refused_path = Opened (Some o_json) None

-- A deed is recorded after the earlier ones, and nothing else is.
one_deed : Did (Some (refused_path ∷ [])) (refused_path ∷ []) (Some (refused_path ∷ refused_path ∷ []))
one_deed = refl

deed_left_out : Did (Some (refused_path ∷ [])) (refused_path ∷ []) (Some (refused_path ∷ [])) → ⊥
deed_left_out did = absurd (cc did)

deeds_that_are_not_told : Did None (refused_path ∷ []) (Some [])
deeds_that_are_not_told = tt

-- The outcome to report.
told_of_what_is_kept : IsToldBy (Some o_json) (Some f_csv) (Some c_json) ending.Kept (outcome.Output write.Zero) (outcome.Output write.Zero)
told_of_what_is_kept = refl

-- A document that is not in its place is a failed write. If there was no document, the outcome
-- stays.
told_of_what_is_not_kept : IsToldBy (Some o_json) (Some f_csv) (Some c_json) ending.NotKept outcome.Done (outcome.Output write.Failed)
    × IsToldBy (Some o_json) (Some f_csv) (Some c_json) ending.NotKept (outcome.CannotRead (codes "m.json")) (outcome.CannotRead (codes "m.json"))
told_of_what_is_not_kept = (refl, refl)

-- A file that the report reads cannot be written. Memory may run out for its path.
told_of_a_file_that_is_read : IsToldBy (Some o_json) (Some f_csv) (Some c_json) ending.IsRead outcome.Done (outcome.CannotWrite o_json)
    × IsToldBy (Some o_json) (Some f_csv) (Some c_json) ending.FaultsAreRead outcome.Done (outcome.CannotWrite f_csv)
    × IsToldBy (Some o_json) (Some f_csv) (Some c_json) ending.CountsAreRead outcome.Done (outcome.CannotWrite c_json)
    × IsToldBy (Some o_json) (Some f_csv) (Some c_json) ending.IsRead outcome.Done (outcome.Run fault.Memory)
told_of_a_file_that_is_read = (inl refl, inl refl, inl refl, inr refl)

-- Without the option there is no such file.
told_where_no_file_is_named : IsToldBy None None None ending.IsRead outcome.Done outcome.Done
    × IsToldBy None None None ending.FaultsAreRead outcome.Done outcome.Done
    × IsToldBy None None None ending.CountsAreRead outcome.Done outcome.Done
told_where_no_file_is_named = (refl, refl, refl)

what_is_not_kept_ends_well : IsToldBy (Some o_json) None None ending.NotKept outcome.Done outcome.Done → ⊥
what_is_not_kept_ends_well told = absurd (cc told)

file_that_is_read_ends_well : IsToldBy (Some o_json) None None ending.IsRead outcome.Done outcome.Done → ⊥
file_that_is_read_ends_well (inl e) = absurd (cc e)
file_that_is_read_ends_well (inr e) = absurd (cc e)

-- One run: a run that writes one byte, and is then done.
abbrev writes_x : (old new : Option (List ℕ)) → Outcome → Type 0
writes_x old new o = Appends old new (codes "x") × (o ≡ outcome.Done)

abbrev empty : Option (List ℕ)
empty = Some []

abbrev x : Option (List ℕ)
x = Some (codes "x")

-- An output was opened, and ended so with these bytes in its writer.
abbrev deeds : Option (List ℕ) → Option (List ℕ) → RunEnd → List Deed
deeds path holds how = Opened path (Some empty) ∷ Ended holds outcome.Done how ∷ []

-- One run to a file.
abbrev Once : List Deed → Outcome → Type 0
Once done o = RunsOnce writes_x (Some o_json) None None (Some o_json) (Some []) (Some done) o

run_that_is_kept : Once (deeds (Some o_json) x ending.Kept) outcome.Done
run_that_is_kept = record { first = empty; last = x; ran = outcome.Done; how = ending.Kept; run = (refl, refl); done = refl; told = refl }

run_that_is_not_kept : Once (deeds (Some o_json) x ending.NotKept) (outcome.Output write.Failed)
run_that_is_not_kept = record { first = empty; last = x; ran = outcome.Done; how = ending.NotKept; run = (refl, refl); done = refl; told = refl }

not_run : Once [] outcome.Done → ⊥
not_run once = let e = once.done in absurd (cc e)

opened_and_not_ended : Once (Opened (Some o_json) (Some empty) ∷ []) outcome.Done → ⊥
opened_and_not_ended once = let e = once.done in absurd (cc e)

run_twice : Once (deeds (Some o_json) x ending.Kept ++ deeds (Some o_json) x ending.Kept) outcome.Done → ⊥
run_twice once = let e = once.done in absurd (cc e)

-- The path of the first deed, and the bytes of the second.
abbrev path_in : Option (List Deed) → Option (List ℕ)
path_in (Some (Opened path holds ∷ more)) = path
path_in other = None

abbrev first_in : Option (List Deed) → Option (List ℕ)
first_in (Some (Opened path (Some holds) ∷ more)) = holds
first_in other = None

abbrev last_in : Option (List Deed) → Option (List ℕ)
last_in (Some (one ∷ Ended holds ran how ∷ more)) = holds
last_in other = None

abbrev ran_in : Option (List Deed) → Outcome
ran_in (Some (one ∷ Ended holds ran how ∷ more)) = ran
ran_in other = outcome.Done

abbrev how_in : Option (List Deed) → RunEnd
how_in (Some (one ∷ Ended holds ran how ∷ more)) = how
how_in other = ending.IsRead

run_to_another_output : Once (deeds None x ending.Kept) outcome.Done → ⊥
run_to_another_output once = let e : None ≡ Some o_json = ap path_in once.done in absurd (cc e)

-- The output is ended with the bytes that the run wrote.
run_that_is_thrown_away : Once (deeds (Some o_json) empty ending.Kept) outcome.Done → ⊥
run_that_is_thrown_away once = absurd (cc wrote)
  where
    first : empty ≡ once.first
    first = ap first_in once.done

    last : empty ≡ once.last
    last = ap last_in once.done

    from : Appends empty once.last (codes "x")
    from = subst (λ (v : Option (List ℕ)). Appends v once.last (codes "x")) (sym first) once.run.0

    wrote : [] ≡ codes "x"
    wrote = subst (λ (v : Option (List ℕ)). Appends empty v (codes "x")) (sym last) from

-- The outcome to report is that of this run, by the end of its output.
another_outcome_told : Once (deeds (Some o_json) x ending.Kept) (outcome.Output write.Zero) → ⊥
another_outcome_told once = absurd (cc told)
  where
    how : ending.Kept ≡ once.how
    how = ap how_in once.done

    by : IsToldBy (Some o_json) None None ending.Kept once.ran (outcome.Output write.Zero)
    by = subst (λ (v : RunEnd). IsToldBy (Some o_json) None None v once.ran (outcome.Output write.Zero)) (sym how) once.told

    told : outcome.Output write.Zero ≡ outcome.Done
    told = by ∙ once.run.1

not_kept_and_done : Once (deeds (Some o_json) x ending.NotKept) outcome.Done → ⊥
not_kept_and_done once = absurd (cc told)
  where
    how : ending.NotKept ≡ once.how
    how = ap how_in once.done

    ran : outcome.Done ≡ once.ran
    ran = ap ran_in once.done

    by : IsToldBy (Some o_json) None None ending.NotKept once.ran outcome.Done
    by = subst (λ (v : RunEnd). IsToldBy (Some o_json) None None v once.ran outcome.Done) (sym how) once.told

    told : outcome.Done ≡ outcome.Output write.Failed
    told = subst (λ (v : Outcome). IsToldBy (Some o_json) None None ending.NotKept v outcome.Done) (sym ran) by

-- The output of `--out`.
abbrev asked : Option (List ℕ) → Option (List ℕ) → Request
asked out faults = record {
  settings = record { meta = codes "m.json"; types = codes "t.csv"; workers = 4; ring = 1; out = out; layout = layout.Compact };
  whole = false;
  progress = false;
  explain = false;
  no_explain = false;
  faults = faults;
  most_faults = 1000000;
  counts = None;
}

differ : (a b : List ℕ) → bytes_eq a b ≡ false → bytes_eq a a ≡ true → a ≡ b → ⊥
differ a b apart same e = let t : true ≡ false = sym same ∙ ap (bytes_eq a) e ∙ apart in cc

not_an_input : IsInput (asked None None).settings o_json → ⊥
not_an_input (inl e) = differ o_json (codes "m.json") refl refl e
not_an_input (inr e) = differ o_json (codes "t.csv") refl refl e

abbrev sink : List ℕ → SinkView
sink bs = sink_at marks.Fine (Some bs)

-- A run over a folder whose files contracts do not see: only what each outcome leaves is known.
runs : RunsTo None (asked None None).settings empty x outcome.Done
runs = (tt, inr (record { ended = outcome.Done; before = sink []; after = sink (codes "x"); fine = refl; run = (refl, refl); last = inl (refl, λ text e. e) }))

-- Only the run and its end are done to an output that is open already.
run_into_an_open_output : RunsInto None (asked None None) empty (Some (refused_path ∷ [])) (Some (refused_path ∷ Ended x outcome.Done ending.Kept ∷ [])) outcome.Done
run_into_an_open_output = record { last = x; ran = outcome.Done; how = ending.Kept; run = runs; done = refl; told = refl }

open_output_is_not_ended : RunsInto None (asked None None) empty (Some (refused_path ∷ [])) (Some (refused_path ∷ [])) outcome.Done → ⊥
open_output_is_not_ended into = let e = into.done in absurd (cc e)

-- Standard output without `--out`, and else that file.
to_standard_output : EndsFor None (asked None None) (Some []) (Some (deeds None x ending.Kept)) outcome.Done
to_standard_output = record { first = empty; last = x; ran = outcome.Done; how = ending.Kept; run = runs; done = refl; told = refl }

to_its_file : EndsFor None (asked (Some o_json) None) (Some []) (Some (deeds (Some o_json) x ending.Kept)) outcome.Done
to_its_file = inr (inr (not_an_input, record { first = empty; last = x; ran = outcome.Done; how = ending.Kept; run = runs; done = refl; told = refl }))

to_standard_output_in_place_of_its_file : EndsFor None (asked (Some o_json) None) (Some []) (Some (deeds None x ending.Kept)) outcome.Done → ⊥
to_standard_output_in_place_of_its_file (inl over) = not_an_input over.0
to_standard_output_in_place_of_its_file (inr (inl unopened)) = let e = unopened.1 in absurd (cc e)
to_standard_output_in_place_of_its_file (inr (inr ran)) = let e : None ≡ Some o_json = ap path_in ran.1.done in absurd (cc e)

to_a_file_that_is_not_named : EndsFor None (asked None None) (Some []) (Some (deeds (Some o_json) x ending.Kept)) outcome.Done → ⊥
to_a_file_that_is_not_named once = let e : Some o_json ≡ None = ap path_in once.done in absurd (cc e)

-- The file cannot be opened. Memory may run out for its path.
file_cannot_be_opened : EndsFor None (asked (Some o_json) None) (Some []) (Some (refused_path ∷ [])) (outcome.CannotWrite o_json)
file_cannot_be_opened = inr (inl (not_an_input, refl, inl refl))

no_memory_for_its_path : EndsFor None (asked (Some o_json) None) (Some []) (Some (refused_path ∷ [])) (outcome.Run fault.Memory)
no_memory_for_its_path = inr (inl (not_an_input, refl, inr refl))

unopened_and_done : EndsFor None (asked (Some o_json) None) (Some []) (Some (refused_path ∷ [])) outcome.Done → ⊥
unopened_and_done (inl over) = not_an_input over.0
unopened_and_done (inr (inl (other, did, inl e))) = absurd (cc e)
unopened_and_done (inr (inl (other, did, inr e))) = absurd (cc e)
unopened_and_done (inr (inr ran)) = let e = ran.1.done in absurd (cc e)

-- Nothing is done for the path of an input.
over_the_metadata : EndsFor None (asked (Some (codes "m.json")) None) (Some []) (Some []) (outcome.CannotWrite (codes "m.json"))
over_the_metadata = inl (inl refl, refl, inl refl)

over_the_types_table : (did : List Deed) (o : Outcome) → EndsFor None (asked (Some (codes "t.csv")) None) (Some []) (Some did) o → Some did ≡ Some []
over_the_types_table did o (inl over) = over.1
over_the_types_table did o (inr (inl unopened)) = absurd (unopened.0 (inr refl))
over_the_types_table did o (inr (inr ran)) = absurd (ran.0 (inr refl))

-- Printing.
abbrev line : List ℕ
line = codes "xbrl-json: cannot write o.json\n"

abbrev unwritten : Outcome
unwritten = outcome.CannotWrite o_json

-- The line is printed as one text after the earlier ones, or nothing is printed.
line_said : Says (Some false) unwritten (Some (codes "a" ∷ [])) (Some (codes "a" ∷ line ∷ []))
line_said = inr (inl (refl, refl))

line_not_said : Says (Some false) unwritten (Some []) (Some [])
line_not_said = inl refl

line_said_twice : Says (Some false) unwritten (Some []) (Some (line ∷ line ∷ [])) → ⊥
line_said_twice (inl e) = absurd (cc e)
line_said_twice (inr (inl (is, e))) = absurd (cc e)
line_said_twice (inr (inr (is, e))) = absurd (cc is)

-- Only a terminal gets a path with its control characters escaped.
abbrev wide : Outcome
wide = outcome.CannotWrite (codes "a\nb")

said_to_a_terminal : Says (Some true) wide (Some []) (Some (codes "xbrl-json: cannot write a\\x0ab\n" ∷ []))
unfolding chars encode
said_to_a_terminal = inr (inr (refl, refl))

said_to_a_file : Says (Some false) wide (Some []) (Some (codes "xbrl-json: cannot write a\nb\n" ∷ []))
said_to_a_file = inr (inl (refl, refl))

abbrev said_first : Option (List (List ℕ)) → List ℕ
said_first (Some (text ∷ more)) = text
said_first other = []

unescaped_on_a_terminal : Says (Some true) wide (Some []) (Some (codes "xbrl-json: cannot write a\nb\n" ∷ [])) → ⊥
unfolding chars encode
unescaped_on_a_terminal (inl e) = absurd (cc e)
unescaped_on_a_terminal (inr (inl (is, e))) = absurd (cc is)
unescaped_on_a_terminal (inr (inr (is, e))) = differ (codes "xbrl-json: cannot write a\nb\n") (codes "xbrl-json: cannot write a\\x0ab\n") refl refl (ap said_first e)

escaped_in_a_file : Says (Some false) wide (Some []) (Some (codes "xbrl-json: cannot write a\\x0ab\n" ∷ [])) → ⊥
escaped_in_a_file (inl e) = absurd (cc e)
escaped_in_a_file (inr (inl (is, e))) = differ (codes "xbrl-json: cannot write a\\x0ab\n") (codes "xbrl-json: cannot write a\nb\n") refl refl (ap said_first e)
escaped_in_a_file (inr (inr (is, e))) = absurd (cc is)

-- The files of the faults and of the counts.
abbrev refused : Outcome
refused = outcome.Tables ((codes "t2", fault_at 1 0 0 table.NoFile) ∷ [])

-- It is missed only if the option is given and the status is 0 or 1.
faults_not_written : IsLeftUnwritten (Some f_csv) refused (outcome.CannotWrite f_csv)
faults_not_written = (omega arith, inl refl)

faults_not_named : IsLeftUnwritten None refused (outcome.CannotWrite f_csv) → ⊥
faults_not_named left = left

faults_of_a_broken_document : IsLeftUnwritten (Some f_csv) (outcome.Output write.Zero) (outcome.CannotWrite f_csv) → ⊥
faults_of_a_broken_document left = omega (arith, left.0)

faults_of_another_path : IsLeftUnwritten (Some f_csv) outcome.Done unwritten → ⊥
faults_of_another_path (status, inl e) = differ o_json f_csv refl refl (ap path_of e)
  where
    path_of : Outcome → List ℕ
    path_of (outcome.CannotWrite path) = path
    path_of other = []
faults_of_another_path (status, inr e) = absurd (cc e)

-- The counts are missed only if the option is given and the status is 0.
counts_not_written : IsLeftUncounted (Some c_json) outcome.Done (outcome.CannotWrite c_json)
counts_not_written = (refl, inl refl)

counts_not_named : IsLeftUncounted None outcome.Done (outcome.CannotWrite c_json) → ⊥
counts_not_named left = left

counts_of_refused_tables : IsLeftUncounted (Some c_json) refused (outcome.CannotWrite c_json) → ⊥
counts_of_refused_tables left = absurd (cc left.0)

either_of_the_two : IsLeftOut (Some f_csv) None refused (outcome.CannotWrite f_csv) × IsLeftOut None (Some c_json) outcome.Done (outcome.CannotWrite c_json)
either_of_the_two = (inl faults_not_written, inr counts_not_written)

-- The status is that of the run, and nothing more is printed; or it is that of one of these files,
-- which is printed.
status_of_the_run : SaysLast (Some false) (Some f_csv) (Some c_json) refused (Some (line ∷ [])) (Some (line ∷ [])) 1
status_of_the_run = inl (refl, refl)

status_of_the_faults : SaysLast (Some false) (Some f_csv) (Some c_json) refused (Some (line ∷ [])) (Some (line ∷ codes "xbrl-json: cannot write f.csv\n" ∷ [])) 3
status_of_the_faults = inr (outcome.CannotWrite f_csv, inl faults_not_written, inr (inl (refl, refl)), refl)

status_of_the_counts : SaysLast (Some false) (Some f_csv) (Some c_json) outcome.Done (Some ([] ∷ [])) (Some ([] ∷ codes "xbrl-json: cannot write c.json\n" ∷ [])) 3
status_of_the_counts = inr (outcome.CannotWrite c_json, inr counts_not_written, inr (inl (refl, refl)), refl)

broken_document_ends_well : SaysLast (Some false) (Some f_csv) (Some c_json) (outcome.Output write.Zero) (Some []) (Some []) 0 → ⊥
broken_document_ends_well (inl (same, status)) = absurd (cc status)
broken_document_ends_well (inr (last, inl left, says, status)) = omega (arith, left.0)
broken_document_ends_well (inr (last, inr left, says, status)) = absurd (cc left.0)

more_said_behind_the_run : SaysLast (Some false) None (Some c_json) refused (Some []) (Some (line ∷ [])) 1 → ⊥
more_said_behind_the_run (inl (same, status)) = absurd (cc same)
more_said_behind_the_run (inr (last, inl left, says, status)) = left
more_said_behind_the_run (inr (last, inr left, says, status)) = absurd (cc left.0)

refused_tables_without_a_file_of_faults : SaysLast (Some false) None (Some c_json) refused (Some []) (Some []) 3 → ⊥
refused_tables_without_a_file_of_faults (inl (same, status)) = absurd (cc status)
refused_tables_without_a_file_of_faults (inr (last, inl left, says, status)) = left
refused_tables_without_a_file_of_faults (inr (last, inr left, says, status)) = absurd (cc left.0)

-- The program: the file of the document cannot be opened, that is printed once, and the status is
-- 3.
program_without_its_file : EndsTold None (asked (Some o_json) None) (Some []) (Some (refused_path ∷ [])) (Some false) (Some []) (Some (line ∷ [])) 3
program_without_its_file = record { ended = unwritten; once = file_cannot_be_opened; between = Some (line ∷ []); says = inr (inl (refl, refl)); last = inl (refl, refl) }

program_that_ends_well : EndsTold None (asked None None) (Some []) (Some (deeds None x ending.Kept)) (Some false) (Some []) (Some ([] ∷ [])) 0
program_that_ends_well = record { ended = outcome.Done; once = to_standard_output; between = Some ([] ∷ []); says = inr (inl (refl, refl)); last = inl (refl, refl) }

program_that_does_nothing : EndsTold None (asked None None) (Some []) (Some []) (Some false) (Some []) (Some []) 0 → ⊥
program_that_does_nothing ends = let e = ends.once.done in absurd (cc e)

-- A run whose outcome is printed.
abbrev Told : Option (List (List ℕ)) → ℕ → Type 0
Told said status = RunsTold writes_x empty x (Some false) (Some []) said status

run_is_told : Told (Some ([] ∷ [])) 0
run_is_told = record { ran = outcome.Done; run = (refl, refl); says = inr (inl (refl, refl)); exit = refl }

run_ends_otherwise : Told (Some ([] ∷ [])) 1 → ⊥
run_ends_otherwise told = let e : 1 ≡ 0 = told.exit ∙ ap status_of told.run.1 in absurd (cc e)
