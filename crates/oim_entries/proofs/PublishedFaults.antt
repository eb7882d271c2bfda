-- The published fault of a file of entries is that of its first bad record.
use Rattle.std.proofs.Common.{◌≡◌, ◌∙◌, inl, inr, sym, ◌+◌, ℕ, List, [], ◌∷◌, Option, Some, None, Result, Ok, Err, Bool, true, false, refl, nat_le, is_none, IfSome, subst}
use Rattle.std.proofs.lemmas.Option.{IfSome_then}
use Rattle.std.specs.Prelude.{nat_eq, length}
use Rattle.oim_names.specs.Names.{is_identifier, is_ncname}
use Rattle.oim_records.specs.Grids.{Field, Record, grid}
use Rattle.oim_entries.specs.BadEntries.{BadRecord, GivesEntries, entries_of, file_entries, one_entry, published, refusal_fault, unless_found}
use Rattle.oim_entries.specs.CsvFiles.{EntryFile, OrOutside, all_of, file_result, one_more, two_texts, unless_bad}
use Rattle.oim_entries.specs.EntryFaults.{meta_fault, not_texts}
use Rattle.oim_entries.specs.ParametersFile.{parameters_chosen, parameters_entries, parameters_file, parameters_result, is_parameters_header, wrong_parameter}
use Rattle.oim_entries.specs.TypesFile.{types_chosen, types_entries, types_file, types_result, wrong_cells, wrong_type}
use Rattle.std.specs.Result.{result_err}
use Rattle.oim_names.specs.Lookup.{value_at}
use Rattle.oim_entries.specs.KindWords.{kind_words, with_period, with_values}
use Rattle.oim_entries.specs.TypeWords.{Table, TypeTexts, by_three, by_type, field_count, kind_by_period, kind_by_values, kind_given, table_chosen, texts_in}
use Rattle.oim_entries.specs.declared.entry_fault.EntryProblem.{EntryProblem}
use Rattle.oim_report.specs.declared.kind.Kind.{Kind}
use Rattle.oim_report.specs.Types.{kind_in}
use Rattle.oim_entries.specs.declared.entry_fault.EntryRefusal.{EntryRefusal}
use Rattle.oim_entries.specs.declared.entry_fault.EntryRefusal.TheVariants.{Bad, Unread}
use Rattle.oim_entries.specs.declared.fault.MetaFault.{MetaFault}
use Rattle.oim_entries.specs.declared.fault.MetaFault.TheVariants as fault
use Rattle.oim_records.specs.declared.read_fault.ReadFault.TheVariants as read

-- A bad record of a file is published with the file's fault.
abbrev pub HasOneFault : {S : Type 0} → EntryFile S → Type 0
HasOneFault {S} f = (n : ℕ) (s : S) (r : Record) → meta_fault f.bad (f.wrong n s r).problem ≡ f.bad

one_published : {S : Type 0} (f : EntryFile S) → HasOneFault f → (n : ℕ) (s : S) (r : Record) → one_more f n s r ≡ published f.bad (one_entry f n s r)
one_published {S} f one n s r = by (nat_le f.limit n) (f.after s r) refl refl
  where
    by : (b : Bool) (o : Option S) → nat_le f.limit n ≡ b → f.after s r ≡ o → one_more f n s r ≡ published f.bad (one_entry f n s r)
    by true o e h = rw e refl
    by false (Some t) e h = rw (e, h) refl
    by false None e h = rw (e, h, one (n + 1) s r) refl

all_published : {S : Type 0} (f : EntryFile S) → HasOneFault f → (n : ℕ) (s : S) (rs : List Record) → all_of f n s rs ≡ published f.bad (entries_of f n s rs)
unfolding all_of entries_of
all_published f one n s [] = refl
all_published {S} f one n s (r ∷ rs) = rw (one_published f one n s r) (by (one_entry f n s r) (λ t. all_published f one (n + 1) t rs))
  where
    by : (o : Result S BadRecord) → ((t : S) → all_of f (n + 1) t rs ≡ published f.bad (entries_of f (n + 1) t rs))
        → unless_bad (λ t. all_of f (n + 1) t rs) (published f.bad o) ≡ published f.bad (unless_found (λ t. entries_of f (n + 1) t rs) o)
    by (Ok t) later = later t
    by (Err b) later = refl

-- Each file that a header chooses has this fault for its bad records.
Chooses : {S : Type 0} → MetaFault → (Record → Option (EntryFile S)) → Type 0
Chooses {S} bad chosen = (r : Record) (f : EntryFile S) → chosen r ≡ Some f → (f.bad ≡ bad) × HasOneFault f

file_published : {S : Type 0} (bad : MetaFault) (chosen : Record → Option (EntryFile S)) → Chooses bad chosen → (rs : List Record)
    → file_result bad chosen rs ≡ published bad (file_entries chosen rs)
unfolding Chooses
file_published bad chosen each [] = refl
file_published {S} bad chosen each (r ∷ rs) = by (chosen r) refl
  where
    by : (o : Option (EntryFile S)) → chosen r ≡ o → file_result bad chosen (r ∷ rs) ≡ published bad (file_entries chosen (r ∷ rs))
    by None h = rw h refl
    by (Some f) h =
        let it = each r f h in
        let all = all_published f it.1 0 f.start rs in
        rw h (subst (λ b. all_of f 0 f.start rs ≡ published b (entries_of f 0 f.start rs)) it.0 all)

-- A fault of a record that is not the given number of texts is never that it is past the limit.
texts_one : (bad : MetaFault) (n count : ℕ) (r : Record) → meta_fault bad (not_texts n count r).problem ≡ bad
texts_one bad n count r = by (nat_eq (length r) count) refl
  where
    by : (b : Bool) → nat_eq (length r) count ≡ b → meta_fault bad (not_texts n count r).problem ≡ bad
    by true e = rw e refl
    by false e = rw e refl

parameters_one : HasOneFault parameters_file
parameters_one n s r = by (two_texts r) refl
  where
    by : (o : Option (Field × Field)) → two_texts r ≡ o → meta_fault fault.BadParameter (wrong_parameter n s r).problem ≡ fault.BadParameter
    by None h = rw h (texts_one fault.BadParameter n 2 r)
    by (Some p) h = go (is_identifier p.0) refl
      where
        go : (b : Bool) → is_identifier p.0 ≡ b → meta_fault fault.BadParameter (wrong_parameter n s r).problem ≡ fault.BadParameter
        go true e = rw (h, e) refl
        go false e = rw (h, e) refl

-- No bad cell after a name is published as a record past the limit.
IsOfTypes : ℕ → Option (ℕ × EntryProblem) → Type 0
IsOfTypes n cell = meta_fault fault.BadTypes (wrong_cells n cell).problem ≡ fault.BadTypes

by_values_one : (n : ℕ) (k : Kind) (values : Field) → IsOfTypes n (result_err (kind_by_values k values))
unfolding IsOfTypes
by_values_one n k values = by (with_values k values) refl
  where
    by : (o : Option Kind) → with_values k values ≡ o → meta_fault fault.BadTypes (wrong_cells n (result_err (kind_by_values k values))).problem ≡ fault.BadTypes
    by None h = rw h refl
    by (Some l) h = rw h refl

by_period_one : (n : ℕ) (k : Kind) (period values : Field) → IsOfTypes n (result_err (kind_by_period k period values))
unfolding IsOfTypes
by_period_one n k period values = by (with_period k period) refl
  where
    by : (o : Option Kind) → with_period k period ≡ o
        → meta_fault fault.BadTypes (wrong_cells n (result_err (kind_by_period k period values))).problem ≡ fault.BadTypes
    by None h = rw h refl
    by (Some l) h = rw h (by_values_one n l values)

cells_one : (table : Table) (n : ℕ) (p : TypeTexts) → IsOfTypes n (result_err (kind_given table p))
unfolding IsOfTypes
cells_one (by_type words) n p = by (value_at p.2 words) refl
  where
    by : (o : Option Kind) → value_at p.2 words ≡ o
        → meta_fault fault.BadTypes (wrong_cells n (result_err (kind_given (by_type words) p))).problem ≡ fault.BadTypes
    by None h = rw h refl
    by (Some k) h = rw h refl
cells_one by_three n p = by (value_at p.2 kind_words) refl
  where
    by : (o : Option Kind) → value_at p.2 kind_words ≡ o
        → meta_fault fault.BadTypes (wrong_cells n (result_err (kind_given by_three p))).problem ≡ fault.BadTypes
    by None h = rw h refl
    by (Some k) h = rw h (by_period_one n k p.3 p.4)

types_one : (table : Table) → HasOneFault (types_file table)
unfolding IsOfTypes
types_one table n s r = by (texts_in table r) refl
  where
    by : (o : Option TypeTexts) → texts_in table r ≡ o → meta_fault fault.BadTypes (wrong_type table n s r).problem ≡ fault.BadTypes
    by None h = rw h (texts_one fault.BadTypes n (field_count table) r)
    by (Some p) h = go (is_ncname p.1) (is_none (kind_in s p.0 p.1)) refl refl
      where
        go : (x y : Bool) → is_ncname p.1 ≡ x → is_none (kind_in s p.0 p.1) ≡ y → meta_fault fault.BadTypes (wrong_type table n s r).problem ≡ fault.BadTypes
        go true true e k = rw (h, e, k) (cells_one table n p)
        go true false e k = rw (h, e, k) refl
        go false y e k = rw (h, e) refl

parameters_choice : Chooses fault.BadParameter parameters_chosen
unfolding Chooses
parameters_choice r f is = by (is_parameters_header r) refl
  where
    by : (b : Bool) → is_parameters_header r ≡ b → (f.bad ≡ fault.BadParameter) × HasOneFault f
    by true e = let same : Some parameters_file ≡ Some f = rw e at is in let one : parameters_file ≡ f = cc in rw (← one) (refl, parameters_one)
    by false e = let none : None ≡ Some f = rw e at is in cc none

types_choice : Chooses fault.BadTypes types_chosen
unfolding Chooses
types_choice r f is = by (table_chosen r) refl
  where
    by : (o : Option Table) → table_chosen r ≡ o → (f.bad ≡ fault.BadTypes) × HasOneFault f
    by (Some table) e = let same : Some (types_file table) ≡ Some f = rw e at is in let one : types_file table ≡ f = cc in rw (← one) (refl, types_one table)
    by None e = let none : None ≡ Some f = rw e at is in cc none

pub parameters_published : (rs : List Record) → parameters_result rs ≡ published fault.BadParameter (parameters_entries rs)
parameters_published rs = file_published fault.BadParameter parameters_chosen parameters_choice rs

pub types_published : (rs : List Record) → types_result rs ≡ published fault.BadTypes (types_entries rs)
types_published rs = file_published fault.BadTypes types_chosen types_choice rs

-- What a caller gets for what was read.
abbrev pub as_published : {S : Type 0} → MetaFault → Result S EntryRefusal → Result S MetaFault
as_published bad (Ok s) = Ok s
as_published bad (Err e) = Err (refusal_fault bad e)

one_told : {S : Type 0} (bad : MetaFault) (o : Result S EntryRefusal) (answer : Result S BadRecord) (all : Result S MetaFault)
    → all ≡ published bad answer → GivesEntries o answer → OrOutside (as_published bad o) all
one_told bad (Ok s) answer all law h = inr (inr (sym (law ∙ rw h refl)))
one_told bad (Err (Bad b)) answer all law h = inr (inr (sym (law ∙ rw h refl)))
one_told bad (Err (Unread read.Read)) answer all law h = inl refl
one_told bad (Err (Unread read.Memory)) answer all law h = inr (inl refl)

pub told : {S : Type 0} (bad : MetaFault) (o : Result S EntryRefusal) (entries : List Record → Result S BadRecord) (all : List Record → Result S MetaFault)
    → ((rs : List Record) → all rs ≡ published bad (entries rs)) → (text : Option (List ℕ))
    → IfSome text (λ bytes. GivesEntries o (entries (grid bytes))) → IfSome text (λ bytes. OrOutside (as_published bad o) (all (grid bytes)))
told bad o entries all law text given = IfSome_then text given (λ bytes h. one_told bad o (entries (grid bytes)) (all (grid bytes)) (law (grid bytes)) h)
