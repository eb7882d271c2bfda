-- The results of the steps of a run, from the results of the calls in them.
use Rattle.std.proofs.Common.{
  ◌≡◌,
  ◌∙◌,
  refl,
  sym,
  ap,
  subst,
  ℕ,
  ◌+◌,
  ◌⊎◌,
  List,
  [],
  ◌∷◌,
  ◌++◌,
  take,
  Option,
  Some,
  None,
  IfSome,
  IfOk,
  IfErr,
  option_map,
  unwrap_or,
  Result,
  Ok,
  Err,
  inl,
  inr,
  append_assoc,
}
use Rattle.oim_records.specs.Reads.{IsFileOf}
use Rattle.oim_records.specs.declared.read_fault.ReadFault.TheVariants as read_fault
use Rattle.oim_entries.specs.BadEntries.{BadRecord, GivesEntries}
use Rattle.oim_records.specs.Grids.{grid}
use Rattle.oim_report.specs.Parameters.{ParametersValue}
use Rattle.oim_entries.specs.ParametersFile.{parameters_entries}
use Rattle.oim_report.specs.ReportValue.{ReportValue}
use Rattle.oim_report.specs.Types.{TypesValue}
use Rattle.oim_entries.specs.declared.entry_fault.EntryRefusal.{EntryRefusal}
use Rattle.oim_entries.specs.declared.entry_fault.EntryRefusal.TheVariants.{Bad, Unread}
use Rattle.oim_entries.specs.declared.fault.MetaFault.{MetaFault}
use Rattle.oim_entries.specs.declared.fault.MetaFault.TheVariants as refused
use Rattle.oim_meta.specs.declared.findings.Finding.{Finding}
use Rattle.oim_files.proofs.MetadataFacts.{report_taken, url_taken}
use Rattle.oim_files.specs.FileFaults.{of_entry, of_metadata}
use Rattle.oim_files.specs.Folders.{Files}
use Rattle.oim_files.specs.Metadata.{front_within, of_whole, profile, report_result, url_finding, url_result}
use Rattle.oim_files.specs.Steps.{GivesReport, GivesRest, HasRead, IsAmong, IsParameters, Passes, Step, Stops, Takes, TakesTo, bytes_at, front_at, looking, metadata_steps, missing, opening, parameters_at, parameters_of, parameters_steps, reading, report_at, step, types_at, types_steps, url_at, value_or, whole, whole_at, wrong}
use Rattle.oim_files.specs.declared.early_fault.EarlyFault.{EarlyFault}
use Rattle.oim_files.specs.declared.early_fault.EarlyFault.TheVariants as early
use Rattle.oim_files.specs.declared.early_fault.Source.{Source}
use Rattle.oim_files.specs.declared.early_fault.Source.TheVariants as source
use Rattle.oim_files.specs.state.Refusals.{of_refusal}

-- LISTS OF STEPS

pub passes_both : (xs ys : List Step) → Passes xs → Passes ys → Passes (xs ++ ys)
passes_both [] ys p q = q
passes_both (x ∷ xs) ys p q = (p.0, passes_both xs ys p.1 q)

-- A run that ends at a step ends the same way with more steps after it, and with steps before it
-- that have no fault.
pub stops_first : (xs ys : List Step) (o : EarlyFault) → Stops xs o → Stops (xs ++ ys) o
stops_first xs ys o s =
    record {
      before = s.before;
      here = s.here;
      later = s.later ++ ys;
      split = ap (λ l. l ++ ys) s.split ∙ append_assoc s.before (s.here ∷ s.later) ys;
      passed = s.passed;
      ends = s.ends;
    }

pub stops_later : (xs ys : List Step) (o : EarlyFault) → Passes xs → Stops ys o → Stops (xs ++ ys) o
stops_later xs ys o p s =
    record {
      before = xs ++ s.before;
      here = s.here;
      later = s.later;
      split = ap (λ l. xs ++ l) s.split ∙ sym (append_assoc xs s.before (s.here ∷ s.later));
      passed = passes_both xs s.before p s.passed;
      ends = s.ends;
    }

pub stops_at : (here : Step) (later : List Step) (o : EarlyFault) → (here.fault ≡ Some o) ⊎ IsAmong o here.refusals → Stops (here ∷ later) o
stops_at here later o ends = record { before = []; here = here; later = later; split = refl; passed = tt; ends = ends }

-- ONE STEP

-- A file that was opened, or not.
opened_by : {R : Type 0} (told : R → Option (List ℕ)) (r : R) (path : List ℕ) (file : Option (List ℕ)) → IsFileOf told (Some r) file
    → Passes (step (missing path file) (early.Memory ∷ []) ∷ []) × (told r ≡ Some (unwrap_or file []))
opened_by told r path None h = absurd h
opened_by told r path (Some bytes) h = ((refl, tt), h)

pub opened_is : {R : Type 0} (told : R → Option (List ℕ)) (r : R) (known : Option Files) (path : List ℕ)
    → IfSome known (λ files. IsFileOf told (Some r) (files path))
    → IfSome known (λ files. Passes (opening files path ∷ []) × (told r ≡ Some (bytes_at files path)))
opened_is told r None path is = tt
opened_is told r (Some files) path is = opened_by told r path (files path) is

not_opened_by : {R : Type 0} (told : R → Option (List ℕ)) (path : List ℕ) (o : EarlyFault) (file : Option (List ℕ)) → IsFileOf {R = R} told None file
    → (o ≡ early.CannotRead path) ⊎ (o ≡ early.Memory) → (missing path file ≡ Some o) ⊎ IsAmong o (early.Memory ∷ [])
not_opened_by told path o None h (inl is) = inl (ap Some (sym is))
not_opened_by told path o None h (inr is) = inr (inl is)
not_opened_by told path o (Some bytes) h any = absurd h

pub not_opened : {R : Type 0} (told : R → Option (List ℕ)) (known : Option Files) (path : List ℕ) (o : EarlyFault)
    → IfSome known (λ files. IsFileOf {R = R} told None (files path))
    → (o ≡ early.CannotRead path) ⊎ (o ≡ early.Memory)
    → IfSome known (λ files. Stops (opening files path ∷ []) o)
not_opened told None path o is said = tt
not_opened told (Some files) path o is said = stops_at (opening files path) [] o (not_opened_by told path o (files path) is said)

-- READING A FILE

abbrev is_same : {A B : Type 0} → Result A B → Result A B → Type 0
is_same a b = a ≡ b

ok_no_err : {A B : Type 0} (a : A) (b : B) → Ok a ≡ Err b → ⊥
ok_no_err a b e = cc

err_same : {A B : Type 0} (a b : B) → is_same {A = A} (Err a) (Err b) → a ≡ b
err_same a b e = cc

-- The reader of a file has the bytes of the file.
abbrev pub IsOpened : {R : Type 0} → (R → Option (List ℕ)) → R → Files → List ℕ → Type 0
IsOpened told r files path = Passes (opening files path ∷ []) × (told r ≡ Some (bytes_at files path))

module _ {R A : Type 0} (told : R → Option (List ℕ)) (r : R) (s : Source) (named : Option (List ℕ)) (bad : MetaFault) (read : List ℕ → Result A BadRecord) where
  abbrev step_at : Files → List ℕ → Step
  step_at files path = reading s named bad (read (bytes_at files path))

  abbrev Read : Files → List ℕ → Result A EarlyFault → Type 0
  Read files path result = TakesTo {X = A} (opening files path ∷ step_at files path ∷ []) (read (bytes_at files path)) result

  refusal_read : (e : EntryRefusal) (answer : Result A BadRecord) → GivesEntries (Err e) answer
      → (wrong s (of_entry named bad) answer ≡ Some (early.Report s (of_refusal named bad e)))
      ⊎ IsAmong (early.Report s (of_refusal named bad e)) (whole_at s named refused.Read ∷ whole_at s named refused.Memory ∷ [])
  refusal_read (Bad b) answer is = inl (ap (wrong s (of_entry named bad)) is)
  refusal_read (Unread read_fault.Read) answer is = inr (inl refl)
  refusal_read (Unread read_fault.Memory) answer is = inr (inr (inl refl))

  pub reads_value : (known : Option Files) (path : List ℕ) (a : A) → IfSome known (λ files. IsOpened told r files path)
      → IfSome (told r) (λ bytes. GivesEntries (Ok a) (read bytes)) → IfSome known (λ files. Read files path (Ok a))
  reads_value None path a is answer = tt
  reads_value (Some files) path a is answer =
      let e : read (bytes_at files path) ≡ Ok a = subst (λ k. IfSome k (λ bytes. GivesEntries (Ok a) (read bytes))) is.1 answer in
      ((is.0.0, (ap (wrong s (of_entry named bad)) e, tt)), e)

  pub reads_fault : (known : Option Files) (path : List ℕ) (e : EntryRefusal) (o : EarlyFault) → o ≡ early.Report s (of_refusal named bad e)
      → IfSome known (λ files. IsOpened told r files path)
      → IfSome (told r) (λ bytes. GivesEntries {S = A} (Err e) (read bytes)) → IfSome known (λ files. Read files path (Err o))
  reads_fault None path e o same is answer = tt
  reads_fault (Some files) path e o same is answer =
      let given = subst (λ k. IfSome k (λ bytes. GivesEntries {S = A} (Err e) (read bytes))) is.1 answer in
      subst (λ w. Read files path (Err w)) (sym same)
      (stops_later (opening files path ∷ []) (step_at files path ∷ []) (early.Report s (of_refusal named bad e)) is.0
      (stops_at (step_at files path) [] (early.Report s (of_refusal named bad e)) (refusal_read e (read (bytes_at files path)) given)))

-- A file that was not opened is not read.
pub reads_none : (here : Files → List ℕ → Step) (known : Option Files) (path : List ℕ) (o : EarlyFault) → IfSome known (λ files. Stops (opening files path ∷ []) o)
    → IfSome known (λ files. Stops (opening files path ∷ here files path ∷ []) o)
reads_none here None path o stop = tt
reads_none here (Some files) path o stop = stops_first (opening files path ∷ []) (here files path ∷ []) o stop

-- THE METADATA

abbrev most : ℕ
most = profile.metadata + 1

abbrev unread : List EarlyFault
unread = whole source.Report refused.Read ∷ early.Memory ∷ []

abbrev pub IsMetadata : {V : Type 0} → (V → List ℕ) → Files → List ℕ → Result V EarlyFault → Type 0
IsMetadata items files path result = Takes (metadata_steps files path) (λ v. items v ≡ front_at files path) result

pub metadata_read : {R V : Type 0} (told : R → Option (List ℕ)) (r : R) (items : V → List ℕ) (known : Option Files) (path : List ℕ) (result : Result V EarlyFault)
    → IfSome known (λ files. IsOpened told r files path) → IfSome (told r) (λ bytes. IfOk result (λ v. items v ≡ front_within profile bytes)) → IfErr result (λ o. IsAmong o unread)
    → IfSome known (λ files. IsMetadata items files path result)
metadata_read told r items None path result is bytes refusal = tt
metadata_read told r items (Some files) path (Ok v) is bytes refusal =
    ((is.0.0, (refl, tt)), subst (λ k. IfSome k (λ b. items v ≡ front_within profile b)) is.1 bytes)
metadata_read told r items (Some files) path (Err o) is bytes refusal =
    stops_later (opening files path ∷ []) (step None unread ∷ []) o is.0 (stops_at (step None unread) [] o (inr refusal))

pub metadata_none : (known : Option Files) (path : List ℕ) (o : EarlyFault) → IfSome known (λ files. Stops (opening files path ∷ []) o)
    → IfSome known (λ files. Stops (metadata_steps files path) o)
metadata_none None path o s = tt
metadata_none (Some files) path o s = stops_first (opening files path ∷ []) (step None unread ∷ []) o s

-- A reader read up to the limit.
pub read_most : {R : Type 0} (told : R → Option (List ℕ)) (r inner : R) (limit : ℕ) (start items : List ℕ) → inner ≡ r → limit ≡ most → start ≡ []
    → IfSome (option_map (take limit) (told inner)) (λ xs. items ≡ start ++ xs) → IfSome (told r) (λ bytes. items ≡ front_within profile bytes)
read_most told r inner limit start items same is empty h =
    let one = subst (λ x. IfSome (option_map (take limit) (told x)) (λ xs. items ≡ start ++ xs)) same h in
    let two = subst (λ k. IfSome (option_map (take k) (told r)) (λ xs. items ≡ start ++ xs)) is one in
    most_of (told r) (subst (λ s. IfSome (option_map (take most) (told r)) (λ xs. items ≡ s ++ xs)) empty two)
  where
    most_of : (known : Option (List ℕ)) → IfSome (option_map (take most) known) (λ xs. items ≡ xs) → IfSome known (λ bytes. items ≡ front_within profile bytes)
    most_of None e = tt
    most_of (Some bytes) e = e

-- TESTS OF WHAT WAS READ

module _ {A : Type 0} (answer : Result A Finding) where
  pub looks_value : (a : A) → answer ≡ Ok a → TakesTo {X = A} (looking answer ∷ []) answer (Ok a)
  looks_value a e = ((ap (wrong source.Report of_metadata) e, tt), e)

  pub looks_finding : (x : Finding) → answer ≡ Err x → TakesTo {X = A} (looking answer ∷ []) answer (Err (early.Report source.Report (of_metadata x)))
  looks_finding x e = stops_at (looking answer) [] (early.Report source.Report (of_metadata x)) (inl (ap (wrong source.Report of_metadata) e))

  pub looks_memory : TakesTo {X = A} (looking answer ∷ []) answer (Err (whole source.Report refused.Memory))
  looks_memory = stops_at (looking answer) [] (whole source.Report refused.Memory) (inr (inl refl))

  pub looks_whole : (f : MetaFault) → (f ≡ refused.Memory) ⊎ (answer ≡ Err (of_whole f)) → TakesTo {X = A} (looking answer ∷ []) answer (Err (whole source.Report f))
  looks_whole f (inl e) = subst (λ g. TakesTo {X = A} (looking answer ∷ []) answer (Err (whole source.Report g))) (sym e) looks_memory
  looks_whole f (inr e) = looks_finding (of_whole f) e

  url_looks : (f : MetaFault) → (f ≡ refused.Memory) ⊎ (answer ≡ Err (url_finding f)) → TakesTo {X = A} (looking answer ∷ []) answer (Err (early.Report source.Report (of_metadata (url_finding f))))
  url_looks f (inl e) = subst (λ g. TakesTo {X = A} (looking answer ∷ []) answer (Err (early.Report source.Report (of_metadata (url_finding g))))) (sym e) looks_memory
  url_looks f (inr e) = looks_finding (url_finding f) e

  pub looks_url : (f : MetaFault) (o : EarlyFault) → (o ≡ early.Report source.Report (of_metadata (url_finding f))) ⊎ (o ≡ whole source.Report refused.Memory)
      → (f ≡ refused.Memory) ⊎ (answer ≡ Err (url_finding f)) → TakesTo {X = A} (looking answer ∷ []) answer (Err o)
  looks_url f o (inl is) found = subst (λ p. TakesTo {X = A} (looking answer ∷ []) answer (Err p)) (sym is) (url_looks f found)
  looks_url f o (inr is) found = subst (λ p. TakesTo {X = A} (looking answer ∷ []) answer (Err p)) (sym is) looks_memory

-- ALL STEPS

-- The steps after the first ones.
abbrev from_report : Files → (base meta types : List ℕ) → List Step
from_report files base meta types = looking (report_at files base meta types) ∷ []

abbrev from_parameters : Files → (base meta types : List ℕ) → List Step
from_parameters files base meta types = parameters_steps files base (value_or None (url_at files meta)) ++ from_report files base meta types

abbrev from_url : Files → (base meta types : List ℕ) → List Step
from_url files base meta types = looking (url_at files meta) ∷ [] ++ from_parameters files base meta types

abbrev from_types : Files → (base meta types : List ℕ) → List Step
from_types files base meta types = types_steps files types ++ from_url files base meta types

abbrev pub HasTypes : Files → List ℕ → TypesValue → Type 0
HasTypes files types known = Passes (types_steps files types) × (types_at files types ≡ Ok known)

abbrev pub HasUrl : List ℕ → Option (List ℕ) → Type 0
HasUrl items url = Passes (looking (url_result profile items) ∷ []) × (url_result profile items ≡ Ok url)

abbrev pub HasParameters : Files → List ℕ → Option (List ℕ) → ParametersValue → Type 0
HasParameters files base url given = Passes (parameters_steps files base url) × (parameters_at files base url ≡ Ok given)

url_same : (files : Files) (meta items : List ℕ) → items ≡ front_at files meta → url_result profile items ≡ url_at files meta
url_same files meta items is = ap (url_result profile) is ∙ url_taken profile (bytes_at files meta)

url_named : (files : Files) (meta items : List ℕ) (url : Option (List ℕ)) → items ≡ front_at files meta → url_result profile items ≡ Ok url → value_or None (url_at files meta) ≡ url
url_named files meta items url is named = ap (value_or None) (sym (url_same files meta items is) ∙ named)

module _ (files : Files) (base meta types : List ℕ) where
  pub metadata_stops : (o : EarlyFault) → Stops (metadata_steps files meta) o → GivesReport files base meta types (Err o)
  metadata_stops o s = stops_first (metadata_steps files meta) (from_types files base meta types) o s

  pub types_stops : (items : List ℕ) (o : EarlyFault) → HasRead files meta items → Stops (types_steps files types) o → GivesReport files base meta types (Err o)
  types_stops items o read s =
      stops_later (metadata_steps files meta) (from_types files base meta types) o read.0
      (stops_first (types_steps files types) (from_url files base meta types) o s)

  pub url_stops : (items : List ℕ) (known : TypesValue) (o : EarlyFault) → HasRead files meta items → HasTypes files types known
      → Stops (looking (url_result profile items) ∷ []) o → GivesReport files base meta types (Err o)
  url_stops items known o read typed s =
      stops_later (metadata_steps files meta) (from_types files base meta types) o read.0
      (stops_later (types_steps files types) (from_url files base meta types) o typed.0
      (stops_first (looking (url_at files meta) ∷ []) (from_parameters files base meta types) o
      (subst (λ w. Stops (looking w ∷ []) o) (url_same files meta items read.1) s)))

  pub parameters_stops : (items : List ℕ) (known : TypesValue) (url : Option (List ℕ)) (o : EarlyFault) → HasRead files meta items → HasTypes files types known → HasUrl items url
      → Stops (parameters_steps files base url) o → GivesReport files base meta types (Err o)
  parameters_stops items known url o read typed named s =
      stops_later (metadata_steps files meta) (from_types files base meta types) o read.0
      (stops_later (types_steps files types) (from_url files base meta types) o typed.0
      (stops_later (looking (url_at files meta) ∷ []) (from_parameters files base meta types) o
      (subst (λ w. Passes (looking w ∷ [])) (url_same files meta items read.1) named.0)
      (stops_first (parameters_steps files base (value_or None (url_at files meta))) (from_report files base meta types) o
      (subst (λ u. Stops (parameters_steps files base u) o) (sym (url_named files meta items url read.1 named.1)) s))))

  -- The report, from the parts that were read.
  report_same : (items : List ℕ) (known : TypesValue) (url : Option (List ℕ)) (given : ParametersValue) → HasRead files meta items
      → HasTypes files types known → HasUrl items url → HasParameters files base url given
      → report_result profile given known items ≡ report_at files base meta types
  report_same items known url given read typed named parameters =
      let is_known : value_or [] (types_at files types) ≡ known = ap (value_or []) typed.1 in
      let is_given : parameters_of files base meta ≡ given =
      ap (λ u. value_or [] (parameters_at files base u)) (url_named files meta items url read.1 named.1) ∙ ap (value_or []) parameters.1 in
      ap (report_result profile given known) read.1 ∙ report_taken profile given known (bytes_at files meta)
      ∙ ap (λ g. report_result profile g known (bytes_at files meta)) (sym is_given)
      ∙ ap (λ k. report_result profile (parameters_of files base meta) k (bytes_at files meta)) (sym is_known)

  pub report_ends : (items : List ℕ) (known : TypesValue) (url : Option (List ℕ)) (given : ParametersValue) (result : Result ReportValue EarlyFault)
      → HasRead files meta items → HasTypes files types known → HasUrl items url → HasParameters files base url given
      → TakesTo (looking (report_result profile given known items) ∷ []) (report_result profile given known items) result
      → GivesReport files base meta types result
  report_ends items known url given result read typed named parameters takes =
      last result (subst (λ w. TakesTo {X = ReportValue} (looking w ∷ []) w result) (report_same items known url given read typed named parameters) takes)
    where
      looked : Passes (looking (url_at files meta) ∷ [])
      looked = subst (λ w. Passes (looking w ∷ [])) (url_same files meta items read.1) named.0

      found : Passes (parameters_steps files base (value_or None (url_at files meta)))
      found = subst (λ u. Passes (parameters_steps files base u)) (sym (url_named files meta items url read.1 named.1)) parameters.0

      last : (result : Result ReportValue EarlyFault) → TakesTo (from_report files base meta types) (report_at files base meta types) result
          → GivesReport files base meta types result
      last (Ok r) takes = (
        passes_both (metadata_steps files meta) (from_types files base meta types) read.0
            (passes_both (types_steps files types) (from_url files base meta types) typed.0
            (passes_both (looking (url_at files meta) ∷ []) (from_parameters files base meta types) looked
            (passes_both (parameters_steps files base (value_or None (url_at files meta))) (from_report files base meta types) found takes.0))),
        takes.1,
      )
      last (Err o) takes =
          stops_later (metadata_steps files meta) (from_types files base meta types) o read.0
          (stops_later (types_steps files types) (from_url files base meta types) o typed.0
          (stops_later (looking (url_at files meta) ∷ []) (from_parameters files base meta types) o looked
          (stops_later (parameters_steps files base (value_or None (url_at files meta))) (from_report files base meta types) o found takes)))

-- The same, for a folder whose files are known, with any metadata that was read as these bytes.
pub metadata_stop : (told : Option Files) (base meta types : List ℕ) (o : EarlyFault) → IfSome told (λ files. Stops (metadata_steps files meta) o)
    → IfSome told (λ files. GivesReport files base meta types (Err o))
metadata_stop None base meta types o s = tt
metadata_stop (Some files) base meta types o s = metadata_stops files base meta types o s

pub types_stop : (told : Option Files) (base types items : List ℕ) (o : EarlyFault)
    → IfSome told (λ files. Stops (types_steps files types) o) → IfSome told (λ files. GivesRest files base items types (Err o))
types_stop None base types items o s = tt
types_stop (Some files) base types items o s = λ meta read. types_stops files base meta types items o read s

pub url_stop : (told : Option Files) (base types items : List ℕ) (known : TypesValue) (o : EarlyFault)
    → IfSome told (λ files. HasTypes files types known) → Stops (looking (url_result profile items) ∷ []) o → IfSome told (λ files. GivesRest files base items types (Err o))
url_stop None base types items known o typed s = tt
url_stop (Some files) base types items known o typed s = λ meta read. url_stops files base meta types items known o read typed s

pub parameters_stop : (told : Option Files) (base types items : List ℕ) (known : TypesValue) (url : Option (List ℕ)) (o : EarlyFault)
    → IfSome told (λ files. HasTypes files types known) → HasUrl items url → IfSome told (λ files. Stops (parameters_steps files base url) o)
    → IfSome told (λ files. GivesRest files base items types (Err o))
parameters_stop None base types items known url o typed named s = tt
parameters_stop (Some files) base types items known url o typed named s = λ meta read. parameters_stops files base meta types items known url o read typed named s

pub report_stop : (told : Option Files) (base types items : List ℕ) (known : TypesValue) (url : Option (List ℕ)) (given : ParametersValue) (result : Result ReportValue EarlyFault)
    → IfSome told (λ files. HasTypes files types known) → HasUrl items url → IfSome told (λ files. HasParameters files base url given)
    → TakesTo (looking (report_result profile given known items) ∷ []) (report_result profile given known items) result
    → IfSome told (λ files. GivesRest files base items types result)
report_stop None base types items known url given result typed named parameters takes = tt
report_stop (Some files) base types items known url given result typed named parameters takes =
    λ meta read. report_ends files base meta types items known url given result read typed named parameters takes

-- The metadata was read, and then the rest.
pub with_rest : (told : Option Files) (base meta types items : List ℕ) (result : Result ReportValue EarlyFault)
    → IfSome told (λ files. HasRead files meta items) → IfSome told (λ files. GivesRest files base items types result)
    → IfSome told (λ files. GivesReport files base meta types result)
with_rest None base meta types items result read rest = tt
with_rest (Some files) base meta types items result read rest = rest meta read

-- THE PARAMETERS FILE

pub no_parameters : (known : Option Files) (base : List ℕ) (url : Option (List ℕ)) (given : ParametersValue) → url ≡ None → given ≡ []
    → IfSome known (λ files. IsParameters files base url (Ok given))
no_parameters None base url given none is = tt
no_parameters (Some files) base url given none is = subst (λ u. IsParameters files base u (Ok given)) (sym none) (tt, ap Ok (sym is))

pub no_path : (known : Option Files) (base url : List ℕ) (o : EarlyFault) → o ≡ early.Memory → IfSome known (λ files. IsParameters files base (Some url) (Err o))
no_path None base url o is = tt
no_path (Some files) base url o is =
    stops_at (opening files (base ++ url)) (reading source.Parameters (Some (base ++ url)) refused.BadParameter (parameters_at files base (Some url)) ∷ []) o (inr (inl is))

abbrev parameters_in : Files → List ℕ → Result ParametersValue BadRecord
parameters_in files path = parameters_entries (grid (bytes_at files path))

abbrev ReadAt : Files → List ℕ → Result ParametersValue EarlyFault → Type 0
ReadAt files path result =
    TakesTo (opening files path ∷ reading source.Parameters (Some path) refused.BadParameter (parameters_in files path) ∷ []) (parameters_in files path) result

pub at_path : (known : Option Files) (base url path : List ℕ) (result : Result ParametersValue EarlyFault) → path ≡ base ++ url → IfSome known (λ files. ReadAt files path result)
    → IfSome known (λ files. IsParameters files base (Some url) result)
at_path known base url path result is read = subst (λ p. IfSome known (λ files. ReadAt files p result)) is read
