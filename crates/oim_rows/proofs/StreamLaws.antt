-- One more row of a table's stream.
use Rattle.std.proofs.Common.{◌≡◌, ◌⊎◌, ◌+◌, ℕ, Bool, List, [], ◌∷◌, true, false, Option, Some, None, Result, Ok, Err, refl, sym, ap, subst, inl, inr, option_map, IfOk, IfSome, MatchResult, OnSome}
use Rattle.oim_records.specs.Grids.{Field, Record, grid}
use Rattle.oim_records.specs.Reads.{StartsFile, TakesRecord}
use Rattle.oim_resolve.specs.FactParts.{FactParts as Fact}
use Rattle.oim_report.specs.Readers.{columns_of}
use Rattle.oim_report.specs.ReportValue.{ReportValue}
use Rattle.oim_records.specs.declared.read_fault.ReadFault.{ReadFault}
use Rattle.oim_records.specs.declared.read_fault.ReadFault.TheVariants as read
use Rattle.oim_rows.specs.Header.{Header, file_fault, file_header_fault, header_fault, header_of}
use Rattle.oim_rows.specs.declared.fault.TableKind.TheVariants as kind
use Rattle.oim_rows.specs.RowFacts.{TableHeaderValue, checked, facts_from, id_place_of, ids_after, row_fault, row_of, row_result}
use Rattle.oim_rows.specs.Streams.{GivesNext, IsOutside, OrNoMemory, Stream, fault_of_read, TakesHeader, stream_from, stream_of}
use Rattle.oim_rows.specs.state.Streams.{early_header_fault, early_row_answer, row_answer}
use Rattle.oim_rows.specs.declared.fault.TableFault.{TableFault}

pub gives_end : (table n : ℕ) (g : TableHeaderValue) (ids : List Field) (old new : Option (List Record)) (r : Record) (after : Option Stream) → TakesRecord old false r new
    → IfSome old (λ rs. GivesNext table (stream_from g n ids rs) (Ok None) after)
unfolding stream_from
gives_end table n g ids None new r after h = tt
gives_end table n g ids (Some []) new r after h = refl
gives_end table n g ids (Some (x ∷ rs)) new r after h = cc h.0

ok_result : (table : ℕ) (facts : List Fact) (answer : Result (List Fact) TableFault) → OrNoMemory table (Ok facts) answer → answer ≡ Ok facts
ok_result table facts answer (inl h) = cc h
ok_result table facts answer (inr h) = sym h

pub gives_row : (n : ℕ) (g : TableHeaderValue) (ids ids2 : List Field) (old new : Option (List Record)) (r : Record) (facts : List Fact) → TakesRecord old true r new
    → OrNoMemory g.table (Ok facts) (row_result g n ids r) → ids2 ≡ ids_after (id_place_of g) ids r
    → IfSome old (λ rs. GivesNext g.table (stream_from g n ids rs) (Ok (Some facts)) (option_map (stream_from g (n + 1) ids2) new))
unfolding stream_from
gives_row n g ids ids2 None new r facts h o e = tt
gives_row n g ids ids2 (Some []) new r facts h o e = cc h.0
gives_row n g ids ids2 (Some (x ∷ rs)) new r facts h o e = rw (h.2, e, ← h.1, ok_result g.table facts _ o) refl

pub gives_fault : (n : ℕ) (g : TableHeaderValue) (ids : List Field) (old new : Option (List Record)) (r : Record) (x : TableFault) (after : Option Stream) → TakesRecord old true r new
    → OrNoMemory g.table (Err x) (row_result g n ids r)
    → IfSome old (λ rs. GivesNext g.table (stream_from g n ids rs) (Err x) after)
unfolding stream_from
gives_fault n g ids None new r x after h o = tt
gives_fault n g ids (Some []) new r x after h o = cc h.0
gives_fault n g ids (Some (y ∷ rs)) new r x after h (inl o) = inl (inr (cc o))
gives_fault n g ids (Some (y ∷ rs)) new r x after h (inr o) = inr (rw (← h.1, ← o) refl)

pub outside : (table : ℕ) (f : ReadFault) → IsOutside table (fault_of_read table f)
outside table read.Read = inl refl
outside table read.Memory = inr refl

-- The result for the cells of a row without other faults is the result for the row.
pub cells_answer : (g p : TableHeaderValue) (n : ℕ) (ids : List Field) (r : Record) (result : Result (List Fact) TableFault) → row_fault g n ids r ≡ None → p ≡ g
    → OrNoMemory p.table result (facts_from p.report p.table (row_of p n r) 0 p.columns) → OrNoMemory g.table result (row_result g n ids r)
cells_answer g p n ids r result none same given =
    subst (λ o. OrNoMemory g.table result (checked o (facts_from g.report g.table (row_of g n r) 0 g.columns))) (sym none)
    (subst (λ (q : TableHeaderValue). OrNoMemory q.table result (facts_from q.report q.table (row_of q n r) 0 q.columns)) same given)

known_or_not : {A : Type 0} (o : Option A) (P : A → Type 0) → ((a : A) → P a) → IfSome o P
known_or_not None P h = tt
known_or_not (Some a) P h = h a

-- A fault of the row itself.
pub early_fault : (o : Option TableFault) (x : TableFault) → IfSome o (λ f. ◌≡◌ {A = Result (List Fact) TableFault} (Err x) (Err f))
    → IfSome (option_map Err o) (λ a. ◌≡◌ {A = Result (Option (List Fact)) TableFault} (Err x) a)
early_fault None x h = tt
early_fault (Some f) x h = ap row_answer h

-- The reader's result for a row, and what follows from it.
pub gives_answer : (n : ℕ) (g : TableHeaderValue) (ids ids2 : List Field) (old new : Option (List Record)) (r : Record) (found : Result Bool ReadFault) (result : Result (Option (List Fact)) TableFault)
    → IfOk found (λ b. TakesRecord old b r new) → IfSome (early_row_answer g n ids found r) (λ a. result ≡ a)
    → (found ≡ Ok true → OrNoMemory g.table result (row_answer (row_result g n ids r))) → IfOk result (λ o. OnSome o (ids2 ≡ ids_after (id_place_of g) ids r))
    → IfSome old (λ rs. GivesNext g.table (stream_from g n ids rs) result (option_map (stream_from g (n + 1) ids2) new))
gives_answer n g ids ids2 old new r (Err f) result took early row kept =
    known_or_not old (λ rs. GivesNext g.table (stream_from g n ids rs) result (option_map (stream_from g (n + 1) ids2) new))
    (λ rs. subst (λ x. GivesNext g.table (stream_from g n ids rs) x (option_map (stream_from g (n + 1) ids2) new)) (sym early) (inl (outside g.table f)))
gives_answer n g ids ids2 old new r (Ok false) result took early row kept =
    subst (λ x. IfSome old (λ rs. GivesNext g.table (stream_from g n ids rs) x (option_map (stream_from g (n + 1) ids2) new))) (sym early)
    (gives_end g.table n g ids old new r (option_map (stream_from g (n + 1) ids2) new) took)
gives_answer n g ids ids2 old new r (Ok true) result took early row kept = by result (row refl) kept
  where
    by : (x : Result (Option (List Fact)) TableFault) → OrNoMemory g.table x (row_answer (row_result g n ids r)) → IfOk x (λ o. OnSome o (ids2 ≡ ids_after (id_place_of g) ids r))
        → IfSome old (λ rs. GivesNext g.table (stream_from g n ids rs) x (option_map (stream_from g (n + 1) ids2) new))
    by (Ok (Some facts)) o e = gives_row n g ids ids2 old new r facts took (given (row_result g n ids r) facts o) e
      where
        given : (a : Result (List Fact) TableFault) (facts : List Fact) → OrNoMemory g.table (Ok (Some facts)) (row_answer a) → OrNoMemory g.table (Ok facts) a
        given a facts (inl e) = cc e
        given (Ok fs) facts (inr e) = inr (cc e)
        given (Err x) facts (inr e) = cc e
    by (Ok None) o e = absurd (never (row_result g n ids r) o)
      where
        never : (a : Result (List Fact) TableFault) → OrNoMemory g.table (Ok None) (row_answer a) → ⊥
        never a (inl e) = cc e
        never (Ok fs) (inr e) = cc e
        never (Err x) (inr e) = cc e
    by (Err x) o e = gives_fault n g ids old new r x (option_map (stream_from g (n + 1) ids2) new) took (faulty (row_result g n ids r) x o)
      where
        faulty : (a : Result (List Fact) TableFault) (x : TableFault) → OrNoMemory g.table (Err x) (row_answer a) → OrNoMemory g.table (Err x) a
        faulty a x (inl e) = inl (cc e)
        faulty (Ok fs) x (inr e) = cc e
        faulty (Err y) x (inr e) = inr (cc e)

pub takes_header : (report : ReportValue) (table : ℕ) (old new : Option (List Record)) (r : Record) (h : Header) → TakesRecord old true r new → header_fault report table r ≡ None
    → h ≡ header_of (columns_of report table) r
    → TakesHeader report table old h new
takes_header report table None new r h took none e = tt
takes_header report table (Some []) new r h took none e = cc took.0
takes_header report table (Some (x ∷ rs)) new r h took none e = rw (← took.1) (none, e, took.2)

pub faulty_header : (report : ReportValue) (table : ℕ) (old new : Option (List Record)) (r : Record) (x : TableFault) → TakesRecord old true r new → header_fault report table r ≡ Some x
    → IfSome old (λ rs. file_header_fault report table rs ≡ Some x)
faulty_header report table None new r x took e = tt
faulty_header report table (Some []) new r x took e = cc took.0
faulty_header report table (Some (y ∷ rs)) new r x took e = rw (← took.1) e

pub no_header : (report : ReportValue) (table : ℕ) (old new : Option (List Record)) (r : Record) → TakesRecord old false r new
    → IfSome old (λ rs. file_header_fault report table rs ≡ Some (file_fault table kind.NoHeader))
no_header report table None new r took = tt
no_header report table (Some []) new r took = refl
no_header report table (Some (y ∷ rs)) new r took = cc took.0

-- The reader's result for the header.
took_one : (old new : Option (List Record)) (r : Record) (found : Result Bool ReadFault) → IfOk found (λ b. TakesRecord old b r new) → found ≡ Ok true → TakesRecord old true r new
took_one old new r found h e = subst (λ x. IfOk x (λ b. TakesRecord old b r new)) e h

pub header_taken : (report : ReportValue) (table : ℕ) (old new : Option (List Record)) (r : Record) (h : Header) (found : Result Bool ReadFault) → IfOk found (λ b. TakesRecord old b r new)
    → found ≡ Ok true → header_fault report table r ≡ None → h ≡ header_of (columns_of report table) r → TakesHeader report table old h new
header_taken report table old new r h found took is none e = takes_header report table old new r h (took_one old new r found took is) none e

pub header_refused : (report : ReportValue) (table : ℕ) (old new : Option (List Record)) (r : Record) (found : Result Bool ReadFault) (x : TableFault) → IfOk found (λ b. TakesRecord old b r new)
    → IfSome (early_header_fault report table found r) (λ e. ◌≡◌ {A = Result Header TableFault} (Err x) (Err e))
    → (found ≡ Ok true → (x ≡ file_fault table kind.Memory) ⊎ (header_fault report table r ≡ Some x))
    → IsOutside table x ⊎ IfSome old (λ rs. file_header_fault report table rs ≡ Some x)
header_refused report table old new r (Err f) x took early late = inl (subst (λ y. IsOutside table y) (sym (cc early)) (outside table f))
header_refused report table old new r (Ok false) x took early late = inr (subst (λ y. IfSome old (λ rs. file_header_fault report table rs
    ≡ Some y)) (sym (cc early)) (no_header report table old new r took))
header_refused report table old new r (Ok true) x took early late = by (late refl)
  where
    by : ((x ≡ file_fault table kind.Memory) ⊎ (header_fault report table r ≡ Some x)) → IsOutside table x ⊎ IfSome old (λ rs. file_header_fault report table rs ≡ Some x)
    by (inl e) = inl (inr e)
    by (inr e) = inr (faulty_header report table old new r x took e)

-- What holds for the records holds for the bytes that they were made of.
pub IfSome-mapped : {A B : Type 0} (f : A → B) (o : Option A) (P : B → Type 0) → IfSome (option_map f o) P → IfSome o (λ x. P (f x))
IfSome-mapped f None P h = tt
IfSome-mapped f (Some x) P h = h

opened_at : (report : ReportValue) (table limit : ℕ) (rs : List Record) (new : Option (List Record)) (h : Header) → TakesHeader report table (Some rs) h new
    → (option_map (stream_from (record { report = report; table = table; limit = limit; columns = h }) 1 []) new ≡ Some (stream_of report table limit rs)) × (file_header_fault report table rs ≡ None)
opened_at report table limit [] new h took = absurd took
opened_at report table limit (r ∷ rows) new h took = (rw (took.2, took.1, took.0) refl, took.0)

-- The records of a file that is read from its start.
pub starts_known : (known : Option (List ℕ)) (left : Option (List Record)) → left ≡ option_map grid known → StartsFile known left
starts_known None left e = tt
starts_known (Some bytes) left e = e

-- The rows under a header without a fault are those of the table's stream.
pub opened_stream : (report : ReportValue) (table limit : ℕ) (known : Option (List ℕ)) (old new : Option (List Record)) (h : Header) (g : TableHeaderValue) (ids : List Field) → StartsFile known old
    → TakesHeader report table old h new → g ≡ record { report = report; table = table; limit = limit; columns = h } → ids ≡ []
    → IfSome known (λ bytes. (option_map (stream_from g 1 ids) new ≡ Some (stream_of report table limit (grid bytes))) × (file_header_fault report table (grid bytes) ≡ None))
opened_stream report table limit None old new h g ids e took reading none = tt
opened_stream report table limit (Some bytes) old new h g ids e took reading none = rw (reading, none) (opened_at report table limit (grid bytes) new h (rw e at took))

-- What holds for a result, if it is Ok.
pub when_ok : {A E : Type 0} (r : Result A E) (P : A → Type 0) (Q : E → Type 0) → MatchResult r P Q → IfOk r P
when_ok (Ok a) P Q h = h
when_ok (Err e) P Q h = tt

-- A header was refused, in terms of the bytes of the file.
pub refused_header : (report : ReportValue) (table : ℕ) (file : Option (List ℕ)) (records : Option (List Record)) (e : TableFault) → StartsFile file records
    → IsOutside table e ⊎ IfSome records (λ rs. file_header_fault report table rs ≡ Some e)
    → IfSome file (λ bytes. IsOutside table e ⊎ (file_header_fault report table (grid bytes) ≡ Some e))
refused_header report table None records e is h = tt
refused_header report table (Some bytes) records e is (inl o) = inl o
refused_header report table (Some bytes) records e is (inr h) = inr (subst (λ x. IfSome x (λ rs. file_header_fault report table rs ≡ Some e)) is h)

-- The reader failed at the start of a file, or memory ran out there.
pub refused_start : (report : ReportValue) (table : ℕ) (file : Option (List ℕ)) (f : ReadFault) (e : TableFault) → e ≡ fault_of_read table f
    → IfSome file (λ bytes. IsOutside table e ⊎ (file_header_fault report table (grid bytes) ≡ Some e))
refused_start report table None f e is = tt
refused_start report table (Some bytes) f e is = inl (subst (λ x. IsOutside table x) (sym is) (outside table f))

-- Memory ran out for a table, whatever its file.
pub refused_memory : (report : ReportValue) (table : ℕ) (file : Option (List ℕ)) (e : TableFault) → e ≡ file_fault table kind.Memory
    → IfSome file (λ bytes. IsOutside table e ⊎ (file_header_fault report table (grid bytes) ≡ Some e))
refused_memory report table None e is = tt
refused_memory report table (Some bytes) e is = inl (inr is)
