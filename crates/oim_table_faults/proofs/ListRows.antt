-- All faults of a table, one bad row after another.
use Rattle.std.proofs.Common.{◌≡◌, ◌⊎◌, ◌∙◌, ◌++◌, ℕ, List, [], ◌∷◌, Option, Some, None, Result, Ok, Err, refl, sym, ap, subst, inl, inr, IfOk, IfSome, append_assoc, append-nil}
use Rattle.oim_records.specs.Grids.{grid}
use Rattle.oim_report.specs.ReportValue.{ReportValue}
use Rattle.oim_rows.specs.Header.{file_header_fault}
use Rattle.oim_rows.specs.Streams.{IsOutside}
use Rattle.oim_rows.specs.declared.fault.TableFault.{TableFault}
use Rattle.oim_table_faults.specs.Reading.{GivesBadRow, IsFaultList}
use Rattle.oim_table_faults.specs.TableFaults.{alone_or, bad_rows_of, faults_of_rows}
use Rattle.oim_table_faults.specs.state.Rows.{GivesRest, HasListed}

faults_of-append : (a b : List (List TableFault)) → faults_of_rows (a ++ b) ≡ faults_of_rows a ++ faults_of_rows b
faults_of-append [] b = refl
faults_of-append (row ∷ a) b = ap (λ t. row ++ t) (faults_of-append a b) ∙ sym (append_assoc row (faults_of_rows a) (faults_of_rows b))

pub none_listed : (o : Option (List (List TableFault))) → IfSome o (λ rows. HasListed rows o [])
none_listed None = tt
none_listed (Some rows) = ([], rows, refl, refl, refl)

-- What is left is known.
left_is : (o : Option (List (List TableFault))) (later : List (List TableFault)) (P : List (List TableFault) → Type 0) → o ≡ Some later → IfSome o P → P later
left_is o later P is h = subst (λ (q : Option (List (List TableFault))). IfSome q P) is h

one_listed : (table : ℕ) (rows : List (List TableFault)) (old new : Option (List (List TableFault))) (all more faults : List TableFault) → HasListed rows old all
    → IfSome old (λ later. GivesBadRow table later (Ok (Some faults)) new) → more ≡ all ++ faults → HasListed rows new more
one_listed table rows old None all more faults (front, later, known, split, are) gives added = absurd (left_is old later (λ rest. GivesBadRow table rest (Ok (Some faults)) None) known gives)
one_listed table rows old (Some next) all more faults (front, later, known, split, are) gives added =
    let first : later ≡ faults ∷ next = left_is old later (λ rest. GivesBadRow table rest (Ok (Some faults)) (Some next)) known gives in (
      front ++ faults ∷ [],
      next,
      refl,
      split ∙ ap (λ t. front ++ t) first ∙ sym (append_assoc front (faults ∷ []) next),
      added ∙ ap (λ t. t ++ faults) are ∙ ap (λ t. faults_of_rows front ++ t) (sym (append-nil faults)) ∙ sym (faults_of-append front (faults ∷ [])),
    )

pub next_listed : (table : ℕ) (o old new : Option (List (List TableFault))) (all more faults : List TableFault) → IfSome o (λ rows. HasListed rows old all)
    → IfSome old (λ later. GivesBadRow table later (Ok (Some faults)) new) → more ≡ all ++ faults → IfSome o (λ rows. HasListed rows new more)
next_listed table None old new all more faults listed gives added = tt
next_listed table (Some rows) old new all more faults listed gives added = one_listed table rows old new all more faults listed gives added

pub all_listed : (table : ℕ) (o old new : Option (List (List TableFault))) (all : List TableFault) → IfSome o (λ rows. HasListed rows old all)
    → IfSome old (λ later. GivesBadRow table later (Ok None) new) → IfSome o (λ rows. GivesRest table rows all)
all_listed table None old new all listed gives = tt
all_listed table (Some rows) old new all (front, later, known, split, are) gives =
    let none : later ≡ [] = left_is old later (λ rest. rest ≡ []) known gives in
    inl (are ∙ ap faults_of_rows (sym (split ∙ ap (λ t. front ++ t) none ∙ append-nil front)))

pub failure_listed : (table : ℕ) (o old new : Option (List (List TableFault))) (all more : List TableFault) (e : TableFault) → IfSome o (λ rows. HasListed rows old all)
    → IfSome old (λ later. GivesBadRow table later (Err e) new) → more ≡ all ++ e ∷ [] → IfSome o (λ rows. GivesRest table rows more)
failure_listed table None old new all more e listed gives added = tt
failure_listed table (Some rows) old new all more e (front, later, known, split, are) gives added =
    let outside : IsOutside table e = left_is old later (λ rest. IsOutside table e) known gives in
    inr (front, later, e, split, outside, added ∙ ap (λ t. t ++ e ∷ []) are)

-- THE FILE

listed_bytes : (report : ReportValue) (table limit : ℕ) (bytes : List ℕ) (faults : List TableFault) → file_header_fault report table (grid bytes) ≡ None
    → GivesRest table (bad_rows_of report table limit (grid bytes)) faults → IsFaultList report table limit bytes faults
listed_bytes report table limit bytes faults header (inl all) =
    inl (all ∙ sym (ap (λ (o : Option TableFault). alone_or o (faults_of_rows (bad_rows_of report table limit (grid bytes)))) header))
listed_bytes report table limit bytes faults header (inr (front, rest, e, split, outside, are)) =
    inr (record { front = front; rest = rest; failure = e; outside = outside; begins = inr (header, split); faults_are = are })

-- The rows of a file whose header has no fault.
pub listed_file : {E : Type 0} (report : ReportValue) (table limit read : ℕ) (known : Option (List ℕ)) (left : Option (List (List TableFault))) (result : Result (List TableFault) E) → read ≡ table
    → IfSome known (λ bytes. left ≡ Some (bad_rows_of report table limit (grid bytes))) → IfSome known (λ bytes. file_header_fault report table (grid bytes) ≡ None)
    → IfSome left (λ rows. IfOk result (λ faults. GivesRest read rows faults)) → IfSome known (λ bytes. IfOk result (λ faults. IsFaultList report table limit bytes faults))
listed_file report table limit read None left result same rows header gives = tt
listed_file report table limit read (Some bytes) left (Err e) same rows header gives = tt
listed_file report table limit read (Some bytes) left (Ok faults) same rows header gives =
    let rest : GivesRest read (bad_rows_of report table limit (grid bytes)) faults = left_is left (bad_rows_of report table limit (grid bytes)) (λ rs. GivesRest read rs faults) rows gives in
    listed_bytes report table limit bytes faults header (subst (λ (t : ℕ). GivesRest t (bad_rows_of report table limit (grid bytes)) faults) same rest)

refused_bytes : (report : ReportValue) (table limit : ℕ) (bytes : List ℕ) (faults : List TableFault) (e : TableFault) → IsOutside table e ⊎ (file_header_fault report table (grid bytes) ≡ Some e)
    → faults ≡ alone_or (Some e) [] → IsFaultList report table limit bytes faults
refused_bytes report table limit bytes faults e (inl outside) are =
    inr (record { front = []; rest = []; failure = e; outside = outside; begins = inl refl; faults_are = are })
refused_bytes report table limit bytes faults e (inr header) are =
    inl (are ∙ sym (ap (λ (o : Option TableFault). alone_or o (faults_of_rows (bad_rows_of report table limit (grid bytes)))) header))

-- A file whose header has a fault, or was not read.
pub refused_file : {E : Type 0} (report : ReportValue) (table limit : ℕ) (known : Option (List ℕ)) (e : TableFault) (result : Result (List TableFault) E)
    → IfSome known (λ bytes. IsOutside table e ⊎ (file_header_fault report table (grid bytes) ≡ Some e)) → IfOk result (λ faults. faults ≡ alone_or (Some e) [])
    → IfSome known (λ bytes. IfOk result (λ faults. IsFaultList report table limit bytes faults))
refused_file report table limit None e result why are = tt
refused_file report table limit (Some bytes) e (Err x) why are = tt
refused_file report table limit (Some bytes) e (Ok faults) why are = refused_bytes report table limit bytes faults e why are
