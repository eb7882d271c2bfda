-- The facts of a row, cell by cell.
use Rattle.std.proofs.Common.{◌≡◌, ◌<◌, ◌≤◌, ◌+◌, ◌∙◌, ℕ, List, [], ◌∷◌, ◌++◌, Option, Some, None, Result, Ok, Err, IsOk, is_ok, inl, inr, refl, sym, ap, append_assoc, arith, drop, drop-cons, get_or, length, suc}
use Rattle.std.proofs.lemmas.List.{drop_all}
use Rattle.oim_resolve.specs.FactParts.{FactParts as Fact}
use Rattle.oim_resolve.specs.declared.fact.Row.{Row}
use Rattle.oim_report.specs.ReportValue.{ReportValue}
use Rattle.oim_rows.specs.Header.{Header, file_fault}
use Rattle.oim_rows.specs.RowFacts.{fact_at, facts_from, in_front}
use Rattle.oim_rows.specs.Streams.{OrNoMemory}
use Rattle.oim_rows.specs.declared.fault.TableFault.{TableFault}
use Rattle.oim_rows.specs.declared.fault.TableKind.TheVariants as kind

-- These facts, then those of the result.
abbrev pub after_these : List Fact → Result (List Fact) TableFault → Result (List Fact) TableFault
after_these fs (Ok more) = Ok (fs ++ more)
after_these fs (Err e) = Err e

pub after_these-none : (r : Result (List Fact) TableFault) → after_these [] r ≡ r
after_these-none (Ok more) = refl
after_these-none (Err e) = refl

-- A cell without a fact, with one, and with a fault.
pub after_these-pass : (fs : List Fact) (o : Result (Option Fact) TableFault) (r : Result (List Fact) TableFault) → o ≡ Ok None → after_these fs (in_front o r) ≡ after_these fs r
after_these-pass fs o r e = rw e refl

pub after_these-fact : (fs : List Fact) (f : Fact) (o : Result (Option Fact) TableFault) (r : Result (List Fact) TableFault) → o ≡ Ok (Some f)
    → after_these fs (in_front o r) ≡ after_these (fs ++ f ∷ []) r
after_these-fact fs f o (Ok more) e = rw e (ap (λ (t : List Fact). Ok t) (sym (append_assoc fs (f ∷ []) more)))
after_these-fact fs f o (Err x) e = rw e refl

pub after_these-fault : (fs : List Fact) (o : Result (Option Fact) TableFault) (r : Result (List Fact) TableFault) (x : TableFault) → o ≡ Err x → after_these fs (in_front o r) ≡ Err x
after_these-fault fs o r x e = rw e refl

-- The cell at an index is the first of those from it on.
pub facts_from-next : (report : ReportValue) (table : ℕ) (row : Row) (i : ℕ) (h rest : Header) (o : Option ℕ) → drop i h ≡ o ∷ rest
    → facts_from report table row i (drop i h) ≡ in_front (fact_at report table row i o) (facts_from report table row (i + 1) rest)
facts_from-next report table row i h rest o e = rw e refl

pub facts_from-at : (report : ReportValue) (table : ℕ) (row : Row) (i : ℕ) (h : Header) (o d : Option ℕ) → i < length h → o ≡ get_or h i d
    → facts_from report table row i (drop i h) ≡ in_front (fact_at report table row i o) (facts_from report table row (i + 1) (drop (i + 1) h))
facts_from-at report table row i h o d lt is =
    let step : suc i ≡ i + 1 = omega arith in
    facts_from-next report table row i h (drop (i + 1) h) o (drop-cons h i d lt ∙ ap (λ (n : ℕ). get_or h i d ∷ drop n h) step ∙ ap (λ (p : Option ℕ). p ∷ drop (i + 1) h) (sym is))

-- A cell has no fault, or it has one.
pub fact_is : (table : ℕ) (o : Option Fact) (answer : Result (Option Fact) TableFault) → OrNoMemory table (Ok o) answer → answer ≡ Ok o
fact_is table o answer (inl memory) = absurd (cc memory)
fact_is table o answer (inr is) = sym is

pub one_checked : (fs : List Fact) (o : Option Fact) (answer : Result (Option Fact) TableFault) (all more rest : Result (List Fact) TableFault) → answer ≡ Ok o
    → all ≡ after_these fs more → more ≡ in_front answer rest → (gs : List Fact) × (all ≡ after_these gs rest)
one_checked fs None answer all more rest is so next = (fs, so ∙ ap (after_these fs) next ∙ after_these-pass fs answer rest is)
one_checked fs (Some f) answer all more rest is so next = (fs ++ f ∷ [], so ∙ ap (after_these fs) next ∙ after_these-fact fs f answer rest is)

pub one_failed : (table : ℕ) (fs : List Fact) (e : TableFault) (answer : Result (Option Fact) TableFault) (all more rest : Result (List Fact) TableFault) → OrNoMemory table (Err e) answer
    → all ≡ after_these fs more → more ≡ in_front answer rest → OrNoMemory table (Err e) all
one_failed table fs e answer all more rest (inl memory) so next = let short : e ≡ file_fault table kind.Memory = cc memory in inl (ap Err short)
one_failed table fs e answer all more rest (inr is) so next = inr (sym (so ∙ ap (after_these fs) next ∙ after_these-fault fs answer rest e (sym is)))

pub all_checked : (fs : List Fact) (report : ReportValue) (table : ℕ) (row : Row) (i : ℕ) (h : Header) (all : Result (List Fact) TableFault) → length h ≤ i
    → all ≡ after_these fs (facts_from report table row i (drop i h)) → IsOk all
all_checked fs report table row i h all le so =
    ap is_ok (so ∙ ap (λ (t : Header). after_these fs (facts_from report table row i t)) (drop_all i h le))
