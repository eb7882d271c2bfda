-- A row whose facts are written in parts.
use Rattle.std.proofs.Common.{◌≡◌, ◌≤◌, ◌<◌, ℕ, ◌+◌, ◌-◌, List, [], ◌++◌, drop, length, take, option_map, Option, Some, None, IfSome, IsSome, Result, Ok, Err, refl, sym, ap, subst, ◌∙◌, arith, append_assoc, length-append, take_all, inl, inr}
use Rattle.std.proofs.lemmas.List.{drop-drop, drop_at, length-drop, length-take-le, take-append-drop, take_at}
use Rattle.std.proofs.Math.Seq.{take-add}
use mathlib.Core.List.{IsPrefix}
use Rattle.oim_json.specs.Blocks.{behind_commas, ends_from}
use Rattle.oim_json.proofs.Blocks.{ends_length}
use Rattle.oim_resolve.specs.FactParts.{FactParts as Fact}
use Rattle.oim_fast.specs.Facts.{GiveFacts, HasPart, WritesFacts, WritesPart, fact_columns_in, facts_of_row}
use Rattle.oim_fast.proofs.GiveLaws.{give_append, give_length, give_same, give_split}
use Rattle.oim_fast.proofs.LoopLaws.{facts_found}
use Rattle.oim_row.specs.Rows.{RowValue}
use Rattle.oim_rows.specs.Header.{file_fault}
use Rattle.oim_records.specs.Grids.{Record}
use Rattle.oim_rows.specs.RowFacts.{IsTextRecord, TableHeaderValue}
use Rattle.oim_rows.specs.Streams.{OrNoMemory}
use Rattle.oim_rows.specs.declared.fault.TableFault.{TableFault}
use Rattle.oim_rows.specs.declared.fault.TableKind.TheVariants as kind
use Rattle.oim_decode.specs.state.RowParts.{BeginsTexts, ContinuesTexts, IsLeft, IsRestOf, RowRestValue, WritesRest, row_columns, with_rest}
use Rattle.oim_decode.specs.state.RowTexts.{facts_of_answer}

-- The facts of a row that is written in parts.
pub row_facts : (x : RowValue) (rest : RowRestValue) (r : IsRestOf x rest) → facts_of_row x ≡ Ok (r.front ++ rest.facts)
row_facts x rest r =
    facts_found x 0 x.header.columns (r.front ++ rest.facts)
    (subst (λ (cs : List ℕ). GiveFacts x cs (r.front ++ rest.facts)) (take-append-drop rest.next (row_columns x))
    (give_append x (take rest.next (row_columns x)) (drop rest.next (row_columns x)) r.front rest.facts r.before r.behind))

-- All columns were written.
pub all_begun : (x : RowValue) (next : ℕ) (old new noted notes : List ℕ) → length (row_columns x) ≤ next → WritesPart x 0 next old new noted notes → WritesFacts x old new noted notes
all_begun x next old new noted notes le w =
    let all : length (row_columns x) ≤ next - 0 = omega (arith, le) in
    record {
      facts = w.facts;
      are = facts_found x 0 x.header.columns w.facts (subst (λ (cs : List ℕ). GiveFacts x cs w.facts) (take_all (next - 0) (row_columns x) all) w.are);
      text = w.text;
      ends = w.ends;
    }

pub all_continued : (x : RowValue) (rest : RowRestValue) (next : ℕ) (old new noted notes : List ℕ) → length (row_columns x) ≤ next → IsRestOf x rest
    → WritesPart x rest.next next old new noted notes → ContinuesTexts x rest None old new noted notes
all_continued x rest next old new noted notes le r w =
    let all : length (drop rest.next (row_columns x)) ≤ next - rest.next = omega (arith, le, length-drop rest.next (row_columns x)) in
    let same : w.facts ≡ rest.facts =
    give_same x (drop rest.next (row_columns x)) w.facts rest.facts
    (subst (λ (cs : List ℕ). GiveFacts x cs w.facts) (take_all (next - rest.next) (drop rest.next (row_columns x)) all) w.are) r.behind in
    (w.text ∙ ap (λ (fs : List Fact). old ++ behind_commas fs) same, w.ends ∙ ap (λ (fs : List Fact). noted ++ ends_from (length old) fs) same)

-- The plain way writes what is left.
pub rest_continued : (x : RowValue) (rest : RowRestValue) (old new noted notes : List ℕ) → IsRestOf x rest → WritesRest (facts_of_row x) rest.written old new noted notes
    → ContinuesTexts x rest None old new noted notes
rest_continued x rest old new noted notes r w =
    let all : w.0 ≡ r.front ++ rest.facts = let both : Ok w.0 ≡ Ok (r.front ++ rest.facts) = sym w.1 ∙ row_facts x rest r in cc both in
    let same : drop rest.written w.0 ≡ rest.facts = ap (drop rest.written) all ∙ drop_at r.front rest.facts rest.written (sym r.count) in
    (w.2 ∙ ap (λ (fs : List Fact). old ++ behind_commas fs) same, w.3 ∙ ap (λ (fs : List Fact). noted ++ ends_from (length old) fs) same)

-- It fails only if memory runs out.
pub rest_fails : (x : RowValue) (rest : RowRestValue) (e : TableFault) → IsRestOf x rest → OrNoMemory x.header.table (Err e) (facts_of_row x) → e ≡ file_fault x.header.table kind.Memory
rest_fails x rest e r (inl memory) = cc memory
rest_fails x rest e r (inr is) = let both : Err e ≡ Ok (r.front ++ rest.facts) = is ∙ row_facts x rest r in absurd (cc both)

-- The first `count` of the facts `all` were written. What is left of them is from the next column
-- on, if there is one.
pub record Parted (x : RowValue) (all : List Fact) (written : ℕ) (next : Option ℕ) (count : ℕ) (old new noted notes : List ℕ) : Type 0 where
  pub text : new ≡ old ++ behind_commas (take count all)
  pub ends : notes ≡ noted ++ ends_from (length old) (take count all)
  pub room : IfSome next (λ n. written + count ≤ n)
  pub rest : IfSome next (λ n. IsRestOf x (record { next = n; written = written + count; facts = drop count all }) × (1048576 < length new))
  pub whole : with_rest (take count all) (option_map (λ n. record { next = n; written = written + count; facts = drop count all }) next) ≡ all

counted : (n count : ℕ) (noted notes : List ℕ) (part : List Fact) → notes ≡ noted ++ ends_from n part → count ≡ length notes - length noted → count ≡ length part
counted n count noted notes part ends is = omega (arith, ap length ends, length-append noted (ends_from n part), ends_length n part, is)

parted_all : (x : RowValue) (all : List Fact) (written count : ℕ) (old new noted notes : List ℕ) → new ≡ old ++ behind_commas all → notes ≡ noted ++ ends_from (length old) all
    → count ≡ length notes - length noted → Parted x all written None count old new noted notes
parted_all x all written count old new noted notes text ends is =
    let same : take count all ≡ all = take_all count all (omega (arith, counted (length old) count noted notes all ends is)) in
    record {
      text = text ∙ ap (λ (fs : List Fact). old ++ behind_commas fs) (sym same);
      ends = ends ∙ ap (λ (fs : List Fact). noted ++ ends_from (length old) fs) (sym same);
      room = tt;
      rest = tt;
      whole = same;
    }

parted_some : (x : RowValue) (part left all front : List Fact) (written next count : ℕ) (old new noted notes : List ℕ) → all ≡ part ++ left → new ≡ old ++ behind_commas part
    → notes ≡ noted ++ ends_from (length old) part → count ≡ length notes - length noted → written ≡ length front → next ≤ length (row_columns x)
    → GiveFacts x (take next (row_columns x)) (front ++ part) → GiveFacts x (drop next (row_columns x)) left → 1048576 < length new → Parted x all written (Some next) count old new noted notes
parted_some x part left all front written next count old new noted notes are text ends is before within given later long =
    let many : count ≡ length part = counted (length old) count noted notes part ends is in
    let first : take count all ≡ part = ap (take count) are ∙ take_at part left count (sym many) in
    let last : drop count all ≡ left = ap (drop count) are ∙ drop_at part left count (sym many) in
    let together : written + count ≡ length (front ++ part) = omega (arith, many, before, length-append front part) in
    record {
      text = text ∙ ap (λ (fs : List Fact). old ++ behind_commas fs) (sym first);
      ends = ends ∙ ap (λ (fs : List Fact). noted ++ ends_from (length old) fs) (sym first);
      room = omega (arith, together, give_length x (take next (row_columns x)) (front ++ part) given, length-take-le next (row_columns x) within);
      rest = (
        record {
          front = front ++ part;
          before = given;
          behind = subst (λ (fs : List Fact). GiveFacts x (drop next (row_columns x)) fs) (sym last) later;
          within = within;
          count = together;
        },
        long,
      );
      whole = ap (λ (fs : List Fact). fs ++ drop count all) first ∙ ap (λ (fs : List Fact). part ++ fs) last ∙ sym are;
    }

-- A row was begun.
first_columns : (x : RowValue) (n : ℕ) (part : List Fact) → GiveFacts x (take (n - 0) (drop 0 (row_columns x))) part → GiveFacts x (take n (row_columns x)) part
first_columns x n part given = let same : n - 0 ≡ n = omega arith in subst (λ (k : ℕ). GiveFacts x (take k (row_columns x)) part) same given

begun_all : (x : RowValue) (n : ℕ) (part left : List Fact) → GiveFacts x (take n (row_columns x)) part → GiveFacts x (drop n (row_columns x)) left → facts_of_row x ≡ Ok (part ++ left)
begun_all x n part left given later =
    facts_found x 0 x.header.columns (part ++ left)
    (subst (λ (cs : List ℕ). GiveFacts x cs (part ++ left)) (take-append-drop n (row_columns x)) (give_append x (take n (row_columns x)) (drop n (row_columns x)) part left given later))

pub begun_facts : (x : RowValue) (next : Option ℕ) (old new noted notes : List ℕ) → BeginsTexts x next old new noted notes → facts_of_row x ≡ Ok (facts_of_answer (facts_of_row x))
begun_facts x None old new noted notes w = w.are ∙ ap (λ (r : Result (List Fact) TableFault). Ok (facts_of_answer r)) (sym w.are)
begun_facts x (Some n) old new noted notes (w, last, long) =
    let found : facts_of_row x ≡ Ok (w.facts ++ last.0) = begun_all x n w.facts last.0 (first_columns x n w.facts w.are) last.1 in
    found ∙ ap (λ (r : Result (List Fact) TableFault). Ok (facts_of_answer r)) (sym found)

pub begun : (x : RowValue) (all : List Fact) (next : Option ℕ) (count : ℕ) (old new noted notes : List ℕ) → all ≡ facts_of_answer (facts_of_row x) → count ≡ length notes - length noted
    → BeginsTexts x next old new noted notes → Parted x all 0 next count old new noted notes
begun x all None count old new noted notes are is w =
    let same : w.facts ≡ all = ap facts_of_answer (sym w.are) ∙ sym are in
    parted_all x all 0 count old new noted notes (w.text ∙ ap (λ (fs : List Fact). old ++ behind_commas fs) same) (w.ends ∙ ap (λ (fs : List Fact). noted ++ ends_from (length old) fs) same) is
begun x all (Some n) count old new noted notes are is (w, last, long) =
    let given = first_columns x n w.facts w.are in
    let same : all ≡ w.facts ++ last.0 = are ∙ ap facts_of_answer (begun_all x n w.facts last.0 given last.1) in
    parted_some x w.facts last.0 all [] 0 n count old new noted notes same w.text w.ends is refl w.within given last.1 long

-- A row was continued.
pub continued : (x : RowValue) (rest : RowRestValue) (next : Option ℕ) (count : ℕ) (old new noted notes : List ℕ) → IsRestOf x rest → count ≡ length notes - length noted
    → ContinuesTexts x rest next old new noted notes → Parted x rest.facts rest.written next count old new noted notes
continued x rest None count old new noted notes r is w = parted_all x rest.facts rest.written count old new noted notes w.0 w.1 is
continued x rest (Some n) count old new noted notes r is (w, long) =
    let columns : List ℕ = row_columns x in
    let k : ℕ = n - rest.next in
    let there : rest.next + k ≡ n = omega (arith, w.order) in
    let left = give_split x k (drop rest.next columns) w.facts rest.facts w.are r.behind in
    let given : GiveFacts x (take n columns) (r.front ++ w.facts) =
    subst (λ (cs : List ℕ). GiveFacts x cs (r.front ++ w.facts)) (sym (take-add rest.next k columns) ∙ ap (λ (m : ℕ). take m columns) there)
    (give_append x (take rest.next columns) (take k (drop rest.next columns)) r.front w.facts r.before w.are) in
    let later : GiveFacts x (drop n columns) left.0 =
    subst (λ (cs : List ℕ). GiveFacts x cs left.0) (drop-drop k rest.next columns ∙ ap (λ (m : ℕ). drop m columns) there) left.2 in
    parted_some x w.facts left.0 rest.facts r.front rest.written n count old new noted notes left.1 w.text w.ends is r.count w.within given later long

-- A row is begun: all its facts are left before.
pub begun_rest : (x : RowValue) (whole : RowRestValue) (next : Option ℕ) (count : ℕ) (old new noted notes : List ℕ) → whole ≡ record { next = 0; written = 0; facts = facts_of_answer (facts_of_row x) }
    → count ≡ length notes - length noted → BeginsTexts x next old new noted notes → Parted x whole.facts whole.written next count old new noted notes
begun_rest x whole next count old new noted notes is many w =
    subst (λ (r : RowRestValue). Parted x r.facts r.written next count old new noted notes) (sym is)
    (begun x (facts_of_answer (facts_of_row x)) next count old new noted notes refl many w)

-- What is added of it, and what is left.
abbrev pub after_part : RowRestValue → ℕ → Option ℕ → Option RowRestValue
after_part rest count next = option_map (λ n. record { next = n; written = rest.written + count; facts = drop count rest.facts }) next

pub part_added : (x : RowValue) (rest : RowRestValue) (next : Option ℕ) (count : ℕ) (old new noted notes : List ℕ) (before after : List Fact) (left : Option RowRestValue)
    → Parted x rest.facts rest.written next count old new noted notes → after ≡ before ++ take count rest.facts → left ≡ after_part rest count next → with_rest after left ≡ before ++ rest.facts
part_added x rest next count old new noted notes before after left part is are = by left (ap (with_rest (take count rest.facts)) are ∙ part.whole)
  where
    by : (o : Option RowRestValue) → with_rest (take count rest.facts) o ≡ rest.facts → with_rest after o ≡ before ++ rest.facts
    by None whole = is ∙ ap (λ (fs : List Fact). before ++ fs) whole
    by (Some r) whole = ap (λ (fs : List Fact). fs ++ r.facts) is ∙ append_assoc before (take count rest.facts) r.facts ∙ ap (λ (fs : List Fact). before ++ fs) whole

pub part_kept : (x : RowValue) (rest : RowRestValue) (next : Option ℕ) (count : ℕ) (old new noted notes : List ℕ) (after : List Fact) (left : Option RowRestValue)
    → Parted x rest.facts rest.written next count old new noted notes → new ≡ behind_commas after → left ≡ after_part rest count next → IsLeft x after left
part_kept x rest next count old new noted notes after left part is are = subst (IsLeft x after) (sym are) (by next part.rest)
  where
    by : (o : Option ℕ) → IfSome o (λ n. IsRestOf x (record { next = n; written = rest.written + count; facts = drop count rest.facts }) × (1048576 < length new)) → IsLeft x after (after_part rest count o)
    by None h = tt
    by (Some n) (h, long) = (h, omega (arith, long, ap length is))

pub grown : (old new : List ℕ) → IsPrefix old new → length old ≤ length new
grown old new front = omega (arith, ap length front.1, length-append old front.0)

-- NoFacts is left of the last row.
pub none_open : (x : RowValue) (rest : Option RowRestValue) → rest ≡ None → (IsSome rest → IsTextRecord x.fields) × IfSome rest (IsRestOf x)
none_open x None is = (λ some. absurd (cc some), tt)
none_open x (Some rest) is = absurd (cc is)

-- What is left after a row was read.
pub left_long : (x : RowValue) (after : List Fact) (rest : Option RowRestValue) → IsLeft x after rest → IsSome rest → 1048576 < length (behind_commas after)
left_long x after None left some = absurd (cc some)
left_long x after (Some rest) left some = left.1

pub left_of_row : (x y : RowValue) (after : List Fact) (rest : Option RowRestValue) → x ≡ y → IsLeft x after rest → IfSome rest (IsRestOf y)
left_of_row x y after None same left = tt
left_of_row x y after (Some rest) same left = subst (λ (z : RowValue). IsRestOf z rest) same left.0

-- The row whose cells are the fields of the last record.
pub row_of_fields : (x : RowValue) (g : TableHeaderValue) (n : ℕ) (t r : Record) → x ≡ record { header = g; number = n; fields = t } → t ≡ r → x ≡ record { header = g; number = n; fields = r }
row_of_fields x g n t r is same = is ∙ ap (λ (s : Record). record { header = g; number = n; fields = s }) same

-- What is left of it.
pub rest_given : (x y : RowValue) (rest : RowRestValue) (o : Option RowRestValue) → x ≡ y → o ≡ Some rest → IfSome o (IsRestOf y) → IsRestOf x rest
rest_given x y rest o row is left = subst (λ (z : RowValue). IsRestOf z rest) (sym row) (rw is at left)

-- How many columns of facts its header names.
pub columns_are : (x : RowValue) (h : TableHeaderValue) (count : ℕ) → h ≡ x.header → count ≡ length (fact_columns_in h h.columns) → count ≡ length (row_columns x)
columns_are x h count same is = is ∙ ap (λ (f : TableHeaderValue). length (fact_columns_in f f.columns)) same

-- The other columns were tested after the first part was written.
pub part_tested : (x : RowValue) (next most : ℕ) (old text new noted notes : List ℕ) → new ≡ text → WritesPart x 0 next old text noted notes → HasPart x next → most < length text
    → 1048576 ≤ most → BeginsTexts x (Some next) old new noted notes
part_tested x next most old text new noted notes same w last long more =
    subst (λ (t : List ℕ). WritesPart x 0 next old t noted notes × HasPart x next × (1048576 < length t)) (sym same) (w, last, omega (arith, long, more))

-- A part that is written from another index, the same one.
pub part_from : (x : RowValue) (i k j : ℕ) (old new noted notes : List ℕ) → i ≡ k → WritesPart x i j old new noted notes → WritesPart x k j old new noted notes
part_from x i k j old new noted notes same w = subst (λ (n : ℕ). WritesPart x n j old new noted notes) same w

-- What is left is written after the old text.
pub rest_behind : (answer : Result (List Fact) TableFault) (n count : ℕ) (old cut new noted cuts notes : List ℕ) → cut ≡ old → cuts ≡ noted → n ≡ count → WritesRest answer n cut new cuts notes
    → WritesRest answer count old new noted notes
rest_behind answer n count old cut new noted cuts notes same kept is w =
    subst (λ (k : ℕ). WritesRest answer k old new noted notes) is
    (subst (λ (t : List ℕ). WritesRest answer n t new noted notes) same (subst (λ (t : List ℕ). WritesRest answer n cut new t notes) kept w))
