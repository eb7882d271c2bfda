-- The dimensions of each level of a report rise by name.
use Rattle.std.proofs.Common.{◌≡◌, ℕ, zero, suc, List, [], ◌∷◌, ◌++◌, Bool, true, false, Option, Some, if◌then◌else◌, subst, sym, ap, ◌∙◌, arith}
use Rattle.std.specs.Prelude.{slice_index_or}
use Rattle.std.specs.List.{All, AllByRecursion}
use Rattle.std.specs.List.Sorted.{IsStrictlySortedBy}
use Rattle.std.specs.Str.{bytes_eq}
use Rattle.oim_names.specs.Lookup.{value_at}
use Rattle.oim_report.specs.InOrder.{PartsRise, TemplateRises, LevelRises}
use Rattle.oim_report.specs.Readers.{column_of, table_of, template_of, no_template}
use Rattle.oim_report.specs.ReportValue.{ReportValue}
use Rattle.oim_report.specs.declared.data.Level.{Level}
use Rattle.oim_report.proofs.GroupOrder.{column_rises}

each_at : {X : Type 0} (P : X → Type 0) (xs : List X) (d : X) → AllByRecursion P xs → P d → (k : ℕ) → P (slice_index_or xs k d)
each_at P [] d all other k = other
each_at P (x ∷ xs) d all other zero = all.0
each_at P (x ∷ xs) d all other (suc k) = each_at P xs d all.1 other k

nothing_rises : TemplateRises no_template
unfolding IsStrictlySortedBy
nothing_rises = (tt, tt, tt)

-- The level of the report, of a template and of a column.
pub report_rises : (report : ReportValue) → PartsRise report.level report.templates report.tables → LevelRises report.level
unfolding PartsRise
report_rises report h = h.0

pub template_rises : (report : ReportValue) → PartsRise report.level report.templates report.tables → (i : ℕ) → LevelRises (template_of report i).level
unfolding PartsRise
template_rises report h i = (each_at TemplateRises report.templates no_template h.4 nothing_rises (table_of report i).template).0

pub column_level_rises : (report : ReportValue) → PartsRise report.level report.templates report.tables → (i c : ℕ) → LevelRises (column_of report i c).level
column_level_rises report h i c = (column_rises report h i c).0

some_same : {V : Type 0} (P : V → Type 0) (x v : V) → P x → Some x ≡ Some v → P v
some_same P x v p e = let same : x ≡ v = cc in subst P same p

first_or : {V : Type 0} (P : V → Type 0) (x : V) (rest : Option V) (v : V) (b : Bool) → P x → (rest ≡ Some v → P v) → (if b then Some x else rest) ≡ Some v → P v
first_or P x rest v true here later e = some_same P x v here e
first_or P x rest v false here later e = later e

-- What holds for each value holds for the value of a name.
valued : {V : Type 0} (P : V → Type 0) (es : List (List ℕ × V)) (n : List ℕ) (v : V) → AllByRecursion (λ e. P e.1) es → value_at n es ≡ Some v → P v
valued P [] n v all e = absurd cc
valued P (x ∷ xs) n v all e = first_or P x.1 (value_at n xs) v (bytes_eq x.0 n) all.0 (λ later. valued P xs n v all.1 later) e

-- The level of the group with a name.
pub group_rises : (report : ReportValue) → PartsRise report.level report.templates report.tables → (i c : ℕ) (n : List ℕ) (l : Level)
    → value_at n (column_of report i c).groups ≡ Some l → LevelRises l
group_rises report h i c n l e = valued LevelRises (column_of report i c).groups n l (column_rises report h i c).2 e

pub all_one : {X : Type 0} (P : X → Type 0) (x : X) → P x → All P (x ∷ [])
all_one P x a zero d within = a
all_one P x a (suc k) d within = absurd (omega (arith, within))

pub all_pushed_one : {X : Type 0} (P : X → Type 0) (xs ys : List X) (x : X) → ys ≡ xs ++ x ∷ [] → xs ≡ [] → P x → All P ys
all_pushed_one P xs ys x e none h = subst (All P) (sym (e ∙ ap (λ zs. zs ++ x ∷ []) none)) (all_one P x h)

pub all_two : {X : Type 0} (P : X → Type 0) (x y : X) → P x → P y → All P (x ∷ y ∷ [])
all_two P x y a b zero d within = a
all_two P x y a b (suc zero) d within = b
all_two P x y a b (suc (suc k)) d within = absurd (omega (arith, within))
