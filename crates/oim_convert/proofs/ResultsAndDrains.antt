-- The results of the workers, and the drains that their tokens settle.
use Rattle.std.specs.Prelude.{◌≡◌, ◌<◌, ◌≤◌, ℕ, ◌+◌, zero, suc, Bool, false, List, [], ◌∷◌, ◌++◌, Option, Some, IfSome, All, length, slice_get}
use Rattle.std.proofs.Common.{arith, refl, ap, sym, ◌∙◌, subst}
use Rattle.std.specs.List.{AllZip}
use Rattle.std.proofs.lemmas.List.Elements.{All-head, All-tail, All-cons}
use Rattle.oim_report.specs.ReportValue.{ReportValue}
use Rattle.oim_merge.specs.Merging.{EndEach, IsFresh, rings_of, taken_of}
use Rattle.oim_ring.specs.Ends.{ClosedView, DrainView}
use Rattle.oim_ring.specs.Items.{blocks_only, EndsOnce}
use Rattle.oim_ring.specs.declared.item.Ending.{Ending}
use Rattle.oim_ring.specs.declared.item.Item.{Item}
use Rattle.oim_ring.specs.declared.item.Item.TheVariants as items
use Rattle.oim_convert.specs.Tasks.{Each}
use Rattle.oim_convert.specs.state.Tasks.{CanServe, Fulfills, Gives, IsEnded, IsKeptOwn, IsLane, IsOpened}
use Rattle.oim_crew.specs.Shifts.{CanServeAll, IsServed}
use Rattle.oim_convert.specs.declared.table_task.TableTask.{TableTask}
use Rattle.oim_convert.specs.declared.table_task.TaskResult.{TaskResult}

module _ {R : Type 0} (told : R → Option (List ℕ)) (report : ReportValue) (limit : ℕ) (served : Bool) (plan : List (TableTask R)) where
  token_fulfills : (number : ℕ) (token : TaskResult) → IsServed (Gives told report limit served) plan number token → Fulfills told report limit served plan token
  token_fulfills number token (task, at, (table, kept)) = record {
    task = task;
    planned = subst (λ (n : ℕ). slice_get plan n ≡ Some task) (sym table) at;
    kept = subst (λ (n : ℕ). IfSome token.closed (λ (closed : ClosedView). (closed.ring ≡ task.feed.ring) × IsKeptOwn told report limit served n task.reader closed.sent)) (sym table) kept;
  }

  pub results_fulfill : (numbers : List ℕ) (tokens : List TaskResult) → AllZip (IsServed (Gives told report limit served) plan) numbers tokens → All (Fulfills told report limit served plan) tokens
  results_fulfill numbers [] all = λ k d h. absurd (omega arith)
  results_fulfill [] (t ∷ ts) all = absurd all
  results_fulfill (n ∷ ns) (t ∷ ts) all = All-cons (Fulfills told report limit served plan) t ts (token_fulfills n t all.0) (results_fulfill ns ts all.1)

-- Tasks and drains.

has_ending : (before : List Item) (e : Ending) → blocks_only (before ++ items.Ending e ∷ []) ≡ false
has_ending [] e = refl
has_ending (items.Block m ∷ rest) e = has_ending rest e
has_ending (items.Ending f ∷ rest) e = refl

ends_ended : (sent : List Item) → EndsOnce sent → blocks_only sent ≡ false
ends_ended sent once = ap blocks_only once.is ∙ has_ending once.before once.ending

module _ {R : Type 0} (plan : List (TableTask R)) where
  pub lanes_fresh : (n : ℕ) (ds : List DrainView) → Each (IsLane plan) n ds → IsFresh ds
  lanes_fresh n [] each = λ k d lt. absurd (omega arith)
  lanes_fresh n (x ∷ xs) each = All-cons (λ (d : DrainView). d.taken ≡ []) x xs each.0.fresh (lanes_fresh (suc n) xs each.1)

  pub lanes_ended : (n : ℕ) (old new : List DrainView) → rings_of new ≡ rings_of old → EndEach (taken_of new) → Each (IsLane plan) n old → Each (IsEnded plan) n new
  lanes_ended n [] [] rings ended each = tt
  lanes_ended n [] (y ∷ ys) rings ended each = absurd (cc)
  lanes_ended n (x ∷ xs) [] rings ended each = tt
  lanes_ended n (x ∷ xs) (y ∷ ys) rings ended each =
      let ring : y.ring ≡ x.ring = cc in
      let rest : rings_of ys ≡ rings_of xs = cc in (
        record { task = each.0.task; planned = each.0.planned; ring = ring ∙ each.0.ring; ended = ends_ended y.taken (All-head EndsOnce y.taken (taken_of ys) ended) },
        lanes_ended (suc n) xs ys rest (All-tail EndsOnce y.taken (taken_of ys) ended) each.1,
      )

opened_at : {R : Type 0} (n k : ℕ) (tasks : List (TableTask R)) (task : TableTask R) → Each IsOpened n tasks → slice_get tasks k ≡ Some task → (task.table ≡ n + k) × (k < length tasks) × (task.feed.sent ≡ [])
opened_at n k [] task each at = absurd (cc)
opened_at n zero (j ∷ js) task each at = let same : j ≡ task = cc in (sym (ap (λ x. x.table) same) ∙ (each.0.numbered ∙ omega arith), omega arith, sym (ap (λ x. x.feed.sent) same) ∙ each.0.fresh)
opened_at n (suc k) (j ∷ js) task each at = let rest = opened_at (suc n) k js task each.1 at in (rest.0 ∙ omega arith, omega (arith, rest.1), rest.2)

-- New tasks can be served.
pub opened_serve : {R : Type 0} (report : ReportValue) (limit : ℕ) (tasks : List (TableTask R)) → Each IsOpened 0 tasks → length tasks ≡ length report.tables
    → limit ≤ 4294967294 → CanServeAll (CanServe report limit) tasks
opened_serve report limit tasks each count rows number task at =
    let is = opened_at 0 number tasks task each at in (is.0 ∙ omega arith, omega (arith, is.1, count), rows, is.2)
