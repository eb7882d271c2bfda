-- Opening the lanes one after another.
use Rattle.std.specs.Prelude.{◌≡◌, ℕ, zero, suc, List, [], ◌∷◌, ◌++◌, Some, length, slice_get, map}
use Rattle.std.proofs.Common.{refl, ap, sym, ◌∙◌, append_assoc}
use Rattle.std.proofs.lemmas.List.{map-append}
use Rattle.oim_ring.specs.Ends.{DrainView}
use Rattle.oim_convert.specs.Tasks.{Each}
use Rattle.oim_convert.specs.state.Tasks.{IsLane}
use Rattle.oim_convert.specs.declared.table_task.TableTask.{TableTask}

get_before : {X : Type 0} (xs : List X) (k : ℕ) (x y : X) → slice_get xs k ≡ Some x → slice_get (xs ++ y ∷ []) k ≡ Some x
get_before [] k x y e = absurd (cc)
get_before (z ∷ zs) zero x y e = e
get_before (z ∷ zs) (suc k) x y e = get_before zs k x y e

pub get_last : {X : Type 0} (xs : List X) (y : X) → slice_get (xs ++ y ∷ []) (length xs) ≡ Some y
get_last [] y = refl
get_last (z ∷ zs) y = get_last zs y

-- A plan with one more task keeps its lanes.
pub lanes_more : {R : Type 0} (plan : List (TableTask R)) (task : TableTask R) (n : ℕ) (drains : List DrainView) → Each (IsLane plan) n drains → Each (IsLane (plan ++ task ∷ [])) n drains
lanes_more plan task n [] each = tt
lanes_more plan task n (d ∷ ds) each =
    (record { task = each.0.task; planned = get_before plan n each.0.task task each.0.planned; ring = each.0.ring; fresh = each.0.fresh }, lanes_more plan task (suc n) ds each.1)

pub readers_more : {X Y : Type 0} (f : X → Y) (xs : List X) (x : X) (y : Y) (ys zs : List Y) → zs ≡ y ∷ ys → f x ≡ y → map f (xs ++ x ∷ []) ++ ys ≡ map f xs ++ zs
readers_more f xs x y ys zs e here =
    ap (λ l. l ++ ys) (map-append f xs (x ∷ [])) ∙ (append_assoc (map f xs) (f x ∷ []) ys ∙ (ap (λ z. map f xs ++ (z ∷ ys)) here ∙ ap (λ l. map f xs ++ l) (sym e)))
