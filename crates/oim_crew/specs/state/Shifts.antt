-- A crew without a started worker.
use Rattle.std.specs.Prelude.{◌≡◌, true, List, []}
use Rattle.std.specs.List.{list_all}
use Rattle.std.specs.declared.thread.PromisedHandle.{PromisedHandle}
use Rattle.oim_crew.specs.declared.worker.Shift.{Shift}
use Rattle.oim_crew.specs.declared.worker.ShiftOf.{ShiftOf}

module _ {V O : Type 0} where
  -- No worker was started, and all were stopped before they drew.
  abbrev pub IsAlone : {S T C : Type 0} → List (PromisedHandle (Shift V O) (ShiftOf V S T C)) → List (Shift V O) → Type 0
  IsAlone started shifts = (started ≡ []) × (list_all (λ (shift : Shift V O). shift.stopped) shifts ≡ true)
