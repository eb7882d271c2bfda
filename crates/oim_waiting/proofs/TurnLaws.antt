-- A feed that waits for its turn does not miss it.
use Rattle.std.specs.Prelude.{◌⊎◌}
use Rattle.std.proofs.Common.{◌≡◌, ◌<◌, ◌∷◌, [], ℕ, List, Bool, true, false, arith, refl, inl, inr}
use Rattle.oim_waiting.specs.declared.steps.TurnStep.{TurnStep}
use Rattle.oim_waiting.specs.declared.steps.TurnStep.TheVariants.{Announce, Look, Sleep, Rise, Change, Wake}
use Rattle.oim_waiting.specs.Turns.{Stage, Away, Announced, Bound, Asleep, Place, start, happens, run, NoTurnIsMissed}

-- What each step keeps: a wake is due where the feed may go on, from its look on.
abbrev pub is_kept : Stage → Bool → Bool → ℕ → Type 0
is_kept Away free woken owed = Unit {0}
is_kept Announced free woken owed = Unit {0}
is_kept Bound free woken owed = free ≡ true → (woken ≡ true) ⊎ (0 < owed)
is_kept Asleep free woken owed = free ≡ true → (woken ≡ true) ⊎ (0 < owed)

abbrev pub IsKept : Place → Type 0
IsKept p = is_kept p.stage p.free p.woken p.owed

abbrev pub at : Stage → Bool → Bool → ℕ → Place
at stage free woken owed = record { stage = stage; free = free; woken = woken; owed = owed }

keeps : (stage : Stage) (free woken : Bool) (owed : ℕ) (step : TurnStep) → is_kept stage free woken owed → IsKept (happens (at stage free woken owed) step)
keeps Away free woken owed Announce kept = tt
keeps Away free woken owed (Look must) kept = tt
keeps Away free woken owed Sleep kept = tt
keeps Away free woken owed Rise kept = tt
keeps Away free woken owed Change kept = tt
keeps Away free woken owed Wake kept = tt
keeps Announced free woken owed Announce kept = tt
keeps Announced true woken owed (Look true) kept = tt
keeps Announced false woken owed (Look true) kept = λ may. absurd (cc)
keeps Announced free woken owed (Look false) kept = tt
keeps Announced free woken owed Sleep kept = tt
keeps Announced free woken owed Rise kept = tt
keeps Announced free woken owed Change kept = tt
keeps Announced free woken owed Wake kept = tt
keeps Bound free woken owed Announce kept = kept
keeps Bound free woken owed (Look must) kept = kept
keeps Bound free woken owed Sleep kept = kept
keeps Bound free woken owed Rise kept = kept
keeps Bound free woken owed Change kept = λ may. inr (omega arith)
keeps Bound free woken owed Wake kept = λ may. inl refl
keeps Asleep free woken owed Announce kept = kept
keeps Asleep free woken owed (Look must) kept = kept
keeps Asleep free woken owed Sleep kept = kept
keeps Asleep free true owed Rise kept = tt
keeps Asleep free false owed Rise kept = kept
keeps Asleep free woken owed Change kept = λ may. inr (omega arith)
keeps Asleep free woken owed Wake kept = λ may. inl refl

runs : (steps : List TurnStep) (p : Place) → IsKept p → IsKept (run steps p)
runs [] p kept = kept
runs (step ∷ steps) p kept = runs steps (happens p step) (keeps p.stage p.free p.woken p.owed step kept)

due : (stage : Stage) (free woken : Bool) (owed : ℕ) → is_kept stage free woken owed → stage ≡ Asleep → free ≡ true → (woken ≡ true) ⊎ (0 < owed)
due Away free woken owed kept is may = absurd (cc)
due Announced free woken owed kept is may = absurd (cc)
due Bound free woken owed kept is may = kept may
due Asleep free woken owed kept is may = kept may

pub turn_law : NoTurnIsMissed
turn_law steps is may = let p = run steps start in due p.stage p.free p.woken p.owed (runs steps start tt) is may
