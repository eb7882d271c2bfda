-- The order in which a thread takes its steps.
use Rattle.std.specs.Prelude.{◌≡◌, ℕ, Bool, true, false, List, [], ◌∷◌, ◌++◌, if◌then◌else◌}
use Rattle.oim_waiting.specs.declared.steps.RoomStep.{RoomStep}
use Rattle.oim_waiting.specs.declared.steps.RoomStep.TheVariants.{Put, Ask, Tell, Take, Count, Compare, Give}
use Rattle.oim_waiting.specs.declared.steps.TurnStep.{TurnStep}
use Rattle.oim_waiting.specs.declared.steps.TurnStep.TheVariants.{Announce, Look, Sleep, Rise, Change, Wake}

-- What a feed does once, whether it finds that it must wait or not.
abbrev pub one_wait : Bool → List TurnStep
one_wait must = if must then Announce ∷ Look true ∷ Sleep ∷ Rise ∷ [] else Announce ∷ Look false ∷ []

-- What another thread does to let a feed go on.
abbrev pub letting_go : List TurnStep
letting_go = Change ∷ Wake ∷ []

-- What a feed does that finds no room, before it sleeps.
abbrev pub asking : ℕ → List RoomStep
asking few = Ask few ∷ Tell ∷ []

abbrev pub finding_none : ℕ → ℕ → List RoomStep
finding_none most few = Put most ∷ asking few

-- What a drain does that has taken an item and counted those left.
abbrev pub looking_back : Bool → List RoomStep
looking_back are_few = if are_few then Compare ∷ Give ∷ [] else Compare ∷ []

-- A drain that took an item counted and compared those left, and woke the feed if they are few.
abbrev pub HasTaken : List RoomStep → List RoomStep → Type 0
HasTaken before after = (are_few : Bool) × (after ≡ before ++ Take ∷ Count ∷ looking_back are_few)
