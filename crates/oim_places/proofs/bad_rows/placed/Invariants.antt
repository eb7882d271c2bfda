use Rattle.std.proofs.Common.{◌≡◌, map, take}
use Rattle.std.specs.List.{All}
use Rattle.csv.specs.Records.{fields_of}
use Rattle.oim_places.proofs.FaultLists.{IsPlaced}
use Rattle.oim_places.proofs.bad_rows.placed.Given as goal

abbrev pub invariant-loop-fault : goal.invariant-loop-fault
invariant-loop-fault l = (map (λ x. x.fault) l.located ≡ take l.fault-index l.faults) × All (IsPlaced l.number l.line (fields_of l.cells.header) (fields_of l.cells.row)) l.located
