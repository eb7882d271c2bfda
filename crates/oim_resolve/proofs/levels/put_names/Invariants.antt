use Rattle.std.proofs.Common.{◌≡◌, map, take}
use Rattle.std.specs.List.{fold}
use Rattle.oim_resolve.specs.ProgramCell.{held}
use Rattle.oim_resolve.specs.Written.{put_name}
use Rattle.oim_resolve.proofs.levels.put_names.Given as goal

abbrev pub invariant-loop-name : goal.invariant-loop-name
invariant-loop-name l = held l.names.items ≡ fold put_name (held l.fn.names.items) (map (λ e. e.0) (take l.name-index l.name-items))
