use Rattle.std.proofs.Common.{◌∙◌, [], refl, arith}
use Rattle.oim_records.specs.state.Scans.{fresh}
use Rattle.oim_records.proofs.Walks.{scanned-none}
use Rattle.oim_records.proofs.piece_reader.PieceReader.new.Goals as goal

pub invariant_of-result : goal.invariant_of-result
invariant_of-result g c = (omega arith, λ e. cc e, c.new_scan.ensures ∙ scanned-none fresh [] refl)
