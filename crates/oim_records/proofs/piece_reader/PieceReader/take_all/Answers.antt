use Rattle.std.proofs.Common.{◌∙◌, [], refl, arith}
use Rattle.oim_records.specs.state.Scans.{fresh}
use Rattle.oim_records.proofs.Walks.{scanned-none}
use Rattle.oim_records.proofs.piece_reader.PieceReader.take_all.Goals as goal

pub invariant_of-self : goal.invariant_of-self
invariant_of-self g c = (omega arith, c.self.invariant.1, c.new_scan-self-inside.ensures ∙ scanned-none fresh [] refl)
