use Rattle.std.proofs.Common.{◌≡◌, ◌+◌, ◌-◌, ◌∙◌, ap, take, arith}
use Rattle.oim_json.specs.JsonText.{escaped_byte}
use Rattle.oim_text.proofs.PlacedBytes.{Placed-put_mid}
use Rattle.oim_text.proofs.copies.copy_rare_byte.Goals as goal

pub returns-clause-bytes : goal.returns-clause-bytes
returns-clause-bytes c =
    let memory = c.args.memory.now in
    let at = c.args.at in
    let size = c.escape_of-size.result.1 in
    let placed = Placed-put_mid memory c.copy_from_slice.new.self at (at + 6 - at) size (omega arith) (omega arith) (omega (arith, c.escape_of-size.ensures.within)) in
    let same : take size c.copy_from_slice.new.self ≡ escaped_byte c.args.byte = ap (take size) c.copy_from_slice.ensures.after ∙ c.escape_of-size.ensures.text in
    rw same at placed
