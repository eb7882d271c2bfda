use Rattle.std.proofs.Common.{◌≤◌, arith, length, sym}
use Rattle.std.proofs.lemmas.List.{length-take-le}
use Rattle.oim_places.proofs.cells.bytes_excerpt.Goals as goal

pub slice_bounds-all_bytes-end : goal.slice_bounds-all_bytes-end
slice_bounds-all_bytes-end c =
    let long : 80 ≤ length c.args.field.now = omega (arith, c.if-field-le-MOST_BYTES.false) in
    sym (length-take-le 80 c.args.field.now long)
