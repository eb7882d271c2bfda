use Rattle.std.proofs.Common.{◌≡◌, ◌∙◌, flat_map}
use Rattle.oim_places.specs.Cells.{byte_shown}
use Rattle.oim_places.proofs.CellTexts.{as_bytes, as_itself}
use Rattle.oim_places.proofs.cells.field_text.Goals as goal

pub returns-in-Ok : goal.returns-in-Ok
returns-in-Ok c = as_itself c.args.field.now c.in-Ok.text.now c.from_str.result c.from_str.ensures c.in-Ok.ensures.cases.0 c.in-Ok.ensures.cases.1

pub returns-in_ok-all_bytes-in-Err : goal.returns-in_ok-all_bytes-in-Err
returns-in_ok-all_bytes-in-Err c =
    let shown : c.new.result ≡ flat_map byte_shown c.args.field.now = c.new.ensures ∙ c.in_ok-all_bytes-in-Err.ensures in
    as_bytes c.args.field.now c.new.result shown c.in-Err.ensures.cases.0
