use Rattle.serde_json.specs.View.{members_view}
use Rattle.oim_meta.proofs.OwnTexts.{seen_is_repeated}
use Rattle.oim_meta.proofs.Rising.{names_rise}
use Rattle.oim_meta.proofs.order.repeats_text.Goals as goal

-- The names of an object are in strict byte order.
pub returns : goal.returns
returns c =
    let es = c.args.members.now.entries in
    rw (← seen_is_repeated (members_view es) (names_rise es c.len.ensures.ordered)) c.repeats_earlier.ensures
