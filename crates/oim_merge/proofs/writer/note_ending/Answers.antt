use Rattle.std.specs.Prelude.{◌∷◌, []}
use Rattle.std.proofs.Common.{refl}
use Rattle.oim_merge.specs.declared.progress.Standing.TheVariants as standings
use Rattle.oim_ring.specs.declared.item.Item.TheVariants as items
use Rattle.oim_merge.proofs.Writing.{ended, left_as, next_closed}
use Rattle.oim_merge.proofs.writer.note_ending.Goals as goal

pub returns-in-Closed-clause-advances : goal.returns-in-Closed-clause-advances
returns-in-Closed-clause-advances c = λ layout sink w same left st.
    let p = c.args.progress.now in
    left_as w (items.Ending c.args.ending ∷ []) p.any p.standing sink left (ended w p.any p.standing c.args.ending p.standing (rw c.in-Closed.is (next_closed p.standing)) st)

pub returns-in-Open-clause-advances : goal.returns-in-Open-clause-advances
returns-in-Open-clause-advances c = λ layout sink w same left st.
    let p = c.args.progress.now in
    left_as w (items.Ending c.args.ending ∷ []) p.any standings.Refused sink left
    (ended w p.any p.standing c.args.ending standings.Refused (rw (c.in-Open.is, c.in-Refused.is) refl) st)

pub returns-in-Refused-standing-clause-advances : goal.returns-in-Refused-standing-clause-advances
returns-in-Refused-standing-clause-advances c = λ layout sink w same left st.
    let p = c.args.progress.now in
    left_as w (items.Ending c.args.ending ∷ []) p.any p.standing sink left (ended w p.any p.standing c.args.ending p.standing (rw c.in-Refused-standing.is refl) st)

pub returns-in-Broken-clause-advances : goal.returns-in-Broken-clause-advances
returns-in-Broken-clause-advances c = λ layout sink w same left st.
    let p = c.args.progress.now in
    left_as w (items.Ending c.args.ending ∷ []) p.any p.standing sink left (ended w p.any p.standing c.args.ending p.standing (rw c.in-Broken.is refl) st)
