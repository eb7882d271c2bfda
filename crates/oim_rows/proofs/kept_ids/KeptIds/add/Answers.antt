use Rattle.oim_rows.proofs.OrderedIds.{more-ordered}
use Rattle.oim_rows.proofs.kept_ids.KeptIds.add.Goals as goal

pub returns-clause-more : goal.returns-clause-more
returns-clause-more c =
    more-ordered _ _ _ _ c.args.id c.as_str.result.now c.as_str-2.result.now c.insert_ordered.result c.is_ordered.result c.make_room.ensures c.as_str.ensures c.as_str-2.ensures c.is_ordered.ensures c.if-is_ordered.false
    c.insert_ordered.ensures.added c.insert_ordered.ensures.updates
