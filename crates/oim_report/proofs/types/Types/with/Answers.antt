use Rattle.std.proofs.Common.{◌∙◌}
use Rattle.oim_report.proofs.TypesKept.{kept-more, members-more}
use Rattle.oim_report.proofs.types.Types.with.Goals as goal

pub push_under-requires : goal.push_under-requires
push_under-requires c =
    let given = rw (← c.self.view_is) at c.requires in
    c.self.invariant.kinds c.args.uri.now c.args.local.now ∙ given

pub invariant_of-result : goal.invariant_of-result
invariant_of-result c =
    let given = rw (← c.self.view_is) at c.requires in
    let kinds = kept-more c.self.inside.namespaces c.push_under.new.self c.self.inside.records.value c.args.uri.now c.args.local.now c.args.kind
    c.self.invariant.kinds given c.in_ok-push_under.ensures in
    let members = members-more c.self.inside.has_members c.self.inside.records.value c.args.uri.now c.args.local.now c.args.kind c.self.invariant.members in
    rw (c.of.ensures, c.knows_member.ensures) (record { kinds = kinds; members = members })
