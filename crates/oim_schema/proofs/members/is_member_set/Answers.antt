use Rattle.std.proofs.Common.{◌∙◌, sym}
use Rattle.oim_schema.specs.Members.{is_member_set}
use Rattle.oim_schema.proofs.MemberLaws.{set_Decides}
use Rattle.oim_schema.proofs.members.is_member_set.Goals as goal

pub returns-clause-means : goal.returns-clause-means
unfolding is_member_set
returns-clause-means c =
    let d = set_Decides c.args.names.now c.args.text.now in
    (λ t. d.0 (sym c.in_ok-answer.ensures ∙ t), λ h. c.in_ok-answer.ensures ∙ d.1 h)

pub returns-clause-value : goal.returns-clause-value
unfolding is_member_set
returns-clause-value c = c.in_ok-answer.ensures
