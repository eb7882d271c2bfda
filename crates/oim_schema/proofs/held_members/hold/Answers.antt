use Rattle.std.proofs.Common.{◌≡◌, ◌||◌, ◌∙◌, Option, Some, false, not, ap, sym, length, rules}
use Rattle.std.specs.Option.{option_map_or}
use Rattle.oim_names.specs.QName.{Name}
use Rattle.oim_schema.specs.Members.{is_same_name}
use Rattle.oim_schema.specs.state.HeldMembers.{holds}
use Rattle.oim_schema.proofs.HeldLaws.{contains_is, empty_same, holds_more, unheld_name}
use Rattle.oim_schema.proofs.held_members.hold.Goals as goal

pub returns-then-is_empty-clause-held : goal.returns-then-is_empty-clause-held
returns-then-is_empty-clause-held c =
    let none : length c.args.part.now ≡ 0 = search rules in
    λ e name. empty_same c.args.names.now (holds c.args.members.now) c.args.part.now none name

pub returns-in-Ok-clause-new : goal.returns-in-Ok-clause-new
returns-in-Ok-clause-new c =
    let b = c.args.names.now in
    let name : Name = (c.in-Some.uri.now, c.in-Some.local.now) in
    c.in-Ok.ensures.added ∙ ap not (contains_is c.args.members.now (c.in-Some.local, c.in-Some.uri))
    ∙ sym (unheld_name b (holds c.args.members.now) c.args.part.now name (sym c.in-Some.ensures.value))

pub returns-in-Ok-clause-held : goal.returns-in-Ok-clause-held
returns-in-Ok-clause-held c = λ e name.
    holds_more c.args.members.now c.insert.new.self (c.in-Some.local, c.in-Some.uri) c.in-Ok.ensures.updates name
    ∙ ap (λ (o : Option Name). option_map_or (λ other. is_same_name other (Some name)) o false || holds c.args.members.now name) c.in-Some.ensures.value
