use Rattle.std.proofs.Common.{◌∙◌, ap, sym, length, map}
use Rattle.std.proofs.lemmas.List.{length-map}
use Rattle.serde_json.specs.View.{members_view}
use Rattle.oim_meta.proofs.Rising.{names_count, names_rise}
use Rattle.oim_meta.proofs.Searches.{member_found, member_missing}
use Rattle.oim_meta.proofs.build.names.Names.place.Goals as goal

pub returns-in-Ok : goal.returns-in-Ok
returns-in-Ok c =
    let entries = c.args.self.now.members.now.entries in
    let same = ap (map (λ n. n.now)) c.as_slice.ensures.value ∙ c.args.self.now.same in
    member_found (λ n. n.now) c.as_slice.result.now c.args.name.now (members_view entries) c.in-Ok.place c.args.name same
    (names_rise entries c.len-count.ensures.ordered) c.in-Ok.ensures.bound c.in-Ok.ensures.position

pub returns-in-Err : goal.returns-in-Err
returns-in-Err c =
    let entries = c.args.self.now.members.now.entries in
    let same = ap (map (λ n. n.now)) c.as_slice.ensures.value ∙ c.args.self.now.same in
    let all = c.len-count.ensures.len ∙ sym (names_count entries) ∙ ap length (sym same) ∙ length-map c.as_slice.result.now (λ n. n.now) in
    member_missing (λ n. n.now) c.as_slice.result.now c.args.name.now (members_view entries) c.in-Err.field-0 c.len-count.result same
    (names_rise entries c.len-count.ensures.ordered) all c.in-Err.ensures.bound c.in-Err.ensures.position
