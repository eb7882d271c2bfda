use Rattle.std.proofs.Common.{◌≡◌, ◌∙◌, ◌++◌, ◌∷◌, [], None, Some, IsSome, refl, subst, sym}
use Rattle.std.proofs.lemmas.Map.Text.{btree_map_updates_text}
use Rattle.std.specs.BTreeMap.{get_by_text}
use Rattle.oim_names.specs.Lookup.{value_at}
use Rattle.oim_report.proofs.NamedFacts.{found-with, lacks-under, none-lent, on-ok, under-new, under-with}
use Rattle.oim_report.proofs.named.Named+Named+V.push_under.Goals as goal

pub returns-in_default : goal.returns-in_default
returns-in_default g c =
    let added = c.self.inside.added.value in
    let none : value_at c.args.group.now added ≡ None = sym (c.self.invariant.0 c.args.group.now) ∙ sym c.get_mut.ensures.value ∙ none-lent (λ v. v.now) c.get_mut.result c.in_default.not-Some in
    on-ok c.push_group.result _ _ (λ pushed.
    let named = c.in_ok-name.ensures.ok in
    let seen = c.self.view_is in
    let made : c.push_group.new.self ≡ added ++ (c.args.group.now, (c.args.name.now, c.args.value) ∷ []) ∷ [] = cc in
    rw (← c.self.view_is) (under-new c.args.group.now c.args.name.now c.args.value added c.push_group.new.self none made)) c.push_group.ensures

pub invariant_of-self-2 : goal.invariant_of-self-2
invariant_of-self-2 g c =
    let added = c.self.inside.added.value in
    let group = c.args.group.now in
    let new = c.push-pushed.new.self in
    let there : value_at group added ≡ Some c.in-Some.values.now = sym (c.self.invariant.0 group) ∙ sym c.in-Some.ensures.value in
    let updates = (c.get_mut.follows.holds new).3 (subst IsSome c.in-Some.ensures.value refl) in
    rw c.of.ensures
    (found-with (get_by_text c.self.inside.values) (get_by_text (c.get_mut.follows.lender new)) group c.in-Some.values.now new added c.self.invariant there
    (btree_map_updates_text group c.self.inside.values (c.get_mut.follows.lender new) (Some new) updates))

pub returns : goal.returns
returns g c =
    let added = c.self.inside.added.value in
    let group = c.args.group.now in
    let old = c.in-Some.values.now in
    let given = rw (← c.self.view_is) at c.requires in
    let there : value_at group added ≡ Some old = sym (c.self.invariant.0 group) ∙ sym c.in-Some.ensures.value in
    on-ok c.push-pushed.result _ _ (λ pushed.
    let same : c.push-pushed.new.self ≡ old ++ (c.args.name.now, c.args.value) ∷ [] = rw c.in_ok-name.ensures.ok at pushed in
    rw (← c.self.view_is, c.of.ensures, same)
    (under-with group c.args.name.now c.args.value added old there (lacks-under group c.args.name.now added old given there))) c.push-pushed.ensures
