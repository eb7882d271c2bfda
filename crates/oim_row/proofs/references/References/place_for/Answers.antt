use Rattle.std.proofs.Common.{◌≡◌, ◌++◌, ◌∷◌, [], List, Some, ap, sym, subst, ◌∙◌, append-nil, arith, length}
use Rattle.std.specs.List.{All, slice_get}
use Rattle.std.specs.Option.{option_map}
use Rattle.oim_row.specs.References.{IsFresh, ReferenceValue, key_of}
use Rattle.oim_row.specs.Sources.{source_text}
use Rattle.oim_row.proofs.Growth.{all_push, slice_get-last}
use Rattle.oim_row.proofs.references.References.place_for.Goals as goal

pub returns-then-self-size-clause-fresh : goal.returns-then-self-size-clause-fresh
returns-then-self-size-clause-fresh c =
    let x = c.args.row.now in
    let made = c.refresh.ensures in
    let fresh : IsFresh x c.refresh.new.self = record {
      report = ap (λ (r : ReferenceValue). r.report) made ∙ ap (λ (r : ReferenceValue). r.report) c.in_ok-reference.ensures ∙ c.report.ensures;
      text = ap (λ (r : ReferenceValue). r.text) made ∙ ap (λ (r : ReferenceValue). source_text x r.key.source) (sym made);
    } in
    subst (λ (rs : List ReferenceValue). All (IsFresh x) rs) (sym c.in_ok-push.ensures.items)
    (all_push (IsFresh x) c.self.inside.list.items c.refresh.new.self (subst (λ (rs : List ReferenceValue). All (IsFresh x) rs) (sym c.self.view_is) c.requires) fresh)

pub returns-then-self-size-clause-place : goal.returns-then-self-size-clause-place
returns-then-self-size-clause-place c =
    let rs = c.self.inside.list.items in
    let r = c.refresh.new.self in
    let last : c.len-place.result ≡ length rs = omega (arith, c.len-place.ensures) in
    ap (λ ys. option_map key_of (slice_get ys c.len-place.result)) c.in_ok-push.ensures.items
    ∙ ap (λ n. option_map key_of (slice_get (rs ++ r ∷ []) n)) last
    ∙ ap (option_map key_of) (slice_get-last rs r)
    ∙ ap (λ (s : ReferenceValue). Some (key_of s)) c.refresh.ensures
    ∙ ap (λ (s : ReferenceValue). Some (key_of s)) c.in_ok-reference.ensures

pub returns-else-self-size-clause-place : goal.returns-else-self-size-clause-place
returns-else-self-size-clause-place c =
    let rs = c.self.inside.list.items in
    let r = c.refresh.new.self in
    let last : c.len-place.result ≡ length rs = omega (arith, c.len-place.ensures) in
    ap (λ ys. option_map key_of (slice_get ys c.len-place.result)) c.in_ok-push.ensures.items
    ∙ ap (λ n. option_map key_of (slice_get (rs ++ r ∷ []) n)) last
    ∙ ap (option_map key_of) (slice_get-last rs r)
    ∙ ap (λ (s : ReferenceValue). Some (key_of s)) c.refresh.ensures
    ∙ ap (λ (s : ReferenceValue). Some (key_of s)) c.in_ok-reference.ensures

pub returns-else-self-size-clause-fresh : goal.returns-else-self-size-clause-fresh
returns-else-self-size-clause-fresh c =
    let x = c.args.row.now in
    let made = c.refresh.ensures in
    let fresh : IsFresh x c.refresh.new.self = record {
      report = ap (λ (r : ReferenceValue). r.report) made ∙ ap (λ (r : ReferenceValue). r.report) c.in_ok-reference.ensures ∙ c.report.ensures;
      text = ap (λ (r : ReferenceValue). r.text) made ∙ ap (λ (r : ReferenceValue). source_text x r.key.source) (sym made);
    } in
    subst (λ (rs : List ReferenceValue). All (IsFresh x) rs) (sym c.in_ok-push.ensures.items)
    (all_push (IsFresh x) c.self.inside.list.items c.refresh.new.self (subst (λ (rs : List ReferenceValue). All (IsFresh x) rs) (sym c.self.view_is) c.requires) fresh)

pub returns-in_err-push-clause-grows : goal.returns-in_err-push-clause-grows
returns-in_err-push-clause-grows c = record { more = []; is = c.in_err-push.ensures.items ∙ c.self.view_is ∙ sym (append-nil c.args.self.now) }
