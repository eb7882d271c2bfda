use Rattle.std.proofs.Common.{◌≡◌, ℕ, List, sym, subst, ◌∙◌, ap, refl, is_some, is_ok, false, cond, Option, Some, None, option_map}
use Rattle.std.specs.Borrow.{Bor}
use Rattle.std.specs.List.{prefix_len, insert}
use Rattle.oim_names.specs.Bindings.{Bindings, uri_of, has_uri, is_before, bound, Extends}
use Rattle.oim_names.proofs.Bound.{place_le, placed, kept, bound_extends}
use Rattle.oim_names.proofs.namespaces.Namespaces.add.Goals as goal
use Rattle.oim_names.proofs.namespaces.Namespaces.add.Goals.{in-Ok-insert, in-Err}

-- If no URI is lent, none is bound.
none_lent : (o : Option (Bor (List ℕ))) (w : Option (List ℕ)) → option_map (λ u. u.now) o ≡ w → is_some o ≡ false → is_some w ≡ false
none_lent None w e f = rw (← e) refl
none_lent (Some x) w e f = absurd (cc)

pub insert-requires : goal.insert-requires
insert-requires c =
    let q = λ (e : List ℕ × List ℕ). is_before e.0 c.args.prefix.now in
    let i : c.place_of-place.result ≡ prefix_len q c.self.inside.bindings = c.place_of-place.ensures ∙ ap (prefix_len q) c.as_slice-2.ensures in
    rw i (place_le c.self.inside.bindings q)

-- Neither the prefix nor the URI was bound.
no_prefix : (c : goal.Joined-insert-2) → is_some (uri_of c.self.inside.bindings c.args.prefix.now) ≡ false
no_prefix c =
    let e : option_map (λ u. u.now) c.uri.result ≡ uri_of c.self.inside.bindings c.args.prefix.now = c.uri.ensures ∙ ap (λ b. uri_of b c.args.prefix.now) (sym c.self.view_is) in
    none_lent c.uri.result _ e (sym c.is_some.ensures ∙ c.if-is_some.false)

no_uri : (c : goal.Joined-insert-2) → has_uri c.self.inside.bindings c.args.uri.now ≡ false
no_uri c = ap (λ b. has_uri b c.args.uri.now) (sym c.as_slice.ensures) ∙ sym c.any_uri.ensures ∙ c.if-any_uri.false

-- The bindings after the call of `insert`.
after : (c : goal.Joined-insert-2) → c.insert.new.self ≡ cond (is_ok c.insert.result) (bound c.self.inside.bindings c.args.prefix.now c.args.uri.now) c.self.inside.bindings
after c =
    let es : Bindings = c.self.inside.bindings in
    let p : List ℕ = c.args.prefix.now in
    let u : List ℕ = c.args.uri.now in
    let q = λ (e : List ℕ × List ℕ). is_before e.0 p in
    let i : c.place_of-place.result ≡ prefix_len q es = c.place_of-place.ensures ∙ ap (prefix_len q) c.as_slice-2.ensures in
    let k : c.in-Ok.key ≡ p = c.in-Ok.ensures in
    let v : c.in-Ok-from_str.value ≡ u = c.in-Ok-from_str.ensures in
    let j : insert es c.place_of-place.result (c.in-Ok.key, c.in-Ok-from_str.value) ≡ bound es p u =
    rw (i, k, v) (placed es p u c.self.invariant.0 (no_prefix c)) in
    c.insert.ensures ∙ ap (λ xs. cond (is_ok c.insert.result) xs es) j

pub invariant_of-self : goal.invariant_of-self
invariant_of-self c =
    kept (is_ok c.insert.result) c.self.inside.bindings c.insert.new.self c.args.prefix.now c.args.uri.now
    c.self.invariant (sym c.is_ncname.ensures ∙ c.if-not-is_ncname.false) (no_prefix c) (no_uri c) (after c)

pub returns-clause-ok : goal.returns-clause-ok
returns-clause-ok c =
    let a = after c in
    let p : List ℕ = c.args.prefix.now in
    let u : List ℕ = c.args.uri.now in
    elim c.match-insert.branch [
      | in-Ok-insert w ↦ rw w.result-is (a ∙ ap (λ b. cond b (bound c.self.inside.bindings p u) c.self.inside.bindings) (ap is_ok w.in-Ok-insert.is) ∙ ap (λ b. bound b p u) c.self.view_is)
      | in-Err w ↦ rw w.result-is tt
    ]

pub returns-clause-extends : goal.returns-clause-extends
returns-clause-extends c =
    let p : List ℕ = c.args.prefix.now in
    let u : List ℕ = c.args.uri.now in
    let es : Bindings = c.self.inside.bindings in
    elim c.match-insert.branch [
      | in-Ok-insert w ↦ rw w.result-is
          (let a : c.insert.new.self ≡ bound es p u = after c ∙ ap (λ b. cond b (bound es p u) es) (ap is_ok w.in-Ok-insert.is) in
          subst (λ (old : Bindings). Extends old p u c.insert.new.self) c.self.view_is (subst (Extends es p u) (sym a) (bound_extends es p u c.self.invariant.0 (no_prefix c))))
      | in-Err w ↦ rw w.result-is tt
    ]
