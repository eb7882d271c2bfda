use Rattle.std.proofs.Common.{◌≡◌, ℕ, List, true, false, refl, sym, ◌∙◌}
use Rattle.oim_names.specs.QName.{qname_of}
use Rattle.oim_names.specs.Unit.{is_unit, is_pure_name, inside, unit_of}
use Rattle.oim_names.proofs.Measures.{unit_sound, unit_complete, pure_sound, pure_complete}
use Rattle.oim_names.proofs.units.unit.Goals as goal

pub returns-then-not-is_unit : goal.returns-then-not-is_unit
unfolding unit_of
returns-then-not-is_unit c =
    let b = c.args.names.now in
    let t : List ℕ = c.args.text.now in
    let e : is_unit b t ≡ false = sym c.is_unit.ensures ∙ c.if-not-is_unit.true in
    record {
      grammar = (λ h. absurd (cc), λ h. sym e ∙ unit_complete h.2 c.utf8.text);
      pure = (λ h. absurd (cc), λ h. let w : false ≡ true = sym e ∙ unit_complete h c.utf8.text in absurd (cc));
      value = rw e refl;
    }

pub returns-then-is_pure : goal.returns-then-is_pure
unfolding unit_of
returns-then-is_pure c =
    let b = c.args.names.now in
    let t : List ℕ = c.args.text.now in
    let e : is_unit b t ≡ true = sym c.is_unit.ensures ∙ c.if-not-is_unit.false in
    let p : is_pure_name (qname_of b (inside t)) ≡ true = sym c.is_pure.ensures ∙ c.if-is_pure.true in
    record {
      grammar = (λ h. unit_sound b t e, λ h. refl);
      pure = (λ h. pure_sound b t p, λ h. refl);
      value = rw (e, p) refl;
    }

pub returns-else-is_pure : goal.returns-else-is_pure
unfolding unit_of
returns-else-is_pure c =
    let b = c.args.names.now in
    let t : List ℕ = c.args.text.now in
    let e : is_unit b t ≡ true = sym c.is_unit.ensures ∙ c.if-not-is_unit.false in
    let p : is_pure_name (qname_of b (inside t)) ≡ false = sym c.is_pure.ensures ∙ c.if-is_pure.false in
    record {
      grammar = (λ h. unit_sound b t e, λ h. refl);
      pure = (λ h. absurd (cc), λ h. let w : false ≡ true = sym p ∙ pure_complete b t h c.utf8.text in absurd (cc));
      value = rw (e, p) refl;
    }
