use Rattle.std.proofs.Common.{◌≡◌, Some, None, sym, ap, subst, ◌∙◌, arith}
use Rattle.std.specs.Option.{option_map}
use Rattle.std.proofs.lemmas.Str.Pattern.{split_once_first}
use Rattle.oim_names.specs.QName.{Name, IsSQName, IsOnly, sqname_of}
use Rattle.oim_names.proofs.Colons.{sqname_only, sqname_cut, sqname_uncut}
use Rattle.oim_names.proofs.qnames.sqname.Goals as goal

pub returns-in_default : goal.returns-in_default
returns-in_default c =
    let b = c.args.names.now in
    let t = c.args.text.now in
    let v : None ≡ sqname_of b t = sqname_uncut b t (split_once_first 58 t None c.in_default.ensures.cases (omega arith)) in
    record { grammar = subst (λ o. IsOnly {A = Name} (λ x. IsSQName b t x) o) (sym v) (sqname_only c.args.names.now c.args.text.now); value = v }

pub returns-then-not-is_solid : goal.returns-then-not-is_solid
returns-then-not-is_solid c =
    let b = c.args.names.now in
    let t = c.args.text.now in
    let p = split_once_first 58 t (Some (c.in-Some.prefix, c.in-Some.rest)) c.in-Some.ensures.cases (omega arith) in
    let k = sqname_cut b t c.in-Some.prefix.now c.in-Some.rest.now p.1 p.2 in
    let v : None ≡ sqname_of b t = rw (sym c.is_solid.ensures ∙ c.if-not-is_solid.true) at k in
    record { grammar = subst (λ o. IsOnly {A = Name} (λ x. IsSQName b t x) o) (sym v) (sqname_only c.args.names.now c.args.text.now); value = v }

pub returns-in-None : goal.returns-in-None
returns-in-None c =
    let b = c.args.names.now in
    let t = c.args.text.now in
    let p = split_once_first 58 t (Some (c.in-Some.prefix, c.in-Some.rest)) c.in-Some.ensures.cases (omega arith) in
    let k = sqname_cut b t c.in-Some.prefix.now c.in-Some.rest.now p.1 p.2 in
    let v : None ≡ sqname_of b t = rw (sym c.is_solid.ensures ∙ c.if-not-is_solid.false, sym c.uri.ensures ∙ ap (option_map (λ u. u.now)) c.in-None.is) at k in
    record { grammar = subst (λ o. IsOnly {A = Name} (λ x. IsSQName b t x) o) (sym v) (sqname_only c.args.names.now c.args.text.now); value = v }

pub returns-in-Some-uri : goal.returns-in-Some-uri
returns-in-Some-uri c =
    let b = c.args.names.now in
    let t = c.args.text.now in
    let l = c.in-Some.rest.now in
    let p = split_once_first 58 t (Some (c.in-Some.prefix, c.in-Some.rest)) c.in-Some.ensures.cases (omega arith) in
    let k = sqname_cut b t c.in-Some.prefix.now l p.1 p.2 in
    let v : Some (c.in-Some-uri.uri.now, l) ≡ sqname_of b t = rw (sym c.is_solid.ensures ∙ c.if-not-is_solid.false, sym c.uri.ensures ∙ ap (option_map (λ u. u.now)) c.in-Some-uri.is) at k in
    record { grammar = subst (λ o. IsOnly {A = Name} (λ x. IsSQName b t x) o) (sym v) (sqname_only c.args.names.now c.args.text.now); value = v }
