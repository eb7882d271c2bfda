use Rattle.std.proofs.Common.{◌≡◌, Some, None, sym, ap, subst, ◌∙◌, arith}
use Rattle.std.specs.Option.{option_map}
use Rattle.std.proofs.lemmas.Str.Pattern.{split_once_first}
use Rattle.oim_names.specs.QName.{Name, IsQName, IsOnly, qname_of}
use Rattle.oim_names.proofs.Colons.{qname_only, qname_cut, qname_uncut}
use Rattle.oim_names.proofs.qnames.qname.Goals as goal
use Rattle.oim_names.proofs.qnames.qname.Goals.{then-not-is_ncname-via-then-not-is_ncname, then-not-is_ncname-via-else-not-is_ncname+then-not-is_ncname-2}

pub returns-in_default : goal.returns-in_default
returns-in_default c =
    let b = c.args.names.now in
    let t = c.args.text.now in
    let v : None ≡ qname_of b t = qname_uncut b t (split_once_first 58 t None c.in_default.ensures.cases (omega arith)) in
    record { grammar = subst (λ o. IsOnly {A = Name} (λ x. IsQName b t x) o) (sym v) (qname_only c.args.names.now c.args.text.now c.utf8.text); value = v }

pub returns-then-not-is_ncname : goal.returns-then-not-is_ncname
returns-then-not-is_ncname c =
    let b = c.args.names.now in
    let t = c.args.text.now in
    let p = split_once_first 58 t (Some (c.in-Some.prefix, c.in-Some.local)) c.in-Some.ensures.cases (omega arith) in
    let k = qname_cut b t c.in-Some.prefix.now c.in-Some.local.now p.1 p.2 in
    let v : None ≡ qname_of b t = elim c.then-not-is_ncname.branch [
      | then-not-is_ncname-via-then-not-is_ncname w ↦ rw (sym c.is_ncname.ensures ∙ w.if-not-is_ncname.true) at k
      | then-not-is_ncname-via-else-not-is_ncname+then-not-is_ncname-2 w ↦
          rw (sym c.is_ncname.ensures ∙ w.if-not-is_ncname.false, sym w.is_ncname-else-not-is_ncname.ensures ∙ w.if-not-is_ncname-2.true) at k
    ] in
    record { grammar = subst (λ o. IsOnly {A = Name} (λ x. IsQName b t x) o) (sym v) (qname_only c.args.names.now c.args.text.now c.utf8.text); value = v }

pub returns-in-None : goal.returns-in-None
returns-in-None c =
    let b = c.args.names.now in
    let t = c.args.text.now in
    let p = split_once_first 58 t (Some (c.in-Some.prefix, c.in-Some.local)) c.in-Some.ensures.cases (omega arith) in
    let k = qname_cut b t c.in-Some.prefix.now c.in-Some.local.now p.1 p.2 in
    let v : None ≡ qname_of b t =
    rw (
      sym c.is_ncname.ensures ∙ c.if-not-is_ncname.false,
      sym c.is_ncname-else-not-is_ncname.ensures ∙ c.if-not-is_ncname-2.false,
      sym c.uri.ensures ∙ ap (option_map (λ u. u.now)) c.in-None.is,
    ) at k in
    record { grammar = subst (λ o. IsOnly {A = Name} (λ x. IsQName b t x) o) (sym v) (qname_only c.args.names.now c.args.text.now c.utf8.text); value = v }

pub returns-in-Some-uri : goal.returns-in-Some-uri
returns-in-Some-uri c =
    let b = c.args.names.now in
    let t = c.args.text.now in
    let l = c.in-Some.local.now in
    let p = split_once_first 58 t (Some (c.in-Some.prefix, c.in-Some.local)) c.in-Some.ensures.cases (omega arith) in
    let k = qname_cut b t c.in-Some.prefix.now l p.1 p.2 in
    let v : Some (c.in-Some-uri.uri.now, l) ≡ qname_of b t =
    rw (
      sym c.is_ncname.ensures ∙ c.if-not-is_ncname.false,
      sym c.is_ncname-else-not-is_ncname.ensures ∙ c.if-not-is_ncname-2.false,
      sym c.uri.ensures ∙ ap (option_map (λ u. u.now)) c.in-Some-uri.is,
    ) at k in
    record { grammar = subst (λ o. IsOnly {A = Name} (λ x. IsQName b t x) o) (sym v) (qname_only c.args.names.now c.args.text.now c.utf8.text); value = v }
