use Rattle.std.proofs.Common.{None, Some, arith, refl, sym, subst, ◌∙◌, append_assoc, codes}
use Rattle.std.proofs.lemmas.Str.Pattern.{split_parts}
use Rattle.oim_cells.specs.Numeral.{IsSplit, suffixed, bare}
use Rattle.oim_cells.proofs.Marks.{lacks_by_index}
use Rattle.oim_cells.proofs.Suffixes.{split_at, split_bare}
use Rattle.oim_cells.proofs.numeral.split.Goals as goal

pub returns-then-is_numeral-clause-numeral : goal.returns-then-is_numeral-clause-numeral
returns-then-is_numeral-clause-numeral c = bare c.args.kind c.args.text.now (c.if-is_numeral.ensures.0 refl)

pub returns-then-is_numeral-clause-only : goal.returns-then-is_numeral-clause-only
returns-then-is_numeral-clause-only c =
    let s = c.args.text.now in
    let n = split_parts 100 s None c.in_default.ensures.cases (omega arith) in
    λ v a p. let i = split_bare c.args.kind s (lacks_by_index 100 s n) v a p in (i.0, sym i.2)

pub returns-else-is_numeral-clause-only : goal.returns-else-is_numeral-clause-only
returns-else-is_numeral-clause-only c =
    let s = c.args.text.now in
    let n = split_parts 100 s None c.in_default.ensures.cases (omega arith) in
    λ v a p. let i = split_bare c.args.kind s (lacks_by_index 100 s n) v a p in let bad = c.if-is_numeral.ensures.1 i.1 in absurd (cc)

pub returns-then-not-is_numeral-clause-only : goal.returns-then-not-is_numeral-clause-only
returns-then-not-is_numeral-clause-only c =
    let s = c.args.text.now in
    let t = split_parts 100 s (Some (c.in-Some.numeral, c.in-Some.suffix)) c.in-Some.ensures.cases (omega arith) in
    λ v a p. let i = split_at c.args.kind s _ _ t.0 (lacks_by_index 100 _ t.1) v a p in let bad = c.if-not-is_numeral.ensures.1 i.1 in absurd (cc)

pub returns-in_err-accuracy-clause-only : goal.returns-in_err-accuracy-clause-only
returns-in_err-accuracy-clause-only c =
    let s = c.args.text.now in
    let t = split_parts 100 s (Some (c.in-Some.numeral, c.in-Some.suffix)) c.in-Some.ensures.cases (omega arith) in
    rw c.from_residual.ensures (λ v a p. let i = split_at c.args.kind s _ _ t.0 (lacks_by_index 100 _ t.1) v a p in let bad = (c.in_err-accuracy.ensures.means i.2.0).1 i.2.1 in absurd (cc))

pub returns-clause-numeral : goal.returns-clause-numeral
returns-clause-numeral c =
    let s = c.args.text.now in
    let v = c.in-Some.numeral.now in
    let d = c.in-Some.suffix.now in
    let t = split_parts 100 s (Some (c.in-Some.numeral, c.in-Some.suffix)) c.in-Some.ensures.cases (omega arith) in
    let q = suffixed c.args.kind v d c.in_ok-accuracy.accuracy (c.if-not-is_numeral.ensures.0 refl) ((c.in_ok-accuracy.ensures.means c.in_ok-accuracy.accuracy).0 refl) in
    subst (λ x. IsSplit c.args.kind x v (Some c.in_ok-accuracy.accuracy)) (append_assoc v (codes "d") d ∙ sym t.0) q

pub returns-clause-only : goal.returns-clause-only
returns-clause-only c =
    let s = c.args.text.now in
    let t = split_parts 100 s (Some (c.in-Some.numeral, c.in-Some.suffix)) c.in-Some.ensures.cases (omega arith) in
    λ v a p. let i = split_at c.args.kind s _ _ t.0 (lacks_by_index 100 _ t.1) v a p in let e = (c.in_ok-accuracy.ensures.means i.2.0).1 i.2.1 in (i.0, e ∙ sym i.2.2)
