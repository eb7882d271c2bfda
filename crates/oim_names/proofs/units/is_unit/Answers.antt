use Rattle.std.proofs.Common.{ℕ, List, Some, None, sym, ◌∙◌, arith}
use Rattle.std.proofs.lemmas.Str.Pattern.{split_parts, split_once_first}
use Rattle.oim_names.proofs.Colons.{no_rest}
use Rattle.oim_names.proofs.Measures.{unit_cut, unit_uncut}
use Rattle.oim_names.proofs.units.is_unit.Goals as goal

pub returns-in-None : goal.returns-in-None
returns-in-None c =
    let t : List ℕ = c.args.text.now in
    let p = split_once_first 47 t None c.in-None.ensures.cases (omega arith) in
    c.is_side-in-None.ensures ∙ unit_uncut c.args.names.now t (no_rest 47 t (omega (arith, p)))

pub returns-then-is_side : goal.returns-then-is_side
returns-then-is_side c =
    let t : List ℕ = c.args.text.now in
    let p = split_once_first 47 t (Some (c.in-Some.above, c.in-Some.below)) c.in-Some.ensures.cases (omega arith) in
    let q = split_parts 47 t (Some (c.in-Some.above, c.in-Some.below)) c.in-Some.ensures.cases (omega arith) in
    let k = unit_cut c.args.names.now t c.in-Some.above.now c.in-Some.below.now c.utf8.text q.0 p.1 p.2 in
    c.is_side-then-is_side.ensures ∙ rw (sym c.is_side.ensures ∙ c.if-is_side.true) at k

pub returns-else-is_side : goal.returns-else-is_side
returns-else-is_side c =
    let t : List ℕ = c.args.text.now in
    let p = split_once_first 47 t (Some (c.in-Some.above, c.in-Some.below)) c.in-Some.ensures.cases (omega arith) in
    let q = split_parts 47 t (Some (c.in-Some.above, c.in-Some.below)) c.in-Some.ensures.cases (omega arith) in
    let k = unit_cut c.args.names.now t c.in-Some.above.now c.in-Some.below.now c.utf8.text q.0 p.1 p.2 in
    c.if-is_side.false ∙ rw (sym c.is_side.ensures ∙ c.if-is_side.false) at k
