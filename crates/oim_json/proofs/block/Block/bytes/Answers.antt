use Rattle.std.proofs.Common.{sym, subst, ap, drop, length, arith, ◌∙◌}
use Rattle.oim_names.specs.QName.{Lacks}
use Rattle.oim_json.specs.Document.{facts_text}
use Rattle.oim_json.proofs.Blocks.{texts_joined, facts_within}
use Rattle.oim_json.proofs.Lines.{facts_line}
use Rattle.oim_json.proofs.block.Block.bytes.Goals as goal

pub without_first-requires : goal.without_first-requires
without_first-requires c = omega (arith, ap length (c.as_slice.ensures.value ∙ c.self.invariant.0), facts_within c.self.inside.facts.value, c.self.invariant.2)

pub returns-clause-text : goal.returns-clause-text
returns-clause-text c = c.without_first.ensures ∙ ap (drop 1) (c.as_slice.ensures.value ∙ c.self.invariant.0 ∙ texts_joined c.self.inside.facts.value c.self.invariant.2) ∙ ap facts_text c.self.view_is

pub returns-clause-one_line : goal.returns-clause-one_line
returns-clause-one_line c =
    let text = c.as_slice.ensures.value ∙ c.self.invariant.0 ∙ texts_joined c.self.inside.facts.value c.self.invariant.2 in
    subst (Lacks 10) (sym (c.without_first.ensures ∙ ap (drop 1) text)) (facts_line c.self.inside.facts.value)
