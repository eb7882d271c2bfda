use Rattle.std.proofs.Common.{ap, drop, length, arith, ◌∙◌, true, false}
use Rattle.oim_json.specs.Document.{more_members}
use Rattle.oim_json.specs.declared.layout.Layout.TheVariants.{Compact}
use Rattle.oim_json.proofs.Blocks.{facts_within}
use Rattle.oim_json.proofs.Members.{commas_are, without_comma}
use Rattle.oim_json.proofs.block.Block.bytes_behind.Goals as goal

pub without_first-requires : goal.without_first-requires
without_first-requires c = omega (arith, ap length (c.as_slice-bytes.ensures.value ∙ c.self.invariant.0), facts_within c.self.inside.facts.value, c.self.invariant.2)

pub returns-then-any : goal.returns-then-any
returns-then-any c =
    rw (c.if-any.true)
    (c.as_slice-bytes.ensures.value ∙ c.self.invariant.0 ∙ commas_are c.self.inside.facts.value ∙ ap (more_members Compact true) c.self.view_is)

pub returns-else-any : goal.returns-else-any
returns-else-any c =
    rw (c.if-any.false)
    (c.without_first.ensures ∙ ap (drop 1) (c.as_slice-bytes.ensures.value ∙ c.self.invariant.0 ∙ commas_are c.self.inside.facts.value)
    ∙ without_comma c.self.inside.facts.value c.self.invariant.2 ∙ ap (more_members Compact false) c.self.view_is)
