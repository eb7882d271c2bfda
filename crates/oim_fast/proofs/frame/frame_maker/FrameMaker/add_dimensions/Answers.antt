use Rattle.std.proofs.Common.{◌≡◌, List, ℕ, map, refl, rules, true, take, reverse, sym, ap, subst, ◌∙◌, arith}
use Rattle.std.specs.List.{flat_map}
use Rattle.std.proofs.lemmas.List.{take_all}
use Rattle.oim_report.specs.declared.data.Written.{Written}
use Rattle.oim_resolve.specs.ProgramCell.{held}
use Rattle.oim_resolve.specs.Written.{written}
use Rattle.oim_fast.specs.state.Making.{AddsEntries}
use Rattle.oim_resolve.specs.state.ProgramLevels.{named}
use Rattle.oim_row.specs.References.{key_of}
use Rattle.oim_row.proofs.Growth.{grows_none, grows_twice}
use Rattle.oim_fast.proofs.MakingLaws.{adds_grow, adds_more, adds_none, entries_more}
use Rattle.oim_fast.proofs.frame.frame_maker.FrameMaker.add_dimensions.Goals as goal

pub loop-i-init : goal.loop-i-init
loop-i-init c = record {
  maker = c.requires.maker;
  grows = grows_none c.args.self.now.references;
  cells = refl;
  added = adds_none c.args.row.now.header (map key_of c.args.self.now.references) c.args.text.now;
}

pub loop-i-preserved : goal.loop-i-preserved
loop-i-preserved c =
    let f = c.args.row.now.header in
    let ls = reverse (held c.args.levels.now) in
    let ns = c.in_ok-names.names.items in
    let i = c.loop-i.i in
    let before = c.loop-i.self.references in
    let after = c.add_dimension.new.self.references in
    let keys = map key_of after in
    let more = c.in_ok-added.ensures in
    let done = adds_grow f before after more.grows (flat_map (λ n. named n (written ls n)) (held (take i ns))) c.args.text.now c.loop-i.text c.loop-i.invariant.added in
    let yes : c.in_ok-added.added ≡ true = search rules in
    record {
      maker = more.maker;
      grows = grows_twice c.args.self.now.references before after c.loop-i.invariant.grows more.grows;
      cells = more.cells ∙ c.loop-i.invariant.cells;
      added = subst (λ (es : List (List ℕ × Written)). AddsEntries f keys es c.args.text.now c.add_dimension.new.text)
          (sym (entries_more ls ns i c.index-name.result.now (omega (arith, c.len-i-end.ensures)) c.index-name.ensures))
          (adds_more f keys _ _ c.args.text.now c.loop-i.text c.add_dimension.new.text done (more.added yes));
    }

pub returns-clause-added : goal.returns-clause-added
returns-clause-added c = λ _.
    let f = c.args.row.now.header in
    let ls = reverse (held c.args.levels.now) in
    let ns = c.in_ok-names.names.items in
    let every : take c.loop-i.i ns ≡ ns = take_all c.loop-i.i ns (omega (arith, c.len-i-end.ensures)) in
    let all = ap (λ xs. flat_map (λ n. named n (written ls n)) (held xs)) every ∙ ap (flat_map (λ n. named n (written ls n))) c.in_ok-names.ensures in
    subst (λ (es : List (List ℕ × Written)). AddsEntries f (map key_of c.loop-i.self.references) es c.args.text.now c.loop-i.text) all c.loop-i.invariant.added

pub returns-then-not-added-clause-grows : goal.returns-then-not-added-clause-grows
returns-then-not-added-clause-grows c = grows_twice c.args.self.now.references c.loop-i.self.references c.add_dimension.new.self.references c.loop-i.invariant.grows c.add_dimension.ensures.grows

pub returns-in_err-added-clause-grows : goal.returns-in_err-added-clause-grows
returns-in_err-added-clause-grows c = grows_twice c.args.self.now.references c.loop-i.self.references c.add_dimension.new.self.references c.loop-i.invariant.grows c.add_dimension.ensures.grows

pub returns-in_err-names-clause-grows : goal.returns-in_err-names-clause-grows
returns-in_err-names-clause-grows c = grows_none c.args.self.now.references
