use Rattle.std.proofs.Common.{◌≡◌, true, reverse, rules, subst, sym}
use Rattle.oim_fast.specs.state.Frames.{IsTextOfKind}
use Rattle.oim_fast.specs.state.Making.{from_general, keys_in}
use Rattle.oim_resolve.specs.ProgramCell.{held}
use Rattle.oim_row.proofs.Growth.{grows_twice}
use Rattle.oim_fast.proofs.MakingLaws.{text_made}
use Rattle.oim_fast.proofs.frame.frame_maker.FrameMaker.text.Goals as goal

pub returns-clause-text : goal.returns-clause-text
returns-clause-text c =
    let added : c.in_ok-added.added ≡ true = search rules in
    let unit : c.in_ok-has_unit.has_unit ≡ true = search rules in
    let period : c.in_ok-has_period.has_period ≡ true = search rules in
    let made = text_made c.args.row.now.header c.opening.new.self.references c.add_dimensions.new.self.references c.add_unit.new.self.references c.add_period.new.self.references
    (reverse (held c.args.levels.now)) c.args.kind c.args.lead.now.items
    c.in_ok-text.text c.add_dimensions.new.text c.add_unit.new.text c.add_period.new.text
    c.add_dimensions.ensures.grows c.add_unit.ensures.grows c.add_period.ensures.grows
    c.in_ok-text.ensures.opening (c.in_ok-added.ensures.added added) (c.in_ok-has_unit.ensures.added unit) (c.in_ok-has_period.ensures.added period) in
    subst (IsTextOfKind c.args.row.now.header (keys_in c.add_period.new.self) (from_general c.args.levels.now) c.args.lead.now.items c.args.kind) (sym c.fit.ensures) made

pub returns-then-not-added-clause-grows : goal.returns-then-not-added-clause-grows
returns-then-not-added-clause-grows c = grows_twice c.args.self.now.references c.opening.new.self.references c.add_dimensions.new.self.references c.opening.ensures.grows c.add_dimensions.ensures.grows

pub returns-in_err-added-clause-grows : goal.returns-in_err-added-clause-grows
returns-in_err-added-clause-grows c = grows_twice c.args.self.now.references c.opening.new.self.references c.add_dimensions.new.self.references c.opening.ensures.grows c.add_dimensions.ensures.grows

pub returns-in_err-has_unit-clause-grows : goal.returns-in_err-has_unit-clause-grows
returns-in_err-has_unit-clause-grows c =
    grows_twice c.args.self.now.references c.add_dimensions.new.self.references c.add_unit.new.self.references
    (grows_twice c.args.self.now.references c.opening.new.self.references c.add_dimensions.new.self.references c.opening.ensures.grows c.add_dimensions.ensures.grows) c.add_unit.ensures.grows

pub returns-then-not-has_unit-clause-grows : goal.returns-then-not-has_unit-clause-grows
returns-then-not-has_unit-clause-grows c =
    grows_twice c.args.self.now.references c.add_dimensions.new.self.references c.add_unit.new.self.references
    (grows_twice c.args.self.now.references c.opening.new.self.references c.add_dimensions.new.self.references c.opening.ensures.grows c.add_dimensions.ensures.grows) c.add_unit.ensures.grows

pub returns-in_err-has_period-clause-grows : goal.returns-in_err-has_period-clause-grows
returns-in_err-has_period-clause-grows c =
    grows_twice c.args.self.now.references c.add_unit.new.self.references c.add_period.new.self.references
    (grows_twice c.args.self.now.references c.add_dimensions.new.self.references c.add_unit.new.self.references
    (grows_twice c.args.self.now.references c.opening.new.self.references c.add_dimensions.new.self.references c.opening.ensures.grows c.add_dimensions.ensures.grows) c.add_unit.ensures.grows)
    c.add_period.ensures.grows

pub returns-then-not-has_period-clause-grows : goal.returns-then-not-has_period-clause-grows
returns-then-not-has_period-clause-grows c =
    grows_twice c.args.self.now.references c.add_unit.new.self.references c.add_period.new.self.references
    (grows_twice c.args.self.now.references c.add_dimensions.new.self.references c.add_unit.new.self.references
    (grows_twice c.args.self.now.references c.opening.new.self.references c.add_dimensions.new.self.references c.opening.ensures.grows c.add_dimensions.ensures.grows) c.add_unit.ensures.grows)
    c.add_period.ensures.grows

pub returns-clause-grows : goal.returns-clause-grows
returns-clause-grows c =
    grows_twice c.args.self.now.references c.add_unit.new.self.references c.add_period.new.self.references
    (grows_twice c.args.self.now.references c.add_dimensions.new.self.references c.add_unit.new.self.references
    (grows_twice c.args.self.now.references c.opening.new.self.references c.add_dimensions.new.self.references c.opening.ensures.grows c.add_dimensions.ensures.grows) c.add_unit.ensures.grows)
    c.add_period.ensures.grows
