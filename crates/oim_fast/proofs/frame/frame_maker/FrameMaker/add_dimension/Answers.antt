use Rattle.std.proofs.Common.{map, sym}
use Rattle.oim_fast.specs.state.Frames.{entry_of}
use Rattle.oim_fast.specs.state.FrameParts.{IsPart}
use Rattle.oim_row.specs.References.{key_of}
use Rattle.oim_row.proofs.Growth.{grows_none}
use Rattle.oim_fast.proofs.MakerLaws.{maker_with}
use Rattle.oim_fast.proofs.MakingLaws.{adds_one, entry_there, part_there, there_in}
use Rattle.oim_fast.proofs.frame.frame_maker.FrameMaker.add_dimension.Goals as goal

pub returns-in_default-clause-grows : goal.returns-in_default-clause-grows
returns-in_default-clause-grows c = grows_none c.args.self.now.references

pub returns-in_err-place-clause-maker : goal.returns-in_err-place-clause-maker
returns-in_err-place-clause-maker c = maker_with c.args.row.now c.args.self.now c.place_for.new.references c.place_for.new.self c.requires.maker c.place_for.ensures.fresh c.place_for.ensures.parts

pub returns-in_err-added-clause-maker : goal.returns-in_err-added-clause-maker
returns-in_err-added-clause-maker c = maker_with c.args.row.now c.args.self.now c.place_for.new.references c.place_for.new.self c.requires.maker c.place_for.ensures.fresh c.place_for.ensures.parts

pub returns-clause-maker : goal.returns-clause-maker
returns-clause-maker c = maker_with c.args.row.now c.args.self.now c.place_for.new.references c.place_for.new.self c.requires.maker c.place_for.ensures.fresh c.place_for.ensures.parts

pub returns-clause-added : goal.returns-clause-added
returns-clause-added c = λ yes.
    let f = c.args.row.now.header in
    let keys = map key_of c.place_for.new.references in
    let xs = c.place_for.new.self.list.items in
    let p = c.index-part.result.now in
    let within = there_in entry_of xs c.in_ok-place.place _ c.in_ok-place.ensures.place in
    let entry = entry_there xs c.in_ok-place.place p _ within c.index-part.ensures c.in_ok-place.ensures.place in
    let is : IsPart f keys p = part_there f keys xs c.in_ok-place.place p c.place_for.ensures.parts within c.index-part.ensures in
    adds_one f keys c.args.name.now c.in-Some.written.now _ p c.args.text.now c.add.new.self (sym c.in-Some.ensures) entry is (c.in_ok-added.ensures.ready yes) (c.in_ok-added.ensures.part yes)
