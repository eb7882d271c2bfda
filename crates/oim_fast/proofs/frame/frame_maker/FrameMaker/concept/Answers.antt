use Rattle.std.proofs.Common.{map, reverse, sym, inl}
use Rattle.oim_resolve.specs.ProgramCell.{held}
use Rattle.oim_fast.specs.state.Frames.{entry_of}
use Rattle.oim_fast.specs.state.FrameParts.{IsPart}
use Rattle.oim_row.specs.References.{key_of}
use Rattle.oim_row.proofs.Growth.{grows_none}
use Rattle.oim_fast.proofs.MakerLaws.{maker_with}
use Rattle.oim_fast.proofs.MakingLaws.{concept_made, entry_there, part_there, there_in}
use Rattle.oim_fast.proofs.frame.frame_maker.FrameMaker.concept.Goals as goal

pub returns-in-Some-clause-concept : goal.returns-in-Some-clause-concept
returns-in-Some-clause-concept c = inl c.in-Some.is

pub returns-in-Some-clause-grows : goal.returns-in-Some-clause-grows
returns-in-Some-clause-grows c = grows_none c.args.self.now.references

pub returns-in_default-written-clause-grows : goal.returns-in_default-written-clause-grows
returns-in_default-written-clause-grows c = grows_none c.args.self.now.references

pub returns-in_err-place-clause-maker : goal.returns-in_err-place-clause-maker
returns-in_err-place-clause-maker c = maker_with c.args.row.now c.args.self.now c.place_for.new.references c.place_for.new.self c.requires.maker c.place_for.ensures.fresh c.place_for.ensures.parts

pub returns-clause-maker : goal.returns-clause-maker
returns-clause-maker c = maker_with c.args.row.now c.args.self.now c.place_for.new.references c.place_for.new.self c.requires.maker c.place_for.ensures.fresh c.place_for.ensures.parts

pub returns-clause-concept : goal.returns-clause-concept
returns-clause-concept c =
    let f = c.args.row.now.header in
    let keys = map key_of c.place_for.new.references in
    let ls = reverse (held c.args.levels.now) in
    let xs = c.place_for.new.self.list.items in
    let p = c.index-part.result.now in
    let within = there_in entry_of xs c.in_ok-place.place _ c.in_ok-place.ensures.place in
    let entry = entry_there xs c.in_ok-place.place p _ within c.index-part.ensures c.in_ok-place.ensures.place in
    let is : IsPart f keys p = part_there f keys xs c.in_ok-place.place p c.place_for.ensures.parts within c.index-part.ensures in
    concept_made f keys ls p c.in-Some-written.concept.now c.args.kind c.concept_of.result entry is c.concept_of.ensures (sym c.in-Some-written.ensures)
