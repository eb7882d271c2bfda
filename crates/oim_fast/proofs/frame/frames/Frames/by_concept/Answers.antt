use Rattle.std.proofs.Common.{◌≡◌, Some, codes}
use Rattle.std.specs.List.{slice_get}
use Rattle.oim_resolve.specs.Facts.{given}
use Rattle.oim_fast.specs.state.KeptFrames.{IsFor, IsKnownFor, IsOfConcept}
use Rattle.oim_row.specs.Answers.{kind_read}
use Rattle.oim_row.specs.state.Rows.{cell_in}
use Rattle.oim_fast.specs.declared.frame.frame.Frame.{Frame}
use Rattle.oim_fast.proofs.ChoiceLaws.{groups_within}
use Rattle.oim_fast.proofs.ServedLaws.{referred_read, some_also}
use Rattle.oim_fast.proofs.frame.frames.Frames.by_concept.Goals as goal

pub is_at-requires : goal.is_at-requires
is_at-requires c = groups_within c.args.row.now.header c.args.maker.now.cells.list.items c.args.column.now c.requires.column

pub returns-then-is_at-clause-place : goal.returns-then-is_at-clause-place
returns-then-is_at-clause-place c =
    let x = c.args.row.now in
    let cells = c.args.maker.now.cells.list.items in
    let column = c.args.column.now in
    let k = c.in-Some.kind in
    let read : kind_read x.header.report (given (cell_in x column.column) (codes "concept")) ≡ Some k =
    referred_read x column.column c.args.maker.now.references c.args.reference c.at.result.now k c.number-number.ensures.within c.requires.maker.fresh c.requires.reference c.at.ensures c.in-Some.is in
    some_also (IsKnownFor cells column (Some k)) (IsOfConcept x cells column) (slice_get c.args.self.now.list.items column.last_of_kind)
    (λ (v : Frame) h. record { kind = k; is = h.is; concept = read }) (c.is_at.ensures c.if-is_at.true)

pub returns-clause-place : goal.returns-clause-place
returns-clause-place c =
    let x = c.args.row.now in
    let cells = c.args.maker.now.cells.list.items in
    let column = c.args.column.now in
    let k = c.in-Some.kind in
    let read : kind_read x.header.report (given (cell_in x column.column) (codes "concept")) ≡ Some k =
    referred_read x column.column c.args.maker.now.references c.args.reference c.at.result.now k c.number-number.ensures.within c.requires.maker.fresh c.requires.reference c.at.ensures c.in-Some.is in
    some_also (IsFor cells column (Some k)) (IsOfConcept x cells column) (slice_get c.place.new.self.list.items c.in_ok-place.place)
    (λ (v : Frame) is. record { kind = k; is = is; concept = read }) c.in_ok-place.ensures.place
