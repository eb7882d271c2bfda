use Rattle.std.proofs.Common.{◌≡◌, ℕ, Option, None, IfSome, map, true, sym, ap, subst}
use Rattle.std.specs.Prelude.{IsSomeAnd}
use Rattle.std.specs.List.{All, slice_get}
use Rattle.oim_resolve.specs.Written.{levels}
use Rattle.oim_fast.specs.state.Columns.{IsFactColumn}
use Rattle.oim_fast.specs.state.Frames.{HasReferredKind, is_known_choice}
use Rattle.oim_fast.specs.state.ChosenGroups.{choices_in}
use Rattle.oim_fast.specs.state.KeptFrames.{IsKnownFor, IsTextFor, text_in}
use Rattle.oim_row.specs.References.{key_of}
use Rattle.oim_row.specs.state.Rows.{cell_in}
use Rattle.oim_fast.specs.declared.frame.fact_column.FactColumn.{FactColumn}
use Rattle.oim_row.specs.declared.group_cells.GroupCells.{GroupCells}
use Rattle.oim_fast.proofs.ColumnLaws.{guessed}
use Rattle.oim_fast.proofs.ServedLaws.{concept_here, known_here, served_places, text_here, there_some}
use Rattle.oim_fast.proofs.frame.frames.Frames.frame_for.Goals as goal

pub by_concept-requires-clause-reference : goal.by_concept-requires-clause-reference
by_concept-requires-clause-reference c =
    let x = c.args.row.now in
    let vs = c.first.new.self.list.items in
    let cells = c.args.maker.now.cells.list.items in
    let column = c.args.column.now in
    let place = c.in-Some.place in
    let keys = map key_of c.first.new.maker.references in
    let P = IsKnownFor cells column None in
    let at = subst (λ (o : Option ℕ). IfSome o (λ q. IsSomeAnd (slice_get vs q) P)) c.in-Some.is c.in_ok-first.ensures.place in
    subst (λ (q : ℕ). HasReferredKind x.header keys (levels (cell_in x q)) c.in-Some-concept.reference) (sym (ap (λ (k : FactColumn). k.column) c.first.ensures.column))
    (concept_here x cells column c.requires.column c.requires.maker.cells c.requires.maker.said keys vs c.first.ensures.frames place c.index-frame.result.now (there_some P vs place at) c.index-frame.ensures at
    c.in-Some-concept.reference c.in-Some-concept.ensures)

pub returns-in_default-concept-clause-text : goal.returns-in_default-concept-clause-text
returns-in_default-concept-clause-text c =
    let x = c.args.row.now in
    let vs = c.first.new.self.list.items in
    let cells = c.args.maker.now.cells.list.items in
    let column = c.args.column.now in
    let place = c.in-Some.place in
    let keys = map key_of c.first.new.maker.references in
    let P = IsKnownFor cells column None in
    let at = subst (λ (o : Option ℕ). IfSome o (λ q. IsSomeAnd (slice_get vs q) P)) c.in-Some.is c.in_ok-first.ensures.place in
    text_here x cells column c.requires.column c.requires.maker.cells c.requires.maker.said keys vs c.first.ensures.frames place c.index-frame.result.now (there_some P vs place at) c.index-frame.ensures at

pub returns-clause-text : goal.returns-clause-text
returns-clause-text c =
    let x = c.args.row.now in
    let vs = c.first.new.self.list.items in
    let cells = c.args.maker.now.cells.list.items in
    let column = c.args.column.now in
    let one = c.first.new.column in
    let place = c.in-Some.place in
    let keys = map key_of c.first.new.maker.references in
    let P = IsKnownFor cells column None in
    let at = subst (λ (o : Option ℕ). IfSome o (λ q. IsSomeAnd (slice_get vs q) P)) c.in-Some.is c.in_ok-first.ensures.place in
    let known = known_here x cells column c.requires.column c.requires.maker.cells c.requires.maker.said keys vs c.first.ensures.frames place c.index-frame.result.now (there_some P vs place at) c.index-frame.ensures at in
    let kept : IsFactColumn x.header c.first.new.maker.cells.list.items one =
    subst (λ (g : GroupCells). IsFactColumn x.header g.list.items one) (sym c.first.ensures.cells) (guessed x.header cells column one c.first.ensures.column c.requires.column) in
    let now : All (λ o. is_known_choice o ≡ true) (choices_in c.first.new.maker.cells.list.items one.groups.items) =
    subst (λ (g : GroupCells). All (λ o. is_known_choice o ≡ true) (choices_in g.list.items one.groups.items)) (sym c.first.ensures.cells)
    (subst (λ (k : FactColumn). All (λ o. is_known_choice o ≡ true) (choices_in cells k.groups.items)) (sym c.first.ensures.column) known) in
    subst (λ (q : ℕ). IfSome c.in_ok-found.found (λ p. IfSome (text_in c.by_concept.new.self.list.items p) (IsTextFor x (map key_of c.by_concept.new.maker.references) q))) (ap (λ (k : FactColumn). k.column) c.first.ensures.column)
    (served_places x c.first.new.maker.cells.list.items one kept c.first.ensures.maker.cells c.first.ensures.maker.said now (map key_of c.by_concept.new.maker.references) c.by_concept.new.self.list.items
    c.by_concept.ensures.frames c.in_ok-found.found c.in_ok-found.ensures.place)
