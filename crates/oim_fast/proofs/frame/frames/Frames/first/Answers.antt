use Rattle.std.specs.List.{All}
use Rattle.std.proofs.Common.{◌<◌, List, ℕ, length, subst, sym}
use Rattle.oim_fast.proofs.ChoiceLaws.{groups_within}
use Rattle.oim_fast.proofs.frame.frames.Frames.first.Goals as goal

pub guess_of-guess-requires : goal.guess_of-guess-requires
guess_of-guess-requires c =
    subst (λ (gs : List ℕ). All (λ p. p < length c.args.maker.now.cells.list.items) gs) (sym c.as_slice.ensures.value)
    (groups_within c.args.row.now.header c.args.maker.now.cells.list.items c.args.column.now c.requires.column)

pub is_at-requires : goal.is_at-requires
is_at-requires c = groups_within c.args.row.now.header c.args.maker.now.cells.list.items c.args.column.now c.requires.column

pub has_unknown-requires : goal.has_unknown-requires
has_unknown-requires c = groups_within c.args.row.now.header c.args.maker.now.cells.list.items c.args.column.now c.requires.column
