use Rattle.std.proofs.Common.{List, map, sym, subst, arith}
use Rattle.std.specs.List.{All}
use Rattle.oim_fast.specs.state.KeptFrames.{IsFrame}
use Rattle.oim_row.specs.References.{Key, key_of}
use Rattle.oim_fast.proofs.ColumnLaws.{all_columns_kept}
use Rattle.oim_fast.proofs.table.cell_writer.CellWriter.refresh.Goals as goal

pub returns-in_err-refresh-clause-header : goal.returns-in_err-refresh-clause-header
returns-in_err-refresh-clause-header c =
    let f = c.args.row.now.header in
    let old = c.args.self.now in
    let later = c.refresh.new.self in
    let columns = all_columns_kept f old.maker.cells.list.items later.cells.list.items old.columns.items c.refresh.ensures.columns c.requires.columns in
    let frames : All (IsFrame f (map key_of later.references)) old.frames.list.items = subst (λ (keys : List Key). All (IsFrame f keys) old.frames.list.items) (sym c.refresh.ensures.keys) c.requires.frames in
    record { columns = columns; maker = c.refresh.ensures.header; frames = frames; lead = c.requires.lead }

pub returns-in_err-read-clause-header : goal.returns-in_err-read-clause-header
returns-in_err-read-clause-header c =
    let f = c.args.row.now.header in
    let old = c.args.self.now in
    let later = c.refresh.new.self in
    let columns = all_columns_kept f old.maker.cells.list.items later.cells.list.items old.columns.items c.refresh.ensures.columns c.requires.columns in
    let frames : All (IsFrame f (map key_of later.references)) old.frames.list.items = subst (λ (keys : List Key). All (IsFrame f keys) old.frames.list.items) (sym c.refresh.ensures.keys) c.requires.frames in
    record { columns = columns; maker = c.refresh.ensures.header; frames = frames; lead = c.read.ensures.lead }

pub returns-clause-header : goal.returns-clause-header
returns-clause-header c =
    let f = c.args.row.now.header in
    let old = c.args.self.now in
    let later = c.refresh.new.self in
    let columns = all_columns_kept f old.maker.cells.list.items later.cells.list.items old.columns.items c.refresh.ensures.columns c.requires.columns in
    let frames : All (IsFrame f (map key_of later.references)) old.frames.list.items = subst (λ (keys : List Key). All (IsFrame f keys) old.frames.list.items) (sym c.refresh.ensures.keys) c.requires.frames in
    record { columns = columns; maker = c.refresh.ensures.header; frames = frames; lead = c.read.ensures.lead }

pub returns-clause-row : goal.returns-clause-row
returns-clause-row c =
    let f = c.args.row.now.header in
    let old = c.args.self.now in
    let later = c.refresh.new.self in
    let columns = all_columns_kept f old.maker.cells.list.items later.cells.list.items old.columns.items c.refresh.ensures.columns c.requires.columns in
    let frames : All (IsFrame f (map key_of later.references)) old.frames.list.items = subst (λ (keys : List Key). All (IsFrame f keys) old.frames.list.items) (sym c.refresh.ensures.keys) c.requires.frames in
    record { columns = columns; maker = c.in_ok-refresh.ensures.maker; frames = frames; lead = c.read.ensures.lead; start = c.in_ok-read.ensures.start; number = omega arith }
