-- A document that is being written, at a later time.
use Rattle.std.specs.Prelude.{◌≡◌}
use Rattle.oim_merge.specs.Writers.{WriterView}

-- The same document at a later time.
abbrev pub Continues : WriterView → WriterView → Type 0
Continues old new = new ≡ record old { items = new.items; sink = new.sink }
