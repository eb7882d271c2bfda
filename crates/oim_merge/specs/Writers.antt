-- A document that is being written, as contracts see its writer.
use Rattle.std.specs.Prelude.{ℕ, List, ◌++◌}
use Rattle.oim_json.specs.Sinks.{Broke, SinkView, Wrote}
use Rattle.oim_json.specs.declared.layout.Layout.{Layout}
use Rattle.oim_json.specs.declared.mark.WriteFault.{WriteFault}
use Rattle.oim_ring.specs.declared.item.Item.{Item}
use Rattle.oim_merge.specs.Histories.{refusals, tail_for, unfinished}

-- A writer: the layout, the head, the items so far, the sink before the head, and the sink after
-- the writer's last call.
pub record WriterView : Type 0 where
  pub layout : Layout
  pub head : List ℕ
  pub items : List Item
  pub before : SinkView
  pub sink : SinkView

abbrev pub writing : Layout → List ℕ → List Item → SinkView → SinkView → WriterView
writing layout head items before sink = record { layout = layout; head = head; items = items; before = before; sink = sink }

-- The writer after these further items, with the sink that it left.
abbrev pub given : WriterView → List Item → SinkView → WriterView
given w items sink = record w { items = w.items ++ items; sink = sink }

-- The text of the items so far, without a tail.
abbrev pub text_so_far : WriterView → List ℕ
text_so_far w = unfinished w.layout w.head w.items

-- The text of the document if it ends after these items.
abbrev pub whole_text : WriterView → List ℕ
whole_text w = text_so_far w ++ tail_for w.layout (refusals w.items)

-- The text so far was written, or a write failed before its end.
abbrev pub IsWritten : WriterView → Type 0
IsWritten w = Wrote w.before w.sink (text_so_far w)

abbrev pub IsBroken : WriterView → WriteFault → Type 0
IsBroken w fault = Broke w.before w.sink (text_so_far w) fault
