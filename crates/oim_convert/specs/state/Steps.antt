-- The items that each part of a conversion on one thread gives to the writer.
use Rattle.std.specs.Prelude.{◌≡◌, ℕ, true, List, Option, Some, Result, Ok, Err, IfSome}
use mathlib.Core.List.{IsPrefix}
use Rattle.oim_json.specs.declared.mark.WriteFault.{WriteFault}
use Rattle.oim_merge.specs.Writers.{WriterView, given}
use Rattle.oim_records.specs.Reads.{IsFileOf}
use Rattle.oim_report.specs.ReportValue.{ReportValue}
use Rattle.oim_resolve.specs.FactParts.{FactParts as Fact}
use Rattle.oim_ring.specs.Items.{blocks_only}
use Rattle.oim_ring.specs.declared.item.Ending as Endings
use Rattle.oim_ring.specs.declared.item.Item.{Item}
use Rattle.oim_rows.specs.Streams.{Stream, facts_of, table_stream}
use Rattle.oim_convert.specs.Histories.{IsGiven, facts_in}

-- The facts of a table with this stream, and its ending; or a write failed after a prefix of its
-- facts.
abbrev pub Gave : ℕ → Stream → List Fact → Result Endings.Ending WriteFault → Type 0
Gave table s facts (Ok ending) = IsGiven table s facts ending
Gave table s facts (Err w) = IsPrefix facts (facts_of s)

-- The same for a table's file, if contracts see its bytes.
abbrev pub GaveFile : Option (List ℕ) → ReportValue → ℕ → ℕ → List Fact → Result Endings.Ending WriteFault → Type 0
GaveFile known report table limit facts answer = IfSome known (λ bytes. Gave table (table_stream report table limit (Some bytes)) facts answer)

-- The same for a table with this reader, or without one.
abbrev pub GaveTable : {R : Type 0} → (R → Option (List ℕ)) → ReportValue → ℕ → ℕ → Option R → List Fact → Result Endings.Ending WriteFault → Type 0
GaveTable told report table limit reader facts answer =
    (file : Option (List ℕ)) → IsFileOf told reader file → Gave table (table_stream report table limit file) facts answer

-- The writer was given blocks, and `Holds` is true of their facts.
pub record TookBlocks (old new : WriterView) (Holds : List Fact → Type 0) : Type 0 where
  pub blocks : List Item
  pub only : blocks_only blocks ≡ true
  pub is : new ≡ given old blocks new.sink
  pub facts : Holds (facts_in blocks)
