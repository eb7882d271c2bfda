-- Examples of the rules for a fact's text in parts (`specs/state/Pieces.antt`,
-- `specs/state/FrameTexts.antt`) and for a row in parts (`specs/Facts.antt`).
use Rattle.std.proofs.Common.{◌≡◌, ◌∙◌, ℕ, zero, suc, List, [], ◌∷◌, Some, None, Ok, arith, codes, refl, sym}
use Rattle.oim_json.specs.JsonText.{escaped_byte, quoted}
use Rattle.oim_json.proofs.Blocks.{nothing_written}
use Rattle.oim_report.specs.declared.kind.Kind.TheVariants as kind
use Rattle.oim_resolve.specs.Cell.{cell_of}
use Rattle.oim_resolve.specs.FactParts.{FactParts as Fact}
use Rattle.oim_resolve.specs.Facts.{cell_result}
use Rattle.oim_row.specs.Rows.{RowValue, row_in}
use Rattle.oim_fast.specs.Facts.{GiveFacts, HasFactsFrom, HasPart, WritesPart}
use Rattle.oim_fast.specs.state.FrameTexts.{FrameValue, frame_dimensions}
use Rattle.oim_fast.specs.state.Pieces.{behind, name_text}
use Rattle.oim_fast.specs.declared.frame.frame_decimals.FrameDecimals.TheVariants.{Settled}

named_value : behind (name_text (codes "unit")) (codes "null,") ≡ codes "\"unit\":null,"
unfolding quoted escaped_byte
named_value = refl

no_piece : behind (name_text (codes "unit")) [] ≡ []
no_piece = refl

-- `frame_dimensions`: the second reference gives nothing, so the name of its dimension is left out.
abbrev frame : FrameValue
frame = record {
  kind = kind.Text;
  lead = [];
  settled = [];
  decimals = Settled;
  segments = record { alone = codes "\"concept\":\"eg:A\","; name = codes "\"entity\":"; reference = 0 } ∷ record { alone = []; name = codes "\"eg:D\":"; reference = 1 } ∷ [];
  rest = codes "\"period\":null,";
}

abbrev gives : ℕ → List ℕ
gives zero = codes "\"eg:E\","
gives (suc i) = []

dimensions : frame_dimensions gives frame ≡ codes "\"concept\":\"eg:A\",\"entity\":\"eg:E\",\"period\":null,"
dimensions = refl

-- PARTS OF A ROW (`specs/Facts.antt`). A header without columns of facts gives none, and none is
-- written.
abbrev bare : RowValue → RowValue
bare x = record { header = record { report = x.header.report; table = x.header.table; limit = x.header.limit; columns = None ∷ [] }; number = x.number; fields = x.fields }

no_facts : (x : RowValue) → HasFactsFrom (bare x) 0 []
no_facts x = refl

no_fault : (x : RowValue) → HasPart (bare x) 0
no_fault x = ([], refl)

nothing_put : (x : RowValue) → WritesPart (bare x) 0 0 [] [] [] []
nothing_put x = record { facts = []; order = omega arith; within = omega arith; are = refl; text = nothing_written.0; ends = nothing_written.1 }

-- One column gives what its cell gives (`GiveFacts`).
one_column : (x : RowValue) (c : ℕ) (f : Fact) → cell_result (cell_of x.header.report x.header.table (row_in x) c) ≡ Ok (Some f) → GiveFacts x (c ∷ []) (f ∷ [])
one_column x c f is = (Some f, [], is, refl, refl)

one_lost : (x : RowValue) (c : ℕ) (f : Fact) → cell_result (cell_of x.header.report x.header.table (row_in x) c) ≡ Ok (Some f) → GiveFacts x (c ∷ []) [] → ⊥
one_lost x c f is (Some g, more, that, same, rest) = absurd (cc same)
one_lost x c f is (None, more, that, same, rest) = let both : Ok (Some f) ≡ Ok None = sym is ∙ that in absurd (cc both)
