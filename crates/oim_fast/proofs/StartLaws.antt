-- How the text of a fact up to the identifier of its row is put together.
use Rattle.std.proofs.Common.{◌≡◌, ℕ, ◌<◌, ◌^◌, List, ◌++◌, Option, None, codes, sym, ap, ◌∙◌, append_assoc, length, take, arith}
use mathlib.Core.List.{IsPrefix}
use Rattle.std.proofs.Math.Seq.{take-append_seam}
use Rattle.std.specs.Prelude.{decimal}
use Rattle.std.specs.List.{flat_map}
use Rattle.std.proofs.lemmas.Grind.{flat_map-append}
use Rattle.oim_report.specs.Readers.{table_of}
use Rattle.oim_json.specs.JsonText.{escaped_byte}
use Rattle.oim_rows.specs.RowFacts.{id_place_of, row_id_text}
use Rattle.oim_row.specs.Rows.{RowValue, row_in}
use Rattle.oim_fast.specs.state.Facts.{lead_text, start_text}
use Rattle.oim_json.proofs.Quoted.{all_unescaped}
use Rattle.oim_fast.proofs.PlainNumerals.{decimal_is_plain}

pub lead_put : (id : List ℕ) → (codes ",\"" ++ flat_map escaped_byte id) ++ codes "." ≡ codes ",\"" ++ flat_map escaped_byte (id ++ codes ".")
unfolding escaped_byte
lead_put id = append_assoc (codes ",\"") (flat_map escaped_byte id) (codes ".") ∙ ap (λ t. codes ",\"" ++ t) (sym (flat_map-append escaped_byte id (codes ".")))

pub start_put : (table row : List ℕ) → (codes ",\"" ++ flat_map escaped_byte (table ++ codes ".")) ++ flat_map escaped_byte row ≡ codes ",\"" ++ flat_map escaped_byte (table ++ codes "." ++ row)
start_put table row =
    append_assoc (codes ",\"") (flat_map escaped_byte (table ++ codes ".")) (flat_map escaped_byte row)
    ∙ ap (λ t. codes ",\"" ++ t) (sym (flat_map-append escaped_byte (table ++ codes ".") row))

-- A number needs no escape.
pub number_put : (out : List ℕ) (n : ℕ) → n < 2 ^ 64 → (out ++ codes "r_") ++ decimal n ≡ out ++ flat_map escaped_byte (codes "r_" ++ decimal n)
unfolding escaped_byte
number_put out n few =
    append_assoc out (codes "r_") (decimal n)
    ∙ ap (λ t. out ++ (codes "r_" ++ t)) (sym (all_unescaped (decimal n) (decimal_is_plain n few)))

-- A prefix of a text stays when more is appended.
pub front_stays : (n : ℕ) (old new front : List ℕ) → take n old ≡ front → n ≡ length front → IsPrefix (take n old) new → take n new ≡ front
front_stays n old new front is size prefix =
    let whole : new ≡ front ++ prefix.0 = sym prefix.1 ∙ ap (λ q. q ++ prefix.0) is in
    ap (take n) whole ∙ ap (λ m. take m (front ++ prefix.0)) size ∙ take-append_seam front prefix.0

-- A prefix stays, whatever follows it.
pub front_found : (n : ℕ) (front mid more text : List ℕ) → n ≡ length front → text ≡ (front ++ mid) ++ more → take n text ≡ front
front_found n front mid more text size is = ap (λ m. take m text) size ∙ ap (take (length front)) (is ∙ append_assoc front mid more) ∙ take-append_seam front (mid ++ more)

-- A row's number is its identifier.
pub numbered_start : (x : RowValue) → x.number < 2 ^ 32 → id_place_of x.header ≡ None → (lead_text x.header ++ codes "r_") ++ decimal x.number ≡ start_text x
numbered_start x few none =
    number_put (lead_text x.header) x.number (omega arith)
    ∙ sym (ap (λ (o : Option ℕ). lead_text x.header ++ flat_map escaped_byte (row_id_text o x.number x.fields)) none)
    ∙ start_put ((table_of x.header.report x.header.table).id) ((row_in x).id)
