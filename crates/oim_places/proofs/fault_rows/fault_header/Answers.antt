use Rattle.std.proofs.Common.{[], ◌∷◌, refl}
use Rattle.std.specs.Prelude.{codes}
use Rattle.csv.specs.Writing.{escaped, fields_text, is_blank}
use Rattle.oim_places.proofs.Rereads.{text_of_record}
use Rattle.oim_places.proofs.fault_rows.fault_header.Goals as goal

pub returns : goal.returns
unfolding is_blank fields_text escaped
returns c =
    text_of_record (codes "table_id") (codes "table_row")
    (codes "table_column" ∷ codes "fault_number" ∷ codes "fault_name" ∷ codes "line" ∷ codes "header_cell" ∷ codes "row_cell" ∷ codes "place"
    ∷ codes "cause_file" ∷ codes "cause_line" ∷ codes "cause_cell" ∷ codes "cause_text" ∷ []) _ refl
