use Rattle.std.proofs.Common.{◌∙◌, ap}
use Rattle.std.proofs.lemmas.Result.{IfOk-weaker}
use Rattle.csv.specs.Writing.{default_writer, row_text}
use Rattle.oim_places.proofs.Rereads.{text_of_record}
use Rattle.oim_places.proofs.fault_rows.more_faults_row.Goals as goal

pub returns : goal.returns
returns c =
    IfOk-weaker c.record_text.result _ _
    (λ v h. text_of_record _ _ _ v.items (h ∙ ap (λ fields. row_text default_writer fields) c.in_ok-put_more_fields.ensures))
    c.record_text.ensures
