use Rattle.std.proofs.Common.{◌≡◌, ◌∙◌, ℕ, ap, length, take}
use Rattle.std.proofs.Math.Seq.{take-length}
use Rattle.oim_report.specs.Readers.{table_of}
use Rattle.oim_report.specs.ReportValue.{ReportValue}
use Rattle.oim_fast.specs.state.Facts.{lead_text}
use Rattle.oim_fast.proofs.StartLaws.{lead_put}
use Rattle.oim_fast.proofs.frame.fact_start.FactStart.new.Goals as goal

pub returns : goal.returns
returns c =
    let header = c.args.header.now in
    let id : c.table_id.result.now ≡ (table_of header.report header.table).id =
    c.table_id.ensures ∙ ap (λ (r : ReportValue). (table_of r c.table.result).id) c.report.ensures ∙ ap (λ (t : ℕ). (table_of header.report t).id) c.table.ensures.value in
    let whole : c.push.new.self.items ≡ lead_text header =
    rw (c.in_ok-push.ensures.items, c.in_ok-put_escaped.ensures.escaped, c.in_ok-put.ensures.items, c.new-start.ensures.items, id) (lead_put ((table_of header.report header.table).id)) in
    record {
      text = ap (λ n. take n c.push.new.self.items) c.len.ensures ∙ take-length c.push.new.self.items ∙ whole;
      size = c.len.ensures ∙ ap length whole;
      number = tt;
    }
