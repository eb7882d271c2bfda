use Rattle.std.proofs.Common.{◌≡◌, ◌++◌, ◌∙◌, List, None, ℕ, ap, codes, rules, subst, sym}
use Rattle.std.specs.Prelude.{decimal}
use mathlib.Core.List.{IsPrefix}
use Rattle.std.specs.List.{flat_map}
use Rattle.oim_json.specs.JsonText.{escaped_byte}
use Rattle.oim_report.specs.Readers.{table_of}
use Rattle.oim_rows.specs.RowFacts.{id_place_of}
use Rattle.oim_fast.specs.state.Facts.{lead_text, start_text}
use Rattle.oim_row.specs.Rows.{row_in}
use Rattle.oim_fast.proofs.StartLaws.{front_stays, numbered_start, start_put}
use Rattle.oim_fast.proofs.frame.fact_start.FactStart.read.Goals as goal

pub returns-in_err-put_id-clause-lead : goal.returns-in_err-put_id-clause-lead
returns-in_err-put_id-clause-lead c =
    let old = c.step.new.self in
    let h = c.step.ensures.lead in
    let stays = subst (λ (xs : List ℕ). IsPrefix xs c.put_id.new.out.items) c.truncate.ensures.items c.put_id.ensures.stays in
    record {
      text = front_stays old.lead old.start.items c.put_id.new.out.items (lead_text c.args.row.now.header) h.text h.size stays;
      size = h.size;
      number = tt;
    }

pub returns-else-is_none-clause-lead : goal.returns-else-is_none-clause-lead
returns-else-is_none-clause-lead c =
    let old = c.step.new.self in
    let h = c.step.ensures.lead in
    let stays = subst (λ (xs : List ℕ). IsPrefix xs c.put_id.new.out.items) c.truncate.ensures.items c.put_id.ensures.stays in
    record {
      text = front_stays old.lead old.start.items c.put_id.new.out.items (lead_text c.args.row.now.header) h.text h.size stays;
      size = h.size;
      number = tt;
    }

pub returns-then-is_none-clause-lead : goal.returns-then-is_none-clause-lead
returns-then-is_none-clause-lead c =
    let x = c.args.row.now in
    let old = c.step.new.self in
    let h = c.step.ensures.lead in
    let new = c.put_id.new.out.items in
    let stays = subst (λ (xs : List ℕ). IsPrefix xs new) c.truncate.ensures.items c.put_id.ensures.stays in
    let start : new ≡ start_text x =
    c.in_ok-put_id.ensures.id ∙ ap (λ q. q ++ flat_map escaped_byte (row_in x).id) (c.truncate.ensures.items ∙ h.text)
    ∙ start_put ((table_of x.header.report x.header.table).id) ((row_in x).id) in
    let none : id_place_of x.header ≡ None = search rules in
    record {
      text = front_stays old.lead old.start.items new (lead_text x.header) h.text h.size stays;
      size = h.size;
      number = (none, start ∙ sym (numbered_start x c.number.ensures.within none) ∙ ap (λ n. (lead_text x.header ++ codes "r_") ++ decimal n) (sym c.number.ensures.value));
    }

pub returns-then-is_none-clause-start : goal.returns-then-is_none-clause-start
returns-then-is_none-clause-start c =
    let x = c.args.row.now in
    c.in_ok-put_id.ensures.id ∙ ap (λ q. q ++ flat_map escaped_byte (row_in x).id) (c.truncate.ensures.items ∙ c.step.ensures.lead.text)
    ∙ start_put ((table_of x.header.report x.header.table).id) ((row_in x).id)

pub returns-else-is_none-clause-start : goal.returns-else-is_none-clause-start
returns-else-is_none-clause-start c =
    let x = c.args.row.now in
    c.in_ok-put_id.ensures.id ∙ ap (λ q. q ++ flat_map escaped_byte (row_in x).id) (c.truncate.ensures.items ∙ c.step.ensures.lead.text)
    ∙ start_put ((table_of x.header.report x.header.table).id) ((row_in x).id)
