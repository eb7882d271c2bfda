use Rattle.std.proofs.Common.{◌∙◌, ap, sym, arith}
use Rattle.oim_records.specs.state.Scans.{fresh}
use Rattle.oim_records.specs.declared.scan.Scan.{Scan}
use Rattle.oim_records.proofs.Meaning.{rows-between, rows-within_one}
use Rattle.oim_records.proofs.Walks.{scanned-rows, scanned-seen}
use Rattle.oim_records.proofs.cut.rows_scanned.Goals as goal

pub overflow_add-result : goal.overflow_add-result
overflow_add-result c =
    let rows = scanned-rows fresh c.args.text.now (omega arith) in
    let seen = scanned-seen fresh c.args.text.now in
    let same = ap (λ (s : Scan). s.rows) c.requires in
    omega arith

pub returns-in-Between : goal.returns-in-Between
returns-in-Between c = ap (λ (s : Scan). s.rows) c.requires ∙ rows-between c.args.text.now (sym (ap (λ (s : Scan). s.place) c.requires) ∙ c.in-Between.is)

pub returns-in_default : goal.returns-in_default
returns-in_default c =
    let e = c.requires in
    rw e (rows-within_one c.args.text.now (λ h. c.in_default.not-Between (ap (λ (s : Scan). s.place) e ∙ h)))
