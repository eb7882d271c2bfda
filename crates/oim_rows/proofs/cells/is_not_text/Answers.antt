use Rattle.std.specs.Str.{is_utf8}
use Rattle.std.proofs.Common.{sym, ap, not}
use Rattle.std.proofs.lemmas.Str.{is_utf8-from_IsUtf8, IsUtf8-from_is_utf8}
use Rattle.std.proofs.lemmas.Bool.{false_from_ne_true}
use Rattle.oim_rows.proofs.cells.is_not_text.Goals as goal

pub returns-in-Ok : goal.returns-in-Ok
returns-in-Ok c = sym (ap not (is_utf8-from_IsUtf8 c.args.cell.now c.in-Ok.ensures.cases.1))

pub returns-in-Err : goal.returns-in-Err
returns-in-Err c = sym (ap not (false_from_ne_true (is_utf8 c.args.cell.now) (λ e. c.in-Err.ensures.cases.0 (IsUtf8-from_is_utf8 c.args.cell.now e))))
