use Rattle.std.proofs.Common.{sym}
use Rattle.xbrl_json_c.specs.Answers.{files_at}
use Rattle.xbrl_json_c.proofs.RunFacts.{answered}
use Rattle.xbrl_json_c.proofs.conversion.convert_files.Goals as goal

pub returns : goal.returns
returns c =
    answered (files_at c.args.files.now) c.args.meta.now c.in-Ok.meta_path.now c.args.types.now c.in-Ok-from_utf8.types_path.now c.args.number c.in-Some.layout c.convert_at.result
    c.in-Ok.ensures.cases.0 c.in-Ok-from_utf8.ensures.cases.0 c.in-Ok.ensures.cases.1 c.in-Ok-from_utf8.ensures.cases.1 (sym c.in-Some.ensures) c.convert_at.ensures
