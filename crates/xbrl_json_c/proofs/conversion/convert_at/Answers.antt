use Rattle.std.proofs.Common.{subst, sym, ◌∙◌}
use Rattle.xbrl_json_c.specs.Answers.{Runs, files_at}
use Rattle.xbrl_json_c.proofs.conversion.convert_at.Goals as goal

pub returns : goal.returns
returns c =
    let ran = c.run_over-outcome.result.0 in
    record {
      ran = ran;
      run = subst (Runs (files_at c.args.files.files.now) c.args.meta.now c.args.types.now c.args.layout ran) (sym c.of.ensures.document) c.run_over-outcome.ensures;
      exit = c.of.ensures.status ∙ c.status.ensures;
    }
