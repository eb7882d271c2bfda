use Rattle.std.proofs.Common.{subst}
use Rattle.oim_run.specs.Outputs.{SaysLast}
use Rattle.xbrl_json_cli.proofs.said.convert_and_tell.Goals as goal

pub returns : goal.returns
returns g c =
    let between = g.L.Teller.said c.told_as_asked.new.to in
    let said = g.L.Teller.said c.last_told.new.to in
    record {
      ended = c.convert_apart-outcome.result;
      once = c.convert_apart-outcome.ensures;
      between = between;
      says = c.told_as_asked.ensures.says;
      last = subst (λ t. SaysLast t c.args.request.now.faults c.args.request.now.counts c.convert_apart-outcome.result between said c.last_told.result) c.told_as_asked.ensures.same c.last_told.ensures;
    }
