use Rattle.std.proofs.Common.{Some, ap, sym, ◌∙◌}
use Rattle.oim_json.specs.Sinks.{sink_at}
use Rattle.xbrl_json_c.proofs.conversion.run_over.Goals as goal

pub returns : goal.returns
returns c =
    let old = c.new-sink.result in
    let new = c.run_alone-outcome.new.sink in
    record {
      before = sink_at old.mark (Some old.writer.items);
      after = sink_at new.mark (Some new.writer.items);
      fine = c.new-sink.ensures.fine;
      empty = c.new-sink.ensures.told ∙ ap Some c.new-document.ensures.items;
      ends = c.run_alone-outcome.ensures.ends;
      written = sym c.into_writer.ensures;
    }
