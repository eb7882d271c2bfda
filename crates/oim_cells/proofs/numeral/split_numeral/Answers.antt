use Rattle.oim_cells.proofs.Values.{numeral_seen}
use Rattle.oim_cells.proofs.numeral.split_numeral.Goals as goal

pub returns-clause-value : goal.returns-clause-value
returns-clause-value c =
    numeral_seen c.args.kind c.args.text.now c.trimmed.result.now c.split.result c.trimmed.ensures c.split.ensures.numeral c.split.ensures.only
