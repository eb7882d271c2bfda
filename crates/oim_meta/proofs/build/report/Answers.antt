use Rattle.std.proofs.Common.{refl}
use Rattle.serde_json.specs.View.{view}
use Rattle.oim_meta.specs.Value.{report_of}
use Rattle.oim_meta.proofs.Placed.{all_placed}
use Rattle.oim_meta.proofs.build.report.Goals as goal

pub new-requires : goal.new-requires
new-requires c =
    rw (c.requires.level, c.requires.templates, c.requires.tables, c.requires.parameters)
    (all_placed (view c.args.value) c.requires.known_templates c.requires.known_columns c.requires.order c.requires.identifiers)

pub returns : goal.returns
unfolding report_of
returns c =
    rw (c.new.ensures, c.in_ok-info.ensures, c.requires.level, c.requires.templates, c.requires.tables, c.requires.parameters, c.requires.namespaces) refl
