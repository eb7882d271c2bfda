use Rattle.serde_json.specs.View.{view}
use Rattle.oim_meta.proofs.Refused.{has_identifiers, knows_columns, knows_templates, no_fault}
use Rattle.oim_meta.proofs.report.report_in.Goals as goal

pub report-requires-clause-known_templates : goal.report-requires-clause-known_templates
report-requires-clause-known_templates c = knows_templates c.args.limits c.args.parameters c.args.types (view c.args.value) c.in_ok-names.ensures.sound

pub report-requires-clause-known_columns : goal.report-requires-clause-known_columns
report-requires-clause-known_columns c = knows_columns c.args.limits c.args.parameters c.args.types (view c.args.value) c.in_ok-names.ensures.sound

pub report-requires-clause-identifiers : goal.report-requires-clause-identifiers
report-requires-clause-identifiers c = has_identifiers c.args.limits c.args.parameters c.args.types (view c.args.value) c.in_ok-names.ensures.sound

pub returns-clause-sound : goal.returns-clause-sound
returns-clause-sound c = no_fault c.args.limits c.args.parameters c.args.types (view c.args.value) c.in_ok-names.ensures.sound
