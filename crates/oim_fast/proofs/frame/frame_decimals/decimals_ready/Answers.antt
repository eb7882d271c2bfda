use Rattle.std.proofs.Common.{sym, ap, ◌∙◌, refl}
use Rattle.oim_rows.specs.RowFacts.{TableHeaderValue}
use Rattle.oim_row.specs.Sources.{seen_source, source_decimals}
use Rattle.oim_fast.proofs.PartLaws.{key_there, no_decimals}
use Rattle.oim_fast.proofs.frame.frame_decimals.decimals_ready.Goals as goal

pub returns-in-Some-clause-decimals : goal.returns-in-Some-clause-decimals
returns-in-Some-clause-decimals c = (
  c.requires.empty,
  seen_source c.in-Some.source,
  sym (c.in-Some.ensures ∙ ap (λ (g : TableHeaderValue). source_decimals g c.args.written.now) c.header.ensures),
  key_there c.place_for.new.self c.in_ok-place.place _ c.in_ok-place.ensures.place,
)

pub returns-in-Absent-clause-decimals : goal.returns-in-Absent-clause-decimals
returns-in-Absent-clause-decimals c = rw c.in-Absent.is (refl, no_decimals c.args.settled.now.items c.requires.empty)
