use Rattle.std.proofs.Common.{Some, sym, ap, ◌∙◌}
use Rattle.std.specs.Option.{option_and_then, option_map}
use Rattle.std.specs.Borrow.{Bor}
use Rattle.oim_report.specs.declared.data.Written.{Written}
use Rattle.oim_rows.specs.RowFacts.{TableHeaderValue}
use Rattle.oim_row.specs.Sources.{seen_source, source_written}
use Rattle.oim_fast.proofs.MakerLaws.{maker_grows}
use Rattle.oim_fast.proofs.PartLaws.{key_there}
use Rattle.oim_fast.proofs.frame.frame_maker.FrameMaker.add_test.Goals as goal

pub returns-in_err-place-clause-maker : goal.returns-in_err-place-clause-maker
returns-in_err-place-clause-maker c = maker_grows c.args.row.now c.args.self.now c.place_for.new.self c.requires c.place_for.ensures.fresh c.place_for.ensures.grows

pub returns-in_err-add_reference-clause-maker : goal.returns-in_err-add_reference-clause-maker
returns-in_err-add_reference-clause-maker c = maker_grows c.args.row.now c.args.self.now c.place_for.new.self c.requires c.place_for.ensures.fresh c.place_for.ensures.grows

pub returns-in-Some-clause-maker : goal.returns-in-Some-clause-maker
returns-in-Some-clause-maker c = maker_grows c.args.row.now c.args.self.now c.place_for.new.self c.requires c.place_for.ensures.fresh c.place_for.ensures.grows

pub returns-in-Some-clause-added : goal.returns-in-Some-clause-added
returns-in-Some-clause-added c = λ yes. record {
  test = Some c.in_ok-place.place;
  is = (
    seen_source c.in-Some.source,
    sym (c.in-Some.ensures ∙ ap (λ (g : TableHeaderValue). option_and_then (source_written g) (option_map (λ (w : Bor Written). w.now) c.args.written)) c.header.ensures),
    key_there c.place_for.new.self c.in_ok-place.place _ c.in_ok-place.ensures.place,
  );
  text = c.in_ok-add_reference.ensures;
}
