use Rattle.std.proofs.Common.{◌≡◌, ◌++◌, ◌∷◌, [], codes}
use Rattle.serde_json.specs.View.{view}
use Rattle.oim_entries.specs.declared.fault.MetaFault.TheVariants.{BadTemplate, UnknownColumn}
use Rattle.oim_meta.specs.Faults.{has_bad_sources}
use Rattle.oim_meta.specs.UnknownColumn.{has_unknown_source}
use Rattle.oim_meta.specs.Findings.{found}
use Rattle.oim_meta.specs.Paths.{column_path}
use Rattle.oim_meta.specs.Walk.{in_sources}
use Rattle.oim_meta.proofs.Joined.{joined}
use Rattle.oim_meta.proofs.walk.sources.Columns.find_sources.Goals as goal

pub returns : goal.returns
unfolding in_sources
returns c =
    let place = column_path c.args.place.0.now c.args.place.1.now ++ codes "propertiesFrom" ∷ [] in
    let first : c.add_if.new.self ≡ c.args.findings.now ++ found BadTemplate place (has_bad_sources (view c.args.column.now)) =
    rw (← c.bad_sources.ensures, ← c.at.ensures) c.add_if.ensures in
    let second : c.add_if-2.new.self ≡ c.add_if.new.self ++ found UnknownColumn place (has_unknown_source (view c.args.self.now.value.now) (view c.args.column.now)) =
    rw (← c.unknown_source.ensures, ← c.at-2.ensures) c.add_if-2.ensures in
    joined _ _ _ _ _ first second
