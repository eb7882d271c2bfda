use Rattle.std.proofs.Common.{◌≡◌, [], drop, take}
use Rattle.oim_rows.specs.Header.{repeat_from}
use Rattle.oim_rows.specs.state.Decoding.{IsIndexOf}
use Rattle.oim_rows.proofs.header_columns.add_columns.Given as goal

abbrev pub invariant-loop-place : goal.invariant-loop-place
invariant-loop-place l = record {
  whole : repeat_from 0 [] l.header ≡ repeat_from l.place (take l.place l.header) (drop l.place l.header);
  index : IsIndexOf (take l.place l.header) l.places;
}
