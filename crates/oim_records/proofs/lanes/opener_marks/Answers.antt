use Rattle.std.proofs.Common.{◌≡◌, ℕ, Bool, true, false, refl, arith}
use Rattle.std.specs.Prelude.{◌||◌, ◌==◌}
use Rattle.std.proofs.lemmas.Nat.{or_lt}
use lib.Bits.{bit_or}
use Rattle.oim_records.specs.state.Blocks.{is_opener}
use Rattle.oim_records.specs.Lines.{ends_line}
use Rattle.oim_records.specs.state.Bytes.{ends_field, is_comma, is_quote}
use Rattle.oim_records.proofs.BlockBits.{either-marked}
use Rattle.oim_records.proofs.lanes.opener_marks.Goals as goal

-- A comma or a line's end ends a field.
ended : (c : ℕ) → (is_comma c || ends_line c) ≡ ends_field c
ended c = by (c == 44) (c == 10) (c == 13)
  where
    by : (x y z : Bool) → (x || (y || z)) ≡ (x || y || z)
    by true y z = refl
    by false y z = refl

pub returns : goal.returns
returns c =
    let v = c.args.v in
    let commas = c.comma_marks.result in
    let lines = c.args.lines in
    let fields = either-marked is_comma ends_line ends_field refl refl ended v commas lines c.fits-v.0 c.comma_marks.type_inv (omega arith) c.comma_marks.ensures c.requires.lines in
    either-marked ends_field is_quote is_opener refl refl (λ b. refl) v (bit_or commas lines) c.args.quotes c.fits-v.0 (or_lt 64 commas lines c.comma_marks.type_inv (omega arith)) (omega arith) fields c.requires.quotes
