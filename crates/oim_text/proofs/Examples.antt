-- Worked cases of what JSON escapes.
use Rattle.std.proofs.Common.{◌≡◌, true, false, refl}
use Rattle.oim_text.specs.state.Escapes.{is_escaped}

control_is_escaped : is_escaped 31 ≡ true
control_is_escaped = refl

blank_stands_for_itself : is_escaped 32 ≡ false
blank_stands_for_itself = refl
