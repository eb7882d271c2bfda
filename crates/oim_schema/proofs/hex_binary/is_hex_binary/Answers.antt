use Rattle.std.proofs.Common.{◌∙◌, sym, ap}
use Rattle.oim_schema.specs.HexBinary.{are_octets, is_hex_binary}
use Rattle.oim_schema.proofs.HexLaws.{hex_Decides}
use Rattle.oim_schema.proofs.hex_binary.is_hex_binary.Goals as goal

pub returns-clause-means : goal.returns-clause-means
unfolding is_hex_binary
returns-clause-means c =
    let d = hex_Decides c.args.text.now in
    let e = c.are_octets.ensures ∙ ap are_octets c.as_bytes.ensures.value in
    (λ t. d.0 (sym e ∙ t), λ h. e ∙ d.1 h)

pub returns-clause-value : goal.returns-clause-value
unfolding is_hex_binary
returns-clause-value c = c.are_octets.ensures ∙ ap are_octets c.as_bytes.ensures.value
