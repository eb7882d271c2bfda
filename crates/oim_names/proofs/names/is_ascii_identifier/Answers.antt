use Rattle.std.proofs.Common.{◌≡◌, ◌-◌, ◌<◌, length, get_or, take, drop, true, sym, ap, ◌∙◌, arith, length-drop, take_all}
use Rattle.std.specs.List.{list_all}
use Rattle.oim_names.specs.Names.{is_identifier, is_name_start, is_plain_char}
use Rattle.oim_names.proofs.AsciiNames.{is_ascii_and, ascii_name}
use Rattle.oim_names.proofs.names.is_ascii_identifier.Goals as goal

pub returns-then-is_ascii_name_start : goal.returns-then-is_ascii_name_start
unfolding is_identifier
returns-then-is_ascii_name_start c h =
    let text = c.args.text.now in
    let bytes = c.as_bytes.result.now in
    let same : bytes ≡ text = c.as_bytes.ensures.value in
    let some : 0 < length text = rw (← same) c.in-len1-up.len_at_least in
    let start : is_ascii_and is_name_start (get_or text 0 0) ≡ true = rw (← same) (sym c.is_ascii_name_start.ensures ∙ c.if-is_ascii_name_start.true) in
    let others : take (length bytes - 1) (drop 1 bytes) ≡ drop 1 bytes = take_all _ (drop 1 bytes) (omega (arith, length-drop 1 bytes)) in
    let rest : list_all (is_ascii_and is_plain_char) (drop 1 text) ≡ true = rw (← same) (ap (list_all (is_ascii_and is_plain_char)) (sym others) ∙ sym c.are_plain_chars.ensures ∙ h) in
    ascii_name is_name_start is_plain_char text c.utf8.text some start rest
