use Rattle.std.proofs.Common.{◌≡◌, ◌+◌, ◌-◌, ◌<◌, length, get_or, take, drop, true, sym, ap, ◌∙◌, arith, length-drop, take_all}
use Rattle.std.specs.List.{prefix_len}
use Rattle.oim_names.specs.Names.{is_ncname, is_name_char, is_name_start}
use Rattle.oim_names.proofs.AsciiNames.{is_ascii_and, front_name}
use Rattle.oim_names.proofs.names.ascii_ncname_len.Goals as goal

pub returns-in-len1-up-clause-name : goal.returns-in-len1-up-clause-name
returns-in-len1-up-clause-name c h =
    let text = c.args.text.now in
    let bytes = c.as_bytes.result.now in
    let same : bytes ≡ text = c.as_bytes.ensures.value in
    let some : 0 < length text = rw (← same) c.in-len1-up.len_at_least in
    let start : is_ascii_and is_name_start (get_or text 0 0) ≡ true = rw (← same) (sym c.is_ascii_name_start.ensures ∙ c.if-is_ascii_name_start.true) in
    let others : take (length bytes - 1) (drop 1 bytes) ≡ drop 1 bytes = take_all _ (drop 1 bytes) (omega (arith, length-drop 1 bytes)) in
    let count : c.name_chars_len.result ≡ prefix_len (is_ascii_and is_name_char) (drop 1 text) = c.name_chars_len.ensures.chars ∙ ap (prefix_len (is_ascii_and is_name_char)) (others ∙ ap (drop 1) same) in
    ap (λ n. is_ncname (take (1 + n) text)) count ∙ front_name text some start
