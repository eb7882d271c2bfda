use Rattle.std.proofs.Common.{◌∙◌, ◌++◌, ap, flat_map, map-id, string_bytes, sym}
use Rattle.std.proofs.lemmas.Iterator.{YieldsList-from_chars}
use Rattle.std.proofs.lemmas.Iterator.Consumers.{YieldsList-end}
use Rattle.oim_places.specs.state.Pointers.{char_of}
use Rattle.oim_places.proofs.terminal.put_text.Goals as goal

pub returns : goal.returns
returns c =
    let done = YieldsList-end (YieldsList-from_chars c.args.text.now c.utf8.text cc) c.loop-c.yielded _ c.loop-c.yielded_by _ _ c.in-None.is c.next.ensures.steps in
    c.loop-c.invariant ∙ ap (λ cs. string_bytes c.args.out.now ++ flat_map (char_of c.args.is_key) cs) (sym (map-id c.loop-c.yielded) ∙ done.0)
