use Rattle.std.proofs.Common.{◌≡◌, ◌∙◌, ◌++◌, arith, length, map-id, rules, string_bytes, sym}
use Rattle.std.specs.Prelude.{codes}
use Rattle.std.proofs.lemmas.Iterator.{YieldsList-from_chars}
use Rattle.std.proofs.lemmas.Iterator.Consumers.{YieldsList-end, YieldsList-so_far, YieldsList-turn}
use Rattle.oim_places.proofs.CutTexts.{cut, whole}
use Rattle.oim_places.proofs.excerpts.excerpt.Goals as goal

pub returns-then-count-eq-MOST_CHARACTERS : goal.returns-then-count-eq-MOST_CHARACTERS
returns-then-count-eq-MOST_CHARACTERS c =
    let road = YieldsList-from_chars c.args.text.now c.utf8.text cc in
    let front = sym (map-id c.loop-c.yielded) ∙ YieldsList-so_far road c.loop-c.yielded _ c.loop-c.yielded_by in
    let more = YieldsList-turn road c.loop-c.yielded _ c.loop-c.yielded_by _ _ c.in-Some.c c.in-Some.is c.next.ensures.steps in
    let eighty : length c.loop-c.yielded ≡ 80 = omega arith in
    let said : string_bytes c.push_str.new.self ≡ string_bytes c.loop-c.out ++ codes ".." = search rules in
    said ∙ cut (string_bytes c.loop-c.out) c.args.text.now c.loop-c.yielded c.loop-c.invariant.text eighty front more.0

pub returns : goal.returns
returns c =
    let done = YieldsList-end (YieldsList-from_chars c.args.text.now c.utf8.text cc) c.loop-c.yielded _ c.loop-c.yielded_by _ _ c.in-None.is c.next.ensures.steps in
    whole (string_bytes c.loop-c.out) c.args.text.now c.loop-c.yielded c.loop-c.invariant.text (omega arith) (sym (map-id c.loop-c.yielded) ∙ done.0)
