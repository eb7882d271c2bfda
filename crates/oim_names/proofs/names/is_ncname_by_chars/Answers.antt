use Rattle.std.proofs.Common.{◌≡◌, ◌++◌, refl, sym, ◌∙◌, ap, rules, length}
use Rattle.std.proofs.lemmas.Str.{IsUtf8-past_char}
use Rattle.std.proofs.lemmas.Iterator.{YieldsList-from_chars}
use Rattle.std.proofs.lemmas.Iterator.Search.{all_from_yields_List}
use Rattle.oim_names.specs.Names.{is_ncname, is_name_start, is_name_char}
use Rattle.oim_names.proofs.Begins.{goes_on, not_begun, no_name, in_text}
use Rattle.oim_names.proofs.names.is_ncname_by_chars.Goals as goal
use lib.Utf8.{encode}

pub returns-then-is_name_start : goal.returns-then-is_name_start
unfolding is_ncname
returns-then-is_name_start c =
    let text = c.args.text.now in
    let rest = c.next.new.self.rest.now in
    let e : text ≡ encode c.in-Some.first ++ rest = sym c.chars-rest.ensures.rest ∙ c.in-Some.ensures.steps.0 in
    let y = YieldsList-from_chars {s = c.next.new.self} rest (IsUtf8-past_char text rest c.in-Some.first c.utf8.text e) refl in
    in_text text _ _ c.utf8.text (goes_on is_name_start is_name_char text rest c.in-Some.first _ c.all.result c.utf8.text e c.if-is_name_start.ensures refl
    (all_from_yields_List is_name_char _ _ c.all.result c.all.ensures.ran y (λ x b q k. search rules)))

pub returns-else-is_name_start : goal.returns-else-is_name_start
unfolding is_ncname
returns-else-is_name_start c =
    let text = c.args.text.now in
    let rest = c.next.new.self.rest.now in
    let e : text ≡ encode c.in-Some.first ++ rest = sym c.chars-rest.ensures.rest ∙ c.in-Some.ensures.steps.0 in
    in_text text _ _ c.utf8.text (not_begun is_name_start is_name_char text rest c.in-Some.first _ c.utf8.text e c.is_name_start.ensures c.if-is_name_start.false)

pub returns-in-None : goal.returns-in-None
unfolding is_ncname
returns-in-None c = in_text c.args.text.now _ _ c.utf8.text (no_name is_name_start is_name_char c.args.text.now (ap length (sym c.chars-rest.ensures.rest) ∙ c.in-None.ensures.steps.0.0))
