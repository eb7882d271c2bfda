use Rattle.std.proofs.Common.{◌≡◌, ℕ, List, Some, true, false, refl, sym, ap, ◌∙◌}
use Rattle.oim_names.specs.Language.{is_language, language_of}
use Rattle.oim_names.proofs.Tags.{tag_sound, tag_complete}
use Rattle.oim_names.proofs.languages.language.Goals as goal

pub returns-in_ok-to_ascii_lowercase : goal.returns-in_ok-to_ascii_lowercase
unfolding language_of
returns-in_ok-to_ascii_lowercase c =
    let t : List ℕ = c.args.text.now in
    let e : is_language t ≡ true = sym c.is_language.ensures ∙ c.if-is_language.true in
    record {
      grammar = (λ h. tag_sound t e, λ h. refl);
      value = rw e (ap Some c.in_ok-to_ascii_lowercase.ensures.ok);
    }

pub returns-else-is_language : goal.returns-else-is_language
unfolding language_of
returns-else-is_language c =
    let t : List ℕ = c.args.text.now in
    let e : is_language t ≡ false = sym c.is_language.ensures ∙ c.if-is_language.false in
    record {
      grammar = (λ h. absurd (cc), λ h. sym e ∙ tag_complete h);
      value = rw e refl;
    }
