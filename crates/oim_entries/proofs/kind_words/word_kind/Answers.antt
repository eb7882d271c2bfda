use Rattle.std.proofs.Common.{◌≡◌, ◌∙◌, Option, Some, None, ap, sym, map, option_map}
use Rattle.oim_names.specs.Lookup.{value_at}
use Rattle.oim_report.specs.declared.kind.ValueType.{ValueType}
use Rattle.oim_report.specs.declared.kind.Kind.{Kind}
use Rattle.oim_entries.specs.KindWords.{value_words, concept_of}
use Rattle.oim_entries.proofs.TypeFacts.{differs}
use Rattle.oim_entries.proofs.WordLaws.{value_of_map}
use Rattle.oim_entries.proofs.kind_words.word_kind.Goals as goal

made : ValueType → Kind
made x = concept_of x

pub returns-in-Some : goal.returns-in-Some
unfolding made
returns-in-Some c =
    let t = c.args.word.now in
    let found : ◌≡◌ {A = Option Kind} (Some (made c.in-Some.value)) (value_at t (map (λ e. (e.0, made e.1)) value_words)) = ap (option_map made) c.in-Some.ensures ∙ sym (value_of_map made t value_words) in
    rw (differs _ t c.in_default.not-explicit, differs _ t c.in_default.not-typed, differs _ t c.in_default.not-member) found

pub returns-in-None : goal.returns-in-None
unfolding made
returns-in-None c =
    let t = c.args.word.now in
    let found : ◌≡◌ {A = Option Kind} (None) (value_at t (map (λ e. (e.0, made e.1)) value_words)) = ap (option_map made) c.in-None.ensures ∙ sym (value_of_map made t value_words) in
    rw (differs _ t c.in_default.not-explicit, differs _ t c.in_default.not-typed, differs _ t c.in_default.not-member) found
