use Rattle.std.proofs.Common.{◌≡◌, ◌∙◌, Option, Some, None, ap, sym, map, option_map}
use Rattle.oim_names.specs.Lookup.{value_at}
use Rattle.oim_report.specs.declared.kind.SimpleType.{SimpleType}
use Rattle.oim_report.specs.declared.kind.ValueType.{ValueType}
use Rattle.oim_report.specs.declared.kind.ValueType.TheVariants as value
use Rattle.oim_entries.specs.KindWords.{simple_words}
use Rattle.oim_entries.proofs.TypeFacts.{differs}
use Rattle.oim_entries.proofs.WordLaws.{value_of_map}
use Rattle.oim_entries.proofs.kind_words.value_type.Goals as goal

made : SimpleType → ValueType
made x = value.Simple x

pub returns-in-Some : goal.returns-in-Some
unfolding made
returns-in-Some c =
    let t = c.args.word.now in
    let found : ◌≡◌ {A = Option ValueType} (Some (made c.in-Some.simple)) (value_at t (map (λ e. (e.0, made e.1)) simple_words)) = ap (option_map made) c.in-Some.ensures ∙ sym (value_of_map made t simple_words) in
    rw (differs _ t c.in_default.not-monetary, differs _ t c.in_default.not-shares, differs _ t c.in_default.not-text, differs _ t c.in_default.not-enumeration, differs _ t c.in_default.not-enumerations, differs _ t c.in_default.not-other) found

pub returns-in-None : goal.returns-in-None
unfolding made
returns-in-None c =
    let t = c.args.word.now in
    let found : ◌≡◌ {A = Option ValueType} (None) (value_at t (map (λ e. (e.0, made e.1)) simple_words)) = ap (option_map made) c.in-None.ensures ∙ sym (value_of_map made t simple_words) in
    rw (differs _ t c.in_default.not-monetary, differs _ t c.in_default.not-shares, differs _ t c.in_default.not-text, differs _ t c.in_default.not-enumeration, differs _ t c.in_default.not-enumerations, differs _ t c.in_default.not-other) found
