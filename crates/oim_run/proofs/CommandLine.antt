-- The values of a parse's getters, by the rows that the parse made.
use Rattle.std.proofs.Common.{◌≡◌, ◌∙◌, ap, ap₂, ℕ, false, List, [], ◌∷◌, Option, Some, None, Result, Ok, refl}
use Rattle.std.specs.Borrow.{Bor}
use Rattle.std.specs.Str.Parse.{ParsesUnsigned}
use Rattle.clap.specs.Words.{ReadsOne, Rule, Text, rule_of}
use Rattle.clap.specs.declared.builder.arg.Arg.{Arg}
use Rattle.clap.specs.declared.builder.texts.Texts.TheVariants.{One}
use Rattle.clap.specs.declared.builder.value_parser.ValueParser.{ValueParser}
use Rattle.oim_run.specs.CommandLine.{IsNumberOf}

-- A number that a typed getter read.
pub number_read : (E : Type 0) (G : List ℕ → Result ℕ E → Type 0) (text : Option Text) (n : ℕ)
    → (text ≡ None → Some n ≡ None) → ((t : Text) → text ≡ Some t → ReadsOne G t (Some n))
    → ((t : Text) → G t (Ok n) → ParsesUnsigned {E = E} 64 10 t (Ok n)) → IsNumberOf text n
number_read E G None n none value only =
    let no : Some n ≡ None = none refl in
    cc
number_read E G (Some t) n none value only = (only t (value t refl)).1

-- An argument with a parser and one default value.
pub chosen : (a b c : Arg) (parser : ValueParser) (d : Bor Text) (r : Rule) → b ≡ record a { value_parser = b.value_parser } → b.value_parser ≡ Some parser
    → c ≡ record b { default_vals = One d } → rule_of a ≡ r → a.global ≡ false
    → (rule_of c ≡ record r { parser = Some parser; defaults = d.now ∷ [] }) × (c.global ≡ false)
chosen a b c parser d r others is last rule local =
    let read : rule_of b ≡ record r { parser = Some parser } = ap rule_of others ∙ ap₂ (λ p (q : Rule). record q { parser = p }) is rule in (
      ap rule_of last ∙ ap (λ (q : Rule). record q { defaults = d.now ∷ [] }) read,
      ap (λ (x : Arg). x.global) last ∙ ap (λ (x : Arg). x.global) others ∙ local,
    )
