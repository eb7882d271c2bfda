-- The command line, and the settings that its arguments give.
use Rattle.std.specs.Prelude.{◌≡◌, ◌⊎◌, ℕ, Bool, true, false, List, [], ◌∷◌, Option, Some, None, Result, IfOk, codes, map}
use Rattle.std.specs.Borrow.{Bor}
use Rattle.std.specs.Str.{bytes_eq}
use Rattle.std.specs.Str.Parse.{digits_value, without_leading_plus}
use Rattle.clap.specs.Kinds.{FailsBy}
use Rattle.clap.specs.Words.{App, Row, Rule, Text, fault_of, first_of, matches_of, new_app, new_rule, one_of, with_rule}
use Rattle.clap.specs.Simple.{on_top}
use Rattle.clap.specs.declared.error.Error.{Error}
use Rattle.clap.specs.declared.builder.action.ArgAction.TheVariants.{Set, SetTrue}
use Rattle.clap.specs.declared.builder.value_parser.ValueParser.TheVariants.{Names, Unsigned}
use Rattle.oim_convert.specs.Limits.{most_workers}
use Rattle.oim_json.specs.declared.layout.Layout.{Layout}
use Rattle.oim_json.specs.declared.layout.Layout.TheVariants as layout
use Rattle.oim_ring.specs.Limits.{largest_ring}
use Rattle.oim_run.specs.declared.request.Request.{Request}
use Rattle.oim_run.specs.declared.settings.Settings.{Settings}

-- An argument that takes one value, and an option of this name.
abbrev pub one_value : Text → Rule
one_value id = record (new_rule id) { action = Some Set; value_names = 1 }

abbrev pub option : Text → Rule
option id = record (one_value id) { long = Some id }

-- An option whose value is a number from 1 to `most`.
abbrev pub number_option : Text → ℕ → Text → Rule
number_option id most default =
    record (option id) { parser = Some (Unsigned 1 most); defaults = default ∷ [] }

-- The possible values of an option.
abbrev pub Words : Type 0
Words = Bor (List (Bor Text))

-- An option whose value is one of `words`.
abbrev pub word_option : Text → Words → Text → Rule
word_option id words default =
    record (option id) { parser = Some (Names words); defaults = default ∷ [] }

-- An option of this name, without a value.
abbrev pub flag : Text → Rule
flag id = record (new_rule id) { long = Some id; action = Some SetTrue }

-- META --types FILE, without the program's name; or --help, or --version.
abbrev pub inputs : App
inputs = with_rule
    (with_rule (on_top (λ s. record s { no_binary_name = true; has_version = true }) (new_app (codes "xbrl-json")))
    (record (one_value (codes "meta")) { required = true }))
    (record (option (codes "types")) { required = true })

-- The values of `--layout`.
abbrev pub AreLayouts : Words → Type 0
AreLayouts words = map (λ w. w.now) words.now ≡ codes "compact" ∷ codes "lines" ∷ []

-- The largest value of `--most-faults`.
abbrev pub largest_fault_count : ℕ
largest_fault_count = 4294967295

-- META --types FILE [--workers N] [--ring K] [--out FILE] [--whole] [--layout compact|lines]
-- [--progress] [--explain] [--no-explain] [--faults FILE] [--most-faults N] [--counts FILE]
unfoldable pub command_line : Words → App
command_line layouts = with_rule
    (with_rule
    (with_rule
    (with_rule
    (with_rule
    (with_rule
    (with_rule
    (with_rule
    (with_rule
    (with_rule
    (with_rule inputs
    (number_option (codes "workers") most_workers (codes "4")))
    (number_option (codes "ring") largest_ring (codes "1024")))
    (option (codes "out")))
    (flag (codes "whole")))
    (word_option (codes "layout") layouts (codes "compact")))
    (flag (codes "progress")))
    (flag (codes "explain")))
    (flag (codes "no-explain")))
    (option (codes "faults")))
    (number_option (codes "most-faults") largest_fault_count (codes "1000000")))
    (option (codes "counts"))

-- The option has a text, which is n in decimal digits.
abbrev pub IsNumberOf : Option Text → ℕ → Type 0
IsNumberOf None n = ⊥
IsNumberOf (Some text) n = n ≡ digits_value 10 (without_leading_plus text)

-- The text is the value of `--layout` for this layout.
abbrev pub IsLayoutOf : Option Text → Layout → Type 0
IsLayoutOf text layout.Compact = text ≡ Some (codes "compact")
IsLayoutOf text layout.Lines = text ≡ Some (codes "lines")

-- Whether the flag is given, by its text.
abbrev pub is_given : Option Text → Bool
is_given None = false
is_given (Some text) = bytes_eq text (codes "true")

-- The settings are the values of the arguments, and the defaults for omitted ones.
abbrev pub HasSettings : List Row → Settings → Type 0
HasSettings rows s = (first_of (codes "meta") rows ≡ Some s.meta)
    × (first_of (codes "types") rows ≡ Some s.types)
    × IsNumberOf (one_of (codes "workers") rows) s.workers
    × IsNumberOf (one_of (codes "ring") rows) s.ring
    × (first_of (codes "out") rows ≡ s.out)
    × IsLayoutOf (first_of (codes "layout") rows) s.layout

-- The request: the settings, the flags that do not concern a run, the file of the faults with the
-- most faults of a table, and the file of the counts.
abbrev pub HasRequest : List Row → Request → Type 0
HasRequest rows q = HasSettings rows q.settings
    × (q.whole ≡ is_given (first_of (codes "whole") rows))
    × (q.progress ≡ is_given (first_of (codes "progress") rows))
    × (q.explain ≡ is_given (first_of (codes "explain") rows))
    × (q.no_explain ≡ is_given (first_of (codes "no-explain") rows))
    × (first_of (codes "faults") rows ≡ q.faults)
    × IsNumberOf (one_of (codes "most-faults") rows) q.most_faults
    × (first_of (codes "counts") rows ≡ q.counts)

-- Whether explanations are printed, by whether --explain and --no-explain are given and whether
-- standard error is a terminal. Without both a terminal gets them; with both nothing gets them.
abbrev pub are_explained : (explain no_explain terminal : Bool) → Bool
are_explained explain true terminal = false
are_explained true false terminal = true
are_explained false false terminal = terminal

-- The same of a request.
abbrev pub explains : Request → (terminal : Bool) → Bool
explains q terminal = are_explained q.explain q.no_explain terminal

-- The answer to the arguments: a value that has what they give, or a refusal of one of the kinds of
-- the command line.
pub record Answers {X : Type 0} (has : List Row → X → Type 0) (line : App) (words : List Text) (r : Result X Error) : Type 0 where
  pub values : IfOk r (has (matches_of line words))
  pub fails : FailsBy (fault_of line words) r

-- The path of an input file in the settings.
abbrev pub IsInput : Settings → List ℕ → Type 0
IsInput s path = (path ≡ s.meta) ⊎ (path ≡ s.types)
