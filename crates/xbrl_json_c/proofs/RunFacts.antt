-- Runs and their answers, with the paths as bytes.
use Rattle.std.specs.Prelude.{◌≡◌, ℕ, List, Some, IsUtf8}
use Rattle.std.proofs.Common.{subst, inr}
use Rattle.oim_files.specs.Folders.{Files}
use Rattle.oim_json.specs.declared.layout.Layout.{Layout}
use Rattle.xbrl_json_c.specs.Answers.{Answers, Gives, layout_at}
use Rattle.xbrl_json_c.specs.declared.answer.CallAnswer.{CallAnswer}

-- The paths as they were handed over.
pub answered : (files : Files) (meta meta' types types' : List ℕ) (number : ℕ) (layout : Layout) (a : CallAnswer) → meta' ≡ meta → types' ≡ types
    → IsUtf8 meta → IsUtf8 types → layout_at number ≡ Some layout → Gives files meta' types' layout a → Answers files meta types number a
answered files meta meta' types types' number layout a same_meta same_types is_meta is_types is given =
    inr (
      layout,
      (is_meta, is_types, is),
      subst (λ m. Gives files m types layout a) same_meta (subst (λ t. Gives files meta' t layout a) same_types given),
    )
