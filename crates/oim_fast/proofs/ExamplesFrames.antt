-- Examples of the rules for frames (`specs/state/Frames.antt`, `specs/state/KeptFrames.antt`).
use Rattle.std.proofs.Common.{◌≡◌, ℕ, true, [], ◌∷◌, ◌++◌, Some, None, refl}
use Rattle.std.specs.Option.{option_to_list}
use Rattle.oim_cells.specs.declared.cells.NumberKind.TheVariants.{Decimal}
use Rattle.oim_report.specs.declared.kind.Concept.{Concept}
use Rattle.oim_report.specs.declared.kind.Kind.TheVariants as kind
use Rattle.oim_report.specs.declared.kind.PeriodType.TheVariants.{Instant}
use Rattle.oim_report.specs.declared.kind.ValueType.TheVariants as item
use Rattle.oim_rows.specs.RowFacts.{TableHeaderValue}
use Rattle.oim_fast.specs.Facts.{fact_columns_in}
use Rattle.oim_fast.specs.state.Frames.{groups_chosen, no_dimensions, period_wanted, unit_wanted, with_test}
use Rattle.oim_fast.specs.state.FrameTexts.{FrameValue, frame_dimensions}
use Rattle.oim_fast.specs.state.ValueForms.{form_of, is_number_form}
use Rattle.oim_fast.specs.state.ChosenGroups.{choice_in}
use Rattle.oim_row.specs.Groups.{group_at}
use Rattle.oim_fast.specs.state.KeptFrames.{text_in, text_of}
use Rattle.oim_row.specs.Rows.{column_in}
use Rattle.oim_fast.specs.declared.frame.frame.FrameBody.TheVariants as body
use Rattle.oim_fast.specs.declared.frame.frame_decimals.FrameDecimals.TheVariants as decimals
use Rattle.oim_fast.specs.declared.frame.value_form.ValueForm.TheVariants as form
use Rattle.oim_row.specs.declared.group_cells.Choice.TheVariants as choice

-- `fact_columns_in`: an empty header cell names no column.
empty_cell : (f : TableHeaderValue) → fact_columns_in f (None ∷ []) ≡ []
empty_cell f = refl

-- `groups_chosen`: a cell of groups without a group adds no level.
no_group : (f : TableHeaderValue) (g : ℕ) → groups_chosen f (g ∷ []) (choice.Nothing ∷ []) ≡ []
no_group f g = refl

-- `groups_chosen`: `propertiesFrom` lists the groups from the most specific to the most general.
-- The levels have the reverse order.
two_groups : (f : TableHeaderValue) (g h a b : ℕ)
    → groups_chosen f (g ∷ h ∷ []) (choice.Group a ∷ choice.Group b ∷ [])
    ≡ option_to_list (group_at (column_in f g).groups (choice.Group a)) ++ (option_to_list (group_at (column_in f h).groups (choice.Group b)) ++ [])
two_groups f g h a b = refl

-- `unit_wanted`, `period_wanted`: amounts of money want a unit, and numbers none.
abbrev money : Concept
money = record { value = item.Monetary; period = Some Instant }

money_wants : (unit_wanted (kind.Concept money) ≡ Some item.Monetary) × (period_wanted (kind.Concept money) ≡ Some Instant)
money_wants = (refl, refl)

numbers_want_none : unit_wanted (kind.Number Decimal) ≡ None
numbers_want_none = refl

-- `with_test`: a test adds no text.
abbrev empty_frame : FrameValue
empty_frame = no_dimensions (kind.Concept money) [] [] decimals.Settled

tested : frame_dimensions (λ i. []) (with_test empty_frame (Some 3)) ≡ []
tested = refl

-- `form_of`: amounts of money are read as decimals, and both they and integers within bounds have
-- decimals of their own.
money_form : form_of (kind.Concept money) ≡ form.Number Decimal
money_form = refl

bounded_numbers : is_number_form form.Bounded ≡ true
bounded_numbers = refl

-- `text_in`: a place without a frame has no text, and neither has a frame by concept.
no_frame : text_in [] 0 ≡ None
no_frame = refl

by_concept : text_of (body.ByConcept 3) ≡ None
by_concept = refl

no_cell : choice_in [] 0 ≡ choice.Unknown
no_cell = refl
