-- What is prepared of a dimension and of decimals, by what was read for them.
use Rattle.std.proofs.Common.{◌≡◌, ℕ, List, [], Option, Some, None, IfSome, map, refl, sym, ap, ◌∙◌}
use Rattle.std.specs.List.{slice_get}
use Rattle.std.specs.Option.{option_map}
use Rattle.std.proofs.lemmas.Option.{slice_get-map}
use Rattle.oim_cells.specs.Cells.{Meaning}
use Rattle.oim_cells.specs.Cells as m
use Rattle.oim_json.specs.JsonText.{decimals_text}
use Rattle.oim_report.specs.declared.data.Written.{Written}
use Rattle.oim_resolve.specs.Values.{Read}
use Rattle.oim_rows.specs.RowFacts.{TableHeaderValue}
use Rattle.oim_row.specs.Answers.{IsAnswer}
use Rattle.oim_fast.specs.state.FrameParts.{IsPartValue, IsStated, PutsAnswer, purpose_of}
use Rattle.oim_fast.specs.state.Pieces.{behind, constant_meaning, name_text}
use Rattle.oim_row.specs.References.{Key, ReferenceValue, key_of}
use Rattle.oim_row.specs.Sources.{source_written}
use Rattle.oim_fast.specs.declared.frame.frame_decimals.FrameDecimals.TheVariants as decimals
use Rattle.oim_fast.specs.declared.frame.part.PartValue.{PartValue}
use Rattle.oim_fast.specs.declared.frame.part.PartValue.TheVariants as part
use Rattle.oim_row.specs.declared.answer.Answer.{Answer}

-- A dimension that has the same meaning in each row.
pub constant_value : (f : TableHeaderValue) (keys : List Key) (n : List ℕ) (w : Written) (a : Answer) (old new : List ℕ) (v : PartValue) → source_written f w ≡ None
    → IsAnswer f.report (purpose_of f n w) (constant_meaning f w) a → old ≡ name_text n → PutsAnswer a old new v → IsPartValue f keys n w new v
constant_value f keys n w a old new part.Nothing same said e put = (record { same = same; sound = said.sound put.0 }, sym (said.json put.0) ∙ put.1)
constant_value f keys n w a old new part.Text same said e put =
    (record { same = same; sound = said.sound put.0 }, put.1 ∙ ap (λ t. behind t a.json.items) e ∙ ap (behind (name_text n)) (said.json put.0))
constant_value f keys n w a old new (part.Reference i) same said e put = absurd put
constant_value f keys n w a old new part.Unknown same said e put = tt

-- The key of a reference at a place.
pub key_there : (rs : List ReferenceValue) (i : ℕ) (k : Key) → option_map key_of (slice_get rs i) ≡ Some k → slice_get (map key_of rs) i ≡ Some k
key_there rs i k e = slice_get-map key_of rs i ∙ e

-- Decimals that no level states.
pub no_decimals : (text : List ℕ) → text ≡ [] → IsStated (Read m.Absent) text decimals.Settled
unfolding decimals_text
no_decimals text e = (refl, e)

-- What holds in any case holds of an optional value.
pub some_same : {A : Type 0} {P : Type 0} (o : Option A) → P → IfSome o (λ x. P)
some_same None h = tt
some_same (Some x) h = h
