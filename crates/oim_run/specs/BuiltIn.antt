-- The run over the built-in report.
use Rattle.std.specs.Prelude.{List, ℕ, [], ◌∷◌, Option}
use Rattle.oim_json.specs.declared.layout.Layout.TheVariants as layout
use Rattle.oim_run.specs.Buffers.{Buffered}
use Rattle.oim_run.specs.Runs.{EndsOver, files_of}
use Rattle.oim_run.specs.declared.built_in.TheConstants.{META_PATH, METADATA, TABLE, TABLE_PATH, TYPES, TYPES_PATH}
use Rattle.oim_run.specs.declared.outcome.Outcome.{Outcome}

-- A run over a folder with these three files to a writer that held `old` and holds `new`. It has
-- one worker, a ring of one block and the compact layout.
abbrev pub RunsBuiltIn : (old new : Option (List ℕ)) → Outcome → Type 0
RunsBuiltIn old new o =
    Buffered (EndsOver (files_of ((META_PATH.now, METADATA.now) ∷ (TYPES_PATH.now, TYPES.now) ∷ (TABLE_PATH.now, TABLE.now) ∷ [])) META_PATH.now TYPES_PATH.now 1 1 layout.Compact) old new o
