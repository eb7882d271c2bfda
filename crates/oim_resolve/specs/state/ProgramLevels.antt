-- What the levels write, name by name. (xBRL-CSV 1.0, dimensions: column over template over report)
use Rattle.std.specs.Prelude.{ℕ, List, [], ◌∷◌, Option, Some, None}
use Rattle.std.specs.List.{flat_map}
use Rattle.oim_report.specs.declared.data.Level.{Level}
use Rattle.oim_report.specs.declared.data.Written.{Written}
use Rattle.oim_resolve.specs.Written.{written, names}

-- A name with its value, if it has one.
abbrev pub named : {V : Type 0} → List ℕ → Option V → List (List ℕ × V)
named n None = []
named n (Some v) = (n, v) ∷ []

-- What the levels write, in byte order of names.
abbrev pub written_entries : List Level → List (List ℕ × Written)
written_entries ls = flat_map (λ n. named n (written ls n)) (names ls)
