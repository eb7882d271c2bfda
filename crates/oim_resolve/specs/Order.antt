-- The names of a fact's dimensions are in byte order, without repeats. (Open Information Model 1.0:
-- a dimension has one value)
use Rattle.std.specs.Prelude.{◌≡◌, ℕ, List, [], ◌∷◌, map, ⊤, Option, Result, IfOk, IfSome}
use Rattle.std.specs.List.{AllByRecursion}
use Rattle.std.specs.Ordering.{nat_cmp}
use Rattle.std.specs.Cmp.Lexicographic.{slice_cmp}
use Rattle.std.specs.declared.cmp.Ordering.TheVariants.{Less}
use Rattle.oim_resolve.specs.FactParts.{FactParts as Fact}
use Rattle.oim_resolve.specs.declared.fact.CellFault.{CellFault}

-- In byte order, without repeats.
abbrev pub IsAscending : List (List ℕ) → Type 0
IsAscending [] = ⊤
IsAscending (k ∷ ks) = AllByRecursion (λ j. slice_cmp nat_cmp k j ≡ Less) ks × IsAscending ks

-- If a fact results, its names are in byte order and differ.
abbrev pub HasNamesInOrder : Result (Option Fact) CellFault → Type 0
HasNamesInOrder r = IfOk r (λ o. IfSome o (λ f. IsAscending (map (λ d. d.0) f.dimensions)))
