-- What the dimensions of a cell give together.
use Rattle.std.proofs.Common.{◌≡◌, ℕ, Bool, true, false, cond, List, [], ◌∷◌, ◌++◌, Option, Some, None, Result, Ok, refl, sym, ap, ◌∙◌}
use Rattle.std.specs.List.{fold, flat_map}
use Rattle.std.specs.Option.{option_map_or}
use Rattle.oim_cells.specs.Cells as m
use Rattle.oim_report.specs.declared.data.Side.TheVariants as side
use Rattle.oim_report.specs.declared.data.Written.{Written}
use Rattle.oim_report.specs.declared.kind.Kind.{Kind}
use Rattle.oim_resolve.specs.declared.fact.CellFault.{CellFault}
use Rattle.oim_resolve.specs.declared.role.Role.{Role}
use Rattle.oim_resolve.specs.declared.role.Role.TheVariants as role
use Rattle.oim_resolve.specs.Cell.{Cell}
use Rattle.oim_resolve.specs.Facts.{role_of, is_dropped, value_faults_of, entry_given, value_read, dimension_faults, dimension_entry, named_entry}
use Rattle.oim_resolve.specs.Faults.{least, unless}
use Rattle.oim_resolve.specs.state.ProgramFaults.{both}
use Rattle.oim_resolve.specs.state.ProgramDimensions.{Dimensions, dimension_read, named_read, dimensions_of}
use Rattle.oim_resolve.specs.Values.{value, side_of}
use Rattle.oim_resolve.specs.Written.{written, levels}
use Rattle.oim_resolve.proofs.LeastFaults.{both_unless, joined, joined-assoc, joined-nothing, nothing-joined}

-- ONE DIMENSION

module _ (c : Cell) (k : Kind) (n : List ℕ) where
  -- What a dimension gives, by whether it is dropped and by what the levels write for it.
  abbrev read_by : Bool → Option Written → Result (Option (Option (List ℕ))) CellFault
  read_by b o =
      unless (least (cond b [] (value_faults_of c.report (role_of c.report n) (option_map_or side_of o side.Whole) (option_map_or (value c) o m.Absent))))
      (Ok (cond b None (entry_given c.report (role_of c.report n) (option_map_or side_of o side.Whole) (option_map_or (value c) o m.Absent))))

  pub dropped : is_dropped k (role_of c.report n) ≡ true → Ok None ≡ dimension_read c k n
  dropped e = sym (ap (λ b. read_by b (written (levels c) n)) e)

  pub read_as : (x : Written) → is_dropped k (role_of c.report n) ≡ false → Some x ≡ written (levels c) n
      → value_read c.report (role_of c.report n) (side_of x) (value c x) ≡ dimension_read c k n
  read_as x e w = ap (λ o. read_by false o) w ∙ sym (ap (λ b. read_by b (written (levels c) n)) e)

  -- A name that no level writes has no faults, and gives nothing.
  no_value : (o : Role)
      → Ok None ≡ unless (least (value_faults_of c.report o side.Whole m.Absent)) (Ok (entry_given c.report o side.Whole m.Absent))
  no_value role.Concept = refl
  no_value role.Entity = refl
  no_value role.Period = refl
  no_value role.Unit = refl
  no_value role.Language = refl
  no_value role.Explicit = refl
  no_value role.Typed = refl
  no_value (role.TypedBy s) = refl

  pub not_written : is_dropped k (role_of c.report n) ≡ false → None ≡ written (levels c) n → Ok None ≡ dimension_read c k n
  not_written e w = no_value (role_of c.report n) ∙ ap (λ o. read_by false o) w ∙ sym (ap (λ b. read_by b (written (levels c) n)) e)

-- ALL DIMENSIONS

module _ (c : Cell) (k : Kind) where
  abbrev step : Result Dimensions CellFault → List ℕ → Result Dimensions CellFault
  step r n = both (λ ds more. ds ++ more) r (named_read n (dimension_read c k n))

  abbrev given_by : List ℕ → Dimensions
  given_by n = named_entry n (dimension_entry c k n)

  abbrev all_of : List (List ℕ) → Result Dimensions CellFault
  all_of ns = unless (least (flat_map (dimension_faults c k) ns)) (Ok (flat_map given_by ns))

  named_unless : (n : List ℕ) (x : Option CellFault) (v : Option (Option (List ℕ))) → named_read n (unless x (Ok v)) ≡ unless x (Ok (named_entry n v))
  named_unless n None v = refl
  named_unless n (Some f) v = refl

  reads_are : (ns : List (List ℕ)) (r : Result Dimensions CellFault) → fold step r ns ≡ joined r (all_of ns)
  reads_are [] r = sym (joined-nothing r)
  reads_are (n ∷ ns) r =
      reads_are ns (step r n)
      ∙ joined-assoc r (named_read n (dimension_read c k n)) (all_of ns)
      ∙ ap (λ q. joined r (joined q (all_of ns))) (named_unless n (least (dimension_faults c k n)) (dimension_entry c k n))
      ∙ ap (joined r) (both_unless (λ ds more. ds ++ more) (dimension_faults c k n) (flat_map (dimension_faults c k) ns) (given_by n) (flat_map given_by ns))

  -- What all dimensions of a cell give, or their least fault.
  pub row_read : (ns : List (List ℕ)) → dimensions_of c k ns ≡ unless (least (flat_map (dimension_faults c k) ns)) (Ok (flat_map (λ n. named_entry n (dimension_entry c k n)) ns))
  row_read ns = reads_are ns (Ok []) ∙ nothing-joined (all_of ns)
