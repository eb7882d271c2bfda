-- What the levels of a cell write is the text of its fact's dimensions.
use Rattle.std.proofs.Common.{◌≡◌, ℕ, Bool, true, false, cond, List, [], ◌∷◌, ◌++◌, ◌-◌, length, map, take, codes, Option, Some, None, refl, sym, ap, ◌∙◌, append_assoc, append-nil, length-append, take_all, arith}
use Rattle.std.specs.List.{flat_map}
use Rattle.std.specs.Option.{option_map_or}
use Rattle.std.proofs.lemmas.Grind.{flat_map-append}
use Rattle.std.proofs.lemmas.List.{take-append-le}
use Rattle.oim_cells.specs.Cells as m
use Rattle.oim_json.specs.JsonText.{dimension_text, joined}
use Rattle.oim_report.specs.declared.data.Side.TheVariants as side
use Rattle.oim_report.specs.declared.data.Written.{Written}
use Rattle.oim_report.specs.declared.kind.Kind.{Kind}
use Rattle.oim_resolve.specs.Cell.{Cell}
use Rattle.oim_resolve.specs.Facts.{dimension_entry, entry_given, is_dropped, named_entry, role_of}
use Rattle.oim_resolve.specs.Values.{side_of, value}
use Rattle.oim_resolve.specs.Written.{levels, names, written}
use Rattle.oim_resolve.specs.declared.role.Role.{Role}
use Rattle.oim_resolve.specs.declared.role.Role.TheVariants as role
use Rattle.oim_row.specs.Answers.{dimension_json}
use Rattle.oim_fast.specs.state.FactTexts.{cut}
use Rattle.oim_fast.specs.state.Pieces.{behind, dimension_piece, name_text, written_pieces}
use Rattle.oim_resolve.specs.state.ProgramLevels.{named, written_entries}
use Rattle.oim_fast.proofs.FrameLaws.{piece_text}

-- Dimensions with a comma after each.
abbrev pub pieces : List (List ℕ × Option (List ℕ)) → List ℕ
pieces = flat_map (λ d. dimension_text d ++ codes ",")

pub pieces_joined : (d : List ℕ × Option (List ℕ)) (ds : List (List ℕ × Option (List ℕ))) → pieces (d ∷ ds) ≡ joined (map dimension_text (d ∷ ds)) ++ codes ","
pieces_joined d [] = append-nil (dimension_text d ++ codes ",")
pieces_joined d (e ∷ ds) =
    ap (λ t. (dimension_text d ++ codes ",") ++ t) (pieces_joined e ds)
    ∙ append_assoc (dimension_text d) (codes ",") (joined (map dimension_text (e ∷ ds)) ++ codes ",")
    ∙ sym (append_assoc (dimension_text d) (44 ∷ joined (map dimension_text (e ∷ ds))) (codes ","))

-- Without the last comma they are the members of an object.
pub pieces_cut : (ds : List (List ℕ × Option (List ℕ))) → cut (pieces ds) ≡ joined (map dimension_text ds)
pieces_cut [] = refl
pieces_cut (d ∷ ds) =
    let text = joined (map dimension_text (d ∷ ds)) in
    let all : length (text ++ codes ",") - 1 ≡ length text = omega (arith, length-append text (codes ",")) in
    ap cut (pieces_joined d ds) ∙ ap (λ n. take n (text ++ codes ",")) all ∙ take-append-le (length text) text (codes ",") (omega arith) ∙ take_all (length text) text (omega arith)

-- ONE DIMENSION

module _ (c : Cell) (k : Kind) (n : List ℕ) where
  no_entry : (b : Bool) (o : Role) → cond b None (entry_given c.report o side.Whole m.Absent) ≡ None
  no_entry true o = refl
  no_entry false role.Concept = refl
  no_entry false role.Entity = refl
  no_entry false role.Period = refl
  no_entry false role.Unit = refl
  no_entry false role.Language = refl
  no_entry false role.Explicit = refl
  no_entry false role.Typed = refl
  no_entry false (role.TypedBy y) = refl

  abbrev entry_by : Option Written → Option (Option (List ℕ))
  entry_by o = cond (is_dropped k (role_of c.report n)) None (entry_given c.report (role_of c.report n) (option_map_or side_of o side.Whole) (option_map_or (value c) o m.Absent))

  nothing_given : None ≡ written (levels c) n → dimension_entry c k n ≡ None
  nothing_given e = sym (ap entry_by e) ∙ no_entry (is_dropped k (role_of c.report n)) (role_of c.report n)

  piece_if : (b : Bool) (v : Option (Option (List ℕ))) → cond b [] (behind (name_text n) (dimension_json v)) ≡ pieces (named_entry n (cond b None v))
  piece_if true v = refl
  piece_if false None = refl
  piece_if false (Some v) = piece_text n v ∙ sym (append-nil (dimension_text (n, v) ++ codes ","))

  piece_is : (x : Written) → Some x ≡ written (levels c) n → dimension_piece c.report k n (side_of x) (value c x) ≡ pieces (named_entry n (dimension_entry c k n))
  piece_is x e = piece_if (is_dropped k (role_of c.report n)) (entry_given c.report (role_of c.report n) (side_of x) (value c x)) ∙ ap (λ o. pieces (named_entry n (entry_by o))) e

-- ALL DIMENSIONS

module _ (c : Cell) (k : Kind) where
  abbrev dimensions_by : List (List ℕ) → List (List ℕ × Option (List ℕ))
  dimensions_by ns = flat_map (λ n. named_entry n (dimension_entry c k n)) ns

  abbrev entries_by : List (List ℕ) → List (List ℕ × Written)
  entries_by ns = flat_map (λ n. named n (written (levels c) n)) ns

  piece_step : (n : List ℕ) (ns : List (List ℕ)) (o : Option Written) → o ≡ written (levels c) n
      → written_pieces c k (entries_by ns) ≡ pieces (dimensions_by ns)
      → written_pieces c k (named n o ++ entries_by ns) ≡ pieces (named_entry n (dimension_entry c k n)) ++ pieces (dimensions_by ns)
  piece_step n ns None e more = more ∙ ap (λ v. pieces (named_entry n v) ++ pieces (dimensions_by ns)) (sym (nothing_given c k n e))
  piece_step n ns (Some x) e more =
      ap (λ t. dimension_piece c.report k n (side_of x) (value c x) ++ t) more ∙ ap (λ t. t ++ pieces (dimensions_by ns)) (piece_is c k n x e)

  pieces_are : (ns : List (List ℕ)) → written_pieces c k (entries_by ns) ≡ pieces (dimensions_by ns)
  pieces_are [] = refl
  pieces_are (n ∷ ns) =
      piece_step n ns (written (levels c) n) refl (pieces_are ns)
      ∙ sym (flat_map-append (λ d. dimension_text d ++ codes ",") (named_entry n (dimension_entry c k n)) (dimensions_by ns))

  pub written_pieces_are : written_pieces c k (written_entries (levels c)) ≡ pieces (flat_map (λ n. named_entry n (dimension_entry c k n)) (names (levels c)))
  written_pieces_are = pieces_are (names (levels c))
