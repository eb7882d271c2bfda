-- The levels and the choices of a column in a row.
use Rattle.std.proofs.Common.{◌≡◌, ◌<◌, ◌+◌, ℕ, zero, suc, true, List, [], ◌∷◌, ◌++◌, length, map, take, get_or, Option, Some, None, refl, sym, ap, subst, ◌∙◌, append-nil, arith}
use Rattle.std.specs.Prelude.{reverse}
use Rattle.std.specs.Borrow.{Bor}
use Rattle.std.specs.List.{All, AllByRecursion, slice_get}
use Rattle.std.specs.Option.{option_and_then, option_map, option_map_or, option_to_list}
use Rattle.std.proofs.lemmas.Grind.{flat_map-append}
use Rattle.std.proofs.lemmas.List.{get_or-map, map-append, reverse-append, reverse-reverse, take_more}
use Rattle.std.proofs.lemmas.Option.{slice_get_within}
use Rattle.oim_cells.specs.Cells.{meaning_of}
use Rattle.oim_report.specs.InOrder.{LevelRises, PartsRise}
use Rattle.oim_report.specs.Readers.{template_of}
use Rattle.oim_report.specs.declared.data.Level.{Level}
use Rattle.oim_report.proofs.GroupOrder.{column_rises}
use Rattle.oim_resolve.specs.ProgramCell.{held}
use Rattle.oim_resolve.proofs.LevelOrder.{column_level_rises, report_rises, template_rises}
use Rattle.oim_rows.specs.RowFacts.{TableHeaderValue, field_or_empty, source_of_column}
use Rattle.oim_fast.specs.state.Columns.{IsFactColumn}
use Rattle.oim_fast.specs.state.Frames.{Chooses, groups_chosen, is_known_choice, levels_chosen}
use Rattle.oim_row.specs.Groups.{IsGroupCell, IsSaid, Says, group_at, level_chosen}
use Rattle.oim_fast.specs.state.ChosenGroups.{choice_in, choices_in, level_at, levels_at}
use Rattle.oim_row.specs.Rows.{RowValue, column_in}
use Rattle.oim_fast.specs.declared.frame.fact_column.FactColumn.{FactColumn}
use Rattle.oim_row.specs.declared.group_cells.Choice.{Choice}
use Rattle.oim_row.specs.declared.group_cells.Choice.TheVariants as choice
use Rattle.oim_row.specs.declared.group_cells.GroupCell.{GroupCell}
use Rattle.oim_fast.proofs.ColumnLaws.{column_at}
use Rattle.oim_row.proofs.Growth.{all_append, all_push}
use Rattle.oim_fast.proofs.PieceLaws.{all_at}

-- PLACES

there_within : (cells : List GroupCell) (p : ℕ) (o : Option GroupCell) (x : ℕ) → slice_get cells p ≡ o → option_map (λ (g : GroupCell). g.column) o ≡ Some x → p < length cells
there_within cells p None x e h = absurd (cc)
there_within cells p (Some g) x e h = slice_get_within cells p g e

pub places_within : (cells : List GroupCell) (ps xs : List ℕ) → map (column_at cells) ps ≡ map Some xs → All (λ p. p < length cells) ps
places_within cells [] xs e k d lt = absurd (omega arith)
places_within cells (p ∷ ps) [] e k d lt = absurd (cc)
places_within cells (p ∷ ps) (x ∷ xs) e zero d lt = let one : column_at cells p ≡ Some x = cc in there_within cells p (slice_get cells p) x refl one
places_within cells (p ∷ ps) (x ∷ xs) e (suc k) d lt = let rest : map (column_at cells) ps ≡ map Some xs = cc in places_within cells ps xs rest k d (omega arith)

pub groups_within : (f : TableHeaderValue) (cells : List GroupCell) (c : FactColumn) → IsFactColumn f cells c → All (λ p. p < length cells) c.groups.items
groups_within f cells c is = places_within cells c.groups.items (column_in f c.column).from is.groups

-- LEVELS

-- One more place.
pub levels_more : (cells : List GroupCell) (ps : List ℕ) (i p : ℕ) (o : Option Level) → i < length ps → p ≡ get_or ps i p → o ≡ level_at cells p
    → levels_at cells (take (i + 1) ps) ≡ levels_at cells (take i ps) ++ option_to_list o
levels_more cells ps i p o lt is e =
    ap (levels_at cells) (take_more ps i p lt ∙ ap (λ x. take i ps ++ x ∷ []) (sym is))
    ∙ flat_map-append (λ q. option_to_list (level_at cells q)) (take i ps) (p ∷ [])
    ∙ ap (λ ls. levels_at cells (take i ps) ++ ls) (append-nil (option_to_list (level_at cells p)) ∙ ap option_to_list (sym e))

-- The levels that are pushed after the first, from the most specific to the most general.
abbrev pub levels_from : Level → List Level → Level → Level → List Level
levels_from a gs t r = ((a ∷ gs) ++ t ∷ []) ++ r ∷ []

-- A level is pushed.
pub pushed : (xs : List (Bor Level)) (l : Bor Level) (ys : List Level) → held xs ≡ ys → held (xs ++ l ∷ []) ≡ ys ++ l.now ∷ []
pushed xs l ys e = map-append (λ (x : Bor Level). x.now) xs (l ∷ []) ∙ ap (λ ls. ls ++ l.now ∷ []) e

reversed : (a t r : Level) (gs : List Level) → reverse (levels_from a gs t r) ≡ r ∷ t ∷ (reverse gs ++ a ∷ [])
reversed a t r gs =
    reverse-append ((a ∷ gs) ++ t ∷ []) (r ∷ []) ∙ ap (λ ls. r ∷ ls) (reverse-append (a ∷ gs) (t ∷ []) ∙ ap (λ ls. t ∷ ls) (reverse-append (a ∷ []) gs))

module _ (f : TableHeaderValue) (cells : List GroupCell) (are : All (IsGroupCell f) cells) where
  by_cell : (p x : ℕ) (o : Option GroupCell) → slice_get cells p ≡ o → option_map (λ (g : GroupCell). g.column) o ≡ Some x
      → option_and_then level_chosen o ≡ group_at (column_in f x).groups (option_map_or (λ (g : GroupCell). g.choice) o choice.Unknown)
  by_cell p x None e h = absurd (cc)
  by_cell p x (Some g) e h =
      let is : IsGroupCell f g = all_at (IsGroupCell f) cells p g are e in
      let same : g.column ≡ x = cc in
      ap (λ gs. group_at gs g.choice) (is.groups ∙ ap (λ y. (column_in f y).groups) same)

  -- The pushed levels are the chosen ones.
  pub levels_are_chosen : (ps xs : List ℕ) → map (column_at cells) ps ≡ map Some xs → levels_at cells ps ≡ groups_chosen f xs (choices_in cells ps)
  levels_are_chosen [] [] e = refl
  levels_are_chosen [] (x ∷ xs) e = absurd (cc)
  levels_are_chosen (p ∷ ps) [] e = absurd (cc)
  levels_are_chosen (p ∷ ps) (x ∷ xs) e =
      let one : column_at cells p ≡ Some x = cc in
      let rest : map (column_at cells) ps ≡ map Some xs = cc in
      ap (λ o. option_to_list o ++ levels_at cells ps) (by_cell p x (slice_get cells p) refl one)
      ∙ ap (λ ls. option_to_list (group_at (column_in f x).groups (choice_in cells p)) ++ ls) (levels_are_chosen ps xs rest)

  pub all_chosen : (c : FactColumn) → IsFactColumn f cells c → (ls : List Level)
      → ls ≡ levels_from c.level.now (levels_at cells c.groups.items) (template_of f.report f.table).level f.report.level
      → reverse ls ≡ levels_chosen f c.column (choices_in cells c.groups.items)
  all_chosen c is ls e =
      ap reverse e ∙ reversed c.level.now (template_of f.report f.table).level f.report.level (levels_at cells c.groups.items)
      ∙ ap (λ gs. f.report.level ∷ (template_of f.report f.table).level ∷ (reverse gs ++ c.level.now ∷ [])) (levels_are_chosen c.groups.items (column_in f c.column).from is.groups)
      ∙ ap (λ (l : Level). f.report.level ∷ (template_of f.report f.table).level ∷ (reverse (groups_chosen f (column_in f c.column).from (choices_in cells c.groups.items)) ++ l ∷ [])) is.level

  -- DIMENSION NAMES ASCEND

  module _ (order : PartsRise f.report.level f.report.templates f.report.tables) where
    entry_rises : (gs : List (List ℕ × Level)) (k : ℕ) (l : Level) → AllByRecursion (λ g. LevelRises g.1) gs → option_map (λ (e : List ℕ × Level). e.1) (slice_get gs k) ≡ Some l → LevelRises l
    entry_rises [] k l all e = absurd (cc)
    entry_rises (g ∷ gs) zero l all e = let same : g.1 ≡ l = cc in subst LevelRises same all.0
    entry_rises (g ∷ gs) (suc k) l all e = entry_rises gs k l all.1 e

    chosen_rises : (gs : List (List ℕ × Level)) (o : Choice) (l : Level) → AllByRecursion (λ g. LevelRises g.1) gs → group_at gs o ≡ Some l → LevelRises l
    chosen_rises gs choice.Nothing l all e = absurd (cc)
    chosen_rises gs (choice.Group k) l all e = entry_rises gs k l all e
    chosen_rises gs choice.Unknown l all e = absurd (cc)

    cell_rises : (p : ℕ) (o : Option GroupCell) (l : Level) → slice_get cells p ≡ o → option_and_then level_chosen o ≡ Some l → LevelRises l
    cell_rises p None l e h = absurd (cc)
    cell_rises p (Some g) l e h =
        let is : IsGroupCell f g = all_at (IsGroupCell f) cells p g are e in
        let at : group_at (column_in f g.column).groups g.choice ≡ Some l = ap (λ gs. group_at gs g.choice) (sym is.groups) ∙ h in
        chosen_rises (column_in f g.column).groups g.choice l (column_rises f.report order f.table g.column).2 at

    one_rises : (o : Option Level) → ((l : Level) → o ≡ Some l → LevelRises l) → All LevelRises (option_to_list o)
    one_rises None h k d lt = absurd (omega arith)
    one_rises (Some l) h zero d lt = h l refl
    one_rises (Some l) h (suc k) d lt = absurd (omega arith)

    groups_rise : (ps : List ℕ) → All LevelRises (levels_at cells ps)
    groups_rise [] k d lt = absurd (omega arith)
    groups_rise (p ∷ ps) k d lt =
        all_append LevelRises (option_to_list (level_at cells p)) (levels_at cells ps) (one_rises (level_at cells p) (λ l e. cell_rises p (slice_get cells p) l refl e)) (groups_rise ps) k d lt

    first_and : (l : Level) (ls : List Level) → LevelRises l → All LevelRises ls → All LevelRises (l ∷ ls)
    first_and l ls h all zero d lt = h
    first_and l ls h all (suc k) d lt = all k d (omega arith)

    pub levels_rise : (c : FactColumn) → IsFactColumn f cells c → (ls : List Level)
        → ls ≡ levels_from c.level.now (levels_at cells c.groups.items) (template_of f.report f.table).level f.report.level → All LevelRises ls
    levels_rise c is ls e =
        let own : LevelRises c.level.now = subst LevelRises (sym is.level) (column_level_rises f.report order f.table c.column) in
        subst (All LevelRises) (sym e)
        (all_push LevelRises ((c.level.now ∷ levels_at cells c.groups.items) ++ (template_of f.report f.table).level ∷ []) f.report.level
        (all_push LevelRises (c.level.now ∷ levels_at cells c.groups.items) (template_of f.report f.table).level (first_and c.level.now (levels_at cells c.groups.items) own (groups_rise c.groups.items)) (template_rises f.report order f.table))
        (report_rises f.report order))

    pub chosen_levels_rise : (c : FactColumn) → IsFactColumn f cells c → (ls : List Level) → reverse ls ≡ levels_chosen f c.column (choices_in cells c.groups.items) → All LevelRises ls
    chosen_levels_rise c is ls e =
        let from = levels_from c.level.now (levels_at cells c.groups.items) (template_of f.report f.table).level f.report.level in
        levels_rise c is ls (sym (reverse-reverse ls) ∙ ap reverse (e ∙ sym (all_chosen c is from refl)) ∙ reverse-reverse from)

-- What holds of all values that references point to.
pub all_held : {X : Type 0} (P : X → Type 0) (xs : List (Bor X)) → All P (held xs) → All (λ x. P x.now) xs
all_held {X = X} P xs all k d lt = subst P (get_or-map (λ x. x.now) xs k d d.now lt) (all k d.now (omega (arith, length_held xs)))
  where
    length_held : (ys : List (Bor X)) → length (held ys) ≡ length ys
    length_held [] = refl
    length_held (y ∷ ys) = ap suc (length_held ys)

-- CHOICES

known_first : (o : Choice) (os : List Choice) → All (λ q. is_known_choice q ≡ true) (o ∷ os) → is_known_choice o ≡ true
known_first o os all = all 0 o (omega arith)

module _ (x : RowValue) (cells : List GroupCell) (are : All (IsGroupCell x.header) cells) (said : All (IsSaid x) cells) where
  said_at : (p g : ℕ) (o : Option GroupCell) → slice_get cells p ≡ o → option_map (λ (c : GroupCell). c.column) o ≡ Some g
      → Says (column_in x.header g) (meaning_of (field_or_empty x.fields (source_of_column x.header.columns g))) (option_map_or (λ (c : GroupCell). c.choice) o choice.Unknown)
  said_at p g None e h = absurd (cc)
  said_at p g (Some c) e h =
      let is : IsGroupCell x.header c = all_at (IsGroupCell x.header) cells p c are e in
      let so : IsSaid x c = all_at (IsSaid x) cells p c said e in
      let same : c.column ≡ g = cc in
      subst (λ y. Says (column_in x.header y) (meaning_of (field_or_empty x.fields (source_of_column x.header.columns y))) c.choice) same
      (subst (λ q. Says (column_in x.header c.column) (meaning_of (field_or_empty x.fields q)) c.choice) is.place so)

  -- The choices in the columns of groups are those of the row.
  pub chooses : (ps gs : List ℕ) → map (column_at cells) ps ≡ map Some gs → All (λ o. is_known_choice o ≡ true) (choices_in cells ps) → Chooses x gs (choices_in cells ps)
  chooses [] [] e known = tt
  chooses [] (g ∷ gs) e known = absurd (cc)
  chooses (p ∷ ps) [] e known = absurd (cc)
  chooses (p ∷ ps) (g ∷ gs) e known =
      let one : column_at cells p ≡ Some g = cc in
      let rest : map (column_at cells) ps ≡ map Some gs = cc in
      (known_first (choice_in cells p) (choices_in cells ps) known, said_at p g (slice_get cells p) refl one, chooses ps gs rest (λ k d lt. known (suc k) d (omega arith)))

-- One more choice.
pub choices_more : (cells : List GroupCell) (ps : List ℕ) (i p : ℕ) (o : Choice) → i < length ps → p ≡ get_or ps i p → option_map (λ (g : GroupCell). g.choice) (slice_get cells p) ≡ Some o
    → choices_in cells (take (i + 1) ps) ≡ choices_in cells (take i ps) ++ o ∷ []
choices_more cells ps i p o lt is e =
    ap (choices_in cells) (take_more ps i p lt ∙ ap (λ x. take i ps ++ x ∷ []) (sym is)) ∙ map-append (choice_in cells) (take i ps) (p ∷ [])
    ∙ ap (λ q. choices_in cells (take i ps) ++ q ∷ []) (by_some (slice_get cells p) e)
  where
    by_some : (q : Option GroupCell) → option_map (λ (g : GroupCell). g.choice) q ≡ Some o → option_map_or (λ (g : GroupCell). g.choice) q choice.Unknown ≡ o
    by_some None h = absurd (cc)
    by_some (Some g) h = cc

pub known_of : (o : Choice) → ((o ≡ choice.Unknown) → ⊥) → is_known_choice o ≡ true
known_of choice.Nothing h = refl
known_of (choice.Group g) h = refl
known_of choice.Unknown h = absurd (h refl)
