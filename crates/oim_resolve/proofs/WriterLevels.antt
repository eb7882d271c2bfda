-- The level that writes a property, against what the levels of the cell write for it.
use Rattle.std.proofs.Common.{◌≡◌, ℕ, ◌+◌, ◌<◌, List, [], ◌∷◌, ◌++◌, Option, Some, None, drop, get_or, length, map, reverse, refl, sym, ap, ◌∙◌}
use Rattle.std.specs.Borrow.{Bor}
use Rattle.std.specs.List.{flat_map}
use Rattle.std.specs.Option.{option_map, option_or, option_to_list}
use Rattle.std.proofs.lemmas.List.{at_drop_more, map-append, reverse-append}
use Rattle.oim_names.specs.Lookup.{value_at}
use Rattle.oim_report.specs.Readers.{template_of}
use Rattle.oim_report.specs.declared.data.Level.{Level}
use Rattle.oim_report.specs.declared.data.Written.{Written}
use Rattle.oim_report.specs.declared.data.WrittenDecimals.{WrittenDecimals}
use Rattle.oim_resolve.specs.Cell.{Cell, column}
use Rattle.oim_resolve.specs.Written.{group_of_cell, levels, named_groups, written, written_decimals}
use Rattle.oim_resolve.specs.declared.cell.writers.Writer.{Writer}
use Rattle.oim_resolve.specs.declared.cell.writers.Writer.TheVariants as writer
use Rattle.oim_resolve.specs.ProgramOrigins.{seen_writer}
use Rattle.oim_resolve.specs.Writers.{decimals_writer, first_answer, group_writers, writer_of, writers}
use Rattle.oim_resolve.proofs.FirstAnswers.{first_answer-append, or_none}
use Rattle.oim_resolve.proofs.Overrides.{decimals_reversed, written_reversed}

abbrev level_of : Writer × Level → Level
level_of w = w.1

abbrev groups_at : Cell → List ℕ → List Level
groups_at c is = flat_map (λ i. option_to_list (group_of_cell c i)) is

groups_are : (c : Cell) (is : List ℕ) → map level_of (group_writers c is) ≡ groups_at c is
groups_are c [] = refl
groups_are c (i ∷ is) = by (group_of_cell c i) (groups_are c is)
  where
    by : (o : Option Level) → map level_of (group_writers c is) ≡ groups_at c is
        → map level_of (option_to_list (option_map (λ l. (writer.Group i, l)) o) ++ group_writers c is) ≡ option_to_list o ++ groups_at c is
    by None e = e
    by (Some l) e = ap (λ ls. l ∷ ls) e

-- The writers of a cell have its levels, from the most specific to the most general.
writers_have_levels : (c : Cell) → reverse (map level_of (writers c)) ≡ levels c
writers_have_levels c =
    let template = (template_of c.report c.table).level in
    ap (λ ls. reverse ((column c).level ∷ ls))
    (map-append level_of (group_writers c (column c).from) ((writer.Template, template) ∷ (writer.Report, c.report.level) ∷ [])
    ∙ ap (λ ls. ls ++ template ∷ c.report.level ∷ []) (groups_are c (column c).from))
    ∙ reverse-append ((column c).level ∷ []) (named_groups c ++ template ∷ c.report.level ∷ [])
    ∙ ap (λ ls. ls ++ (column c).level ∷ []) (reverse-append (named_groups c) (template ∷ c.report.level ∷ []))

-- What the first level with a value has, with the level's name and without.
first_value : {W : Type 0} (g : Level → Option W) (ws : List (Writer × Level))
    → option_map (λ (w : Writer × W). w.1) (first_answer (λ w. option_map (λ x. (w.0, x)) (g w.1)) ws) ≡ first_answer g (map level_of ws)
first_value g [] = refl
first_value {W = W} g (w ∷ ws) = by (g w.1) (first_value g ws)
  where
    by : (o : Option W) → option_map (λ (x : Writer × W). x.1) (first_answer (λ w. option_map (λ x. (w.0, x)) (g w.1)) ws) ≡ first_answer g (map level_of ws)
        → option_map (λ (x : Writer × W). x.1) (option_or (option_map (λ x. (w.0, x)) o) (first_answer (λ w. option_map (λ x. (w.0, x)) (g w.1)) ws)) ≡ option_or o (first_answer g (map level_of ws))
    by None e = e
    by (Some x) e = refl

seen_second : {W : Type 0} (o : Option (Writer × Bor W)) → option_map (λ (w : Writer × Bor W). w.1.now) o ≡ option_map (λ (w : Writer × W). w.1) (option_map seen_writer o)
seen_second None = refl
seen_second (Some w) = refl

-- The level that writes a property writes what the levels write for it together.
pub writer_found : (c : Cell) (n : List ℕ) (o : Option (Writer × Bor Written)) → option_map seen_writer o ≡ writer_of c n → option_map (λ w. w.1.now) o ≡ written (levels c) n
writer_found c n o e =
    seen_second o ∙ ap (option_map (λ (w : Writer × Written). w.1)) e
    ∙ first_value (λ l. value_at n l.dimensions) (writers c) ∙ sym (written_reversed (map level_of (writers c)) n) ∙ ap (λ ls. written ls n) (writers_have_levels c)

pub decimals_found : (c : Cell) (o : Option (Writer × Bor WrittenDecimals)) → option_map seen_writer o ≡ decimals_writer c → option_map (λ w. w.1.now) o ≡ written_decimals (levels c)
decimals_found c o e =
    seen_second o ∙ ap (option_map (λ (w : Writer × WrittenDecimals). w.1)) e
    ∙ first_value (λ l. l.decimals) (writers c) ∙ sym (decimals_reversed (map level_of (writers c))) ∙ ap written_decimals (writers_have_levels c)

-- A group of the row that writes a property.
module _ {W : Type 0} (f : Writer × Level → Option (Writer × W)) (c : Cell) (is : List ℕ) (i : ℕ) (all : Option (Writer × W)) where
  abbrev pub from_groups : List ℕ → Option (Writer × W)
  from_groups js = first_answer f (group_writers c js)

  pub in_group : (d : ℕ) (l : Level) (x : Writer × W) → i < length is → Some l ≡ group_of_cell c (get_or is i d) → Some x ≡ f (writer.Group (get_or is i d), l)
      → from_groups (drop i is) ≡ all → Some x ≡ all
  in_group d l x h g v p =
      ap (λ o. option_or o (from_groups (drop (i + 1) is))) v
      ∙ ap (λ o. first_answer f (option_to_list (option_map (λ l. (writer.Group (get_or is i d), l)) o) ++ group_writers c (drop (i + 1) is))) g
      ∙ sym (at_drop_more from_groups is i d h) ∙ p

seen_or : {W : Type 0} (a b t r : Option (Writer × Bor W)) → option_map seen_writer (option_or (option_or (option_or a b) t) r)
    ≡ option_or (option_map seen_writer a) (option_or (option_map seen_writer b) (option_or (option_map seen_writer t) (option_map seen_writer r)))
seen_or (Some x) b t r = refl
seen_or None (Some x) t r = refl
seen_or None None (Some x) r = refl
seen_or None None None r = refl

-- The first of the column, the groups, the template and the report that writes a property, by what
-- each of them writes.
module _ {W : Type 0} (f : Writer × Level → Option (Writer × W)) (c : Cell) where
  abbrev of_groups : Option (Writer × W)
  of_groups = first_answer f (group_writers c (column c).from)

  first_by : option_or (f (writer.Column, (column c).level)) (option_or of_groups (option_or (f (writer.Template, (template_of c.report c.table).level)) (f (writer.Report, c.report.level))))
      ≡ first_answer f (writers c)
  first_by =
      let template = (template_of c.report c.table).level in
      ap (option_or (f (writer.Column, (column c).level)))
      (ap (λ o. option_or of_groups (option_or (f (writer.Template, template)) o)) (sym (or_none (f (writer.Report, c.report.level))))
      ∙ sym (first_answer-append f (group_writers c (column c).from) ((writer.Template, template) ∷ (writer.Report, c.report.level) ∷ [])))

  pub chosen : (l m n : Level) (o a b t r : Option (Writer × Bor W)) → l ≡ (column c).level → m ≡ (template_of c.report c.table).level → n ≡ c.report.level
      → o ≡ option_or (option_or (option_or a b) t) r → option_map seen_writer a ≡ f (writer.Column, l) → option_map seen_writer b ≡ of_groups
      → option_map seen_writer t ≡ f (writer.Template, m) → option_map seen_writer r ≡ f (writer.Report, n) → option_map seen_writer o ≡ first_answer f (writers c)
  chosen l m n o a b t r hl hm hn ho ha hb ht hr = let whole = first_by in let parts = seen_or a b t r in cc (whole, parts)
