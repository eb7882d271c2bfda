use Rattle.std.proofs.Common.{◌≡◌, ◌<◌, ◌++◌, ℕ, None, Some, codes, flat_map, get_or, length, map, true, sym, ap, subst, ◌∙◌, arith, rules}
use Rattle.std.specs.List.{All, position_from}
use Rattle.std.proofs.lemmas.List.{get_or_default}
use Rattle.oim_json.specs.JsonText.{escaped_byte}
use Rattle.oim_report.specs.Readers.{column_of, columns_of, holds_facts}
use Rattle.oim_report.specs.ReportValue.{ReportValue}
use Rattle.oim_report.specs.declared.data.Column.{Column}
use Rattle.oim_rows.specs.Header.{Header, is_column}
use Rattle.oim_rows.specs.RowFacts.{is_fact_column}
use Rattle.oim_row.specs.Rows.{column_in, columns_in}
use Rattle.oim_fast.proofs.ColumnLaws.{kind_there, names_facts, names_it}
use Rattle.oim_fast.proofs.frame.fact_column.fact_column.Goals as goal

pub returns-in_default-source-clause-column : goal.returns-in_default-source-clause-column
returns-in_default-source-clause-column c =
    let f = c.args.header.now in
    let at = c.in-Some.at in
    let none : position_from (is_column at) 0 f.columns ≡ None = sym c.source.ensures ∙ c.in_default-source.is in
    let here = get_or_default f.columns c.args.i None _ c.requires.within ∙ ap (λ (h : Header). get_or h c.args.i _) (sym c.columns.ensures) ∙ c.in-Some.is in
    absurd (names_it f.columns c.args.i at c.requires.within here none)

pub returns-clause-column : goal.returns-clause-column
returns-clause-column c =
    let f = c.args.header.now in
    let at = c.in-Some.at in
    let here = get_or_default f.columns c.args.i None _ c.requires.within ∙ ap (λ (h : Header). get_or h c.args.i _) (sym c.columns.ensures) ∙ c.in-Some.is in
    let is : c.column-column.result.now ≡ column_in f at =
    c.column-column.ensures.column ∙ ap (λ (r : ReportValue). column_of r c.table-2.result at) c.report-2.ensures ∙ ap (λ (t : ℕ). column_of f.report t at) c.table-2.ensures.value in
    let all : c.columns-2.result ≡ length (columns_in f) =
    c.columns-2.ensures ∙ ap (λ (r : ReportValue). length (columns_of r c.table.result)) c.report.ensures ∙ ap (λ (t : ℕ). length (columns_of f.report t)) c.table.ensures.value in
    let within : at < length (columns_in f) = omega (arith, all) in
    let yes : c.holds_facts.result ≡ true = search rules in
    let test : is_fact_column (columns_in f) at ≡ true =
    kind_there (columns_in f) at within ∙ ap (λ (k : Column). holds_facts k.kind) (sym is) ∙ sym c.holds_facts.ensures ∙ yes in (
      names_facts f c.args.i at here test,
      record {
        range = within;
        there = sym c.in-Some-source.ensures;
        level = ap (λ (k : Column). k.level) is;
        lead = c.in_ok-lead.ensures ∙ ap (λ (k : Column). flat_map escaped_byte (codes "." ++ k.id) ++ codes "\":{") is;
        from = subst (λ (k : Column). All (λ g. g < length (columns_in f)) k.from) is
            (subst (λ (t : ℕ). All (λ g. g < length (columns_of f.report t)) c.column-column.result.now.from) c.table-2.ensures.value
            (subst (λ (r : ReportValue). All (λ g. g < length (columns_of r c.table-2.result)) c.column-column.result.now.from) c.report-2.ensures c.column-column.ensures.places));
        groups = c.in_ok-groups.ensures.places ∙ ap (λ (k : Column). map Some k.from) is;
      },
    )
