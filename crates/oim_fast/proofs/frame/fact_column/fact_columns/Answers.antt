use Rattle.std.proofs.Common.{◌≡◌, ◌++◌, ◌∷◌, [], Some, None, Option, length, map, sym, ap, subst, ◌∙◌, arith}
use Rattle.std.specs.List.{All}
use Rattle.oim_fast.specs.state.Columns.{IsColumnAt, IsFactColumn}
use Rattle.oim_fast.specs.declared.frame.fact_column.FactColumn.{FactColumn}
use Rattle.oim_fast.proofs.ColumnLaws.{one_more}
use Rattle.oim_fast.proofs.frame.fact_column.fact_columns.Goals as goal
use Rattle.oim_fast.proofs.frame.fact_column.fact_columns.Goals.{in-Some+in_ok-push, in_default}

pub loop-i-preserved : goal.loop-i-preserved
loop-i-preserved c =
    let f = c.args.header.now in
    let before = c.loop-i.cells.list.items in
    let after = c.fact_column.new.cells.list.items in
    let facts = c.loop-i.facts.items in
    let i = c.loop-i.i in
    let more = λ (o : Option FactColumn) (at : IsColumnAt f after i o).
    one_more f before after facts i o (omega (arith, ap length c.columns-i-end.ensures)) c.in_ok-column.ensures.grows c.loop-i.invariant.columns c.loop-i.invariant.are at in
    elim c.match-branch-2.branch [
      | in-Some+in_ok-push w ↦
          let both = more (Some w.in-Some.column) (subst (IsColumnAt f after i) w.in-Some.is c.in_ok-column.ensures.column) in
          let is : c.match-branch-2.facts.items ≡ facts ++ w.in-Some.column ∷ [] = ap (λ v. v.items) w.facts-is ∙ w.in_ok-push.ensures.items in
          record {
            cells = c.in_ok-column.ensures.cells;
            columns = ap (map (λ (k : FactColumn). k.column)) is ∙ both.0;
            are = subst (All (IsFactColumn f after)) (sym is) both.1;
          }
      | in_default w ↦
          let both = more None (subst (IsColumnAt f after i) w.in_default.is c.in_ok-column.ensures.column) in
          let is : c.match-branch-2.facts.items ≡ facts = ap (λ v. v.items) w.facts-is in
          record {
            cells = c.in_ok-column.ensures.cells;
            columns = ap (map (λ (k : FactColumn). k.column)) is ∙ both.0;
            are = subst (All (IsFactColumn f after)) (sym is) both.1;
          }
    ]
