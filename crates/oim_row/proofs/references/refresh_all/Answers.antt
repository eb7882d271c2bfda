use Rattle.std.proofs.Common.{◌≡◌, ◌<◌, length, get_or, sym, ap, subst, arith, ◌∙◌}
use Rattle.std.proofs.lemmas.List.{length-map}
use Rattle.oim_row.specs.References.{IsFresh, IsOfReport, ReferenceValue, key_of}
use Rattle.oim_row.specs.Sources.{source_text}
use Rattle.oim_row.proofs.Refreshed.{set_map, set_below, set_all}
use Rattle.oim_row.proofs.references.refresh_all.Goals as goal

pub returns-in_err-refresh-clause-keys : goal.returns-in_err-refresh-clause-keys
returns-in_err-refresh-clause-keys c =
    let xs = c.loop-i.list.items in
    let i = c.loop-i.i in
    let len : length xs ≡ length c.args.list.now.items = sym (length-map xs key_of) ∙ ap length c.loop-i.invariant.keys ∙ length-map c.args.list.now.items key_of in
    let b : i < length xs = omega (arith, c.len-i-end.ensures) in
    set_map key_of xs i c.index_mut-reference.result.now c.refresh.new.self b c.index_mut-reference.ensures.value (ap key_of c.refresh.ensures) ∙ c.loop-i.invariant.keys

pub loop-i-preserved : goal.loop-i-preserved
loop-i-preserved c =
    let xs = c.loop-i.list.items in
    let i = c.loop-i.i in
    let x = c.index_mut-reference.result.now in
    let y = c.refresh.new.self in
    let a = c.args.row.now in
    let len : length xs ≡ length c.args.list.now.items = sym (length-map xs key_of) ∙ ap length c.loop-i.invariant.keys ∙ length-map c.args.list.now.items key_of in
    let b : i < length xs = omega (arith, c.len-i-end.ensures) in
    let is : x ≡ get_or xs i x = c.index_mut-reference.ensures.value in
    let of_report : IsOfReport a.header.report x = subst (IsOfReport a.header.report) (sym is) (c.loop-i.invariant.reports i x b) in
    let report : y.report ≡ a.header.report = ap (λ (s : ReferenceValue). s.report) c.refresh.ensures ∙ of_report in
    let source = sym (ap (λ (s : ReferenceValue). s.key.source) c.refresh.ensures) in
    let fresh : IsFresh a y = record { report = report; text = ap (λ (s : ReferenceValue). s.text) c.refresh.ensures ∙ ap (source_text a) source } in
    record {
      keys = set_map key_of xs i x y b is (ap key_of c.refresh.ensures) ∙ c.loop-i.invariant.keys;
      reports = set_all (IsOfReport a.header.report) xs i y c.loop-i.invariant.reports report;
      fresh = λ k d h. set_below (IsFresh a) xs i y b c.loop-i.invariant.fresh fresh k d (omega arith);
    }
