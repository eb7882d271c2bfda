use Rattle.std.proofs.Common.{arith, rules, ◌≡◌, ◌++◌, List, Option, None, Some, ℕ, ap, codes, sym, subst, ◌∙◌}
use Rattle.std.specs.Prelude.{decimal}
use Rattle.std.specs.List.{flat_map}
use Rattle.std.specs.Result.{OnOk}
use Rattle.oim_json.specs.JsonText.{escaped_byte}
use Rattle.oim_rows.specs.RowFacts.{TableHeaderValue, id_place_of, row_id_text}
use Rattle.oim_text.proofs.Appends.{still_front}
use Rattle.oim_fast.proofs.StartLaws.{number_put}
use Rattle.oim_fast.proofs.frame.fact_start.put_id.Goals as goal

pub returns-in-Some-clause-id : goal.returns-in-Some-clause-id
returns-in-Some-clause-id c =
    let x = c.args.row.now in
    let place : id_place_of x.header ≡ Some c.in-Some.place = sym (c.id_place.ensures ∙ ap (λ (f : TableHeaderValue). id_place_of f) c.header.ensures) ∙ c.in-Some.is in
    subst (λ (t : List ℕ). OnOk c.put_escaped_front.result (c.put_escaped_front.new.out.items ≡ c.args.out.now.items ++ flat_map escaped_byte t))
    (c.bytes_at-len.ensures.bytes ∙ sym (ap (λ (o : Option ℕ). row_id_text o x.number x.fields) place)) c.put_escaped_front.ensures.escaped

pub returns-in_ok-put-in-None-clause-id : goal.returns-in_ok-put-in-None-clause-id
returns-in_ok-put-in-None-clause-id c =
    let x = c.args.row.now in
    let out = c.args.out.now.items in
    let mid = c.put.new.self.items in
    let place : id_place_of x.header ≡ None = sym (c.id_place.ensures ∙ ap (λ (f : TableHeaderValue). id_place_of f) c.header.ensures) ∙ c.in-None.is in
    let digits : c.as_bytes.result.now ≡ decimal x.number = c.as_bytes.ensures.value ∙ c.format.ensures.text ∙ ap decimal c.number.ensures.value in
    let whole : mid ++ c.as_bytes.result.now ≡ out ++ flat_map escaped_byte (row_id_text (id_place_of x.header) x.number x.fields) =
    ap (λ t. mid ++ t) digits ∙ ap (λ t. t ++ decimal x.number) c.in_ok-put-in-None.ensures.items
    ∙ number_put out x.number (omega (arith, c.number.ensures.within)) ∙ sym (ap (λ (o : Option ℕ). out ++ flat_map escaped_byte (row_id_text o x.number x.fields)) place) in
    search rules

pub returns-in_ok-put-in-None-clause-stays : goal.returns-in_ok-put-in-None-clause-stays
returns-in_ok-put-in-None-clause-stays c =
    still_front c.put-in-None.result c.args.out.now.items c.put.new.self.items (codes "r_") c.as_bytes.result.now c.put-in-None.new.self.items c.in_ok-put-in-None.ensures.items c.put-in-None.ensures.items
