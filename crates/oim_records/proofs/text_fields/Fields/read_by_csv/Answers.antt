use Rattle.std.proofs.Common.{◌≡◌, ◌<◌, ◌∙◌, ◌∷◌, ◌++◌, [], List, ℕ, Some, ap, subst, arith, length, option_map}
use Rattle.oim_records.specs.Grids.{grid}
use Rattle.oim_records.specs.state.KeptTexts.{BeginsWith}
use Rattle.oim_records.proofs.FileTexts.{read-again}
use Rattle.oim_records.proofs.text_fields.Fields.read_by_csv.Goals as goal

pub returns-in-Ok : goal.returns-in-Ok
returns-in-Ok c =
    let file = c.in-Some.file.now in
    let current = c.args.self.now in
    let begins : BeginsWith file current = subst (BeginsWith file) (c.self.invariant.1 ∙ c.self.view_is) c.in-Some.ensures in
    let some : 0 < length current = omega (arith, c.len.ensures, c.if-len-eq0.false) in
    let line : c.as_slice.result.now ≡ 10 ∷ [] = c.as_slice.ensures in
    let known : c.new-records.result ≡ Some (grid (10 ∷ file)) = c.new-records.ensures ∙ ap (option_map grid) c.chain.ensures.bytes ∙ ap (λ (xs : List ℕ). Some (grid (xs ++ file))) line in
    read-again file current _ c.in-Ok.field-0 c.new-records.result _ begins some known c.in-Ok.ensures
