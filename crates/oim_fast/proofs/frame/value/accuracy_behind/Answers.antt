use Rattle.std.proofs.Common.{rules, sym, subst, ◌∙◌, ◌≡◌, ◌+◌, ◌-◌, arith, get_or, length, take, drop, Some, List, ℕ, length-take-le}
use Rattle.std.proofs.lemmas.List.{get_or-take}
use Rattle.std.proofs.lemmas.Int.{to_z-of_z}
use Rattle.std.specs.Prelude.{ℤ, pos}
use Rattle.std.proofs.lemmas.Str.Parse.{digit_from_value}
use Rattle.oim_rows.specs.RowFacts.{field_or_empty}
use mir.Syntax.{w32}
use mir.Val.{SFits}
use Rattle.oim_cells.specs.declared.cells.Accuracy.TheVariants.{Places}
use Rattle.oim_text.specs.Suffixes.{IsSuffix}
use Rattle.oim_fast.proofs.OneDigit.{digit_suffix}
use Rattle.oim_fast.proofs.frame.value.accuracy_behind.Goals as goal

pub returns-then-is_ascii_digit : goal.returns-then-is_ascii_digit
returns-then-is_ascii_digit c =
    let bytes = c.args.bytes.now in
    let end = c.args.end in
    let cell = take c.args.len bytes in
    let digit = get_or bytes (end + 1) 0 - 48 in
    let whole = length-take-le c.args.len bytes c.requires.within.1 in
    let range = digit_from_value (get_or bytes (end + 1) 0) c.if-is_ascii_digit.ensures.bound in
    let long : length cell ≡ end + 2 = omega (arith, whole, c.if-len-end-eq2.true, c.requires.within) in
    let mark : get_or cell end 0 ≡ 100 = get_or-take c.args.len bytes end 0 (omega (arith, long, whole)) ∙ c.if-bytes-end-eq100.true in
    let last : get_or cell (end + 1) 0 ≡ 48 + digit = get_or-take c.args.len bytes (end + 1) 0 (omega (arith, long, whole)) ∙ omega (arith, range) in
    let found = digit_suffix cell end digit long mark last (omega (arith, range)) in
    let fits : SFits w32 c.from.result = search rules in
    let places = to_z-of_z w32 c.from.result fits ∙ c.from.ensures in
    subst (λ (z : ℤ). IsSuffix (drop end (field_or_empty c.args.row.now.fields (Some c.args.place))) (Places z)) (sym places)
    (subst (λ (s : List ℕ). IsSuffix (drop end s) (Places (pos digit))) c.requires.cell found)
