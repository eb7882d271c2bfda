use Rattle.std.proofs.Common.{◌≡◌, refl, sym, ◌∙◌, ap, Some, to_z-of_z, FitsSigned}
use Rattle.std.specs.Int.{w32}
use Rattle.std.specs.Str.Parse.{signed_digits_value}
use Rattle.oim_cells.specs.declared.cells.Accuracy.TheVariants.{Infinite, Places}
use Rattle.oim_cells.specs.Numeral.{infinite, places}
use Rattle.oim_cells.proofs.Digits.{is_infinite, is_places, is_parsed}
use Rattle.oim_cells.proofs.Values.{accuracy_law, no_accuracy}
use Rattle.oim_cells.proofs.numeral.decimals.Goals as goal

pub returns-in-INF-clause-means : goal.returns-in-INF-clause-means
returns-in-INF-clause-means c = rw c.in-INF.is (λ a. (λ q. let e : Infinite ≡ a = cc in rw (← e) infinite, λ d. ap Some (sym (is_infinite d refl))))

pub returns-in-Ok-clause-means : goal.returns-in-Ok-clause-means
returns-in-Ok-clause-means c =
    let x = c.args.text.now in
    let v = c.in-Ok.ensures.value.0 in
    let fits : FitsSigned w32 c.in-Ok.places = rw v.1 (v.0.1) in
    let same = ap Places (to_z-of_z fits ∙ v.1) in
    λ a. (λ q. let e : Places (signed_digits_value 10 x) ≡ a = cc in rw (← e) (places x v.0.0 v.0.1), λ d. ap Some (same ∙ sym (is_places d c.in_default.not-INF).1))

pub returns-in-INF-clause-value : goal.returns-in-INF-clause-value
returns-in-INF-clause-value c = sym ((accuracy_law c.args.text.now _).1 ((returns-in-INF-clause-means c _).0 refl))

pub returns-in-Ok-clause-value : goal.returns-in-Ok-clause-value
returns-in-Ok-clause-value c = sym ((accuracy_law c.args.text.now _).1 ((returns-in-Ok-clause-means c _).0 refl))

pub returns-in-Err-clause-value : goal.returns-in-Err-clause-value
returns-in-Err-clause-value c =
    no_accuracy c.args.text.now (λ a d. c.in-Err.ensures.value.0 (is_parsed d c.in_default.not-INF))
