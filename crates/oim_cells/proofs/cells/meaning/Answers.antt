use Rattle.std.proofs.Common.{◌≡◌, ◌==◌, ℕ, List, [], ◌∷◌, drop, length, refl, sym, ◌∙◌, ap, None, Some, false, true, arith, get_or}
use Rattle.std.proofs.lemmas.Bool.{eqb-true}
use Rattle.std.proofs.lemmas.Str.Pattern.{strip_prefix_char, starts_char}
use Rattle.oim_cells.specs.Cells.{nothing, none, nil, empty, doubled, other, plain, IsOther, Text}
use Rattle.oim_cells.proofs.Cases.{is_nothing, is_none, is_nil, is_empty, is_doubled, is_other, is_plain, first_is, unmarked}
use Rattle.oim_cells.proofs.Meanings.{meaning_law}
use Rattle.oim_cells.proofs.cells.meaning.Goals as goal

no_bytes : (t : List ℕ) → true ≡ (length t == 0) → t ≡ []
no_bytes [] e = refl
no_bytes (c ∷ t) e = let bad : length (c ∷ t) ≡ 0 = eqb-true _ _ (sym e) in absurd (omega (arith, bad))

some_bytes : (t : List ℕ) → false ≡ (length t == 0) → t ≡ [] → ⊥
some_bytes [] e n = cc
some_bytes (c ∷ t) e n = cc

pub returns-in-None-clause-means : goal.returns-in-None-clause-means
returns-in-None-clause-means c = rw (no_bytes c.args.text.now c.if-is_empty.ensures) (λ m. (λ w. is_nothing w refl, λ q. rw q nothing))

pub returns-in-None-2-clause-means : goal.returns-in-None-2-clause-means
returns-in-None-2-clause-means c =
    let x = c.args.text.now in
    let k = strip_prefix_char 35 x None c.in-None.ensures.cases (omega arith) in
    let p = unmarked x (some_bytes x c.if-is_empty.ensures) k in
    λ m. (λ w. is_plain w p.0 p.1 p.2 p.3, λ q. rw (q, p.3) (plain p.0 p.1 p.2))

pub returns-in-Some-none-clause-means : goal.returns-in-Some-none-clause-means
returns-in-Some-none-clause-means c =
    let k = strip_prefix_char 35 c.args.text.now (Some c.in-Some-none.field-0) c.in-Some-none.ensures.cases (omega arith) in
    rw (k, c.in-Some-none.is-none) (λ m. (λ w. is_none w refl, λ q. rw q none))

pub returns-in-Some-nil-clause-means : goal.returns-in-Some-nil-clause-means
returns-in-Some-nil-clause-means c =
    let k = strip_prefix_char 35 c.args.text.now (Some c.in-Some-nil.field-0) c.in-Some-nil.ensures.cases (omega arith) in
    rw (k, c.in-Some-nil.is-nil) (λ m. (λ w. is_nil w refl, λ q. rw q nil))

pub returns-in-Some-empty-clause-means : goal.returns-in-Some-empty-clause-means
returns-in-Some-empty-clause-means c =
    let k = strip_prefix_char 35 c.args.text.now (Some c.in-Some-empty.field-0) c.in-Some-empty.ensures.cases (omega arith) in
    rw (k, c.in-Some-empty.is-empty) (λ m. (λ w. is_empty w refl, λ q. rw q empty))

pub returns-in-Some-clause-means : goal.returns-in-Some-clause-means
returns-in-Some-clause-means c =
    let x = c.args.text.now in
    let r = c.in-Some.rest.now in
    let k : x ≡ 35 ∷ r = strip_prefix_char 35 x (Some c.in-Some.rest) c.in-Some.ensures.cases (omega arith) in
    let f : r ≡ 35 ∷ drop 1 r = first_is r ((starts_char 35 r true c.if-starts_with.ensures.cases (omega arith) (omega arith)).0 refl) in
    let e : x ≡ 35 ∷ 35 ∷ drop 1 r = k ∙ ap (λ s. 35 ∷ s) f in
    λ m. (λ w. is_doubled w (drop 1 r) e ∙ ap Text (sym f), λ q. rw q (rw (e, f) (doubled (drop 1 r))))

pub returns-in-Some-2-clause-means : goal.returns-in-Some-2-clause-means
returns-in-Some-2-clause-means c =
    let x = c.args.text.now in
    let r = c.in-Some.rest.now in
    let k : x ≡ 35 ∷ r = strip_prefix_char 35 x (Some c.in-Some.rest) c.in-Some.ensures.cases (omega arith) in
    let n = (starts_char 35 r false c.if-starts_with.ensures.cases (omega arith) (omega arith)).1 in
    let i : IsOther r = (c.in-Some.not-none, c.in-Some.not-nil, c.in-Some.not-empty, λ more e. let bad : false ≡ true = n (ap (λ s. get_or s 0 0) e) in absurd (cc)) in
    λ m. (λ w. is_other w r k i, λ q. rw (q, k) (other r i))

pub returns-in-None-clause-value : goal.returns-in-None-clause-value
returns-in-None-clause-value c = meaning_law ((returns-in-None-clause-means c _).1 refl)

pub returns-in-None-2-clause-value : goal.returns-in-None-2-clause-value
returns-in-None-2-clause-value c = meaning_law ((returns-in-None-2-clause-means c _).1 refl)

pub returns-in-Some-none-clause-value : goal.returns-in-Some-none-clause-value
returns-in-Some-none-clause-value c = meaning_law ((returns-in-Some-none-clause-means c _).1 refl)

pub returns-in-Some-nil-clause-value : goal.returns-in-Some-nil-clause-value
returns-in-Some-nil-clause-value c = meaning_law ((returns-in-Some-nil-clause-means c _).1 refl)

pub returns-in-Some-empty-clause-value : goal.returns-in-Some-empty-clause-value
returns-in-Some-empty-clause-value c = meaning_law ((returns-in-Some-empty-clause-means c _).1 refl)

pub returns-in-Some-clause-value : goal.returns-in-Some-clause-value
returns-in-Some-clause-value c = meaning_law ((returns-in-Some-clause-means c _).1 refl)

pub returns-in-Some-2-clause-value : goal.returns-in-Some-2-clause-value
returns-in-Some-2-clause-value c = meaning_law ((returns-in-Some-2-clause-means c _).1 refl)
