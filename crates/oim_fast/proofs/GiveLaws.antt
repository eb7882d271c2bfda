-- What columns of facts give a row.
use Rattle.std.proofs.Common.{◌≡◌, ◌≤◌, ℕ, zero, suc, List, [], ◌∷◌, ◌++◌, drop, length, take, Option, Some, None, refl, sym, ap, subst, ◌∙◌, arith, append_assoc, append-nil, length-append}
use Rattle.std.specs.Option.{option_to_list}
use Rattle.oim_resolve.specs.FactParts.{FactParts as Fact}
use Rattle.oim_fast.specs.Facts.{GiveFacts}
use Rattle.oim_row.specs.Rows.{RowValue}

-- Some columns, and then others.
pub give_append : (x : RowValue) (cs ds : List ℕ) (fs gs : List Fact) → GiveFacts x cs fs → GiveFacts x ds gs → GiveFacts x (cs ++ ds) (fs ++ gs)
give_append x [] ds fs gs f g = subst (λ (q : List Fact). GiveFacts x ds (q ++ gs)) (sym f) g
give_append x (c ∷ cs) ds fs gs (o, more, is, same, given) g =
    (o, more ++ gs, is, ap (λ (q : List Fact). q ++ gs) same ∙ append_assoc (option_to_list o) more gs, give_append x cs ds more gs given g)

-- The same columns give the same facts.
pub give_same : (x : RowValue) (cs : List ℕ) (fs gs : List Fact) → GiveFacts x cs fs → GiveFacts x cs gs → fs ≡ gs
give_same x [] fs gs f g = f ∙ sym g
give_same x (c ∷ cs) fs gs (o, more, is, same, given) (o', more', is', same', given') =
    let one : o ≡ o' = cc (is, is') in
    same ∙ ap (λ (p : Option Fact). option_to_list p ++ more) one ∙ ap (λ (q : List Fact). option_to_list o' ++ q) (give_same x cs more more' given given') ∙ sym same'

-- What the first columns give comes first in what all give.
pub give_split : (x : RowValue) (k : ℕ) (cs : List ℕ) (part all : List Fact) → GiveFacts x (take k cs) part → GiveFacts x cs all → (rest : List Fact) × (all ≡ part ++ rest) × GiveFacts x (drop k cs) rest
give_split x zero cs part all p a = (all, ap (λ (q : List Fact). q ++ all) (sym p), a)
give_split x (suc k) [] part all p a = ([], a ∙ sym (append-nil part ∙ p), refl)
give_split x (suc k) (c ∷ cs) part all (o, more, is, same, given) (o', more', is', same', given') =
    let one : o ≡ o' = cc (is, is') in
    let later = give_split x k cs more more' given given' in (
      later.0,
      same' ∙ ap (λ (q : List Fact). option_to_list o' ++ q) later.1 ∙ sym (append_assoc (option_to_list o') more later.0)
          ∙ ap (λ (q : List Fact). q ++ later.0) (ap (λ (q : Option Fact). option_to_list q ++ more) (sym one) ∙ sym same),
      later.2,
    )

-- A column gives at most one fact.
one_at_most : (o : Option Fact) → length (option_to_list o) ≤ 1
one_at_most None = omega arith
one_at_most (Some f) = omega arith

pub give_length : (x : RowValue) (cs : List ℕ) (fs : List Fact) → GiveFacts x cs fs → length fs ≤ length cs
give_length x [] fs g = omega (arith, ap length g)
give_length x (c ∷ cs) fs (o, more, is, same, given) = omega (arith, ap length same, length-append (option_to_list o) more, one_at_most o, give_length x cs more given)
