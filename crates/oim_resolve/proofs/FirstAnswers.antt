-- The first answer of a list, taken apart.
use Rattle.std.proofs.Common.{◌≡◌, List, [], ◌∷◌, ◌++◌, Option, Some, None, refl, ap, ◌∙◌}
use Rattle.std.specs.Option.{IsSome, option_or}
use Rattle.oim_resolve.specs.Writers.{first_answer}

grouped : {B : Type 0} (a b c : Option B) → option_or a (option_or b c) ≡ option_or (option_or a b) c
grouped None b c = refl
grouped (Some x) b c = refl

pub or_none : {B : Type 0} (o : Option B) → option_or o None ≡ o
or_none None = refl
or_none (Some x) = refl

pub first_answer-append : {A B : Type 0} (f : A → Option B) (xs ys : List A) → first_answer f (xs ++ ys) ≡ option_or (first_answer f xs) (first_answer f ys)
first_answer-append f [] ys = refl
first_answer-append f (x ∷ xs) ys = ap (option_or (f x)) (first_answer-append f xs ys) ∙ grouped (f x) (first_answer f xs) (first_answer f ys)

-- Whether one of two answers is found.
pub some_first : {B : Type 0} (a b : Option B) → IsSome a → IsSome (option_or a b)
some_first None b h = cc h
some_first (Some x) b h = refl

pub some_second : {B : Type 0} (a b : Option B) → IsSome b → IsSome (option_or a b)
some_second None b h = h
some_second (Some x) b h = refl
