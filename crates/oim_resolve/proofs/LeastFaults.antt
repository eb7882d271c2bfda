-- The least fault of two sets combined.
use Rattle.std.proofs.Common.{◌≡◌, ℕ, true, false, List, [], ◌∷◌, ◌++◌, Bool, append_assoc, Option, Some, None, Result, Ok, Err, cond, leb, refl, sym, ap, ◌∙◌, arith}
use Rattle.std.proofs.lemmas.Bool.Decides.{nat_tests}
use Rattle.std.proofs.lemmas.List.{append-nil}
use Rattle.oim_resolve.specs.declared.fact.CellFault.{CellFault}
use Rattle.oim_resolve.specs.Faults.{number_of, lesser, least, unless}
use Rattle.oim_resolve.specs.state.ProgramFaults.{least_of, both, or_fault}

above : (a b c : ℕ) → leb a b ≡ false → leb b c ≡ false → leb a c ≡ false
above a b c e k = grind (arith, nat_tests)

kept : {X : Type 0} (a b c : ℕ) → leb a b ≡ true → leb b c ≡ true → (f g h : X) → cond (leb a b) f g ≡ cond (leb a c) f h
kept a b c e k f g h = let l : leb a c ≡ true = grind (arith, nat_tests) in ap (λ q. cond q f g) e ∙ ap (λ q. cond q f h) (sym l)

lesser-assoc : (f g h : CellFault) → lesser f (lesser g h) ≡ lesser (lesser f g) h
lesser-assoc f g h = by (leb (number_of f) (number_of g)) refl
  where
    first : (c : Bool) → leb (number_of f) (number_of g) ≡ true → leb (number_of g) (number_of h) ≡ c
        → cond (leb (number_of f) (number_of (cond c g h))) f (cond c g h) ≡ cond (leb (number_of f) (number_of h)) f h
    first true e k = kept (number_of f) (number_of g) (number_of h) e k f g h
    first false e k = refl

    other : (c : Bool) → leb (number_of f) (number_of g) ≡ false → leb (number_of g) (number_of h) ≡ c
        → cond (leb (number_of f) (number_of (cond c g h))) f (cond c g h) ≡ cond c g h
    other true e k = ap (λ b. cond b f g) e
    other false e k = ap (λ b. cond b f h) (above (number_of f) (number_of g) (number_of h) e k)

    by : (b : Bool) → leb (number_of f) (number_of g) ≡ b → lesser f (lesser g h) ≡ cond (leb (number_of (cond b f g)) (number_of h)) (cond b f g) h
    by true e = first (leb (number_of g) (number_of h)) e refl
    by false e = other (leb (number_of g) (number_of h)) e refl

-- least_of is associative.
pub least_of-assoc : (f g h : Option CellFault) → least_of f (least_of g h) ≡ least_of (least_of f g) h
least_of-assoc None g h = refl
least_of-assoc (Some f) None h = refl
least_of-assoc (Some f) (Some g) None = refl
least_of-assoc (Some f) (Some g) (Some h) = ap Some (lesser-assoc f g h)

pub least-append : (xs ys : List CellFault) → least (xs ++ ys) ≡ least_of (least xs) (least ys)
least-append [] ys = refl
least-append (x ∷ xs) ys = ap (least_of (Some x)) (least-append xs ys) ∙ least_of-assoc (Some x) (least xs) (least ys)

-- Two readings that each give a value unless a set has a fault.
pub both_unless : {A B C : Type 0} (join : A → B → C) (xs ys : List CellFault) (a : A) (b : B)
    → both join (unless (least xs) (Ok a)) (unless (least ys) (Ok b)) ≡ unless (least (xs ++ ys)) (Ok (join a b))
both_unless join xs ys a b = by (least xs) (least ys) ∙ ap (λ f. unless f (Ok (join a b))) (sym (least-append xs ys))
  where
    by : (x y : Option CellFault) → both join (unless x (Ok a)) (unless y (Ok b)) ≡ unless (least_of x y) (Ok (join a b))
    by None None = refl
    by None (Some g) = refl
    by (Some f) None = refl
    by (Some f) (Some g) = refl

-- A reading, unless a set has a fault, and another set.
pub or_fault_unless : {A : Type 0} (xs ys : List CellFault) (a : A) → or_fault (unless (least xs) (Ok a)) (least ys) ≡ unless (least (xs ++ ys)) (Ok a)
or_fault_unless xs ys a = by (least xs) (least ys) ∙ ap (λ f. unless f (Ok a)) (sym (least-append xs ys))
  where
    by : (x y : Option CellFault) → or_fault (unless x (Ok a)) y ≡ unless (least_of x y) (Ok a)
    by None None = refl
    by None (Some g) = refl
    by (Some f) None = refl
    by (Some f) (Some g) = refl

abbrev pub pair : {A B : Type 0} → A → B → A × B
pair a b = (a, b)

abbrev pub joined : {X : Type 0} → Result (List X) CellFault → Result (List X) CellFault → Result (List X) CellFault
joined r s = both (λ xs more. xs ++ more) r s

pub joined-assoc : {X : Type 0} (r s t : Result (List X) CellFault) → joined (joined r s) t ≡ joined r (joined s t)
joined-assoc (Ok a) (Ok b) (Ok d) = ap Ok (append_assoc a b d)
joined-assoc (Ok a) (Ok b) (Err h) = refl
joined-assoc (Ok a) (Err g) (Ok d) = refl
joined-assoc (Ok a) (Err g) (Err h) = refl
joined-assoc (Err f) (Ok b) (Ok d) = refl
joined-assoc (Err f) (Ok b) (Err h) = refl
joined-assoc (Err f) (Err g) (Ok d) = refl
joined-assoc (Err f) (Err g) (Err h) = ap Err (sym (lesser-assoc f g h))

pub joined-nothing : {X : Type 0} (r : Result (List X) CellFault) → joined r (Ok []) ≡ r
joined-nothing (Ok a) = ap Ok (append-nil a)
joined-nothing (Err f) = refl

pub nothing-joined : {X : Type 0} (r : Result (List X) CellFault) → joined (Ok []) r ≡ r
nothing-joined (Ok a) = refl
nothing-joined (Err f) = refl
