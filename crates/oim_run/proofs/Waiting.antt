-- The bytes that a writer after a buffer holds, and those that wait before it.
use Rattle.std.specs.Prelude.{◌≡◌, ℕ, ◌≤◌, ◌<◌, nat_le, if◌then◌else◌, Bool, true, false, List, [], ◌∷◌, ◌++◌, Option, Some, None, length}
use mathlib.Core.List.{IsPrefix}
use Rattle.std.proofs.Common.{arith, refl, sym, ap, ◌∙◌, subst, append-nil}
use Rattle.std.proofs.lemmas.Bool.{leb-false, leb-true}
use Rattle.std.specs.Io.KnownBytes.{Appends, Keeps}
use Rattle.oim_run.specs.state.Buffers.{told_behind, told_since}

pub keeps_same : (a : Option (List ℕ)) → Keeps a a
keeps_same None = tt
keeps_same (Some x) = refl

pub appends_then : (a b c : Option (List ℕ)) (bs : List ℕ) → Appends a b bs → Keeps b c → Appends a c bs
appends_then None b c bs p q = tt
appends_then (Some x) None c bs p q = absurd p
appends_then (Some x) (Some y) None bs p q = absurd q
appends_then (Some x) (Some y) (Some z) bs p q = q ∙ p

split_behind : (first now waiting text : List ℕ) → length first ≤ length now → now ++ waiting ≡ first ++ text → (bs : List ℕ) × (now ≡ first ++ bs) × (text ≡ bs ++ waiting)
split_behind [] now waiting text le e = (now, refl, sym e)
split_behind (x ∷ first) [] waiting text le e = absurd (omega (arith, le))
split_behind (x ∷ first) (y ∷ now) waiting text le e =
    let tail : now ++ waiting ≡ first ++ text = cc in
    let head : y ≡ x = cc in
    let rest = split_behind first now waiting text (omega (arith, le)) tail in
    (rest.0, ap (λ l. y ∷ l) rest.1 ∙ ap (λ h. h ∷ (first ++ rest.0)) head, rest.2)

from_first : (f x waiting before text : List ℕ) → nat_le (length f) (length x) ≡ true → length f ∷ (x ++ waiting) ≡ (length before ∷ (before ++ [])) ++ text
    → (bs : List ℕ) × (x ≡ before ++ bs) × (text ≡ bs ++ waiting)
from_first f x waiting before text le e =
    let n : length f ≡ length before = cc in
    let l : x ++ waiting ≡ (before ++ []) ++ text = cc in
    let room : length f ≤ length x = leb-true (length f) (length x) le in
    split_behind before x waiting text (omega (arith, room, n)) (l ∙ ap (λ k. k ++ text) (append-nil before))

told_first : (b : Bool) (f x waiting before text : List ℕ) → nat_le (length f) (length x) ≡ b
    → Appends (Some (length before ∷ (before ++ []))) (if b then Some (length f ∷ (x ++ waiting)) else None) text → (bs : List ℕ) × (x ≡ before ++ bs) × (text ≡ bs ++ waiting)
told_first true f x waiting before text le e = from_first f x waiting before text le e
told_first false f x waiting before text le e = absurd e

begin_if : (before : List ℕ) → told_since (length before) before [] ≡ Some (length before ∷ (before ++ []))
begin_if before = by (nat_le (length before) (length before)) refl
  where
    by : (b : Bool) → nat_le (length before) (length before) ≡ b → (if b then Some (length before ∷ (before ++ [])) else None) ≡ Some (length before ∷ (before ++ []))
    by true at = refl
    by false at = absurd (let less : length before < length before = leb-false (length before) (length before) at in omega (arith, less))

-- The writer took a prefix of the text, and the rest waits.
pub took_some : (before first now : Option (List ℕ)) (waiting text : List ℕ) → Appends (told_behind before before []) (told_behind first now waiting) text
    → (bs : List ℕ) × IsPrefix bs text × Appends before now bs
took_some None first now waiting text e = ([], (text, refl), tt)
took_some (Some before) None now waiting text e = absurd (subst (λ o. Appends o None text) (begin_if before) e)
took_some (Some before) (Some f) None waiting text e = absurd (subst (λ o. Appends o None text) (begin_if before) e)
took_some (Some before) (Some f) (Some x) waiting text e =
    let it = told_first (nat_le (length f) (length x)) f x waiting before text refl (subst (λ o. Appends o (told_since (length f) x waiting) text) (begin_if before) e) in
    (it.0, (waiting, sym it.2), it.1)

-- The writer took all of the text, if nothing waits.
pub took_all : (before first now : Option (List ℕ)) (text : List ℕ) → Appends (told_behind before before []) (told_behind first now []) text → Appends before now text
took_all None first now text e = tt
took_all (Some before) None now text e = absurd (subst (λ o. Appends o None text) (begin_if before) e)
took_all (Some before) (Some f) None text e = absurd (subst (λ o. Appends o None text) (begin_if before) e)
took_all (Some before) (Some f) (Some x) text e =
    let it = told_first (nat_le (length f) (length x)) f x [] before text refl (subst (λ o. Appends o (told_since (length f) x []) text) (begin_if before) e) in
    it.1 ∙ ap (λ l. before ++ l) (sym (it.2 ∙ append-nil it.0))
