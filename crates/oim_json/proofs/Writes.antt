-- Writes one after another.
use Rattle.std.specs.Prelude.{◌≡◌, ℕ, ◌+◌, ◌-◌, ◌≤◌, ◌<◌, List, [], ◌++◌, Option, Some, None, length, take, drop}
use Rattle.std.proofs.Common.{arith, refl, sym, ap, ◌∙◌, append_assoc, append-nil, subst, length-append, length-drop}
use Rattle.std.proofs.Math.Seq.{take-add, take-length}
use Rattle.std.specs.Io.KnownBytes.{Appends, Keeps}
use Rattle.std.proofs.lemmas.List.{length-take-le, take-append-drop}
use Rattle.oim_json.specs.Sinks.{AppendsPrefix, SinkView, Broke, Wrote}
use Rattle.oim_json.specs.declared.mark.WriteFault.{WriteFault}

pub appends_nothing : (a : Option (List ℕ)) → Appends a a []
appends_nothing None = tt
appends_nothing (Some xs) = sym (append-nil xs)

pub appends_twice : (a b c : Option (List ℕ)) (xs ys : List ℕ) → Appends a b xs → Appends b c ys → Appends a c (xs ++ ys)
appends_twice None b c xs ys p q = tt
appends_twice (Some a) None c xs ys p q = absurd p
appends_twice (Some a) (Some b) None xs ys p q = absurd q
appends_twice (Some a) (Some b) (Some c) xs ys p q = q ∙ (ap (λ l. l ++ ys) p ∙ append_assoc a xs ys)

pub keeps_appends : (a b c : Option (List ℕ)) (xs : List ℕ) → Appends a b xs → Keeps b c → Appends a c xs
keeps_appends None b c xs p q = tt
keeps_appends (Some a) None c xs p q = absurd p
keeps_appends (Some a) (Some b) None xs p q = absurd q
keeps_appends (Some a) (Some b) (Some c) xs p q = q ∙ p

-- The first n bytes, then k more.
pub appends_more : (a b c : Option (List ℕ)) (xs : List ℕ) (n k : ℕ) → Appends a b (take n xs) → Appends b c (take k (drop n xs)) → Appends a c (take (n + k) xs)
appends_more a b c xs n k p q =
    subst (λ (l : List ℕ). Appends a c l) (sym (take-add n k xs)) (appends_twice a b c (take n xs) (take k (drop n xs)) p q)

-- The rest from i on, as the code slices it.
pub slice_rest : (i : ℕ) (xs : List ℕ) → take (length xs - i) (drop i xs) ≡ drop i xs
slice_rest i xs = subst (λ (n : ℕ). take n (drop i xs) ≡ drop i xs) (length-drop i xs) (take-length (drop i xs))

-- A write of n bytes of the rest from i on.
pub writes_more : (a b c : Option (List ℕ)) (xs : List ℕ) (i n : ℕ) → i ≤ length xs → n ≤ length (take (length xs - i) (drop i xs))
    → Appends a b (take i xs) → Appends b c (take n (take (length xs - i) (drop i xs)))
    → (i + n ≤ length xs) × Appends a c (take (i + n) xs)
writes_more a b c xs i n le at p q =
    let at' : n ≤ length (drop i xs) = subst (λ (l : List ℕ). n ≤ length l) (slice_rest i xs) at in
    let q' : Appends b c (take n (drop i xs)) = subst (λ (l : List ℕ). Appends b c (take n l)) (slice_rest i xs) q in
    (omega (arith, length-drop i xs), appends_more a b c xs i n p q')

-- A write that took nothing, once the first i bytes are out.
pub stops : (a b c : Option (List ℕ)) (xs : List ℕ) (i : ℕ) → i < length xs → Appends a b (take i xs) → Keeps b c → AppendsPrefix a c xs
stops a b c xs i less p q = (take i xs, (drop i xs, take-append-drop i xs), keeps_appends a b c (take i xs) p q, let len = length-take-le i xs (omega (arith, less)) in omega (arith, less, len))

pub prefix_more : (a b : Option (List ℕ)) (xs ys : List ℕ) → AppendsPrefix a b xs → AppendsPrefix a b (xs ++ ys)
prefix_more a b xs ys p = (p.0, (p.1.0 ++ ys, sym (append_assoc p.0 p.1.0 ys) ∙ ap (λ l. l ++ ys) p.1.1), p.2, (let less = p.3 in let len = length-append xs ys in omega (arith, less, len)))

pub prefix_after : (a b c : Option (List ℕ)) (xs ys : List ℕ) → Appends a b xs → AppendsPrefix b c ys → AppendsPrefix a c (xs ++ ys)
prefix_after a b c xs ys p q = (
  xs ++ q.0,
  (q.1.0, append_assoc xs q.0 q.1.0 ∙ ap (λ l. xs ++ l) q.1.1),
  appends_twice a b c xs q.0 p q.2,
  (let less = q.3 in let some = length-append xs q.0 in let all = length-append xs ys in omega (arith, less, some, all)),
)

-- SINKS

pub wrote_nothing : (s : SinkView) → Wrote s s []
wrote_nothing s = (refl, appends_nothing s.told)

pub wrote_twice : (a b c : SinkView) (xs ys : List ℕ) → Wrote a b xs → Wrote b c ys → Wrote a c (xs ++ ys)
wrote_twice a b c xs ys p q = (q.0 ∙ p.0, appends_twice a.told b.told c.told xs ys p.1 q.1)

pub broke_later : (a b c : SinkView) (xs ys : List ℕ) (w : WriteFault) → Wrote a b xs → Broke b c ys w → Broke a c (xs ++ ys) w
broke_later a b c xs ys w p q = (q.0, prefix_after a.told b.told c.told xs ys p.1 q.1)

pub broke_before : (a b : SinkView) (xs ys : List ℕ) (w : WriteFault) → Broke a b xs w → Broke a b (xs ++ ys) w
broke_before a b xs ys w q = (q.0, prefix_more a.told b.told xs ys q.1)
