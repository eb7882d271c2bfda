-- A text in quotes is what serde_json writes for it. A text without escapes is written unchanged.
use Rattle.std.proofs.Common.{not, ◌&&◌, codes, ◌≡◌, ℕ, ◌/◌, ◌%◌, List, [], ◌∷◌, ◌++◌, Bool, true, false, cond, ◌||◌, ◌==◌, nat_lt, refl, sym, ap, subst, ◌∙◌}
use Rattle.std.specs.List.{flat_map, list_all}
use Rattle.std.specs.Char.{digit_char}
use Rattle.std.proofs.lemmas.Bool.{eqb-true}
use Rattle.serde_json.specs.Data.{string}
use Rattle.serde_json.specs.Written.{compact_text}
use Rattle.serde_json.proofs.OnLiterals.{serde_json_on_literals}
use Rattle.oim_names.proofs.Cut.{eqb_of}
use Rattle.oim_json.specs.JsonText.{escaped_byte, quoted}
use Rattle.oim_json.specs.state.Writing.{is_unescaped}

abbrev letter : ℕ → ℕ
letter x = cond ((x == 34) || (x == 92)) x (cond (x == 8) 98 (cond (x == 12) 102 (cond (x == 10) 110 (cond (x == 13) 114 (cond (x == 9) 116 0)))))

abbrev kit_byte : ℕ → List ℕ
kit_byte x =
    cond (nat_lt 0 (letter x)) (92 ∷ letter x ∷ [])
    (cond (nat_lt x 32) (92 ∷ 117 ∷ 48 ∷ 48 ∷ digit_char (x / 16) ∷ digit_char (x % 16) ∷ []) (x ∷ []))

abbrev same : ℕ → Type 0
same x = kit_byte x ≡ escaped_byte x

-- At n, or if the test for n is false.
at : (n x : ℕ) (b : Bool) → (x == n) ≡ b → same n → ((x == n) ≡ false → same x) → same x
at n x true e here other = subst same (sym (eqb-true x n e)) here
at n x false e here other = other e

flat_map-same : (f g : ℕ → List ℕ) → ((x : ℕ) → f x ≡ g x) → (s : List ℕ) → flat_map f s ≡ flat_map g s
flat_map-same f g h [] = refl
flat_map-same f g h (x ∷ s) = rw (h x, flat_map-same f g h s) refl

same_byte : (x : ℕ) → same x
unfolding escaped_byte
same_byte x =
    at 34 x _ refl refl (λ e34. at 92 x _ refl refl (λ e92. at 8 x _ refl refl (λ e8. at 12 x _ refl refl (λ e12. at 10 x _ refl refl (λ e10. at 13 x _ refl refl (λ e13. at 9 x _ refl refl (λ e9.
    simp (e34, e92, e8, e12, e10, e13, e9))))))))

pub compact_text-string : (s : List ℕ) → compact_text (string s) ≡ quoted s
unfolding serde_json_on_literals quoted
compact_text-string s = ap (λ t. 34 ∷ (t ++ 34 ∷ [])) (flat_map-same kit_byte escaped_byte same_byte s)

three : (low quote slash : Bool) → (not low && (not quote && not slash)) ≡ true → (low ≡ false) × (quote ≡ false) × (slash ≡ false)
three false false false h = (refl, refl, refl)
three false false true h = absurd (cc)
three false true slash h = absurd (cc)
three true quote slash h = absurd (cc)

-- A byte from 32 on is not below 32.
is_not : (k b : ℕ) → nat_lt k 32 ≡ true → nat_lt b 32 ≡ false → (b == k) ≡ false
is_not k b small large = eqb_of b k (λ e. let low : nat_lt k 32 ≡ false = subst (λ n. nat_lt n 32 ≡ false) e large in let bad : true ≡ false = sym small ∙ low in cc)

pub unescaped : (b : ℕ) → is_unescaped b ≡ true → escaped_byte b ≡ b ∷ []
unfolding escaped_byte
unescaped b h =
    let t = three (nat_lt b 32) (b == 34) (b == 92) h in
    rw (t.1, t.2, is_not 8 b refl t.0, is_not 12 b refl t.0, is_not 10 b refl t.0, is_not 13 b refl t.0, is_not 9 b refl t.0, t.0) refl

two : (a b : Bool) → (a && b) ≡ true → (a ≡ true) × (b ≡ true)
two true true h = (refl, refl)
two true false h = absurd (cc)
two false b h = absurd (cc)

pub all_unescaped : (s : List ℕ) → list_all is_unescaped s ≡ true → flat_map escaped_byte s ≡ s
all_unescaped [] h = refl
all_unescaped (c ∷ s) h = let t = two _ _ h in rw (unescaped c t.0, all_unescaped s t.1) refl

pub quoted_as_it_is : (s : List ℕ) → list_all is_unescaped s ≡ true → quoted s ≡ codes "\"" ++ s ++ codes "\""
unfolding quoted
quoted_as_it_is s h = rw (all_unescaped s h) refl
