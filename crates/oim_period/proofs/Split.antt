-- Two parts of a text with a separator between them.
use Rattle.std.proofs.Common.{◌≡◌, ℕ, suc, ◌+◌, ◌-◌, ◌<◌, List, [], ◌∷◌, ◌++◌, take, drop, sym, ap, ◌∙◌, arith, length, get_or, append_assoc, add-one, drop-cons}
use Rattle.std.proofs.lemmas.List.{take-append-drop, length-drop, take_all}
use Rattle.std.proofs.Math.Seq.{take-append_seam, drop-append_seam, drop-append-add}

pub parts_of : (s p t x : List ℕ) (n : ℕ) → x ≡ (s ++ p) ++ t → length s ≡ n → (s ≡ take n x) × (t ≡ drop (n + length p) x)
parts_of s p t x n e l =
    let f : x ≡ s ++ (p ++ t) = e ∙ append_assoc s p t in
    (rw (f, ← l) (sym (take-append_seam s (p ++ t))), rw (f, ← l) (sym (drop-append-add s (p ++ t) (length p) ∙ drop-append_seam p t)))

pub joined : (x : List ℕ) (n a : ℕ) → n < length x → get_or x n 0 ≡ a → x ≡ (take n x ++ (a ∷ [])) ++ drop (n + 1) x
joined x n a h e =
    let d : drop n x ≡ a ∷ drop (n + 1) x = rw (add-one, ← e) (drop-cons x n 0 h) in
    sym (append_assoc (take n x) (a ∷ []) (drop (n + 1) x) ∙ ap (λ r. take n x ++ r) (sym d) ∙ take-append-drop n x)

pub joined_two : (x : List ℕ) (n a b : ℕ) → n + 1 < length x → get_or x n 0 ≡ a → get_or x (n + 1) 0 ≡ b → x ≡ (take n x ++ (a ∷ b ∷ [])) ++ drop (n + 2) x
joined_two x n a b h e f =
    let d : drop n x ≡ a ∷ drop (n + 1) x = rw (add-one, ← e) (drop-cons x n 0 (omega arith)) in
    let m : suc (n + 1) ≡ n + 2 = omega arith in
    let d₂ : drop (n + 1) x ≡ b ∷ drop (n + 2) x = rw (← m, ← f) (drop-cons x (n + 1) 0 h) in
    sym (append_assoc (take n x) (a ∷ b ∷ []) (drop (n + 2) x) ∙ ap (λ r. take n x ++ r) (ap (λ r. a ∷ r) (sym d₂) ∙ sym d) ∙ take-append-drop n x)

-- The items of a range to the end of a slice.
pub rest_is : (x : List ℕ) (n : ℕ) → take (length x - n) (drop n x) ≡ drop n x
rest_is x n = take_all (length x - n) (drop n x) (rw (length-drop n x) (omega arith))

pub joined_three : (o d m t : List ℕ) → ((o ++ d) ++ m) ++ t ≡ o ++ ((d ++ m) ++ t)
joined_three o d m t = simp append_assoc
