-- The meaning of a text that is written out.
use Rattle.std.proofs.Common.{◌≡◌, ◌≢◌, ℕ, List, [], ◌∷◌, drop, refl, sym, ap, arith, length, get_or, codes}
use Rattle.oim_cells.specs.Cells.{Meaning, Absent, Nil, Empty, Text, Unknown, Means, nothing, none, nil, empty, doubled, other, plain, IsOther}

-- Properties that two equal texts share.
clash : {s t : List ℕ} → s ≡ t → (length s ≡ length t) × (get_or s 0 0 ≡ get_or t 0 0) × (get_or s 1 0 ≡ get_or t 1 0)
clash e = (ap length e, ap (λ s. get_or s 0 0) e, ap (λ s. get_or s 1 0) e)

rest : {s t : List ℕ} {a b : ℕ} → a ∷ s ≡ b ∷ t → s ≡ t
rest e = ap (drop 1) e

pub is_nothing : {x : List ℕ} {m : Meaning} → Means x m → x ≡ [] → m ≡ Absent
is_nothing nothing e = refl
is_nothing none e = absurd (omega (arith, clash e))
is_nothing nil e = absurd (omega (arith, clash e))
is_nothing empty e = absurd (omega (arith, clash e))
is_nothing (doubled r) e = absurd (omega (arith, clash e))
is_nothing (other r o) e = absurd (omega (arith, clash e))
is_nothing (plain f r n) e = absurd (omega (arith, clash e))

pub is_none : {x : List ℕ} {m : Meaning} → Means x m → x ≡ codes "#none" → m ≡ Absent
is_none nothing e = absurd (omega (arith, clash e))
is_none none e = refl
is_none nil e = absurd (omega (arith, clash e))
is_none empty e = absurd (omega (arith, clash e))
is_none (doubled r) e = absurd (omega (arith, clash e))
is_none (other r o) e = absurd (o.0 (rest e))
is_none (plain f r n) e = absurd (n (omega (arith, clash e)))

pub is_nil : {x : List ℕ} {m : Meaning} → Means x m → x ≡ codes "#nil" → m ≡ Nil
is_nil nothing e = absurd (omega (arith, clash e))
is_nil none e = absurd (omega (arith, clash e))
is_nil nil e = refl
is_nil empty e = absurd (omega (arith, clash e))
is_nil (doubled r) e = absurd (omega (arith, clash e))
is_nil (other r o) e = absurd (o.1 (rest e))
is_nil (plain f r n) e = absurd (n (omega (arith, clash e)))

pub is_empty : {x : List ℕ} {m : Meaning} → Means x m → x ≡ codes "#empty" → m ≡ Empty
is_empty nothing e = absurd (omega (arith, clash e))
is_empty none e = absurd (omega (arith, clash e))
is_empty nil e = absurd (omega (arith, clash e))
is_empty empty e = refl
is_empty (doubled r) e = absurd (omega (arith, clash e))
is_empty (other r o) e = absurd (o.2 (rest e))
is_empty (plain f r n) e = absurd (n (omega (arith, clash e)))

pub is_doubled : {x : List ℕ} {m : Meaning} → Means x m → (more : List ℕ) → x ≡ 35 ∷ 35 ∷ more → m ≡ Text (35 ∷ more)
is_doubled nothing more e = absurd (omega (arith, clash e))
is_doubled none more e = absurd (omega (arith, clash e))
is_doubled nil more e = absurd (omega (arith, clash e))
is_doubled empty more e = absurd (omega (arith, clash e))
is_doubled (doubled r) more e = ap Text (rest e)
is_doubled (other r o) more e = absurd (o.3 more (rest e))
is_doubled (plain f r n) more e = absurd (n (omega (arith, clash e)))

pub is_other : {x : List ℕ} {m : Meaning} → Means x m → (r₂ : List ℕ) → x ≡ 35 ∷ r₂ → IsOther r₂ → m ≡ Unknown
is_other nothing r₂ e i = absurd (omega (arith, clash e))
is_other none r₂ e i = absurd (i.0 (sym (rest e)))
is_other nil r₂ e i = absurd (i.1 (sym (rest e)))
is_other empty r₂ e i = absurd (i.2 (sym (rest e)))
is_other (doubled r) r₂ e i = absurd (i.3 r (sym (rest e)))
is_other (other r o) r₂ e i = refl
is_other (plain f r n) r₂ e i = absurd (n (omega (arith, clash e)))

pub is_plain : {x : List ℕ} {m : Meaning} → Means x m → (f₂ : ℕ) (r₂ : List ℕ) → f₂ ≢ 35 → x ≡ f₂ ∷ r₂ → m ≡ Text x
is_plain nothing f₂ r₂ n₂ e = absurd (omega (arith, clash e))
is_plain none f₂ r₂ n₂ e = absurd (n₂ (omega (arith, clash e)))
is_plain nil f₂ r₂ n₂ e = absurd (n₂ (omega (arith, clash e)))
is_plain empty f₂ r₂ n₂ e = absurd (n₂ (omega (arith, clash e)))
is_plain (doubled r) f₂ r₂ n₂ e = absurd (n₂ (omega (arith, clash e)))
is_plain (other r o) f₂ r₂ n₂ e = absurd (n₂ (omega (arith, clash e)))
is_plain (plain f r n) f₂ r₂ n₂ e = refl

pub first_is : (x : List ℕ) → get_or x 0 0 ≡ 35 → x ≡ 35 ∷ drop 1 x
first_is [] e = absurd (omega (arith, e))
first_is (a ∷ x) e = rw e refl

pub unmarked : (x : List ℕ) → (x ≡ [] → ⊥) → ((more : List ℕ) → x ≢ 35 ∷ more) → (f : ℕ) × (r : List ℕ) × (f ≢ 35) × (x ≡ f ∷ r)
unmarked [] n k = absurd (n refl)
unmarked (f ∷ r) n k = (f, r, λ e. k r (ap (λ a. a ∷ r) e), refl)
