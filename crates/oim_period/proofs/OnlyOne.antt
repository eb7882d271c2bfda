-- How a reader's answer is proved to be the only one.
use Rattle.std.proofs.Common.{◌≡◌, ℕ, ◌<◌, ◌↔◌, Option, None, Some, IsSome, IfSome, refl, sym, ◌∙◌, arith, true, false}
use Rattle.oim_period.specs.Calendar.{day_limit}
use Rattle.oim_period.specs.declared.days.Days.{Days}
use Rattle.oim_period.specs.Reads.{IsOnly}
use Rattle.oim_period.specs.state.Reads.{IsRead}

-- The relation has only these days. They are the answer if the day after them is in the years that
-- a text may name.
pub read_by : (P : ℕ → ℕ → Type 0) (o : Option Days) (f a : ℕ) → P f a → ((f₂ a₂ : ℕ) → P f₂ a₂ → (f₂ ≡ f) × (a₂ ≡ a)) → (IsSome o ↔ (a < day_limit))
    → IfSome o (λ d. (d.first ≡ f) × (d.after ≡ a)) → IsRead P o
read_by P None f a p u e v = λ f₂ a₂ q. let s = u f₂ a₂ q in let out : a < day_limit → false ≡ true = e.1 in grind arith
read_by P (Some d) f a p u e v = (rw (v.0, v.1) p, λ f₂ a₂ q. let s = u f₂ a₂ q in (s.0 ∙ sym v.0, s.1 ∙ sym v.1))

-- The same if the relation has them under a condition.
pub read_when : (P : ℕ → ℕ → Type 0) (o : Option Days) (f a : ℕ) (when : Type 0) → (when → P f a) → ((f₂ a₂ : ℕ) → P f₂ a₂ → when × (f₂ ≡ f) × (a₂ ≡ a))
    → (IsSome o ↔ (when × (a < day_limit))) → IfSome o (λ d. (d.first ≡ f) × (d.after ≡ a)) → IsRead P o
read_when P None f a when p u e v =
    λ f₂ a₂ q. let s = u f₂ a₂ q in let out : a < day_limit → false ≡ true = λ h. e.1 (s.0, h) in grind arith
read_when P (Some d) f a when p u e v =
    (rw (v.0, v.1) (p ((e.0 refl).0)), λ f₂ a₂ q. let s = u f₂ a₂ q in (s.1 ∙ sym v.0, s.2 ∙ sym v.1))

-- The relation has one value, under a condition, and it is the answer.
pub only_by : {A : Type 0} (P : A → Type 0) (o : Option A) (n : A) (when : Type 0) → (when → P n) → ((k : A) → P k → when × (k ≡ n)) → (IsSome o ↔ when) → IfSome o (λ x. x ≡ n) → IsOnly P o
only_by P None n when p u e v = λ k q. let s = u k q in let out : false ≡ true = e.1 s.0 in absurd (cc)
only_by P (Some x) n when p u e v = (rw v (p (e.0 refl)), λ k q. (u k q).1 ∙ sym v)

-- A second relation that has the same days.
pub read_through : (P Q : ℕ → ℕ → Type 0) (o : Option Days) → ((f a : ℕ) → P f a → Q f a) → ((f a : ℕ) → Q f a → P f a) → IsRead P o → IsRead Q o
read_through P Q None h k r = λ f a q. r f a (k f a q)
read_through P Q (Some d) h k r = (h _ _ r.0, λ f a q. r.1 f a (k f a q))
