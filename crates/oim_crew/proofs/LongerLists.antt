-- Facts about lists with one more element.
use Rattle.std.proofs.Common.{◌≡◌, List, [], ◌∷◌, ◌++◌, All, sym, subst}
use Rattle.std.specs.List.{AllZip}
use Rattle.std.proofs.lemmas.List.Elements.{All-head, All-tail, All-push}
use Rattle.std.proofs.lemmas.Slice.Zip.{all_zipped_more}

module _ {A B : Type 0} (R : A → B → Type 0) where
  pub zip-push : (xs more : List A) (ys done : List B) (x : A) (y : B) → more ≡ xs ++ x ∷ [] → done ≡ ys ++ y ∷ [] → AllZip R xs ys → R x y → AllZip R more done
  zip-push xs more ys done x y e f all here =
      subst (λ (l : List A). AllZip R l done) (sym e) (subst (λ (m : List B). AllZip R (xs ++ x ∷ []) m) (sym f) (all_zipped_more R xs ys x y all here))

module _ {A : Type 0} (P : A → Type 0) where
  pub all-first : (x : A) (xs ys : List A) → ys ≡ x ∷ xs → All P ys → P x × All P xs
  all-first x xs ys e all = let h = subst (λ (l : List A). All P l) e all in (All-head P x xs h, All-tail P x xs h)

  pub all-more : (xs ys : List A) (x : A) → ys ≡ xs ++ x ∷ [] → All P xs → P x → All P ys
  all-more xs ys x e all here = subst (λ (l : List A). All P l) (sym e) (All-push P xs x all here)
