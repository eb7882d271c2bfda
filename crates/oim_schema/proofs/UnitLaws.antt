-- The tests of units agree with their definitions.
use Rattle.std.proofs.Common.{◌≡◌, ◌&&◌, ℕ, true, Decides, List, [], ◌∷◌, Option, Some, None, refl, ap, subst, ◌∙◌, bytes_eq}
use Rattle.std.specs.Int.{is_in_range}
use Rattle.std.specs.Str.{IsUtf8}
use Rattle.std.proofs.lemmas.Slice.Eq.{bytes_eq-Decides}
use Rattle.oim_names.specs.Bindings.{Bindings}
use Rattle.oim_names.specs.QName.{Name, IsQName, qname_of}
use Rattle.oim_names.proofs.Colons.{qname_sound, qname_value}
use Rattle.oim_period.proofs.Found.{both, both_yes, range_decides}
use Rattle.oim_schema.specs.Units.{IsCurrencyCode, code, currency_uri, IsCurrency, shares_name, IsShares, is_currency_code, is_currency_name, is_currency, is_shares_name, is_shares}

code_from : (t : List ℕ) → is_currency_code t ≡ true → IsCurrencyCode t
code_from (a ∷ b ∷ c ∷ []) e =
    let h = both (is_in_range 65 90 a && is_in_range 65 90 b) _ e in
    let k = both (is_in_range 65 90 a) _ h.0 in
    code a b c ((range_decides 65 90 a).0 k.0) ((range_decides 65 90 b).0 k.1) ((range_decides 65 90 c).0 h.1)
code_from _ e = absurd (cc)

code_to : {t : List ℕ} → IsCurrencyCode t → is_currency_code t ≡ true
code_to (code a b c h k l) = both_yes _ _ (both_yes _ _ ((range_decides 65 90 a).1 h) ((range_decides 65 90 b).1 k)) ((range_decides 65 90 c).1 l)

currency_by : (names : Bindings) (t : List ℕ) (o : Option Name) → qname_of names t ≡ o → is_currency_name o ≡ true → IsCurrency names t
currency_by names t None q e = absurd (cc)
currency_by names t (Some x) q e =
    let h = both (bytes_eq x.0 currency_uri) _ e in
    let u = (bytes_eq-Decides x.0 currency_uri).0 h.0 in
    (x.1, subst (λ w. IsQName names t (w, x.1)) u (qname_sound names t x q), code_from x.1 h.1)

pub currency_Decides : (names : Bindings) (t : List ℕ) → IsUtf8 t → Decides (is_currency names t) (IsCurrency names t)
unfolding is_currency
currency_Decides names t u = (
  λ e. currency_by names t (qname_of names t) refl e,
  λ h. ap is_currency_name (qname_value names t (currency_uri, h.0) u h.1) ∙ both_yes _ _ ((bytes_eq-Decides currency_uri currency_uri).1 refl) (code_to h.2),
)

shares_by : (names : Bindings) (t : List ℕ) (o : Option Name) → qname_of names t ≡ o → is_shares_name o ≡ true → IsShares names t
shares_by names t None q e = absurd (cc)
shares_by names t (Some x) q e =
    let h = both (bytes_eq x.0 shares_name.0) _ e in
    let u = (bytes_eq-Decides x.0 shares_name.0).0 h.0 in
    let v = (bytes_eq-Decides x.1 shares_name.1).0 h.1 in
    subst (λ w. IsQName names t (w, shares_name.1)) u (subst (λ w. IsQName names t (x.0, w)) v (qname_sound names t x q))

pub shares_Decides : (names : Bindings) (t : List ℕ) → IsUtf8 t → Decides (is_shares names t) (IsShares names t)
unfolding is_shares
shares_Decides names t u = (λ e. shares_by names t (qname_of names t) refl e, λ h. ap is_shares_name (qname_value names t shares_name u h))
