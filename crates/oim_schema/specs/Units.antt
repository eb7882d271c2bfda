-- The units of monetary and share items (XBRL 2.1, section 4.8.2): one measure, so the text of the
-- unit is a QName, without parentheses and without `/`.
use Rattle.std.specs.Prelude.{ℕ, ◌&&◌, Bool, false, List, [], ◌∷◌, Option, Some, None, codes}
use Rattle.std.specs.Int.{IsInRange, is_in_range}
use Rattle.std.specs.Str.{bytes_eq}
use Rattle.oim_names.specs.Bindings.{Bindings}
use Rattle.oim_names.specs.QName.{Name, IsQName, qname_of}

-- A currency by the form of its code (ISO 4217): three letters `A` to `Z`.
pub data IsCurrencyCode : List ℕ → Type 0 where
  code : (a b c : ℕ) → IsInRange 65 90 a → IsInRange 65 90 b → IsInRange 65 90 c → IsCurrencyCode (a ∷ b ∷ c ∷ [])

abbrev pub currency_uri : List ℕ
currency_uri = codes "http://www.xbrl.org/2003/iso4217"

-- The measure is a currency.
abbrev pub IsCurrency : Bindings → List ℕ → Type 0
IsCurrency names text = (local : List ℕ) × IsQName names text (currency_uri, local) × IsCurrencyCode local

-- The measure is `shares` of the namespace of XBRL 2.1's instances.
abbrev pub shares_name : Name
shares_name = (codes "http://www.xbrl.org/2003/instance", codes "shares")

abbrev pub IsShares : Bindings → List ℕ → Type 0
IsShares names text = IsQName names text shares_name

-- The same as tests of what the text names.
abbrev pub is_currency_code : List ℕ → Bool
is_currency_code (a ∷ b ∷ c ∷ []) = is_in_range 65 90 a && is_in_range 65 90 b && is_in_range 65 90 c
is_currency_code _ = false

abbrev pub is_currency_name : Option Name → Bool
is_currency_name None = false
is_currency_name (Some name) = bytes_eq name.0 currency_uri && is_currency_code name.1

unfoldable pub is_currency : Bindings → List ℕ → Bool
is_currency names text = is_currency_name (qname_of names text)

abbrev pub is_shares_name : Option Name → Bool
is_shares_name None = false
is_shares_name (Some name) = bytes_eq name.0 shares_name.0 && bytes_eq name.1 shares_name.1

unfoldable pub is_shares : Bindings → List ℕ → Bool
is_shares names text = is_shares_name (qname_of names text)
