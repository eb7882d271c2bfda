-- The text of a fact and of a report's head in xBRL-JSON 1.0. It is compact. The members of each
-- object are in byte order, but dimensions and prefixes are in the order of the fact and of the
-- report.
use Rattle.std.specs.Prelude.{ℕ, ◌/◌, ◌%◌, ℤ, List, [], ◌∷◌, ◌++◌, map, flat_map, Option, Some, None, codes, ◌==◌, nat_lt, if◌then◌else◌}
use Rattle.std.specs.Char.{digit_char}
use Rattle.std.specs.List.{join_with_byte}
use Rattle.std.specs.Fmt.{signed_decimal}
use Rattle.oim_report.specs.ReportValue.{ReportValue}
use Rattle.oim_resolve.specs.FactParts.{FactParts as Fact}

-- The escape of the byte `b` in a text.
unfoldable pub escaped_byte : ℕ → List ℕ
escaped_byte b =
    if b == 34 then codes "\\\""
    else if b == 92 then codes "\\\\"
    else if b == 8 then codes "\\b"
    else if b == 12 then codes "\\f"
    else if b == 10 then codes "\\n"
    else if b == 13 then codes "\\r"
    else if b == 9 then codes "\\t"
    else if nat_lt b 32 then codes "\\u00" ++ digit_char (b / 16) ∷ digit_char (b % 16) ∷ []
    else b ∷ []

-- A text in quotes.
unfoldable pub quoted : List ℕ → List ℕ
quoted s = codes "\"" ++ flat_map escaped_byte s ++ codes "\""

-- A text in quotes, or null.
unfoldable pub value_text : Option (List ℕ) → List ℕ
value_text (Some v) = quoted v
value_text None = codes "null"

-- A dimension's name and value.
unfoldable pub dimension_text : List ℕ × Option (List ℕ) → List ℕ
dimension_text d = quoted d.0 ++ codes ":" ++ value_text d.1

unfoldable pub decimals_text : Option ℤ → List ℕ
decimals_text (Some n) = codes "\"decimals\":" ++ signed_decimal n ++ codes ","
decimals_text None = []

-- Texts joined by commas.
abbrev pub joined : List (List ℕ) → List ℕ
joined = join_with_byte 44

unfoldable pub member_text : Fact → List ℕ
member_text f =
    quoted f.id ++ codes ":{" ++ decimals_text f.decimals ++ codes "\"dimensions\":{" ++ joined (map dimension_text f.dimensions) ++ codes "},\"value\":" ++ value_text f.value ++ codes "}"

-- A prefix and its URI.
unfoldable pub namespace_text : List ℕ × List ℕ → List ℕ
namespace_text n = quoted n.0 ++ codes ":" ++ quoted n.1

unfoldable pub base_url_text : Option (List ℕ) → List ℕ
base_url_text (Some url) = codes "\"baseURL\":" ++ quoted url ++ codes ","
base_url_text None = []

unfoldable pub head_text : ReportValue → List ℕ
head_text r =
    codes "{\"documentInfo\":{" ++ base_url_text r.info.base_url ++ codes "\"documentType\":\"https://xbrl.org/2021/xbrl-json\",\"namespaces\":{" ++ joined (map namespace_text r.namespaces)
    ++ codes "},\"taxonomy\":[" ++ joined (map quoted r.info.taxonomy) ++ codes "]},\"facts\":{"
