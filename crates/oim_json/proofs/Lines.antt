-- The text of a fact or of a head has no line feed, because each byte of a text is written escaped.
use Rattle.std.proofs.Common.{◌≡◌, ◌∙◌, refl, sym, ap, arith, append_assoc, append-nil, ℕ, zero, suc, ◌+◌, ◌/◌, ◌%◌, nat_lt, ℤ, pos, negsuc}
use Rattle.std.proofs.Common.{List, [], ◌∷◌, ◌++◌, map, codes, Option, Some, None, Bool, true, false, not, ◌&&◌, ◌==◌}
use Rattle.std.specs.Prelude.{if◌then◌else◌}
use Rattle.std.specs.List.{AllByRecursion, flat_map, list_all, slice_split}
use Rattle.std.specs.Char.{digit_char}
use Rattle.std.specs.Fmt.{digits, digits_onto, digit_glyph, decimal, signed_decimal}
use Rattle.oim_names.specs.QName.{Lacks}
use Rattle.oim_names.proofs.Cut.{eqb_of}
use Rattle.oim_report.specs.ReportValue.{ReportValue}
use Rattle.oim_resolve.specs.FactParts.{FactParts as Fact}
use Rattle.oim_json.specs.JsonText.{base_url_text, escaped_byte, head_text, namespace_text, quoted, value_text, dimension_text, decimals_text, joined, member_text}
use Rattle.oim_json.specs.Document.{facts_text, members, placed_member, tail_text, text_after}
use Rattle.oim_json.specs.Lines.{LinesAreMembers, cut_at_line_feeds, with_commas}
use Rattle.oim_json.specs.declared.layout.Layout.TheVariants.{Lines}

both : (s t : List ℕ) → Lacks 10 s → Lacks 10 t → Lacks 10 (s ++ t)
both [] t h k = k
both (c ∷ s) t h k = (h.0, both s t h.1 k)

-- A text that is written out.
fixed : (s : List ℕ) → list_all (λ c. not (c == 10)) s ≡ true → Lacks 10 s
fixed [] h = tt
fixed (c ∷ s) h = by (c == 10) refl h (λ k. fixed s k)
  where
    by : (b : Bool) → (c == 10) ≡ b → (not b && list_all (λ d. not (d == 10)) s) ≡ true → (list_all (λ d. not (d == 10)) s ≡ true → Lacks 10 s) → Lacks 10 (c ∷ s)
    by true e k r = absurd (cc)
    by false e k r = (e, r k)

-- A choice, whose second branch may use that the first was not taken.
chosen : (b : Bool) (s t : List ℕ) → Lacks 10 s → (b ≡ false → Lacks 10 t) → Lacks 10 (if b then s else t)
chosen true s t h k = h
chosen false s t h k = k refl

digit : (d : ℕ) → (digit_char d == 10) ≡ false
digit d = by (nat_lt d 10)
  where
    by : (b : Bool) → ((if b then 48 + d else 87 + d) == 10) ≡ false
    by true = eqb_of (48 + d) 10 (λ e. omega (arith, e))
    by false = eqb_of (87 + d) 10 (λ e. omega (arith, e))

escaped_line : (b : ℕ) → Lacks 10 (escaped_byte b)
unfolding escaped_byte
escaped_line b =
    chosen (b == 34) _ _ (fixed (codes "\\\"") refl) (λ e1. chosen (b == 92) _ _ (fixed (codes "\\\\") refl) (λ e2. chosen (b == 8) _ _ (fixed (codes "\\b") refl) (λ e3.
    chosen (b == 12) _ _ (fixed (codes "\\f") refl) (λ e4. chosen (b == 10) _ _ (fixed (codes "\\n") refl) (λ no. chosen (b == 13) _ _ (fixed (codes "\\r") refl) (λ e5.
    chosen (b == 9) _ _ (fixed (codes "\\t") refl) (λ e6.
    chosen (nat_lt b 32) _ _ (both (codes "\\u00") (digit_char (b / 16) ∷ digit_char (b % 16) ∷ []) (fixed (codes "\\u00") refl) (digit (b / 16), (digit (b % 16), tt))) (λ e7. (no, tt)))))))))

escaped_lines : (s : List ℕ) → Lacks 10 (flat_map escaped_byte s)
escaped_lines [] = tt
escaped_lines (c ∷ s) = both (escaped_byte c) (flat_map escaped_byte s) (escaped_line c) (escaped_lines s)

quoted_line : (s : List ℕ) → Lacks 10 (quoted s)
unfolding quoted
quoted_line s = both (codes "\"") _ (fixed (codes "\"") refl) (both (flat_map escaped_byte s) _ (escaped_lines s) (fixed (codes "\"") refl))

value_line : (v : Option (List ℕ)) → Lacks 10 (value_text v)
unfolding value_text
value_line (Some v) = quoted_line v
value_line None = fixed (codes "null") refl

dimension_line : (d : List ℕ × Option (List ℕ)) → Lacks 10 (dimension_text d)
unfolding dimension_text
dimension_line d =
    let name : Lacks 10 (quoted d.0 ++ codes ":") = both (quoted d.0) (codes ":") (quoted_line d.0) (fixed (codes ":") refl) in
    both (quoted d.0 ++ codes ":") (value_text d.1) name (value_line d.1)

glyph : (d : ℕ) → (digit_glyph false d == 10) ≡ false
glyph d = digit d

digits_line : (k n : ℕ) (acc : List ℕ) → Lacks 10 acc → Lacks 10 (digits_onto k 10 false n acc)
digits_line zero n acc h = h
digits_line (suc k) n acc h =
    let more = digit_glyph false (n % 10) ∷ acc in
    chosen (n / 10 == 0) more _ (glyph (n % 10), h) (λ e. digits_line k (n / 10) more (glyph (n % 10), h))

decimal_line : (n : ℕ) → Lacks 10 (decimal n)
unfolding digits
decimal_line n = digits_line 64 n [] tt

signed_line : (z : ℤ) → Lacks 10 (signed_decimal z)
signed_line (pos n) = decimal_line n
signed_line (negsuc n) = (refl, decimal_line (suc n))

decimals_line : (d : Option ℤ) → Lacks 10 (decimals_text d)
unfolding decimals_text
decimals_line (Some z) = both (codes "\"decimals\":") _ (fixed (codes "\"decimals\":") refl) (both (signed_decimal z) _ (signed_line z) (fixed (codes ",") refl))
decimals_line None = tt

each : {X : Type 0} (f : X → List ℕ) → ((x : X) → Lacks 10 (f x)) → (xs : List X) → AllByRecursion (Lacks 10) (map f xs)
each f h [] = tt
each f h (x ∷ xs) = (h x, each f h xs)

joined_line : (xs : List (List ℕ)) → AllByRecursion (Lacks 10) xs → Lacks 10 (joined xs)
joined_line [] h = tt
joined_line (x ∷ []) h = h.0
joined_line (x ∷ y ∷ xs) h = both x _ h.0 (refl, joined_line (y ∷ xs) h.1)

pub member_line : (f : Fact) → Lacks 10 (member_text f)
unfolding member_text
member_line f =
    let dims = joined (map dimension_text f.dimensions) in
    let to_id = quoted f.id ++ codes ":{" in
    let to_decimals = to_id ++ decimals_text f.decimals in
    let to_opened = to_decimals ++ codes "\"dimensions\":{" in
    let to_dimensions = to_opened ++ dims in
    let to_closed = to_dimensions ++ codes "},\"value\":" in
    let to_value = to_closed ++ value_text f.value in
    let line_id : Lacks 10 to_id = both (quoted f.id) (codes ":{") (quoted_line f.id) (fixed (codes ":{") refl) in
    let line_decimals : Lacks 10 to_decimals = both to_id (decimals_text f.decimals) line_id (decimals_line f.decimals) in
    let line_opened : Lacks 10 to_opened = both to_decimals (codes "\"dimensions\":{") line_decimals (fixed (codes "\"dimensions\":{") refl) in
    let line_dimensions : Lacks 10 to_dimensions = both to_opened dims line_opened (joined_line (map dimension_text f.dimensions) (each dimension_text dimension_line f.dimensions)) in
    let line_closed : Lacks 10 to_closed = both to_dimensions (codes "},\"value\":") line_dimensions (fixed (codes "},\"value\":") refl) in
    let line_value : Lacks 10 to_value = both to_closed (value_text f.value) line_closed (value_line f.value) in
    both to_value (codes "}") line_value (fixed (codes "}") refl)

pub facts_line : (fs : List Fact) → Lacks 10 (facts_text fs)
unfolding facts_text
facts_line fs = joined_line (map member_text fs) (each member_text member_line fs)

-- THE HEAD

namespace_line : (n : List ℕ × List ℕ) → Lacks 10 (namespace_text n)
unfolding namespace_text
namespace_line n =
    let name : Lacks 10 (quoted n.0 ++ codes ":") = both (quoted n.0) (codes ":") (quoted_line n.0) (fixed (codes ":") refl) in
    both (quoted n.0 ++ codes ":") (quoted n.1) name (quoted_line n.1)

base_url_line : (url : Option (List ℕ)) → Lacks 10 (base_url_text url)
unfolding base_url_text
base_url_line (Some url) =
    let name = codes "\"baseURL\":" in
    both (name ++ quoted url) (codes ",") (both name (quoted url) (fixed name refl) (quoted_line url)) (fixed (codes ",") refl)
base_url_line None = tt

pub head_line : (r : ReportValue) → Lacks 10 (head_text r)
unfolding head_text
head_line r =
    let first = codes "{\"documentInfo\":{" in
    let type = codes "\"documentType\":\"https://xbrl.org/2021/xbrl-json\",\"namespaces\":{" in
    let names = joined (map namespace_text r.namespaces) in
    let taxonomy = joined (map quoted r.info.taxonomy) in
    let to_url = first ++ base_url_text r.info.base_url in
    let to_type = to_url ++ type in
    let to_names = to_type ++ names in
    let to_opened = to_names ++ codes "},\"taxonomy\":[" in
    let to_taxonomy = to_opened ++ taxonomy in
    let line_url : Lacks 10 to_url = both first (base_url_text r.info.base_url) (fixed first refl) (base_url_line r.info.base_url) in
    let line_type : Lacks 10 to_type = both to_url type line_url (fixed type refl) in
    let line_names : Lacks 10 to_names = both to_type names line_type (joined_line (map namespace_text r.namespaces) (each namespace_text namespace_line r.namespaces)) in
    let line_opened : Lacks 10 to_opened = both to_names (codes "},\"taxonomy\":[") line_names (fixed (codes "},\"taxonomy\":[") refl) in
    let line_taxonomy : Lacks 10 to_taxonomy = both to_opened taxonomy line_opened (joined_line (map quoted r.info.taxonomy) (each quoted quoted_line r.info.taxonomy)) in
    both to_taxonomy (codes "]},\"facts\":{") line_taxonomy (fixed (codes "]},\"facts\":{") refl)

-- A DOCUMENT IN LINES

-- Lines, each after a line feed.
abbrev behind_feeds : List (List ℕ) → List ℕ
behind_feeds [] = []
behind_feeds (l ∷ ls) = 10 ∷ (l ++ behind_feeds ls)

feeds_append : (ls ks : List (List ℕ)) → behind_feeds (ls ++ ks) ≡ behind_feeds ls ++ behind_feeds ks
feeds_append [] ks = refl
feeds_append (l ∷ ls) ks = ap (λ t. 10 ∷ (l ++ t)) (feeds_append ls ks) ∙ ap (λ t. 10 ∷ t) (sym (append_assoc l (behind_feeds ls) (behind_feeds ks)))

cut_last : (s : List ℕ) → Lacks 10 s → slice_split (λ b. b == 10) s ≡ s ∷ []
cut_last [] h = refl
cut_last (x ∷ s) h = rw (h.0, cut_last s h.1)

cut_first : (s t : List ℕ) → Lacks 10 s → slice_split (λ b. b == 10) (s ++ 10 ∷ t) ≡ s ∷ slice_split (λ b. b == 10) t
cut_first [] t h = refl
cut_first (x ∷ s) t h = rw (h.0, cut_first s t h.1)

-- A line and others after it are cut into these lines.
cut_all : (l : List ℕ) (ls : List (List ℕ)) → Lacks 10 l → AllByRecursion (Lacks 10) ls → cut_at_line_feeds (l ++ behind_feeds ls) ≡ l ∷ ls
cut_all l [] h hs = ap cut_at_line_feeds (append-nil l) ∙ cut_last l h
cut_all l (k ∷ ks) h hs = cut_first l (k ++ behind_feeds ks) h ∙ ap (λ t. l ∷ t) (cut_all k ks hs.0 hs.1)

all_both : (ls ks : List (List ℕ)) → AllByRecursion (Lacks 10) ls → AllByRecursion (Lacks 10) ks → AllByRecursion (Lacks 10) (ls ++ ks)
all_both [] ks h k = k
all_both (l ∷ ls) ks h k = (h.0, all_both ls ks h.1 k)

lines_of : (fs : List Fact) → members Lines fs ≡ behind_feeds (with_commas (map member_text fs))
unfolding members
lines_of fs = go fs
  where
    go : (fs : List Fact) → joined (map (placed_member Lines) fs) ≡ behind_feeds (with_commas (map member_text fs))
    go [] = refl
    go (f ∷ []) = ap (λ t. 10 ∷ t) (sym (append-nil (member_text f)))
    go (f ∷ g ∷ gs) =
        let rest = behind_feeds (with_commas (map member_text (g ∷ gs))) in
        ap (λ t. 10 ∷ (member_text f ++ (44 ∷ t))) (go (g ∷ gs)) ∙ ap (λ t. 10 ∷ t) (sym (append_assoc (member_text f) (codes ",") rest))

commas_line : (fs : List Fact) → AllByRecursion (Lacks 10) (with_commas (map member_text fs))
commas_line [] = tt
commas_line (f ∷ []) = (member_line f, tt)
commas_line (f ∷ g ∷ gs) = (both (member_text f) (codes ",") (member_line f) (fixed (codes ",") refl), commas_line (g ∷ gs))

pub lines_cut : LinesAreMembers
lines_cut r fs =
    let head = head_text r in
    let ls = with_commas (map member_text fs) in
    let ends = codes "}}" ∷ [] ∷ [] in
    let finished : text_after Lines head fs ++ tail_text Lines ≡ head ++ behind_feeds (ls ++ ends) =
    append_assoc head (members Lines fs) (tail_text Lines) ∙ ap (λ t. head ++ (t ++ tail_text Lines)) (lines_of fs) ∙ ap (λ t. head ++ t) (sym (feeds_append ls ends)) in (
      ap (λ t. cut_at_line_feeds (head ++ t)) (lines_of fs) ∙ cut_all head ls (head_line r) (commas_line fs),
      ap cut_at_line_feeds finished ∙ cut_all head (ls ++ ends) (head_line r) (all_both ls ends (commas_line fs) (fixed (codes "}}") refl, (tt, tt))),
    )
