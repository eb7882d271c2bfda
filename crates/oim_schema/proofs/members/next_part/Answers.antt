use Rattle.std.proofs.Common.{◌≡◌, ◌<◌, ◌≤◌, ◌+◌, ◌-◌, ◌∙◌, ℕ, true, List, [], ◌∷◌, take, drop, length, get_or, refl, sym, ap, subst, arith, length-drop}
use Rattle.oim_period.proofs.Split.{rest_is}
use Rattle.std.specs.List.{position_or_len}
use Rattle.std.proofs.lemmas.Bool.Decides.{nat_tests}
use Rattle.std.proofs.lemmas.List.Splits.{slice_split_none, slice_split_first}
use Rattle.std.proofs.lemmas.List.Sums.{fails_before_first, passes_at_first}
use Rattle.std.proofs.lemmas.Str.{IsCharBoundary-before_ascii, IsCharBoundary-after_ascii}
use Rattle.oim_cells.specs.Blanks.{is_blank}
use Rattle.oim_schema.specs.Members.{parts_of}
use Rattle.oim_schema.proofs.members.next_part.Goals as goal

small : (c : ℕ) → is_blank c ≡ true → c < 128
small c e = grind (arith, nat_tests)

small_at : (t : List ℕ) (place : ℕ) → place ≡ position_or_len is_blank t → place < length t → get_or t place 0 < 128
small_at t place q lt = small (get_or t place 0) (subst (λ k. is_blank (get_or t k 0) ≡ true) (sym q) (passes_at_first is_blank t 0 (omega (arith, q))))

cut_at : (t : List ℕ) (place : ℕ) → place ≡ position_or_len is_blank t → place < length t → parts_of t ≡ take place t ∷ parts_of (drop (place + 1) t)
cut_at t place q lt = subst (λ k. parts_of t ≡ take k t ∷ parts_of (drop (k + 1) t)) (sym q) (slice_split_first is_blank t 0 (omega (arith, q)))

uncut : (t : List ℕ) (place : ℕ) → place ≡ position_or_len is_blank t → place ≡ length t → parts_of t ≡ t ∷ []
uncut t place q e = slice_split_none is_blank t (λ k d l. fails_before_first is_blank t k d (omega (arith, q, e, l)))

pub returns-then-place-text : goal.returns-then-place-text
returns-then-place-text c =
    let t : List ℕ = c.args.text.now in
    let q = c.blank_place-place.ensures.place ∙ ap (position_or_len is_blank) c.as_bytes.ensures.value in
    uncut t c.blank_place-place.result q (omega arith)

pub range-requires-clause-end_boundary : goal.range-requires-clause-end_boundary
range-requires-clause-end_boundary c =
    let t : List ℕ = c.args.text.now in
    let q = c.blank_place-place.ensures.place ∙ ap (position_or_len is_blank) c.as_bytes.ensures.value in
    let same = c.as_bytes.ensures.value in
    let within : c.blank_place-place.result ≤ length t = subst (λ b. c.blank_place-place.result ≤ length b) same c.blank_place-place.ensures.within in
    let lt : c.blank_place-place.result < length t = omega arith in
    IsCharBoundary-before_ascii t c.blank_place-place.result lt (small_at t c.blank_place-place.result q lt)

pub range_from-requires : goal.range_from-requires
range_from-requires c =
    let t : List ℕ = c.args.text.now in
    let q = c.blank_place-place.ensures.place ∙ ap (position_or_len is_blank) c.as_bytes.ensures.value in
    let same = c.as_bytes.ensures.value in
    let within : c.blank_place-place.result ≤ length t = subst (λ b. c.blank_place-place.result ≤ length b) same c.blank_place-place.ensures.within in
    let lt : c.blank_place-place.result < length t = omega arith in
    λ _. IsCharBoundary-after_ascii t c.blank_place-place.result c.utf8.text lt (small_at t c.blank_place-place.result q lt)

pub returns : goal.returns
returns c =
    let t : List ℕ = c.args.text.now in
    let q = c.blank_place-place.ensures.place ∙ ap (position_or_len is_blank) c.as_bytes.ensures.value in
    let same = c.as_bytes.ensures.value in
    let within : c.blank_place-place.result ≤ length t = subst (λ b. c.blank_place-place.result ≤ length b) same c.blank_place-place.ensures.within in
    let lt : c.blank_place-place.result < length t = omega arith in
    let v : c.range.result.now ≡ take c.blank_place-place.result t = (let z : c.blank_place-place.result - 0 ≡ c.blank_place-place.result = omega arith in let y : drop 0 t ≡ t = refl in cc (c.range.ensures.value)) in
    let w : c.range_from.result.now ≡ drop (c.blank_place-place.result + 1) t = cc (c.range_from.ensures.value, rest_is t (c.blank_place-place.result + 1)) in
    let f = cut_at t c.blank_place-place.result q lt in (
      subst (λ x. parts_of t ≡ x ∷ parts_of c.range_from.result.now) (sym v)
          (subst (λ x. parts_of t ≡ take c.blank_place-place.result t ∷ parts_of x) (sym w) f),
      subst (λ x. length x < length t) (sym w) (omega (arith, length-drop (c.blank_place-place.result + 1) t)),
    )
