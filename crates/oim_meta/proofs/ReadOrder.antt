-- The members of a JSON object that was read are in byte order of name.
use Rattle.std.proofs.Common.{◌≡◌, ℕ, List, Option, Some, None, option_map, option_and_then, Ordering, Less, Equal, Greater, refl, ap, ◌∙◌, nat_cmp}
use Rattle.std.specs.Prelude.{⊤, IfSome}
use Rattle.std.specs.Ordering.{match_ordering, ordering_reverse}
use Rattle.std.specs.Cmp.Lexicographic.{slice_cmp}
use Rattle.std.proofs.lemmas.Cmp.{nat_list_cmp_total}
use Rattle.json.specs.Json as json
use Rattle.json.specs.Lex.{tokens}
use Rattle.serde_json.specs.Data.{Data, number, array, object, Members, no_members, member, put}
use Rattle.serde_json.specs.Read.{number_of, of_json, of_items, of_members, max_depth, read}
use Rattle.oim_meta.specs.Order.{IsAbove, IsInOrder, AreInOrder}

above_through : (k n : List ℕ) (ms : Members) → slice_cmp nat_cmp k n ≡ Less → IsAbove n ms → IsAbove k ms
above_through k n no_members h a = tt
above_through k n (member l e ms) h a = (nat_list_cmp_total.trans k n l h a.0, above_through k n ms h a.1)

above_put : (l k : List ℕ) (d : Data) (ms : Members) → slice_cmp nat_cmp l k ≡ Less → IsAbove l ms → IsAbove l (put k d ms)
above_put l k d no_members h a = (h, tt)
above_put l k d (member n e ms) h a = by (slice_cmp nat_cmp k n) (above_put l k d ms h a.1)
  where
    by : (o : Ordering) → IsAbove l (put k d ms) → IsAbove l (match_ordering o (member k d (member n e ms)) (member n d ms) (member n e (put k d ms)))
    by Less more = (h, a)
    by Equal more = a
    by Greater more = (a.0, more)

put_in_order : (k : List ℕ) (d : Data) (ms : Members) → IsInOrder d → AreInOrder ms → AreInOrder (put k d ms)
put_in_order k d no_members p q = (tt, p, tt)
put_in_order k d (member n e ms) p q = by (slice_cmp nat_cmp k n) refl (put_in_order k d ms p q.2)
  where
    by : (o : Ordering) → slice_cmp nat_cmp k n ≡ o → AreInOrder (put k d ms) → AreInOrder (match_ordering o (member k d (member n e ms)) (member n d ms) (member n e (put k d ms)))
    by Less below more = ((below, above_through k n ms below q.0), p, q)
    by Equal same more = (q.0, p, q.2)
    by Greater above more = (above_put n k d ms (nat_list_cmp_total.antisymm n k ∙ ap ordering_reverse above) q.0, q.1, more)

mapped : {A B : Type 0} (P : A → Type 0) (Q : B → Type 0) (f : A → B) → ((x : A) → P x → Q (f x)) → (o : Option A) → IfSome o P → IfSome (option_map f o) Q
mapped P Q f h None p = tt
mapped P Q f h (Some x) p = h x p

and_then : {A B : Type 0} (P : A → Type 0) (Q : B → Type 0) (f : A → Option B) → ((x : A) → P x → IfSome (f x) Q) → (o : Option A) → IfSome o P → IfSome (option_and_then f o) Q
and_then P Q f h None p = tt
and_then P Q f h (Some x) p = h x p

any_some : {A : Type 0} (o : Option A) → IfSome o (λ _. ⊤)
any_some None = tt
any_some (Some x) = tt

mutual
  of_json_in_order : (j : json.Json) → IfSome (of_json j) IsInOrder
  of_json_in_order json.null = tt
  of_json_in_order (json.boolean b) = tt
  of_json_in_order (json.number s) = mapped (λ _. ⊤) IsInOrder number (λ n p. tt) (number_of s) (any_some (number_of s))
  of_json_in_order (json.string s) = tt
  of_json_in_order (json.array js) = mapped (λ _. ⊤) IsInOrder array (λ ds p. tt) (of_items js) (any_some (of_items js))
  of_json_in_order (json.object ms) = mapped AreInOrder IsInOrder object (λ ns p. p) (of_members ms no_members) (of_members_in_order ms no_members tt)

  of_members_in_order : (ms : json.Members) (found : Members) → AreInOrder found → IfSome (of_members ms found) AreInOrder
  of_members_in_order json.no_members found h = h
  of_members_in_order (json.member k j ms) found h =
      and_then IsInOrder AreInOrder (λ d. of_members ms (put k d found)) (λ d p. of_members_in_order ms (put k d found) (put_in_order k d found p h)) (of_json j) (of_json_in_order j)

some_is : {A : Type 0} (P : A → Type 0) (o : Option A) (x : A) → IfSome o P → o ≡ Some x → P x
some_is P None x p e = cc e
some_is P (Some y) x p e = let same : y ≡ x = cc in rw (← same) p

pub read_in_order : (text : List ℕ) (d : Data) → read text ≡ Some d → IsInOrder d
read_in_order text d e =
    let parsed = option_and_then (λ p. json.if_last p.0 p.1) (json.value max_depth (tokens text)) in
    some_is IsInOrder (option_and_then of_json parsed) d (and_then (λ _. ⊤) IsInOrder of_json (λ j p. of_json_in_order j) parsed (any_some parsed)) e
