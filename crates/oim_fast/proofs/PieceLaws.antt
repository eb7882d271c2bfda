-- A dimension that is added to a frame gives a row's facts what its levels write.
use Rattle.std.proofs.Common.{◌≡◌, ◌<◌, ◌^◌, ℕ, zero, suc, Bool, true, false, ◌||◌, List, [], ◌∷◌, ◌++◌, map, Some, refl, sym, ap, subst, ◌∙◌, append_assoc, append-nil}
use Rattle.std.specs.List.{All, flat_map, slice_get}
use Rattle.std.specs.Option.{option_map_or}
use Rattle.std.specs.Prelude.{if◌then◌else◌}
use Rattle.std.proofs.lemmas.Grind.{flat_map-append}
use Rattle.std.proofs.lemmas.Option.{slice_get_within, get_or_from_slice_get}
use Rattle.oim_cells.specs.Cells.{Meaning, meaning_of}
use Rattle.oim_report.specs.ReportValue.{ReportValue}
use Rattle.oim_report.specs.declared.data.Written.{Written}
use Rattle.oim_resolve.specs.Facts.{entry_given, is_dropped, role_of}
use Rattle.oim_resolve.specs.Values.{side_of, value}
use Rattle.oim_row.specs.Answers.{dimension_json, json_for}
use Rattle.oim_fast.specs.state.FrameTexts.{FrameValue, Segment, frame_dimensions, is_known, is_ready, segment_text, with_part, with_value}
use Rattle.oim_fast.specs.state.FrameParts.{IsPart, IsPartValue}
use Rattle.oim_fast.specs.state.Pieces.{behind, dimension_piece, name_text}
use Rattle.oim_row.specs.References.{IsFresh, Key, ReferenceValue, key_of, meaning_at_hand}
use Rattle.oim_fast.specs.state.GivenTexts.{given_by}
use Rattle.oim_row.specs.Rows.{RowValue}
use Rattle.oim_row.specs.state.Rows.{cell_in}
use Rattle.oim_row.specs.Sources.{source_text}
use Rattle.oim_fast.specs.declared.frame.part.FramePart.{FramePart}
use Rattle.oim_fast.specs.declared.frame.part.PartValue.{PartValue}
use Rattle.oim_fast.specs.declared.frame.part.PartValue.TheVariants as part
use Rattle.oim_fast.proofs.RowLaws.{value_constant, value_referred}

pub found : {A B : Type 0} (f : A → B) (xs : List A) (i : ℕ) (y : B) → slice_get (map f xs) i ≡ Some y → (x : A) × (slice_get xs i ≡ Some x) × (f x ≡ y)
found f [] i y e = absurd (cc)
found f (x ∷ xs) zero y e = (x, refl, cc)
found f (x ∷ xs) (suc i) y e = found f xs i y e

pub all_at : {A : Type 0} (P : A → Type 0) (xs : List A) (i : ℕ) (x : A) → All P xs → slice_get xs i ≡ Some x → P x
all_at P xs i x p e = subst P (get_or_from_slice_get xs i x x e) (p i x (slice_get_within xs i x e))

module _ (x : RowValue) (c : ℕ) (few : x.number < 2 ^ 32) (rs : List ReferenceValue) (fresh : All (IsFresh x) rs) where
  -- What a reference gives in the row.
  pub given_at : (i : ℕ) (key : Key) → slice_get (map key_of rs) i ≡ Some key → given_by rs i ≡ json_for x.header.report key.purpose (meaning_of (source_text x key.source))
  given_at i key e =
      let at = found key_of rs i key e in
      let r = at.0 in
      let so = all_at (IsFresh x) rs i r fresh at.1 in
      ap (λ o. option_map_or (λ (q : ReferenceValue). json_for q.report q.key.purpose (meaning_at_hand q)) o []) at.1
      ∙ ap (λ (q : ReportValue). json_for q r.key.purpose (meaning_of r.text)) so.report
      ∙ ap (λ (t : List ℕ). json_for x.header.report r.key.purpose (meaning_of t)) so.text
      ∙ ap (λ (k : Key). json_for x.header.report k.purpose (meaning_of (source_text x k.source))) at.2

  -- What a written value gives a dimension's text.
  abbrev given : List ℕ → Written → List ℕ
  given n w = dimension_json (entry_given x.header.report (role_of x.header.report n) (side_of w) (value (cell_in x c) w))

  by_meaning : (n : List ℕ) (w : Written) (v : Meaning) → value (cell_in x c) w ≡ v → given n w ≡ dimension_json (entry_given x.header.report (role_of x.header.report n) (side_of w) v)
  by_meaning n w v e = ap (λ (q : Meaning). dimension_json (entry_given x.header.report (role_of x.header.report n) (side_of w) q)) e

  value_added : (t : FrameValue) (n text : List ℕ) (w : Written) (v : PartValue) → is_known v ≡ true → IsPartValue x.header (map key_of rs) n w text v
      → frame_dimensions (given_by rs) (with_value t text v) ≡ frame_dimensions (given_by rs) t ++ behind (name_text n) (given n w)
  value_added t n text w part.Nothing k (same, none) =
      sym (append-nil (frame_dimensions (given_by rs) t))
      ∙ ap (λ q. frame_dimensions (given_by rs) t ++ behind (name_text n) q) (sym (by_meaning n w _ (value_constant x c w same.same) ∙ none))
  value_added t n text w part.Text k (same, is) =
      sym (append_assoc (flat_map (segment_text (given_by rs)) t.segments) t.rest text)
      ∙ ap (λ q. frame_dimensions (given_by rs) t ++ q) (is ∙ ap (behind (name_text n)) (sym (by_meaning n w _ (value_constant x c w same.same))))
  value_added t n text w (part.Reference i) k (to, is) =
      let all = flat_map (segment_text (given_by rs)) t.segments in
      let last : Segment = record { alone = t.rest; name = text; reference = i } in
      append-nil (flat_map (segment_text (given_by rs)) (t.segments ++ last ∷ []))
      ∙ flat_map-append (segment_text (given_by rs)) t.segments (last ∷ [])
      ∙ ap (λ q. all ++ q) (append-nil (segment_text (given_by rs) last))
      ∙ sym (append_assoc all t.rest (behind text (given_by rs i)))
      ∙ ap (λ q. frame_dimensions (given_by rs) t ++ behind q (given_by rs i)) is
      ∙ ap (λ q. frame_dimensions (given_by rs) t ++ behind (name_text n) q) (given_at i _ to.there ∙ sym (by_meaning n w _ (value_referred x c w to.source few to.written)))
  value_added t n text w part.Unknown k is = absurd (cc k)

  -- An added part gives the text of its dimension.
  pub part_added : (t : FrameValue) (p : FramePart) → IsPart x.header (map key_of rs) p → is_ready t p ≡ true
      → frame_dimensions (given_by rs) (with_part t p) ≡ frame_dimensions (given_by rs) t ++ dimension_piece x.header.report t.kind p.name.now (side_of p.written.now) (value (cell_in x c) p.written.now)
  part_added t p is ready = by (is_dropped t.kind p.role) refl
    where
      piece : Bool → List ℕ
      piece b = if b then [] else behind (name_text p.name.now) (given p.name.now p.written.now)

      role : is_dropped t.kind (role_of x.header.report p.name.now) ≡ is_dropped t.kind p.role
      role = ap (is_dropped t.kind) (sym is.role)

      by : (b : Bool) → is_dropped t.kind p.role ≡ b → frame_dimensions (given_by rs) (with_part t p) ≡ frame_dimensions (given_by rs) t ++ piece (is_dropped t.kind (role_of x.header.report p.name.now))
      by true e = rw (role, e) (sym (append-nil (frame_dimensions (given_by rs) t)))
      by false e =
          let known : is_known p.value ≡ true = sym (ap (λ b. b || is_known p.value) e) ∙ ready in
          rw (role, e) (value_added t p.name.now p.text.items p.written.now p.value known is.value)
