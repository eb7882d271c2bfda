-- A block's members, each put on a line of its own.
use Rattle.std.specs.Prelude.{◌≡◌, ◌+◌, ℕ, Bool, List, [], ◌++◌, Option, Some, None, take, drop, option_map, slice_get}
use Rattle.std.proofs.Common.{refl, sym, ap, ◌∙◌, subst}
use Rattle.oim_resolve.specs.FactParts.{FactParts as Fact}
use Rattle.oim_json.specs.state.Chunks.{IsPut}
use Rattle.oim_json.specs.Document.{line_start, more_members, piece}
use Rattle.oim_json.specs.state.Writing.{has_any}
use Rattle.oim_json.specs.JsonText.{member_text}
use Rattle.oim_json.specs.Sinks.{SinkView, Broke}
use Rattle.oim_json.specs.declared.layout.Layout.TheVariants.{Lines}
use Rattle.oim_json.specs.declared.mark.WriteFault.{WriteFault}
use Rattle.oim_json.proofs.Chunks.{put_both, put_broke}
use Rattle.oim_json.proofs.Members.{members_cut, one_more}
use Rattle.oim_json.proofs.Writes.{broke_before}

module _ (any : Bool) (fs : List Fact) (i : ℕ) (has : Bool) (text : List ℕ) (so : has ≡ has_any any (take i fs)) (at : option_map member_text (slice_get fs i) ≡ Some text) where
  -- The line of the fact at this index.
  abbrev line : List ℕ
  line = piece has (line_start Lines ++ text)

  line_is : more_members Lines any (take (i + 1) fs) ≡ more_members Lines any (take i fs) ++ line
  line_is = by (slice_get fs i) refl
    where
      by : (o : Option Fact) → slice_get fs i ≡ o → more_members Lines any (take (i + 1) fs) ≡ more_members Lines any (take i fs) ++ line
      by None none = absurd (let no : None ≡ Some text = ap (option_map member_text) (sym none) ∙ at in cc)
      by (Some f) found =
          let is : member_text f ≡ text = (let same : Some (member_text f) ≡ Some text = ap (option_map member_text) (sym found) ∙ at in cc) in
          one_more Lines any fs i f found
          ∙ ap (λ t. more_members Lines any (take i fs) ++ t) (ap (λ b. piece b (line_start Lines ++ member_text f)) (sym so) ∙ ap (λ t. piece has (line_start Lines ++ t)) is)

  module _ (first now new : SinkView) (waited waits : List ℕ) (put : IsPut first now [] waited (more_members Lines any (take i fs))) where
    pub line_put : IsPut now new waited waits line → IsPut first new [] waits (more_members Lines any (take (i + 1) fs))
    line_put one =
        subst (λ t. IsPut first new [] waits t) (sym line_is) (put_both first now new [] waited waits (more_members Lines any (take i fs)) line put one)

    pub line_broke : (fault : WriteFault) → Broke now new (waited ++ line) fault → Broke first new (more_members Lines any fs) fault
    line_broke fault broke =
        let upto = subst (λ t. Broke first new t fault) (sym line_is) (put_broke first now new [] waited (more_members Lines any (take i fs)) line fault put broke) in
        subst (λ t. Broke first new t fault) (sym (members_cut Lines any fs (i + 1)))
        (broke_before first new (more_members Lines any (take (i + 1) fs)) (more_members Lines (has_any any (take (i + 1) fs)) (drop (i + 1) fs)) fault upto)
