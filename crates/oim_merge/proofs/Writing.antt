-- The facts for each step of writing a document.
use Rattle.std.specs.Prelude.{◌≡◌, ◌≤◌, ℕ, List, [], ◌∷◌, ◌++◌, Bool, true, false, length}
use Rattle.std.proofs.Common.{refl, sym, ap, ◌∙◌, subst, append_assoc, append-nil}
use Rattle.oim_json.proofs.Members.{has_any_append, has_some, members_more, no_members}
use Rattle.oim_json.proofs.Writes.{broke_before, broke_later, wrote_twice}
use Rattle.oim_json.specs.Document.{members, more_members, tail_text}
use Rattle.oim_json.specs.state.Writing.{has_any}
use Rattle.oim_json.specs.Sinks.{SinkView, Broke, Wrote}
use Rattle.oim_json.specs.declared.layout.Layout.{Layout}
use Rattle.oim_json.specs.declared.mark.WriteFault.{WriteFault}
use Rattle.oim_merge.specs.declared.progress.MergeEnd.TheVariants as end
use Rattle.oim_merge.specs.declared.progress.Standing.{Standing}
use Rattle.oim_merge.specs.declared.progress.Standing.TheVariants as standings
use Rattle.oim_merge.specs.Histories.{tail_for, facts_before, refusals, unfinished}
use Rattle.oim_merge.specs.Merging.{EndsWith}
use Rattle.oim_merge.specs.state.Steps.{StandsAt}
use Rattle.oim_merge.specs.Writers.{WriterView, given, text_so_far, whole_text, writing}
use Rattle.oim_resolve.specs.FactParts.{FactParts as Fact}
use Rattle.oim_ring.specs.Items.{blocks_only}
use Rattle.oim_ring.specs.declared.item.Ending as Endings
use Rattle.oim_ring.specs.declared.item.Ending.TheVariants.{Closed, Refused}
use Rattle.oim_ring.specs.declared.item.Item.{Item}
use Rattle.oim_ring.specs.declared.item.Item.TheVariants as items
use Rattle.oim_rows.specs.declared.fault.TableFault.{TableFault}

-- Refusals while nothing is refused.
pub open_refusals : (before more : List Item) → refusals before ≡ [] → refusals (before ++ more) ≡ refusals more
open_refusals [] more e = refl
open_refusals (items.Block fs ∷ rest) more e = open_refusals rest more e
open_refusals (items.Ending Closed ∷ rest) more e = open_refusals rest more e
open_refusals (items.Ending (Refused fault) ∷ rest) more e = absurd (cc)

pub open_facts : (before more : List Item) → refusals before ≡ [] → facts_before (before ++ more) ≡ facts_before before ++ facts_before more
open_facts [] more e = refl
open_facts (items.Block fs ∷ rest) more e = ap (λ l. fs ++ l) (open_facts rest more e) ∙ sym (append_assoc fs (facts_before rest) (facts_before more))
open_facts (items.Ending Closed ∷ rest) more e = open_facts rest more e
open_facts (items.Ending (Refused fault) ∷ rest) more e = absurd (cc)

-- The faults of items, and of more items after them.
pub all_refusals : (before more : List Item) → refusals (before ++ more) ≡ refusals before ++ refusals more
all_refusals [] more = refl
all_refusals (items.Block fs ∷ rest) more = all_refusals rest more
all_refusals (items.Ending Closed ∷ rest) more = all_refusals rest more
all_refusals (items.Ending (Refused fault) ∷ rest) more = ap (λ l. fault ∷ l) (all_refusals rest more)

none_refused : (fault : TableFault) (xs : List TableFault) → fault ∷ xs ≡ [] → ⊥
none_refused fault xs e = cc

-- Refusals after the first one.
pub still_refused : (before more : List Item) → ¬ (refusals before ≡ []) → ¬ (refusals (before ++ more) ≡ [])
still_refused [] more some = absurd (some refl)
still_refused (items.Block fs ∷ rest) more some = still_refused rest more some
still_refused (items.Ending Closed ∷ rest) more some = still_refused rest more some
still_refused (items.Ending (Refused fault) ∷ rest) more some = none_refused fault (refusals (rest ++ more))

pub refused_facts : (before more : List Item) → ¬ (refusals before ≡ []) → facts_before (before ++ more) ≡ facts_before before
refused_facts [] more some = absurd (some refl)
refused_facts (items.Block fs ∷ rest) more some = ap (λ l. fs ++ l) (refused_facts rest more some)
refused_facts (items.Ending Closed ∷ rest) more some = refused_facts rest more some
refused_facts (items.Ending (Refused fault) ∷ rest) more some = refl

-- Blocks have no faults.
pub blocks_refusals : (before more : List Item) → blocks_only before ≡ true → refusals (before ++ more) ≡ refusals more
blocks_refusals [] more only = refl
blocks_refusals (items.Block fs ∷ rest) more only = blocks_refusals rest more only
blocks_refusals (items.Ending e ∷ rest) more only = absurd (cc)

facts_extend : (before more : List Item) → (rest : List Fact) × (facts_before (before ++ more) ≡ facts_before before ++ rest)
facts_extend [] more = (facts_before more, refl)
facts_extend (items.Block fs ∷ rest) more = let r = facts_extend rest more in (r.0, ap (λ l. fs ++ l) r.1 ∙ sym (append_assoc fs (facts_before rest) r.0))
facts_extend (items.Ending Closed ∷ rest) more = facts_extend rest more
facts_extend (items.Ending (Refused g) ∷ rest) more = ([], refl)

-- The unfinished text is a prefix of the longer one.
pub unfinished_extends : (l : Layout) (head : List ℕ) (before more : List Item) → (rest : List ℕ) × (unfinished l head (before ++ more) ≡ unfinished l head before ++ rest)
unfinished_extends l head before more =
    let f = facts_extend before more in
    let rest = more_members l (has_any false (facts_before before)) f.0 in
    (rest, ap (λ fs. head ++ members l fs) f.1 ∙ (ap (λ t. head ++ t) (members_more l (facts_before before) f.0) ∙ sym (append_assoc head (members l (facts_before before)) rest)))

-- Only the head is written.
module _ (l : Layout) (head : List ℕ) (old new : SinkView) where
  alone : head ≡ unfinished l head []
  alone = sym (ap (λ t. head ++ t) (no_members l) ∙ append-nil head)

  pub head_written : Wrote old new head → StandsAt (writing l head [] old new) false standings.Open
  head_written wrote = (refl, refl, subst (λ (t : List ℕ). Wrote old new t) alone wrote)

  pub head_broken : (fault : WriteFault) → Broke old new head fault → StandsAt (writing l head [] old new) false (standings.Broken fault)
  head_broken fault broke = subst (λ (t : List ℕ). Broke old new t fault) alone broke

module _ (w : WriterView) (any : Bool) where
  -- Nothing more is written.
  refused_stays : (more : List Item) → StandsAt w any standings.Refused → StandsAt (given w more w.sink) any standings.Refused
  refused_stays more s =
      (still_refused w.items more s.0, subst (λ (fs : List Fact). Wrote w.before w.sink (w.head ++ members w.layout fs)) (sym (refused_facts w.items more s.0)) s.1)

  broken_stays : (more : List Item) (fault : WriteFault) → StandsAt w any (standings.Broken fault) → StandsAt (given w more w.sink) any (standings.Broken fault)
  broken_stays more fault s =
      let u = unfinished_extends w.layout w.head w.items more in
      subst (λ t. Broke w.before w.sink t fault) (sym u.1) (broke_before w.before w.sink (text_so_far w) u.0 fault s)

  -- The facts after the end of a table.
  module _ (e : Endings.Ending) (begun : StandsAt w any standings.Open) where
    same_facts : facts_before (w.items ++ items.Ending e ∷ []) ≡ facts_before w.items
    same_facts = open_facts w.items (items.Ending e ∷ []) begun.0 ∙ (ap (λ fs. facts_before w.items ++ fs) (no_facts e) ∙ append-nil (facts_before w.items))
      where
        no_facts : (e : Endings.Ending) → facts_before (items.Ending e ∷ []) ≡ []
        no_facts Closed = refl
        no_facts (Refused fault) = refl

    same_text : Wrote w.before w.sink (text_so_far (given w (items.Ending e ∷ []) w.sink))
    same_text = subst (λ (fs : List Fact). Wrote w.before w.sink (w.head ++ members w.layout fs)) (sym same_facts) begun.2

  -- The end of a table.
  closed_stays : StandsAt w any standings.Open → StandsAt (given w (items.Ending Closed ∷ []) w.sink) any standings.Open
  closed_stays s = (open_refusals w.items (items.Ending Closed ∷ []) s.0, s.1 ∙ ap (has_any false) (sym (same_facts Closed s)), same_text Closed s)

  refuses : (fault : TableFault) → StandsAt w any standings.Open → StandsAt (given w (items.Ending (Refused fault) ∷ []) w.sink) any standings.Refused
  refuses fault s =
      ((λ none. none_refused fault [] (sym (open_refusals w.items (items.Ending (Refused fault) ∷ []) s.0) ∙ none)), same_text (Refused fault) s)

  module _ (fs : List Fact) (later : SinkView) (s : StandsAt w any standings.Open) where
    -- The facts with one more block.
    with_block : facts_before (w.items ++ items.Block fs ∷ []) ≡ facts_before w.items ++ fs
    with_block = open_facts w.items (items.Block fs ∷ []) s.0 ∙ ap (λ l. facts_before w.items ++ l) (append-nil fs)

    -- The text with one more block.
    block_text : text_so_far (given w (items.Block fs ∷ []) later) ≡ text_so_far w ++ more_members w.layout any fs
    block_text =
        ap (λ gs. w.head ++ members w.layout gs) with_block
        ∙ (ap (λ t. w.head ++ t) (members_more w.layout (facts_before w.items) fs)
        ∙ (sym (append_assoc w.head (members w.layout (facts_before w.items)) (more_members w.layout (has_any false (facts_before w.items)) fs))
        ∙ ap (λ b. text_so_far w ++ more_members w.layout b fs) (sym s.1)))

    pub block_written : 1 ≤ length fs → Wrote w.sink later (more_members w.layout any fs) → StandsAt (given w (items.Block fs ∷ []) later) true standings.Open
    block_written some wrote = (
      open_refusals w.items (items.Block fs ∷ []) s.0,
      sym (ap (has_any false) with_block ∙ has_any_append false (facts_before w.items) fs ∙ has_some (has_any false (facts_before w.items)) fs some),
      subst (λ t. Wrote w.before later t) (sym block_text) (wrote_twice w.before w.sink later (text_so_far w) (more_members w.layout any fs) s.2 wrote),
    )

    pub block_broken : (fault : WriteFault) → Broke w.sink later (more_members w.layout any fs) fault → StandsAt (given w (items.Block fs ∷ []) later) any (standings.Broken fault)
    block_broken fault broke =
        subst (λ t. Broke w.before later t fault) (sym block_text) (broke_later w.before w.sink later (text_so_far w) (more_members w.layout any fs) fault s.2 broke)

-- The standing after a table's end.
abbrev pub next : Standing → Endings.Ending → Standing
next standings.Open Closed = standings.Open
next standings.Open (Refused fault) = standings.Refused
next standings.Refused e = standings.Refused
next (standings.Broken fault) e = standings.Broken fault

pub next_closed : (s : Standing) → next s Closed ≡ s
next_closed standings.Open = refl
next_closed standings.Refused = refl
next_closed (standings.Broken fault) = refl

pub ended : (w : WriterView) (any : Bool) (s : Standing) (e : Endings.Ending) (z : Standing) → next s e ≡ z
    → StandsAt w any s → StandsAt (given w (items.Ending e ∷ []) w.sink) any z
ended w any s e z is st = subst (λ (y : Standing). StandsAt (given w (items.Ending e ∷ []) w.sink) any y) is (as_next s e st)
  where
    as_next : (s : Standing) (e : Endings.Ending) → StandsAt w any s → StandsAt (given w (items.Ending e ∷ []) w.sink) any (next s e)
    as_next standings.Open Closed st = closed_stays w any st
    as_next standings.Open (Refused fault) st = refuses w any fault st
    as_next standings.Refused e st = refused_stays w any (items.Ending e ∷ []) st
    as_next (standings.Broken fault) e st = broken_stays w any (items.Ending e ∷ []) fault st

-- The document is no longer being written.
abbrev pub IsOver : Standing → Type 0
IsOver standings.Open = ⊥
IsOver standings.Refused = Unit {0}
IsOver (standings.Broken fault) = Unit {0}

pub over_stays : (w : WriterView) (any : Bool) (s : Standing) (more : List Item) → IsOver s → StandsAt w any s → StandsAt (given w more w.sink) any s
over_stays w any standings.Open more over st = absurd over
over_stays w any standings.Refused more over st = refused_stays w any more st
over_stays w any (standings.Broken fault) more over st = broken_stays w any more fault st

pub stands_as : (w : WriterView) (any : Bool) (s z : Standing) → s ≡ z → StandsAt w any s → StandsAt w any z
stands_as w any s z is st = subst (λ (y : Standing). StandsAt w any y) is st

-- The document, with the sink under another name.
pub left_as : (w : WriterView) (more : List Item) (any : Bool) (s : Standing) (now : SinkView) → w.sink ≡ now
    → StandsAt (given w more w.sink) any s → StandsAt (given w more now) any s
left_as w more any s now is st = subst (λ (n : SinkView). StandsAt (given w more n) any s) is st

-- The end.

-- No tail follows a refusal.
no_tail : (l : Layout) (faults : List TableFault) → ¬ (faults ≡ []) → tail_for l faults ≡ []
no_tail l [] some = absurd (some refl)
no_tail l (f ∷ fs) some = refl

module _ (w : WriterView) (any : Bool) where
  pub tail_written : (later : SinkView) → StandsAt w any standings.Open → Wrote w.sink later (tail_text w.layout) → EndsWith w.before later (whole_text w) (refusals w.items) end.Complete
  tail_written later s wrote = (
    s.0,
    subst (λ (o : List TableFault). Wrote w.before later (text_so_far w ++ tail_for w.layout o)) (sym s.0)
        (wrote_twice w.before w.sink later (text_so_far w) (tail_text w.layout) s.2 wrote),
  )

  pub tail_broken : (later : SinkView) (fault : WriteFault) → StandsAt w any standings.Open → Broke w.sink later (tail_text w.layout) fault
      → EndsWith w.before later (whole_text w) (refusals w.items) (end.Write fault)
  tail_broken later fault s broke =
      subst (λ (o : List TableFault). Broke w.before later (text_so_far w ++ tail_for w.layout o) fault) (sym s.0)
      (broke_later w.before w.sink later (text_so_far w) (tail_text w.layout) fault s.2 broke)

  pub was_refused : StandsAt w any standings.Refused → EndsWith w.before w.sink (whole_text w) (refusals w.items) end.Refused
  was_refused s =
      let text = text_so_far w in
      (s.0, subst (λ t. Wrote w.before w.sink t) (sym (ap (λ t. text ++ t) (no_tail w.layout (refusals w.items) s.0) ∙ append-nil text)) s.1)

  pub was_broken : (fault : WriteFault) → StandsAt w any (standings.Broken fault) → EndsWith w.before w.sink (whole_text w) (refusals w.items) (end.Write fault)
  was_broken fault s = broke_before w.before w.sink (text_so_far w) (tail_for w.layout (refusals w.items)) fault s

-- The items so far.

pub given_nothing : (w : WriterView) (none : List Item) (s : SinkView) → none ≡ [] → w.sink ≡ s → w ≡ given w none s
given_nothing w none s nil is =
    ap (λ (n : SinkView). record w { sink = n }) is ∙ ap (λ (is : List Item). record w { items = is; sink = s }) (sym (ap (λ l. w.items ++ l) nil ∙ append-nil w.items))

pub given_as : (w v : WriterView) (xs ys : List Item) (s : SinkView) → ys ≡ xs → v ≡ given w xs s → v ≡ given w ys s
given_as w v xs ys s same is = is ∙ ap (λ (l : List Item). given w l s) (sym same)

pub given_more : (w v u : WriterView) (xs ys zs : List Item) (s t : SinkView) → zs ≡ xs ++ ys → v ≡ given w xs s → u ≡ given v ys t → u ≡ given w zs t
given_more w v u xs ys zs s t all first next =
    next ∙ (ap (λ (x : WriterView). given x ys t) first ∙ ap (λ (l : List Item). record w { items = l; sink = t }) (append_assoc w.items xs ys ∙ ap (λ l. w.items ++ l) (sym all)))
