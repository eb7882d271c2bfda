-- Tables that are read on one thread, and given to a writer.
use Rattle.std.specs.Prelude.{◌≡◌, ℕ, ◌+◌, List, [], ◌∷◌, ◌++◌, true, Option, Ok, Err, length}
use Rattle.std.proofs.Common.{refl, sym, ap, ◌∙◌, subst, append_assoc, append-nil, arith, inr}
use Rattle.std.proofs.lemmas.List.{length-append}
use mathlib.Core.List.{IsPrefix}
use Rattle.oim_json.proofs.Writes.{broke_before}
use Rattle.oim_json.specs.JsonText.{head_text}
use Rattle.oim_json.specs.Sinks.{SinkView, Broke}
use Rattle.oim_json.specs.declared.layout.Layout.{Layout}
use Rattle.oim_json.specs.declared.mark.WriteFault.{WriteFault}
use Rattle.oim_merge.proofs.Writing.{all_refusals, blocks_refusals, given_more, given_nothing, unfinished_extends}
use Rattle.oim_merge.specs.Histories.{all_of, document, refusals, tail_for, unfinished}
use Rattle.oim_merge.specs.Merging.{EndsWith}
use Rattle.oim_merge.specs.Writers.{IsBroken, WriterView, given, whole_text}
use Rattle.oim_merge.specs.state.Writers.{Continues}
use Rattle.oim_merge.specs.declared.progress.MergeEnd.{MergeEnd}
use Rattle.oim_merge.specs.declared.progress.MergeEnd.TheVariants as end
use Rattle.oim_records.specs.Reads.{IsFileOf}
use Rattle.oim_report.specs.ReportValue.{ReportValue}
use Rattle.oim_resolve.specs.FactParts.{FactParts as Fact}
use Rattle.oim_ring.proofs.TakenWhole.{blocks_more}
use Rattle.oim_ring.specs.Items.{blocks_only}
use Rattle.oim_ring.specs.declared.item.Ending as Endings
use Rattle.oim_ring.specs.declared.item.Ending.TheVariants.{Refused}
use Rattle.oim_ring.specs.declared.item.Item.{Item}
use Rattle.oim_ring.specs.declared.item.Item.TheVariants.{Block, Ending}
use Rattle.oim_rows.specs.Header.{file_fault}
use Rattle.oim_rows.specs.Streams.{facts_of, table_stream}
use Rattle.oim_rows.specs.declared.fault.TableFault.{TableFault}
use Rattle.oim_rows.specs.declared.fault.TableKind.TheVariants as kind
use Rattle.oim_convert.specs.Histories.{IsEndingOf, IsGiven, IsHistory, facts_in}
use Rattle.oim_convert.specs.ReadAlone.{AreRead, IsRead}
use Rattle.oim_convert.specs.WrittenHistories.{WritesHistories, WritesUntil}
use Rattle.oim_convert.specs.state.Steps.{GaveTable, TookBlocks}
use Rattle.oim_convert.proofs.FaultTables.{given_own}
use Rattle.oim_convert.proofs.OwnFaults.{own_table}
use Rattle.oim_convert.proofs.SentFacts.{facts_push}
use Rattle.oim_convert.proofs.WrittenIds.{no_facts}

-- The blocks of a table.

pub took_nothing : (w : WriterView) (Holds : List Fact → Type 0) → Holds [] → TookBlocks w w Holds
took_nothing w Holds none = record { blocks = []; only = refl; is = given_nothing w [] w.sink refl refl; facts = none }

module _ (w v : WriterView) (Holds More : List Fact → Type 0) (took : TookBlocks w v Holds) where
  pub took_as : ((facts : List Fact) → Holds facts → More facts) → TookBlocks w v More
  took_as f = record { blocks = took.blocks; only = took.only; is = took.is; facts = f (facts_in took.blocks) took.facts }

  pub took_more : (u : WriterView) (block : List Fact) (s : SinkView) → u ≡ given v (Block block ∷ []) s → ((facts : List Fact) → Holds facts → More (facts ++ block)) → TookBlocks w u More
  took_more u block s is f =
      let left : s ≡ u.sink = sym (ap (λ (x : WriterView). x.sink) is) in
      let all = took.blocks ++ Block block ∷ [] in
      record {
        blocks = all;
        only = blocks_more took.blocks block took.only;
        is = given_more w v u took.blocks (Block block ∷ []) all v.sink u.sink refl took.is (is ∙ ap (λ (x : SinkView). given v (Block block ∷ []) x) left);
        facts = subst More (sym (facts_push took.blocks block)) (f (facts_in took.blocks) took.facts);
      }

module _ (old v u : WriterView) (xs : List Item) (s : SinkView) (is : u ≡ given v xs s) where
  pub continues_more : Continues old v → Continues old u
  continues_more first = is ∙ (ap (λ (x : WriterView). given x xs s) first ∙ ap (λ (x : WriterView). record old { items = x.items; sink = x.sink }) (sym is))

  pub refusals_more : (faults more : List TableFault) → faults ≡ refusals v.items → more ≡ refusals xs → faults ++ more ≡ refusals u.items
  refusals_more faults more first next =
      ap (λ fs. fs ++ more) first ∙ (ap (λ fs. refusals v.items ++ fs) next ∙ (sym (all_refusals v.items xs) ∙ ap (λ (x : WriterView). refusals x.items) (sym is)))

pub took_refusals : (v u : WriterView) (Holds : List Fact → Type 0) (faults : List TableFault) → TookBlocks v u Holds → faults ≡ refusals v.items → faults ≡ refusals u.items
took_refusals v u Holds faults took first =
    let none : [] ≡ refusals took.blocks = sym (ap refusals (sym (append-nil took.blocks)) ∙ blocks_refusals took.blocks [] took.only) in
    sym (append-nil faults) ∙ refusals_more v v u took.blocks u.sink took.is faults [] first none

-- The faults up to a failed write.

pub until_of : {Are : List (List Item) → Type 0} (layout : Layout) (report : ReportValue) (old new : SinkView) (faults : List TableFault) (e : MergeEnd)
    → WritesHistories Are layout report old new faults e → WritesUntil Are layout report old new faults e
until_of layout report old new faults end.Complete w = w
until_of layout report old new faults end.Refused w = w
until_of layout report old new faults (end.Write x) w = (faults, ([], append-nil faults), w)

module _ {Are Be : List (List Item) → Type 0} (f : (hs : List (List Item)) → Are hs → Be hs) (layout : Layout) (report : ReportValue) (old new : SinkView) where
  histories_as : (faults : List TableFault) (e : MergeEnd) → WritesHistories Are layout report old new faults e → WritesHistories Be layout report old new faults e
  histories_as faults e w = record { histories = w.histories; are = f w.histories w.are; merged = w.merged }

  pub until_as : (faults : List TableFault) (e : MergeEnd) → WritesUntil Are layout report old new faults e → WritesUntil Be layout report old new faults e
  until_as faults end.Complete w = histories_as faults end.Complete w
  until_as faults end.Refused w = histories_as faults end.Refused w
  until_as faults (end.Write x) w = (w.0, w.1, histories_as w.0 (end.Write x) w.2)

-- Histories one after another.

all_append : (hs js : List (List Item)) → all_of (hs ++ js) ≡ all_of hs ++ all_of js
all_append [] js = refl
all_append (h ∷ hs) js = ap (λ xs. h ++ xs) (all_append hs js) ∙ sym (append_assoc h (all_of hs) (all_of js))

-- Memory ran out before anything of the table was read, and of each table from this one on.
abbrev unread : ℕ → List Item
unread table = Ending (Refused (file_fault table kind.Memory)) ∷ []

abbrev all_unread : {R : Type 0} → ℕ → List (Option R) → List (List Item)
all_unread i [] = []
all_unread i (r ∷ rs) = unread i ∷ all_unread (i + 1) rs

-- The items are those of the histories of these readers' tables, or the first of them.
pub record AreItemsOf {R : Type 0} (told : R → Option (List ℕ)) (report : ReportValue) (limit : ℕ) (readers : List (Option R)) (items : List Item) : Type 0 where
  pub histories : List (List Item)
  pub read : AreRead told report limit 0 readers histories
  pub are : items ≡ all_of histories

abbrev pub ReadsFirst : {R : Type 0} → (R → Option (List ℕ)) → ReportValue → ℕ → List (Option R) → List Item → Type 0
ReadsFirst told report limit readers items = (more : List Item) × AreItemsOf told report limit readers (items ++ more)

-- The readers that are left, and what was read of the tables before.
pub record HasRead {R : Type 0} (told : R → Option (List ℕ)) (report : ReportValue) (limit table : ℕ) (items : List Item) (readers left : List (Option R)) : Type 0 where
  pub done : List (Option R)
  pub split : readers ≡ done ++ left
  pub count : length done ≡ table
  pub read : AreItemsOf told report limit done items

module _ {R : Type 0} (told : R → Option (List ℕ)) (report : ReportValue) (limit : ℕ) where
  read_append : (i n : ℕ) (rs ss : List (Option R)) (hs js : List (List Item)) → i + length rs ≡ n → AreRead told report limit i rs hs → AreRead told report limit n ss js
      → AreRead told report limit i (rs ++ ss) (hs ++ js)
  read_append i n [] ss [] js at first next = let here : n ≡ i = omega (arith, at) in subst (λ (m : ℕ). AreRead told report limit m ss js) here next
  read_append i n [] ss (h ∷ hs) js at first next = absurd first
  read_append i n (r ∷ rs) ss [] js at first next = absurd first
  read_append i n (r ∷ rs) ss (h ∷ hs) js at first next = (first.0, read_append (i + 1) n rs ss hs js (omega (arith, at)) first.1 next)

  table_read : (table : ℕ) (reader : Option R) (blocks : List Item) (e : Endings.Ending) → blocks_only blocks ≡ true → IsEndingOf table e
      → ((file : Option (List ℕ)) → IsFileOf told reader file → IsGiven table (table_stream report table limit file) (facts_in blocks) e)
      → IsRead told report limit table reader (blocks ++ Ending e ∷ [])
  table_read table reader blocks e only own given =
      let is : IsHistory (facts_in blocks) e (blocks ++ Ending e ∷ []) = record { before = blocks; blocks = only; holds = refl; is = refl } in
      record { facts = facts_in blocks; ending = e; is = is; own = own; kept = λ file one. record { facts = facts_in blocks; ending = e; given = given file one; is = is } }

  -- Memory ran out after the first facts of a table.
  short_read : (table : ℕ) (reader : Option R) (blocks : List Item) → blocks_only blocks ≡ true
      → ((file : Option (List ℕ)) → IsFileOf told reader file → IsPrefix (facts_in blocks) (facts_of (table_stream report table limit file)))
      → IsRead told report limit table reader (blocks ++ unread table)
  short_read table reader blocks only first =
      table_read table reader blocks (Refused (file_fault table kind.Memory)) only refl (λ file one. inr (inr (record { some = first file one; refused = refl })))

  unread_read : (i : ℕ) (rs : List (Option R)) → AreRead told report limit i rs (all_unread i rs)
  unread_read i [] = tt
  unread_read i (r ∷ rs) = (short_read i r [] refl (λ file one. no_facts (facts_of (table_stream report i limit file))), unread_read (i + 1) rs)

  pub read_begin : (items : List Item) (readers : List (Option R)) → items ≡ [] → HasRead told report limit 0 items readers readers
  read_begin items readers none = record { done = []; split = refl; count = refl; read = record { histories = []; read = tt; are = none } }

  module _ (table : ℕ) (v u : WriterView) (reader : Option R) (readers left : List (Option R)) (h : HasRead told report limit table v.items readers (reader ∷ left)) where
    -- The blocks of one more table were given to the writer, and then its ending, with the number
    -- of the table.
    pub next_read : (w : WriterView) (e x : Endings.Ending) (s : SinkView) → w ≡ given u (Ending x ∷ []) s
        → TookBlocks v u (λ facts. GaveTable told report table limit reader facts (Ok e)) → IsEndingOf table x → (IsEndingOf table e → x ≡ e)
        → HasRead told report limit (table + 1) w.items readers left
    next_read w e x s is took own same =
        let blocks = took.blocks in let last = blocks ++ Ending x ∷ [] in let hs = h.read.histories in
        let read = table_read table reader blocks x took.only own
        (λ file one. let given = took.facts file one in let whole = table_stream report table limit file in
        subst (IsGiven table whole (facts_in blocks)) (sym (same (given_own table whole (facts_in blocks) e given (own_table report table limit file)))) given) in
        record {
          done = h.done ++ reader ∷ [];
          split = h.split ∙ sym (append_assoc h.done (reader ∷ []) left);
          count = (let len = length-append h.done (reader ∷ []) in omega (arith, len, h.count));
          read = record {
            histories = hs ++ last ∷ [];
            read = read_append 0 table h.done (reader ∷ []) hs (last ∷ []) (omega (arith, h.count)) h.read.read (read, tt);
            are = ap (λ (z : WriterView). z.items) is ∙ (ap (λ (z : WriterView). z.items ++ Ending x ∷ []) took.is ∙ (append_assoc v.items blocks (Ending x ∷ [])
                ∙ (ap (λ xs. xs ++ last) h.read.are ∙ (ap (λ xs. all_of hs ++ xs) (sym (append-nil last)) ∙ sym (all_append hs (last ∷ []))))));
          };
        }

    -- A write failed at one of its blocks.
    pub next_broke : (w : WriteFault) → TookBlocks v u (λ facts. GaveTable told report table limit reader facts (Err w)) → ReadsFirst told report limit readers u.items
    next_broke w took =
        let blocks = took.blocks in let last = blocks ++ unread table in let later = all_unread (table + 1) left in let hs = h.read.histories in
        let more = unread table ++ all_of later in (
          more,
          subst (λ rs. AreItemsOf told report limit rs (u.items ++ more)) (sym h.split)
              (record {
                histories = hs ++ last ∷ later;
                read = read_append 0 table h.done (reader ∷ left) hs (last ∷ later) (omega (arith, h.count)) h.read.read
                    (short_read table reader blocks took.only took.facts, unread_read (table + 1) left);
                are = ap (λ (z : WriterView). z.items ++ more) took.is ∙ (append_assoc v.items blocks more ∙ (ap (λ xs. xs ++ (blocks ++ more)) h.read.are
                    ∙ (ap (λ xs. all_of hs ++ xs) (sym (append_assoc blocks (unread table) (all_of later))) ∙ sym (all_append hs (last ∷ later)))));
              }),
        )

  -- A write failed before a table was read.
  pub none_read : (items : List Item) (readers : List (Option R)) → items ≡ [] → ReadsFirst told report limit readers items
  none_read items readers none =
      let hs = all_unread 0 readers in (all_of hs, record { histories = hs; read = unread_read 0 readers; are = ap (λ xs. xs ++ all_of hs) none })

  pub read_end : (table : ℕ) (items : List Item) (readers : List (Option R)) → HasRead told report limit table items readers [] → AreItemsOf told report limit readers items
  read_end table items readers h = subst (λ rs. AreItemsOf told report limit rs items) (sym (h.split ∙ append-nil h.done)) h.read

  -- The document.

  module _ (readers : List (Option R)) (v w : WriterView) (now : SinkView) (head : v.head ≡ head_text report) (continues : Continues v w) (faults : List TableFault) (found : faults ≡ refusals w.items) where
    abbrev Until : MergeEnd → Type 0
    Until e = WritesUntil (AreRead told report limit 0 readers) v.layout report v.before now faults e

    pub broken_tables : (x : WriteFault) → w.sink ≡ now → ReadsFirst told report limit readers w.items → IsBroken w x → Until (end.Write x)
    broken_tables x left (more, items) broke =
        let hs = items.histories in
        let text = unfinished v.layout (head_text report) w.items in
        let tail = tail_for v.layout (refusals (all_of hs)) in
        let longer = unfinished_extends v.layout (head_text report) w.items more in
        let whole : document v.layout (head_text report) hs ≡ text ++ (longer.0 ++ tail) =
        ap (λ xs. unfinished v.layout (head_text report) xs ++ tail) (sym items.are) ∙ (ap (λ t. t ++ tail) longer.1 ∙ append_assoc text longer.0 tail) in
        let here : Broke v.before now text x =
        subst (λ h. Broke v.before now (unfinished v.layout h w.items) x) head
        (subst (λ (s : SinkView). Broke v.before s (unfinished v.layout v.head w.items) x) left (subst (λ (z : WriterView). IsBroken z x) continues broke)) in (
          refusals (all_of hs),
          (refusals more, ap (λ fs. fs ++ refusals more) found ∙ (sym (all_refusals w.items more) ∙ ap refusals items.are)),
          record { histories = hs; are = items.read; merged = (refl, subst (λ t. Broke v.before now t x) (sym whole) (broke_before v.before now text (longer.0 ++ tail) x here)) },
        )

    module _ (read : AreItemsOf told report limit readers w.items) where
      pub ended_tables : (e : MergeEnd) → EndsWith w.before now (whole_text w) (refusals w.items) e → Until e
      ended_tables e ends = until_of v.layout report v.before now faults e (record {
        histories = read.histories;
        are = read.read;
        merged = (
          found ∙ ap refusals read.are,
          subst (λ fs. EndsWith v.before now (document v.layout (head_text report) read.histories) fs e) (sym found)
              (subst (λ is. EndsWith v.before now (unfinished v.layout (head_text report) is ++ tail_for v.layout (refusals is)) (refusals w.items) e) read.are
              (subst (λ h. EndsWith v.before now (unfinished v.layout h w.items ++ tail_for v.layout (refusals w.items)) (refusals w.items) e) head
              (subst (λ (x : WriterView). EndsWith x.before now (whole_text x) (refusals x.items) e) continues ends))),
        );
      })
