-- The histories of all tables of a run, and the answer that they give.
use Rattle.std.specs.Prelude.{◌≡◌, ◌⊎◌, ℕ, ◌+◌, zero, suc, Bool, true, false, List, [], ◌∷◌, ◌++◌, Option, Some, None, Result, Ok, Err, IfOk, length, map, replicate, slice_get}
use Rattle.std.proofs.Common.{arith, refl, sym, ap, ◌∙◌, subst, inl, inr}
use Rattle.oim_json.specs.Sinks.{SinkView}
use Rattle.oim_json.specs.declared.layout.Layout.{Layout}
use Rattle.oim_merge.specs.Merging.{rings_of}
use Rattle.oim_report.specs.ReportValue.{ReportValue}
use Rattle.oim_resolve.specs.FactParts.{FactParts as Fact}
use Rattle.oim_ring.specs.Ends.{ClosedView, DrainView}
use Rattle.oim_ring.specs.declared.item.Ending as Endings
use Rattle.oim_ring.specs.declared.item.Ending.TheVariants.{Refused}
use Rattle.oim_ring.specs.declared.item.Item.{Item}
use Rattle.oim_ring.specs.declared.item.Item.TheVariants.{Ending}
use Rattle.oim_rows.specs.Header.{file_fault}
use Rattle.oim_rows.specs.Streams.{Stream, table_stream}
use Rattle.oim_rows.specs.declared.fault.TableFault.{TableFault}
use Rattle.oim_rows.specs.declared.fault.TableKind.{TableKind}
use Rattle.oim_rows.specs.declared.fault.TableKind.TheVariants as kind
use Rattle.oim_convert.specs.Answer.{IsAnswer, ending_of, streams, streams_from}
use Rattle.oim_convert.specs.Files.{AreFilesOf}
use Rattle.oim_records.specs.Reads.{IsFileOf}
use Rattle.oim_convert.specs.Histories.{AreDecoded, AreUnserved, IsDecoded, IsGiven, IsHistory, IsStream}
use Rattle.oim_convert.specs.Tasks.{Each}
use Rattle.oim_convert.specs.state.Tasks.{EachClosedFeed, IsTable}
use Rattle.oim_convert.specs.state.Preparing.{HasTables}
use Rattle.oim_convert.specs.Served.{AreServed, IsServed}
use Rattle.oim_convert.specs.Runs.{AreHistories, AreStreams, AreThreaded, AreUncut, IsCut, IsFromOutside, IsRun, IsThreadless, Writes}
use Rattle.oim_convert.specs.declared.fault.ConvertFault.{ConvertFault}
use Rattle.oim_convert.specs.declared.table_task.TableTask.{TableTask}
use Rattle.oim_convert.specs.declared.run.Run.{Run}
use Rattle.oim_convert.proofs.OwnFaults.{IsOwn, has_thread, own_table}
use Rattle.oim_convert.proofs.StreamHistories.{stream_of_whole, streams_answer}

-- The counts of places, and the closed feeds at the start.

none_closed : {X : Type 0} (n t : ℕ) (x : X) (closed : Option X) → closed ≡ None → slice_get (replicate n closed) t ≡ Some (Some x) → ⊥
none_closed zero t x closed is e = cc
none_closed (suc n) zero x closed is e = cc
none_closed (suc n) (suc t) x closed is e = none_closed n t x closed is e

pub closed_feeds_begin : {R : Type 0} (told : R → Option (List ℕ)) (report : ReportValue) (limit : ℕ) (served : Bool) (plan : List (TableTask R)) (n : ℕ)
    (closed_feeds : List (Option ClosedView)) → closed_feeds ≡ replicate n None
    → EachClosedFeed told report limit served plan closed_feeds
closed_feeds_begin told report limit served plan n closed_feeds is = λ table closed e.
    absurd (none_closed n table closed None refl (subst (λ (l : List (Option ClosedView)). slice_get l table ≡ Some (Some closed)) is e))

pub replicate_len : {X : Type 0} (n : ℕ) (x : X) → length (replicate n x) ≡ n
replicate_len zero x = refl
replicate_len (suc n) x = let rest = replicate_len n x in omega (arith, rest)

map_len : {X Y : Type 0} (f : X → Y) (xs : List X) → length (map f xs) ≡ length xs
map_len f [] = refl
map_len f (x ∷ xs) = let rest = map_len f xs in omega (arith, rest)

pub as_many : {X Y : Type 0} (f : X → Y) (xs : List X) (ys : List Y) → map f xs ≡ ys → length ys ≡ length xs
as_many f xs ys e = sym (ap length e) ∙ map_len f xs

pub rings_len : (new old : List DrainView) → rings_of new ≡ rings_of old → length new ≡ length old
rings_len new old e = sym (map_len (λ (d : DrainView). d.ring) new) ∙ (ap length e ∙ map_len (λ (d : DrainView). d.ring) old)

-- The histories of the files.

get_mapped : {X Y : Type 0} (f : X → Y) (xs : List X) (k : ℕ) (x : X) → slice_get xs k ≡ Some x → slice_get (map f xs) k ≡ Some (f x)
get_mapped f [] k x e = absurd (cc)
get_mapped f (y ∷ ys) zero x e = let same : y ≡ x = cc in ap (λ z. Some (f z)) same
get_mapped f (y ∷ ys) (suc k) x e = get_mapped f ys k x e

module _ {R : Type 0} (told : R → Option (List ℕ)) (report : ReportValue) (limit : ℕ) (plan : List (TableTask R)) (readers : List (Option R)) (same : map (λ (task : TableTask R). task.reader) plan ≡ readers) where
  -- The readers from place n on.
  abbrev AreFrom : ℕ → List (Option R) → Type 0
  AreFrom n rs = (k : ℕ) → slice_get rs k ≡ slice_get readers (n + k)

  reader_at : (n : ℕ) (r : Option R) (rs : List (Option R)) (task : TableTask R) → AreFrom n (r ∷ rs) → slice_get plan n ≡ Some task → task.reader ≡ r
  reader_at n r rs task are at =
      let planned : slice_get readers n ≡ Some task.reader = subst (λ (l : List (Option R)). slice_get l n ≡ Some task.reader) same (get_mapped (λ (j : TableTask R). j.reader) plan n task at) in
      let here : Some r ≡ slice_get readers (n + 0) = are 0 in
      let n0 : n + 0 ≡ n = omega arith in
      let both : Some r ≡ Some task.reader = here ∙ (ap (λ m. slice_get readers m) n0 ∙ planned) in cc

  from_next : (n : ℕ) (r : Option R) (rs : List (Option R)) → AreFrom n (r ∷ rs) → AreFrom (n + 1) rs
  from_next n r rs are k = let e : n + suc k ≡ (n + 1) + k = omega arith in are (suc k) ∙ ap (λ m. slice_get readers m) e

  decoded_from : (n : ℕ) (hs : List (List Item)) (rs : List (Option R)) (files : List (Option (List ℕ))) → AreFrom n rs → length hs ≡ length rs → AreFilesOf told rs files
      → Each (IsTable told report limit true plan) n hs → AreDecoded n (streams_from report limit n files) hs
  decoded_from n [] [] [] are len fs each = tt
  decoded_from n [] [] (f ∷ files) are len fs each = absurd fs
  decoded_from n [] (r ∷ rs) files are len fs each = absurd (omega (arith, len))
  decoded_from n (h ∷ hs) [] files are len fs each = absurd (omega (arith, len))
  decoded_from n (h ∷ hs) (r ∷ rs) [] are len fs each = absurd fs
  decoded_from n (h ∷ hs) (r ∷ rs) (f ∷ files) are len fs each =
      let e : suc n ≡ n + 1 = omega arith in (
        each.0.kept.1 f (subst (λ (x : Option R). IsFileOf told x f) (sym (reader_at n r rs each.0.task are each.0.planned)) fs.0),
        decoded_from (n + 1) hs rs files (from_next n r rs are) (omega (arith, len)) fs.1 (subst (λ (m : ℕ). Each (IsTable told report limit true plan) m hs) e each.1),
      )

  unserved_from : (n : ℕ) (hs : List (List Item)) (rs : List (Option R)) (files : List (Option (List ℕ))) → length hs ≡ length rs → AreFilesOf told rs files
      → Each (IsTable told report limit false plan) n hs → AreUnserved n (streams_from report limit n files) hs
  unserved_from n [] [] [] len fs each = tt
  unserved_from n [] [] (f ∷ files) len fs each = absurd fs
  unserved_from n [] (r ∷ rs) files len fs each = absurd (omega (arith, len))
  unserved_from n (h ∷ hs) [] files len fs each = absurd (omega (arith, len))
  unserved_from n (h ∷ hs) (r ∷ rs) [] len fs each = absurd fs
  unserved_from n (h ∷ hs) (r ∷ rs) (f ∷ files) len fs each =
      let e : suc n ≡ n + 1 = omega arith in (
        each.0.kept.1,
        unserved_from (n + 1) hs rs files (omega (arith, len)) fs.1 (subst (λ (m : ℕ). Each (IsTable told report limit false plan) m hs) e each.1),
      )

  from_all : AreFrom 0 readers
  from_all k = let e : k ≡ 0 + k = omega arith in ap (λ m. slice_get readers m) e

  pub tables_are : (starts : ℕ) (hs : List (List Item)) (files : List (Option (List ℕ))) → length hs ≡ length readers → AreFilesOf told readers files → HasTables told report limit starts plan hs
      → AreHistories (streams report limit files) hs
  tables_are starts hs files len fs (true, none, each) = inl (decoded_from 0 hs readers files from_all len fs each)
  tables_are starts hs files len fs (false, none, each) = inr (unserved_from 0 hs readers files len fs each)

  -- The histories if no worker was to be started.
  pub tables_unserved : (starts : ℕ) (hs : List (List Item)) (files : List (Option (List ℕ))) → length hs ≡ length readers
      → AreFilesOf told readers files → HasTables told report limit starts plan hs → starts ≡ 0
      → AreUnserved 0 (streams report limit files) hs
  tables_unserved starts hs files len fs (true, none, each) nil = absurd (let no = none nil in cc)
  tables_unserved starts hs files len fs (false, none, each) nil = unserved_from 0 hs readers files len fs each

  -- Each table by itself, whatever contracts see of the other readers.
  served_from : (served : Bool) (n : ℕ) (hs : List (List Item)) → Each (IsTable told report limit served plan) n hs → Each (IsServed told report limit served readers) n hs
  served_from served n [] each = tt
  served_from served n (h ∷ hs) each = (
    record {
      reader = each.0.task.reader;
      given = subst (λ (l : List (Option R)). slice_get l n ≡ Some each.0.task.reader) same (get_mapped (λ (j : TableTask R). j.reader) plan n each.0.task each.0.planned);
      own = each.0.kept.0;
      kept = each.0.kept.1;
    },
    served_from served (suc n) hs each.1,
  )

  pub tables_served : (starts : ℕ) (hs : List (List Item)) → length hs ≡ length readers → HasTables told report limit starts plan hs → AreServed told report limit starts readers hs
  tables_served starts hs len has = (has.0, has.1, len, served_from has.0 0 hs has.2)

-- Histories that were not cut short.

cut_is : (facts : List Fact) (ending : Endings.Ending) (h : List Item) (table : ℕ) (k : TableKind) → IsFromOutside k → ending ≡ Refused (file_fault table k) → IsHistory facts ending h → IsCut h
cut_is facts ending h table k outside e is = record { before = is.before; fault = file_fault table k; outside = outside; is = is.is ∙ ap (λ (x : Endings.Ending). is.before ++ Ending x ∷ []) e }

uncut_given : (table : ℕ) (s : Stream) (facts : List Fact) (ending : Endings.Ending) (h : List Item) → IsGiven table s facts ending → IsHistory facts ending h → ¬ IsCut h → IsStream s h
uncut_given table s facts ending h (inl whole) is uncut = stream_of_whole s facts ending h whole is
uncut_given table s facts ending h (inr (inl unread)) is uncut = absurd (uncut (cut_is facts ending h table kind.Read (inl refl) unread.refused is))
uncut_given table s facts ending h (inr (inr short)) is uncut = absurd (uncut (cut_is facts ending h table kind.Memory (inr (inl refl)) short.refused is))

uncut_decoded : (i : ℕ) (ss : List Stream) (hs : List (List Item)) → AreDecoded i ss hs → AreUncut hs → AreStreams ss hs
uncut_decoded i [] [] all uncut = tt
uncut_decoded i [] (h ∷ hs) all uncut = absurd all
uncut_decoded i (s ∷ ss) [] all uncut = absurd all
uncut_decoded i (s ∷ ss) (h ∷ hs) all uncut = (uncut_given i s all.0.facts all.0.ending h all.0.given all.0.is uncut.0, uncut_decoded (i + 1) ss hs all.1 uncut.1)

uncut_unserved : (i : ℕ) (ss : List Stream) (hs : List (List Item)) → AreUnserved i ss hs → AreUncut hs → AreStreams ss hs
uncut_unserved i [] [] all uncut = tt
uncut_unserved i [] (h ∷ hs) all uncut = absurd all
uncut_unserved i (s ∷ ss) [] all uncut = absurd all
uncut_unserved i (s ∷ ss) (h ∷ hs) all uncut = absurd (uncut.0 (record { before = []; fault = file_fault i kind.NoThread; outside = inr (inr refl); is = all.0 }))

pub uncut_streams : (ss : List Stream) (hs : List (List Item)) → AreHistories ss hs → AreUncut hs → AreStreams ss hs
uncut_streams ss hs (inl decoded) uncut = uncut_decoded 0 ss hs decoded uncut
uncut_streams ss hs (inr unserved) uncut = uncut_unserved 0 ss hs unserved uncut

-- No thread.

last_or : Item → List Item → Item
last_or d [] = d
last_or d (x ∷ xs) = last_or x xs

last_is : (d : Item) (before : List Item) (x : Item) → last_or d (before ++ x ∷ []) ≡ x
unfolding last_or
last_is d [] x = refl
last_is d (y ∷ ys) x = last_is y ys x

pub same_end : (before other : List Item) (x y : Item) → before ++ x ∷ [] ≡ other ++ y ∷ [] → x ≡ y
same_end before other x y e = sym (last_is x before x) ∙ (ap (last_or x) e ∙ last_is x other y)

other_kind : (e f : Endings.Ending) (a b : TableFault) → e ≡ Refused a → f ≡ Refused b → Ending e ≡ Ending f → a ≡ b
other_kind e f a b p q same = let both : Refused a ≡ Refused b = let ends : e ≡ f = cc in sym p ∙ (ends ∙ q) in cc

not_both : (a b : TableFault) → a ≡ b → has_thread a.kind ≡ true → b.kind ≡ kind.NoThread → ⊥
not_both a b same own none = let e : true ≡ false = sym own ∙ (ap (λ (x : TableFault). has_thread x.kind) same ∙ ap has_thread none) in cc

own_end : (table : ℕ) (o : Option TableFault) (f : TableFault) → IsOwn table o → ending_of o ≡ Refused f → f.kind ≡ kind.NoThread → ⊥
own_end table None f own e none = cc
own_end table (Some a) f own e none = let same : a ≡ f = cc in not_both a f same own.0 none

outside_end : (table : ℕ) (k : TableKind) (ending : Endings.Ending) (f : TableFault) → has_thread k ≡ true → ending ≡ Refused (file_fault table k) → ending ≡ Refused f → f.kind ≡ kind.NoThread → ⊥
outside_end table k ending f own e is none = let both : Refused (file_fault table k) ≡ Refused f = sym e ∙ is in let same : file_fault table k ≡ f = cc in not_both (file_fault table k) f same own none

given_end : (table : ℕ) (s : Stream) (facts : List Fact) (ending : Endings.Ending) (f : TableFault) → IsGiven table s facts ending
    → IsOwn table s.fault → ending ≡ Refused f → f.kind ≡ kind.NoThread → ⊥
given_end table s facts ending f (inl whole) own is none = own_end table s.fault f own (sym whole.1 ∙ is) none
given_end table s facts ending f (inr (inl unread)) own is none = outside_end table kind.Read ending f refl unread.refused is none
given_end table s facts ending f (inr (inr short)) own is none = outside_end table kind.Memory ending f refl short.refused is none

ending_is : (ending : Endings.Ending) (f : TableFault) → Ending ending ≡ Ending (Refused f) → ending ≡ Refused f
ending_is ending f e = cc

decoded_threaded : (table : ℕ) (s : Stream) (h : List Item) → IsDecoded table s h → IsOwn table s.fault → ¬ IsThreadless h
decoded_threaded table s h d own t =
    given_end table s d.facts d.ending t.fault d.given own (ending_is d.ending t.fault (same_end d.is.before t.before (Ending d.ending) (Ending (Refused t.fault)) (sym d.is.is ∙ t.is))) t.none

all_threaded : (report : ReportValue) (limit n : ℕ) (hs : List (List Item)) (files : List (Option (List ℕ))) → AreDecoded n (streams_from report limit n files) hs → AreThreaded hs
all_threaded report limit n [] files all = tt
all_threaded report limit n (h ∷ hs) [] all = absurd all
all_threaded report limit n (h ∷ hs) (f ∷ files) all = (decoded_threaded n (table_stream report n limit f) h all.0 (own_table report n limit f), all_threaded report limit (n + 1) hs files all.1)

threads_of : (report : ReportValue) (limit : ℕ) (files : List (Option (List ℕ))) (hs : List (List Item))
    → AreHistories (streams report limit files) hs → AreUnserved 0 (streams report limit files) hs ⊎ AreThreaded hs
threads_of report limit files hs (inl decoded) = inr (all_threaded report limit 0 hs files decoded)
threads_of report limit files hs (inr unserved) = inl unserved

-- A run.

module _ (l : Layout) {R : Type 0} (told : R → Option (List ℕ)) (report : ReportValue) (limit starts : ℕ) (plan : List (TableTask R))
    (readers : List (Option R)) (same : map (λ (task : TableTask R). task.reader) plan ≡ readers)
    (count : length readers ≡ length report.tables) (files : List (Option (List ℕ))) (are : AreFilesOf told readers files) (old new : SinkView) where
  histories : (run : Run) → HasTables told report limit starts plan run.drains.items → IsRun l report (length report.tables) old new run → AreHistories (streams report limit files) run.drains.items
  histories run has writes = tables_are told report limit plan readers same starts run.drains.items files (writes.count ∙ sym count) are has

  pub run_histories : (r : Result Run ConvertFault) → IfOk r (λ run. HasTables told report limit starts plan run.drains.items) → Writes l report (length report.tables) old new r
      → IfOk r (λ run. AreHistories (streams report limit files) run.drains.items)
  run_histories (Ok run) has writes = histories run has writes
  run_histories (Err e) has writes = tt

  pub run_headline : (r : Result Run ConvertFault) → IfOk r (λ run. HasTables told report limit starts plan run.drains.items) → Writes l report (length report.tables) old new r
      → IfOk r (λ run. AreUncut run.drains.items → AreStreams (streams report limit files) run.drains.items × IsAnswer l report (streams report limit files) old new run.faults.items run.end)
  run_headline (Ok run) has writes = λ uncut.
      let all = uncut_streams (streams report limit files) run.drains.items (histories run has writes) uncut in
      (all, streams_answer l report (streams report limit files) run.drains.items old new run.faults.items run.end all writes.merged)
  run_headline (Err e) has writes = tt

  pub run_threads : (r : Result Run ConvertFault) → IfOk r (λ run. HasTables told report limit starts plan run.drains.items) → Writes l report (length report.tables) old new r
      → IfOk r (λ run. AreUnserved 0 (streams report limit files) run.drains.items ⊎ AreThreaded run.drains.items)
  run_threads (Ok run) has writes = threads_of report limit files run.drains.items (histories run has writes)
  run_threads (Err e) has writes = tt

  pub run_unserved : (r : Result Run ConvertFault) → IfOk r (λ run. HasTables told report limit starts plan run.drains.items) → Writes l report (length report.tables) old new r → starts ≡ 0
      → IfOk r (λ run. AreUnserved 0 (streams report limit files) run.drains.items)
  run_unserved (Ok run) has writes none = tables_unserved told report limit plan readers same starts run.drains.items files (writes.count ∙ sym count) are has none
  run_unserved (Err e) has writes none = tt

-- The run, also if contracts do not see the readers' bytes.
pub run_served : (l : Layout) {R : Type 0} (told : R → Option (List ℕ)) (report : ReportValue) (limit starts : ℕ) (plan : List (TableTask R)) (readers : List (Option R))
    → map (λ (task : TableTask R). task.reader) plan ≡ readers → length readers ≡ length report.tables → (old new : SinkView) (r : Result Run ConvertFault)
    → IfOk r (λ run. HasTables told report limit starts plan run.drains.items) → Writes l report (length report.tables) old new r
    → IfOk r (λ run. AreServed told report limit starts readers run.drains.items)
run_served l told report limit starts plan readers same count old new (Ok run) has writes =
    tables_served told report limit plan readers same starts run.drains.items (writes.count ∙ sym count) has
run_served l told report limit starts plan readers same count old new (Err e) has writes = tt
