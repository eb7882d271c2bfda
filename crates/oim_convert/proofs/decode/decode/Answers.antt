use Rattle.std.specs.Prelude.{◌≡◌, ◌∷◌, ◌++◌, [], List, ℕ, Option, Some, true, IfSome}
use Rattle.std.proofs.Common.{ap, sym, ◌∙◌, subst}
use Rattle.oim_ring.specs.Ends.{ClosedView}
use Rattle.oim_ring.specs.Items.{blocks_only}
use Rattle.oim_ring.specs.declared.item.Item.TheVariants as items
use Rattle.oim_rows.specs.Streams.{table_stream}
use Rattle.oim_records.specs.Reads.{IsFileOf}
use Rattle.oim_convert.specs.Histories.{IsDecoded, IsGiven, IsOfTable, facts_in}
use Rattle.oim_convert.proofs.SentFacts.{file_decoded, if_some_both, no_file_decoded}
use Rattle.oim_convert.proofs.TableEndings.{numbered_end, numbered_given, sent_own}
use Rattle.oim_convert.proofs.decode.decode.Goals as goal
use Rattle.oim_convert.proofs.decode.decode.Goals.{in-None, in-Some}

pub returns-clause-own : goal.returns-clause-own
returns-clause-own g c =
    let table = c.args.task.table in let feed = c.match-reader.feed in let n = c.numbered.result in
    let Own : ClosedView → Type 0 = λ closed. IsOfTable table closed.sent in
    if_some_both c.close_waiting.result (λ closed. closed.sent ≡ feed.sent ++ items.Ending n ∷ []) (λ _. blocks_only feed.sent ≡ true) Own
    (λ closed sent only. sent_own table feed.sent closed.sent n c.numbered.ensures.own only sent) c.close_waiting.ensures.sent c.close_waiting.ensures.blocks

pub returns-clause-history : goal.returns-clause-history
returns-clause-history g c =
    let told = g.R.Read.remaining in let report = c.args.report.now in let table = c.args.task.table in let limit = c.args.limits.rows in
    let feed = c.match-reader.feed in let e = c.match-reader.ending in let n = c.numbered.result in let same = c.numbered.ensures.same in
    let Kept : ClosedView → Type 0 = λ closed. (file : Option (List ℕ)) → IsFileOf told c.args.task.reader file → IsDecoded table (table_stream report table limit file) closed.sent in
    if_some_both c.close_waiting.result (λ closed. closed.sent ≡ feed.sent ++ items.Ending n ∷ []) (λ _. blocks_only feed.sent ≡ true) Kept
    (λ closed sent only. elim c.match-reader.branch [
      | in-None w ↦ λ file is. no_file_decoded told file report table limit feed.sent closed.sent n (subst (λ r.
          IsFileOf told r file) w.in-None.is is) (ap (λ f. f.sent) w.feed-is ∙ c.requires.fresh)
          (numbered_end report table limit e n same (w.ending-is ∙ w.without_file-ending.ensures limit)) only sent
      | in-Some w ↦ λ file is. file_decoded told w.in-Some.reader file report table limit feed.sent closed.sent n (subst (λ r. IsFileOf told r file) w.in-Some.is is)
          (numbered_given report table limit e n same (told w.in-Some.reader) (facts_in feed.sent)
          (subst (λ x. IfSome (told w.in-Some.reader) (λ bytes. IsGiven table (table_stream report table limit (Some bytes)) (facts_in feed.sent) x))
          (sym w.ending-is) (subst (λ x. IfSome (told w.in-Some.reader) (λ bytes.
          IsGiven table (table_stream report table limit (Some bytes)) (facts_in x) w.send_table-ending.result))
          (sym (ap (λ f. f.sent) w.feed-is)) w.send_table-ending.ensures.given))) only sent
    ]) c.close_waiting.ensures.sent c.close_waiting.ensures.blocks
