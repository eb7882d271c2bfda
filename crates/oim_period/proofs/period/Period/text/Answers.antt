use Rattle.std.proofs.Common.{sym}
use Rattle.oim_period.specs.Table.{one_moment, two_moments, moment, span, moments}
use Rattle.oim_period.proofs.Ends.{moment_of_written}
use Rattle.oim_period.proofs.WrittenText.{period_text_is}
use Rattle.oim_period.proofs.period.Period.text.Goals as goal

pub returns-in_ok-push_moment-in-Instant-clause-written : goal.returns-in_ok-push_moment-in-Instant-clause-written
returns-in_ok-push_moment-in-Instant-clause-written c =
    let h = c.in_ok-push_moment-in-Instant.ensures in
    let e = c.in-Instant.is in
    let n = c.in_ok-text.ensures.bytes in
    rw (e, h.1, n) (one_moment h.0 _ h.2)

pub returns-in_ok-push_moment-in-Instant-clause-reads_back : goal.returns-in_ok-push_moment-in-Instant-clause-reads_back
returns-in_ok-push_moment-in-Instant-clause-reads_back c =
    let h = c.in_ok-push_moment-in-Instant.ensures in
    rw (c.in-Instant.is, h.1, c.in_ok-text.ensures.bytes) (moment h.0 _ (moment_of_written h.2))

pub returns-in_ok-push_moment-in-Duration-2-clause-written : goal.returns-in_ok-push_moment-in-Duration-2-clause-written
returns-in_ok-push_moment-in-Duration-2-clause-written c =
    let h = c.in_ok-push_moment-in-Duration.ensures in
    let m = c.in_ok-push_mark-in-Duration.ensures in
    let k = c.in_ok-push_moment-in-Duration-2.ensures in
    rw (c.in-Duration.is, k.1, m, h.1, c.in_ok-text.ensures.bytes) (two_moments h.0 k.0 _ _ h.2 k.2)

pub returns-in_ok-push_moment-in-Duration-2-clause-reads_back : goal.returns-in_ok-push_moment-in-Duration-2-clause-reads_back
returns-in_ok-push_moment-in-Duration-2-clause-reads_back c =
    let h = c.in_ok-push_moment-in-Duration.ensures in
    let m = c.in_ok-push_mark-in-Duration.ensures in
    let k = c.in_ok-push_moment-in-Duration-2.ensures in
    rw (c.in-Duration.is, k.1, m, h.1, c.in_ok-text.ensures.bytes) (span _ _ _ (moments h.0 k.0 _ _ (moment_of_written h.2) (moment_of_written k.2) c.in-Duration.span.ordered))

pub returns-in_ok-push_moment-in-Instant-clause-value : goal.returns-in_ok-push_moment-in-Instant-clause-value
returns-in_ok-push_moment-in-Instant-clause-value c = sym (period_text_is (returns-in_ok-push_moment-in-Instant-clause-written c))

pub returns-in_ok-push_moment-in-Duration-2-clause-value : goal.returns-in_ok-push_moment-in-Duration-2-clause-value
returns-in_ok-push_moment-in-Duration-2-clause-value c = sym (period_text_is (returns-in_ok-push_moment-in-Duration-2-clause-written c))
