use Rattle.std.proofs.Common.{ℕ, ◌≡◌, ◌≤◌, ◌∙◌, [], List, Ok, Some, ap, arith, length, refl, sym, drop, ◌++◌}
use Rattle.oim_resolve.specs.FactParts.{FactParts as Fact}
use Rattle.oim_rows.specs.Header.{file_fault}
use Rattle.oim_rows.specs.Streams.{answer_of}
use Rattle.oim_rows.specs.declared.fault.TableKind.TheVariants as kind
use Rattle.oim_decode.specs.Blocks.{BlocksLeft, GivesFound}
use Rattle.oim_decode.specs.state.Blocks.{blocks_left, end_or_left}
use Rattle.oim_decode.specs.state.RowParts.{with_rest}
use Rattle.oim_decode.proofs.Advances.{behind_lost, block_given, lost_given, memory_given, rest_cut, rest_dropped, rest_longer}
use Rattle.oim_decode.proofs.Settled.{behind_memory, found_block, found_short, is_lost, moved, not_answered, some_wait}
use Rattle.oim_decode.proofs.table.table_blocks.TableBlocks.next_block.Goals as goal

-- MEMORY RAN OUT BEFORE A ROW WAS READ

pub returns-in-Err-clause-next : goal.returns-in-Err-clause-next
returns-in-Err-clause-next g c =
    let a = c.self.inside in
    let new = c.lose.new.self in
    let lost = is_lost (blocks_left c.fill.new.rows c.fill.new.facts c.fill.new.settled) c.lose.new.self c.in-Err.fault c.lose.ensures.settled in
    rw (← c.self.view_is)
    (rw c.lose.ensures.answer
    (lost_given a.rows.header.table (end_or_left a.settled a.rows.left) (with_rest a.facts a.rows.rest) new.pending new.left c.in-Err.fault c.in-Err.ensures.fault
    lost.none lost.over))

pub returns-in-Err-clause-again : goal.returns-in-Err-clause-again
returns-in-Err-clause-again g c =
    let old : BlocksLeft = c.args.self.now in
    not_answered old.answered (λ kept. old.pending ≡ [] → (c.lose.result ≡ answer_of kept) × (c.lose.new.self ≡ old))
    (λ some. let no = (c.in-Err.ensures.again (rw (← c.self.view_is) at some)).0 in cc no)

pub returns-in-Err-clause-found : goal.returns-in-Err-clause-found
returns-in-Err-clause-found g c =
    let old : BlocksLeft = c.args.self.now in
    let new = c.lose.new.self in
    not_answered old.answered (λ found. GivesFound old.table old.pending found c.lose.result new.answered × (new.given ≡ old.given) × (new.unread ≡ old.unread))
    (λ some. let no = (c.in-Err.ensures.again (rw (← c.self.view_is) at some)).0 in cc no)

pub returns-in-Err-clause-behind : goal.returns-in-Err-clause-behind
returns-in-Err-clause-behind g c =
    let a = c.self.inside in
    let new = c.lose.new.self in
    let lost = is_lost (blocks_left c.fill.new.rows c.fill.new.facts c.fill.new.settled) c.lose.new.self c.in-Err.fault c.lose.ensures.settled in
    rw (← c.self.view_is)
    (rw lost.answered
    (λ _. behind_lost a.rows.header.table a.rows.given new.given a.rows.unread new.unread c.in-Err.fault c.in-Err.ensures.fault
    (lost.given ∙ c.in-Err.ensures.lost.0) (lost.unread ∙ c.in-Err.ensures.lost.1)))

pub returns-in-Err-clause-counts : goal.returns-in-Err-clause-counts
returns-in-Err-clause-counts g c =
    let lost = is_lost (blocks_left c.fill.new.rows c.fill.new.facts c.fill.new.settled) c.lose.new.self c.in-Err.fault c.lose.ensures.settled in
    rw (← c.self.view_is) (omega (arith, lost.given, c.fill.ensures.counts.0), omega (arith, lost.given, lost.limit, c.fill.ensures.counts.1))

-- A BLOCK

pub returns-in-Ok-take_block-clause-next : goal.returns-in-Ok-take_block-clause-next
returns-in-Ok-take_block-clause-next g c =
    let a = c.self.inside in
    let rows = c.fill.new.rows in
    let waits = c.fill.new.facts in
    let n = c.share.result in
    let cut : with_rest waits rows.rest ≡ c.in-Ok-take_block.block ++ with_rest c.take_block.new.self rows.rest =
    rest_cut n waits rows.rest ∙ ap (λ (fs : List Fact). fs ++ with_rest (drop n waits) rows.rest) (sym c.in-Ok-take_block.ensures.block)
    ∙ ap (λ (fs : List Fact). c.in-Ok-take_block.block ++ with_rest fs rows.rest) (sym c.in-Ok-take_block.ensures.left) in
    rw (← c.self.view_is)
    (block_given a.rows.header.table (end_or_left a.settled a.rows.left) (with_rest a.facts a.rows.rest) (with_rest waits rows.rest) c.in-Ok-take_block.block
    (with_rest c.take_block.new.self rows.rest) (end_or_left c.fill.new.settled rows.left) c.in-Ok.ensures.reads cut)

pub returns-in-Ok-take_block-clause-again : goal.returns-in-Ok-take_block-clause-again
returns-in-Ok-take_block-clause-again g c =
    let a = c.self.inside in
    let old = blocks_left a.rows a.facts a.settled in
    let filled = blocks_left c.fill.new.rows c.fill.new.facts c.fill.new.settled in
    let new = blocks_left c.fill.new.rows c.take_block.new.self c.fill.new.settled in
    let some : 1 ≤ length filled.pending = omega (arith, c.count-count.ensures, c.if-count-eq0.false, rest_longer c.fill.new.facts c.fill.new.rows.rest) in
    rw (← c.self.view_is)
    (some_wait old filled (λ kept. (Ok (Some c.in-Ok-take_block.block) ≡ answer_of kept) × (new ≡ old)) (λ settled. (c.fill.ensures.again settled).1) some)

pub returns-in-Ok-take_block-clause-found : goal.returns-in-Ok-take_block-clause-found
returns-in-Ok-take_block-clause-found g c =
    let a = c.self.inside in
    let old = blocks_left a.rows a.facts a.settled in
    let filled = blocks_left c.fill.new.rows c.fill.new.facts c.fill.new.settled in
    let new = blocks_left c.fill.new.rows c.take_block.new.self c.fill.new.settled in
    rw (← c.self.view_is) (found_block old filled new (λ settled. (c.fill.ensures.again settled).1) refl refl c.in-Ok-take_block.block refl)

pub returns-in-Ok-take_block-clause-behind : goal.returns-in-Ok-take_block-clause-behind
returns-in-Ok-take_block-clause-behind g c = rw (← c.self.view_is) c.in-Ok.ensures.behind

pub returns-in-Ok-take_block-clause-moves : goal.returns-in-Ok-take_block-clause-moves
returns-in-Ok-take_block-clause-moves g c =
    let a = c.self.inside in
    let rows = c.fill.new.rows in
    let waits = c.fill.new.facts in
    let n = c.share.result in
    let there : n ≤ length waits = omega (arith, c.share.ensures.there, c.count-count.ensures) in
    let left = ap (λ (fs : List Fact). with_rest fs rows.rest) c.in-Ok-take_block.ensures.left ∙ rest_dropped n waits rows.rest there in
    rw (← c.self.view_is)
    (moved a.rows.given rows.given n (with_rest a.facts a.rows.rest) (with_rest waits rows.rest) (with_rest c.take_block.new.self rows.rest) c.in-Ok.ensures.moves
    c.share.ensures.some (omega (arith, there, rest_longer waits rows.rest)) left)

-- MEMORY RAN OUT FOR A BLOCK

pub returns-in-Err-take_block-clause-next : goal.returns-in-Err-take_block-clause-next
returns-in-Err-take_block-clause-next g c =
    let a = c.self.inside in
    let rows = c.fill.new.rows in
    let new = c.lose-in-Err-take_block.new.self in
    let lost = is_lost (blocks_left c.fill.new.rows c.take_block.new.self c.fill.new.settled) c.lose-in-Err-take_block.new.self c.whole_fault-fault.result c.lose-in-Err-take_block.ensures.settled in
    let short = c.whole_fault-fault.ensures ∙ ap (λ (t : ℕ). file_fault t kind.Memory) (c.table.ensures ∙ c.fill.ensures.same.0) in
    rw (← c.self.view_is)
    (rw c.lose-in-Err-take_block.ensures.answer
    (memory_given a.rows.header.table (end_or_left a.settled a.rows.left) (with_rest a.facts a.rows.rest) (with_rest c.fill.new.facts rows.rest) new.pending
    (end_or_left c.fill.new.settled rows.left) new.left c.whole_fault-fault.result c.in-Ok.ensures.reads lost.none short
    lost.over))

pub returns-in-Err-take_block-clause-again : goal.returns-in-Err-take_block-clause-again
returns-in-Err-take_block-clause-again g c =
    let a = c.self.inside in
    let old = blocks_left a.rows a.facts a.settled in
    let filled = blocks_left c.fill.new.rows c.fill.new.facts c.fill.new.settled in
    let lose = c.lose-in-Err-take_block in
    let some : 1 ≤ length filled.pending = omega (arith, c.count-count.ensures, c.if-count-eq0.false, rest_longer c.fill.new.facts c.fill.new.rows.rest) in
    rw (← c.self.view_is)
    (some_wait old filled (λ kept. (lose.result ≡ answer_of kept) × (lose.new.self ≡ old)) (λ settled. (c.fill.ensures.again settled).1) some)

pub returns-in-Err-take_block-clause-found : goal.returns-in-Err-take_block-clause-found
returns-in-Err-take_block-clause-found g c =
    let a = c.self.inside in
    let old = blocks_left a.rows a.facts a.settled in
    let filled = blocks_left c.fill.new.rows c.fill.new.facts c.fill.new.settled in
    let lost = is_lost (blocks_left c.fill.new.rows c.take_block.new.self c.fill.new.settled) c.lose-in-Err-take_block.new.self c.whole_fault-fault.result c.lose-in-Err-take_block.ensures.settled in
    let short = c.whole_fault-fault.ensures ∙ ap (λ (t : ℕ). file_fault t kind.Memory) (c.table.ensures ∙ c.fill.ensures.same.0) in
    let some : 1 ≤ length filled.pending = omega (arith, c.count-count.ensures, c.if-count-eq0.false, rest_longer c.fill.new.facts c.fill.new.rows.rest) in
    rw (← c.self.view_is)
    (rw c.lose-in-Err-take_block.ensures.answer
    (found_short old filled c.lose-in-Err-take_block.new.self (λ settled. (c.fill.ensures.again settled).1) lost.given lost.unread
    c.whole_fault-fault.result short some))

pub returns-in-Err-take_block-clause-behind : goal.returns-in-Err-take_block-clause-behind
returns-in-Err-take_block-clause-behind g c =
    let a = c.self.inside in
    let old = blocks_left a.rows a.facts a.settled in
    let filled = blocks_left c.fill.new.rows c.fill.new.facts c.fill.new.settled in
    let lost = is_lost (blocks_left c.fill.new.rows c.take_block.new.self c.fill.new.settled) c.lose-in-Err-take_block.new.self c.whole_fault-fault.result c.lose-in-Err-take_block.ensures.settled in
    let short = c.whole_fault-fault.ensures ∙ ap (λ (t : ℕ). file_fault t kind.Memory) (c.table.ensures ∙ c.fill.ensures.same.0) in
    rw (← c.self.view_is)
    (λ none. behind_memory old filled c.lose-in-Err-take_block.new.self (λ settled. (c.fill.ensures.again settled).1) lost.given lost.unread
    c.whole_fault-fault.result short lost.answered (c.in-Ok.ensures.behind none))

pub returns-in-Err-take_block-clause-counts : goal.returns-in-Err-take_block-clause-counts
returns-in-Err-take_block-clause-counts g c =
    let lost = is_lost (blocks_left c.fill.new.rows c.take_block.new.self c.fill.new.settled) c.lose-in-Err-take_block.new.self c.whole_fault-fault.result c.lose-in-Err-take_block.ensures.settled in
    rw (← c.self.view_is) (omega (arith, lost.given, c.fill.ensures.counts.0), omega (arith, lost.given, lost.limit, c.fill.ensures.counts.1))

pub returns-in-Err-take_block-clause-same : goal.returns-in-Err-take_block-clause-same
returns-in-Err-take_block-clause-same g c =
    let lost = is_lost (blocks_left c.fill.new.rows c.take_block.new.self c.fill.new.settled) c.lose-in-Err-take_block.new.self c.whole_fault-fault.result c.lose-in-Err-take_block.ensures.settled in
    rw (← c.self.view_is)
    (lost.table ∙ c.fill.ensures.same.0, lost.limit ∙ c.fill.ensures.same.1)
