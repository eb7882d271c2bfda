use Rattle.std.proofs.Common.{rules, ◌≡◌, ◌<◌}
use Rattle.csv.specs.Records.{fields_of}
use Rattle.oim_entries.proofs.EntryFacts.{gives_all, gives_bad, gives_more, gives_too_many}
use Rattle.oim_entries.proofs.entries.read_entries.Goals as goal

pub returns-then-not-branch : goal.returns-then-not-branch
returns-then-not-branch g c =
    let takes = rw c.if-not-branch.true at c.in_ok-read.ensures in
    gives_all (g.E.Entries.file c.args.entries.now) c.args.records.now c.loop-before.records c.read.new.self c.loop-before.so_far (fields_of c.read.new.row)
    c.loop-before.before c.loop-before.invariant takes

pub returns-in_err-so_far : goal.returns-in_err-so_far
returns-in_err-so_far g c =
    let f = g.E.Entries.file c.args.entries.now in
    let takes = rw c.if-not-branch.false at c.in_ok-read.ensures in
    let less : c.loop-before.before < f.limit = search rules in
    let same : c.from_residual-in_err-so_far.result ≡ c.after.result = search rules in
    rw (same, c.in_err-so_far.was)
    (gives_bad f c.args.records.now c.loop-before.records c.read.new.self c.loop-before.so_far (fields_of c.read.new.row)
    c.loop-before.before c.after.result c.in_err-so_far.field-0.0 c.in_err-so_far.was less c.loop-before.invariant takes c.after.ensures)

pub loop-before-preserved : goal.loop-before-preserved
loop-before-preserved g c =
    let f = g.E.Entries.file c.args.entries.now in
    let takes = rw c.if-not-branch.false at c.in_ok-read.ensures in
    let less : c.loop-before.before < f.limit = search rules in
    gives_more f c.args.records.now c.loop-before.records c.read.new.self c.loop-before.so_far (fields_of c.read.new.row)
    c.loop-before.before c.after.result c.in_ok-so_far.so_far c.in_ok-so_far.was less c.loop-before.invariant takes c.after.ensures

pub returns-then-branch : goal.returns-then-branch
returns-then-branch g c =
    let f = g.E.Entries.file c.args.entries.now in
    let takes = rw c.if-branch.true at c.in_ok-read-2.ensures in
    let end : c.loop-before.before ≡ f.limit = search rules in
    rw (c.of_whole.ensures, c.limit-limit.ensures)
    (gives_too_many f c.args.records.now c.loop-before.records c.read-2.new.self c.loop-before.so_far (fields_of c.read-2.new.row)
    c.loop-before.before end c.loop-before.invariant takes)

pub returns : goal.returns
returns g c =
    let takes = rw c.if-branch.false at c.in_ok-read-2.ensures in
    gives_all (g.E.Entries.file c.args.entries.now) c.args.records.now c.loop-before.records c.read-2.new.self c.loop-before.so_far (fields_of c.read-2.new.row)
    c.loop-before.before c.loop-before.invariant takes
