use Rattle.std.proofs.Common.{◌≡◌, ◌++◌, ◌∙◌, sym, subst, arith, drop, take, length, length-take-le}
use Rattle.std.proofs.lemmas.List.{take_at}
use Rattle.oim_records.specs.state.Fields.{IsFirstRecord, fields_in}
use Rattle.oim_records.specs.state.KeptTexts.{KeepsFile, file_text}
use Rattle.oim_records.proofs.FieldLaws.{line-starts}
use Rattle.oim_records.proofs.PieceReads.{lines-passed, none-left, record-taken}
use Rattle.oim_records.proofs.piece_records.read_first.Goals as goal

pub returns-then-at-end-clause-read : goal.returns-then-at-end-clause-read
returns-then-at-end-clause-read c =
    let text = take c.args.end c.args.bytes.now in
    let size = length-take-le c.args.end c.args.bytes.now c.requires.end in
    let past = c.if-at-end.true in
    lines-passed text c.args.from c.line_start-at.result c.line_start-at.ensures.value ∙ none-left text c.line_start-at.result (omega arith)

pub read_record-requires-clause-starts : goal.read_record-requires-clause-starts
read_record-requires-clause-starts c =
    let text = take c.args.end c.args.bytes.now in
    let size = length-take-le c.args.end c.args.bytes.now c.requires.end in
    let before = c.if-at-end.false in
    line-starts text c.args.from c.line_start-at.result c.line_start-at.ensures.value (omega arith)

pub returns-clause-read : goal.returns-clause-read
returns-clause-read c =
    let text = take c.args.end c.args.bytes.now in
    let now = c.read_record.new.text in
    let rest = drop c.args.end c.args.bytes.now in
    let ranges = c.read_record.new.ranges.items in
    let next = c.in_ok-next.next in
    let read = c.in_ok-next.ensures in
    let inside = read.within in
    let size : length text ≡ c.args.end = length-take-le c.args.end c.args.bytes.now c.requires.end in
    let long : length now ≡ length text = c.read_record.auto.text in
    let taken = record-taken text now rest ranges c.args.from c.line_start-at.result next c.line_start-at.ensures.value read.first read.behind (omega (arith, inside.1)) inside.2 in
    subst (λ xs. IsFirstRecord (drop c.args.from text) (fields_in (now ++ rest) ranges) (drop next xs)) (sym (take_at now rest c.args.end (long ∙ size))) taken

pub returns-clause-behind : goal.returns-clause-behind
returns-clause-behind c =
    let text = take c.args.end c.args.bytes.now in
    let now = c.read_record.new.text in
    let rest = drop c.args.end c.args.bytes.now in
    let next = c.in_ok-next.next in
    let read = c.in_ok-next.ensures in
    let inside = read.within in
    let low = c.line_start-at.ensures.value in
    let size : length text ≡ c.args.end = length-take-le c.args.end c.args.bytes.now c.requires.end in
    let long : length now ≡ length text = c.read_record.auto.text in
    (omega (arith, inside.1), subst (λ xs. drop next xs ≡ drop next text) (sym (take_at now rest c.args.end (long ∙ size))) read.behind)

pub returns-clause-kept : goal.returns-clause-kept
returns-clause-kept c =
    let text = take c.args.end c.args.bytes.now in
    let now = c.read_record.new.text in
    let rest = drop c.args.end c.args.bytes.now in
    let size : length text ≡ c.args.end = length-take-le c.args.end c.args.bytes.now c.requires.end in
    let long : length now ≡ length text = c.read_record.auto.text in
    subst (λ xs. KeepsFile (file_text c.args.kept.now text) (file_text c.read_record.new.kept xs)) (sym (take_at now rest c.args.end (long ∙ size))) c.in_ok-next.ensures.kept
