use Rattle.std.proofs.Common.{◌≡◌, ◌<◌, ◌-◌, ◌++◌, ℕ, List, [], length, drop, sym, ap, subst, ◌∙◌, arith, append_assoc, append-nil}
use Rattle.std.specs.Prelude.{slice_range}
use Rattle.std.proofs.lemmas.List.{length-take}
use Rattle.oim_fast.specs.state.Pieces.{behind}
use Rattle.oim_text.specs.Places.{Placed}
use Rattle.oim_fast.specs.state.GivenTexts.{given_by}
use Rattle.oim_text.proofs.PlacedBytes.{Placed-then}
use Rattle.oim_fast.proofs.WriteLaws.{answered, behind_some, none_given, range_split}
use Rattle.oim_fast.proofs.frame.write.write_run.Goals as goal

pub returns-then-size-eq0 : goal.returns-then-size-eq0
returns-then-size-eq0 c =
    let text = c.args.text.now.items in
    let run = c.args.run in
    let a = c.at-answer.result.now in
    let given = answered c.args.references.now run.reference a c.requires.reference c.at-answer.ensures c.if-not-answer.false in
    let none : given_by c.args.references.now run.reference ≡ [] = sym given.json ∙ none_given a.json.items (omega (arith, c.len-size.ensures)) in
    let front = slice_range text c.args.from run.alone in
    let same : front ++ behind (slice_range text run.alone run.named) (given_by c.args.references.now run.reference) ≡ front =
    ap (λ g. front ++ behind (slice_range text run.alone run.named) g) none ∙ append-nil front in
    let done = c.copy_range.ensures in
    record {
      sound = given.sound;
      bytes = subst (λ (q : List ℕ). Placed c.args.memory.now c.copy_range.new.memory c.args.at q c.copy_range.result) (sym same) done;
      few = omega (arith, done.moved, length-take (run.alone - c.args.from) (drop c.args.from text));
    }

pub returns : goal.returns
returns c =
    let text = c.args.text.now.items in
    let run = c.args.run in
    let a = c.at-answer.result.now in
    let given = answered c.args.references.now run.reference a c.requires.reference c.at-answer.ensures c.if-not-answer.false in
    let front = slice_range text c.args.from run.alone in
    let name = slice_range text run.alone run.named in
    let both = Placed-then c.copy_range-named.ensures c.copy_some.ensures in
    let some : 0 < length a.json.items = omega (arith, c.len-size.ensures) in
    let same : slice_range text c.args.from run.named ++ a.json.items ≡ front ++ behind name (given_by c.args.references.now run.reference) =
    ap (λ q. q ++ a.json.items) (range_split text c.args.from run.alone run.named c.requires.range.0 c.requires.range.1) ∙ append_assoc front name a.json.items
    ∙ ap (λ q. front ++ q) (sym (behind_some name a.json.items some) ∙ ap (behind name) given.json) in
    record {
      sound = given.sound;
      bytes = subst (λ (q : List ℕ). Placed c.args.memory.now c.copy_some.new.memory c.args.at q c.copy_some.result) same both;
      few = omega (arith, c.copy_range-named.ensures.moved, c.copy_some.ensures.moved, c.len-size.ensures, length-take (run.named - c.args.from) (drop c.args.from text));
    }
