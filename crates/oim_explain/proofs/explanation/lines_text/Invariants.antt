use Rattle.std.proofs.Common.{◌≡◌, ◌++◌, drop, string_bytes}
use Rattle.oim_explain.specs.Explanations.{lines_with}
use Rattle.oim_explain.proofs.explanation.lines_text.Given as goal

abbrev pub invariant-loop-text : goal.invariant-loop-text
invariant-loop-text l = string_bytes l.lines ++ lines_with l.before (drop l.text-index l.texts) ≡ lines_with l.before l.texts
