use Rattle.std.proofs.Common.{ap, ◌∙◌}
use Rattle.oim_resolve.specs.Facts.{is_numeric}
use Rattle.oim_fast.specs.state.FrameTexts.{FrameValue}
use Rattle.oim_fast.proofs.ValueFormLaws.{form_number}
use Rattle.oim_fast.proofs.frame.frame_text.FrameText.is_number.Goals as goal

pub returns : goal.returns
returns c = c.is_number.ensures ∙ form_number _ _ c.self.invariant.form ∙ ap (λ (t : FrameValue). is_numeric t.kind) c.self.view_is
