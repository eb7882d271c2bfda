use Rattle.std.proofs.Common.{◌≡◌, false, sym, ap, ◌∙◌}
use Rattle.oim_resolve.specs.Facts.{is_dropped}
use Rattle.oim_fast.specs.state.FrameTexts.{FrameValue, with_value}
use Rattle.oim_fast.specs.declared.frame.part.PartValue.TheVariants as part
use Rattle.oim_fast.proofs.FrameTextLaws.{filled_more, seen, value_more, with_it}
use Rattle.oim_fast.proofs.frame.frame_text.FrameText.add.Goals as goal

pub invariant_of-self-in-Text : goal.invariant_of-self-in-Text
invariant_of-self-in-Text c =
    let a = c.self.inside in
    filled_more a.kind a.form a.text.items a.lead a.opening a.body a.runs.items c.self.invariant c.as_slice.result.now _ c.in_ok-put-in-Text.ensures.items

pub returns-in_ok-put-in-Text-clause-part : goal.returns-in_ok-put-in-Text-clause-part
returns-in_ok-put-in-Text-clause-part c = λ so.
    let a = c.self.inside in
    let p = c.args.part.now in
    let kept : is_dropped c.args.self.now.kind p.role ≡ false = sym (c.is_dropped.ensures ∙ ap (λ (t : FrameValue). is_dropped t.kind p.role) c.self.view_is) ∙ c.if-is_dropped.false in
    with_it c.args.self.now _ p part.Text kept c.in-Text.is
    (ap (λ t. seen a.kind a.decimals a.lead a.opening a.body t a.runs.items) c.in_ok-put-in-Text.ensures.items
    ∙ value_more a.text.items a.lead a.opening a.body a.runs.items c.self.invariant.laid a.kind a.decimals c.as_slice.result.now
    ∙ ap (λ t. with_value t c.as_slice.result.now part.Text) c.self.view_is ∙ ap (λ b. with_value c.args.self.now b part.Text) c.as_slice.ensures.value)

pub returns-in_ok-add_reference-in-Reference-clause-part : goal.returns-in_ok-add_reference-in-Reference-clause-part
returns-in_ok-add_reference-in-Reference-clause-part c = λ so.
    let p = c.args.part.now in
    let kept : is_dropped c.args.self.now.kind p.role ≡ false = sym (c.is_dropped.ensures ∙ ap (λ (t : FrameValue). is_dropped t.kind p.role) c.self.view_is) ∙ c.if-is_dropped.false in
    with_it c.args.self.now _ p (part.Reference c.in-Reference.reference) kept c.in-Reference.is
    (c.in_ok-add_reference-in-Reference.ensures ∙ ap (λ b. with_value c.args.self.now b (part.Reference c.in-Reference.reference)) c.as_slice-in-Reference.ensures.value)
