use Rattle.std.proofs.Common.{◌-◌, not, refl, cond, sym, ap, subst, ◌∙◌, take}
use Rattle.std.specs.Str.{IsUtf8}
use Rattle.std.proofs.lemmas.Bool.{eq-eqb, ne_eqb}
use Rattle.oim_records.specs.state.Bytes.{begins_pair}
use Rattle.oim_records.proofs.BlockBits.{marked}
use Rattle.oim_records.proofs.TextBlocks.{marked-whole, none-high}
use Rattle.oim_records.proofs.WordBits.{set-highest}
use Rattle.oim_records.proofs.text_block.text_len.Goals as goal

pub returns-then-high-eq0-clause-whole : goal.returns-then-high-eq0-clause-whole
returns-then-high-eq0-clause-whole c = none-high c.args.v c.high_marks-high.result c.fits-v.0 c.high_marks-high.ensures c.if-high-eq0.true

pub returns-then-firsts-ne0-clause-whole : goal.returns-then-firsts-ne0-clause-whole
returns-then-firsts-ne0-clause-whole c =
    let v = c.args.v in
    let firsts = c.first_marks-firsts in
    let later = c.later_marks-later in
    let last = sym (marked begins_pair refl v firsts.result 63 firsts.ensures) ∙ sym (set-highest firsts.result firsts.type_inv) ∙ ap not (ne_eqb _ _ c.if-firsts-ne0.true) in
    subst (λ b. IsUtf8 (take (64 - cond b 1 0) v)) last
    (marked-whole v c.high_marks-high.result firsts.result later.result c.fits-v.0 c.high_marks-high.ensures firsts.ensures later.ensures c.if-firsts-later.false c.if-firsts-later-2.false)

pub returns-else-firsts-ne0-clause-whole : goal.returns-else-firsts-ne0-clause-whole
returns-else-firsts-ne0-clause-whole c =
    let v = c.args.v in
    let firsts = c.first_marks-firsts in
    let later = c.later_marks-later in
    let last = sym (marked begins_pair refl v firsts.result 63 firsts.ensures) ∙ sym (set-highest firsts.result firsts.type_inv) ∙ ap not (eq-eqb _ _ c.if-firsts-ne0.false) in
    subst (λ b. IsUtf8 (take (64 - cond b 1 0) v)) last
    (marked-whole v c.high_marks-high.result firsts.result later.result c.fits-v.0 c.high_marks-high.ensures firsts.ensures later.ensures c.if-firsts-later.false c.if-firsts-later-2.false)
