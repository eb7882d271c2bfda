use Rattle.std.proofs.Common.{rules, arith, ap, sym, ◌∙◌, length, cond, Some, slice_get}
use Rattle.oim_crew.proofs.ClaimSteps.{draws, on_top, same_item, drawn_one}
use Rattle.oim_crew.proofs.claims.Claims.draw.Goals as goal

pub fetch_add-number-requires : goal.fetch_add-number-requires
fetch_add-number-requires g c =
    let none_yet = c.seat.invariant.1 ∙ ap (λ b. cond b 1 0) c.if-seat.false in let one = c.seat.invariant.0 in (
      search rules,
      search rules,
      draws _ _ _ _ _ (ap (λ d. d.claims.items) c.seat.view_is ∙ ap (λ d. d.items) c.requires ∙ sym (ap (λ d. d.items) c.self.view_is)) (omega arith),
    )

pub exchange-requires : goal.exchange-requires
exchange-requires g c =
    let mine = ap (λ d. d.claims.items) c.seat.view_is ∙ ap (λ d. d.items) c.requires ∙ sym (ap (λ d. d.items) c.self.view_is) in
    let same = ap (λ l. length l) mine in
    let told = c.fetch_add-number.ensures.2.0 (omega (arith, same)) in
    (search rules, (_, on_top _ _ _ (ap (λ m. m.1) told.3)))

pub returns : goal.returns
returns g c =
    let mine = ap (λ d. d.claims.items) c.seat.view_is ∙ ap (λ d. d.items) c.requires ∙ sym (ap (λ d. d.items) c.self.view_is) in
    let same = ap (λ l. length l) mine in
    let told = c.fetch_add-number.ensures.2.0 (omega (arith, same)) in
    let now = c.seat.view_is in
    let item = same_item _ _ _ _ _ _ _ _ (ap (λ m. m.1) told.3) c.exchange.ensures.2 c.unwrap-item.ensures in (
      sym (ap (λ d. d.finished) now) ∙ c.if-seat.false,
      ap (λ d. slice_get d.claims.items c.fetch_add-number.result) (sym now) ∙ told.1 ∙ ap (λ x. Some x) item,
      omega (arith, ap (λ d. length d.numbers) now, ap (λ d. length d.claims.items) now),
      drawn_one _ _ _ _ _ _ _ now (c.exchange.ensures.0 ∙ c.fetch_add-number.ensures.0) (ap (λ m. m.0) c.exchange.ensures.3 ∙ ap (λ m. m.0) told.3),
    )
