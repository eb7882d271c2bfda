use Rattle.std.proofs.Common.{rules, ap, ◌∙◌}
use Rattle.oim_crew.proofs.ViewShares.{sheds, gathers}
use Rattle.oim_crew.proofs.seats.gather.Goals as goal

pub split_seat-rested-requires : goal.split_seat-rested-requires
split_seat-rested-requires g c = (ap (λ d. d.claims.id) c.into_token-token.ensures.view ∙ c.requires.place.1, c.requires.place.2, sheds _ _ _ _)

pub join_seat-requires : goal.join_seat-requires
join_seat-requires g c =
    let id = c.split_seat-rested.ensures.3 ∙ ap (λ d. d.claims.id) c.into_token-token.ensures.view ∙ c.requires.place.1 in
    (search rules, id, search rules, search rules, gathers _ _ _ _ _ _ c.requires.share)
