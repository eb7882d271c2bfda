use Rattle.std.proofs.Common.{sym, ◌∙◌, arith, subst, length, ◌≡◌, true}
use Rattle.std.specs.List.{list_all}
use Rattle.oim_crew.specs.Shifts.{IsShift, IsStarted}
use Rattle.oim_crew.proofs.StoppedWorkers.{none_of, stopped_all, stopped_last, stopped_shifts}
use Rattle.oim_crew.proofs.LongerLists.{all-more}
use Rattle.oim_crew.proofs.crew.spare_unless_started.Goals as goal

pub work-served-requires-clause-station : goal.work-served-requires-clause-station
work-served-requires-clause-station g c =
    let claims = c.args.site.now.claims.now in
    let idle = sym c.all_idle.ensures ∙ c.if-not-all_idle.false in
    let idle' = subst (λ l. list_all (λ s. s.stopped) l ≡ true) c.as_slice.ensures.value idle in
    (stopped_last claims c.args.room.now.shifts.items c.pop.new.self.items c.in-Some.shift c.in-Some.ensures.items
    (stopped_all claims (g.S.Serve.gives c.args.site.now.server.now c.args.site.now.shared.now) c.args.room.now.shifts.items c.requires.under_way.1 idle')).1.0

pub returns-clause-under_way : goal.returns-clause-under_way
returns-clause-under_way g c =
    let claims = c.args.site.now.claims.now in
    let gives = g.S.Serve.gives c.args.site.now.spare.now c.args.site.now.shared.now in
    let idle = sym c.all_idle.ensures ∙ c.if-not-all_idle.false in
    let idle' = subst (λ l. list_all (λ s. s.stopped) l ≡ true) c.as_slice.ensures.value idle in
    let left = (stopped_last claims c.args.room.now.shifts.items c.pop.new.self.items c.in-Some.shift c.in-Some.ensures.items
    (stopped_all claims (g.S.Serve.gives c.args.site.now.server.now c.args.site.now.shared.now) c.args.room.now.shifts.items c.requires.under_way.1 idle')).0 in
    let none : length c.args.room.now.started.items ≡ 0 = omega (arith, c.if-len-gt0.false, c.len.ensures, c.args.room.now.started.ok.0) in (
      none_of (IsStarted c.args.site.now.spare.now c.args.site.now.shared.now claims) c.args.room.now.started.items none,
      all-more (IsShift gives claims) c.pop.new.self.items c.push_reserved.new.self.items c.work-served.result c.push_reserved.ensures.items
          (stopped_shifts claims gives c.pop.new.self.items left) c.work-served.ensures,
    )
