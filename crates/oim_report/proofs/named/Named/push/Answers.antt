use Rattle.std.specs.BTreeMap.{get_by_text}
use Rattle.std.specs.String.{string_bytes}
use Rattle.oim_report.proofs.NamedFacts.{found-added, found-same}
use Rattle.oim_report.proofs.named.Named.push.Goals as goal

pub invariant_of-self : goal.invariant_of-self
invariant_of-self g c = found-same (get_by_text c.self.inside.values) (get_by_text c.insert.new.values) c.self.inside.added.value c.self.invariant c.in_err-insert.ensures.same

pub invariant_of-self-2 : goal.invariant_of-self-2
invariant_of-self-2 g c =
    let given = rw (← c.self.view_is) at c.requires in
    rw (c.of-added.ensures, c.as_str.ensures.value)
    (found-added (get_by_text c.self.inside.values) (get_by_text c.insert.new.values) (string_bytes c.args.name) c.args.value c.self.inside.added.value
    c.self.invariant given c.in_ok-insert.ensures.more)
