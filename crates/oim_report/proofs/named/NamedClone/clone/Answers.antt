use Rattle.std.specs.BTreeMap.{get_by_text}
use Rattle.std.specs.String.{string_bytes}
use Rattle.oim_report.proofs.NamedFacts.{clones-found, found-copied, zip-copied}
use Rattle.oim_report.proofs.named.NamedClone.clone.Goals as goal

pub invariant_of-result : goal.invariant_of-result
invariant_of-result g c =
    let clones = clones-found string_bytes g.V.Clone.is_clone c.self.inside.values.entries c.in_ok-values.values.entries c.in_ok-values.ensures.cases in
    rw c.of-added.ensures
    (found-copied g.V.Clone.is_clone (get_by_text c.self.inside.values) (get_by_text c.in_ok-values.values) clones c.self.inside.added.value c.self.invariant)

pub returns : goal.returns
returns g c =
    let clones = clones-found string_bytes g.V.Clone.is_clone c.self.inside.values.entries c.in_ok-values.values.entries c.in_ok-values.ensures.cases in
    record {
      cases = rw (← c.self.view_is, c.of-added.ensures)
          (zip-copied g.V.Clone.is_clone (get_by_text c.self.inside.values) (get_by_text c.in_ok-values.values) clones c.self.inside.added.value c.self.invariant.1);
    }
