use Rattle.std.proofs.Common.{◌≡◌, ℕ, List}
use Rattle.std.specs.List.{AllZip}
use Rattle.oim_report.specs.declared.kind.Kind.{Kind}
use Rattle.oim_report.proofs.NamedFacts.{same-clones}
use Rattle.oim_report.proofs.types.TypesClone.clone.Goals as goal

pub invariant_of-result : goal.invariant_of-result
invariant_of-result c =
    let same : (v w : List (List ℕ × Kind)) → AllZip (λ p q. (q.0 ≡ p.0) × (q.1 ≡ p.1)) v w → w ≡ v = same-clones (λ (v w : Kind). w ≡ v) (λ v w e. e) in
    let groups = λ (v w : List (List ℕ × Kind)). AllZip (λ p q. (q.0 ≡ p.0) × (q.1 ≡ p.1)) v w in
    let kept : c.in_ok-clone.field-0 ≡ c.self.inside.namespaces = same-clones groups same c.self.inside.namespaces c.in_ok-clone.field-0 c.in_ok-clone.ensures.cases in
    rw (kept, c.again.ensures) c.self.invariant

pub returns : goal.returns
returns c = record { cases = rw (← c.self.view_is) c.again.ensures }
