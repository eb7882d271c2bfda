-- Two findings after others.
use Rattle.std.proofs.Common.{◌≡◌, ◌∙◌, ◌++◌, List, append_assoc}
use Rattle.oim_meta.specs.declared.findings.Finding.{Finding}

pub joined : (old mid new a b : List Finding) → mid ≡ old ++ a → new ≡ mid ++ b → new ≡ old ++ (a ++ b)
joined old mid new a b first second = second ∙ rw first (append_assoc old a b)
