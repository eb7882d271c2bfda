-- A table that has answered the end or a fault answers the same again.
use Rattle.std.proofs.Common.{◌≡◌, [], Option, Some, None, Ok, Err, IfSome, subst}
use Rattle.oim_rows.specs.Streams.{answer_of}
use Rattle.oim_rows.specs.declared.fault.TableFault.{TableFault}
use Rattle.oim_decode.specs.Laws.{SameTwice}

pub same_twice : SameTwice
same_twice a b c (Ok (Some block)) second one two last = absurd last
same_twice a b c (Ok None) second one two last =
    subst (λ (o : Option (Option TableFault)). IfSome o (λ kept. b.pending ≡ [] → (second ≡ answer_of kept) × (c ≡ b))) one.kept two.again one.none
same_twice a b c (Err e) second one two last =
    subst (λ (o : Option (Option TableFault)). IfSome o (λ kept. b.pending ≡ [] → (second ≡ answer_of kept) × (c ≡ b))) one.kept two.again one.none
