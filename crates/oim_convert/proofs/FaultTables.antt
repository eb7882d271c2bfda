-- The fault of a table that was decoded is of this table.
use Rattle.std.specs.Prelude.{◌≡◌, ◌<◌, ◌≤◌, ℕ, List, [], ◌∷◌, ◌++◌, Option, Some, None, length}
use Rattle.std.proofs.Common.{arith, refl, ap, sym, ◌∙◌, inl, inr}
use Rattle.oim_merge.specs.Histories.{refusals}
use Rattle.oim_resolve.specs.FactParts.{FactParts as Fact}
use Rattle.oim_ring.specs.declared.item.Ending as Endings
use Rattle.oim_ring.specs.declared.item.Ending.TheVariants.{Closed, Refused}
use Rattle.oim_ring.specs.declared.item.Item.TheVariants.{Ending}
use Rattle.oim_rows.specs.Streams.{Stream}
use Rattle.oim_rows.specs.declared.fault.TableFault.{TableFault}
use Rattle.oim_convert.specs.Answer.{ending_of}
use Rattle.oim_convert.specs.Histories.{IsEndingOf, IsGiven}
use Rattle.oim_convert.specs.Serial.{AreBelow}
use Rattle.oim_convert.proofs.OwnFaults.{IsOwn}

refused_table : (e : Endings.Ending) (x y : TableFault) → e ≡ Refused x → e ≡ Refused y → x.table ≡ y.table
refused_table e x y is also = let both : Refused x ≡ Refused y = sym is ∙ also in let same : x ≡ y = cc in ap (λ (z : TableFault). z.table) same

own_ending : (table : ℕ) (o : Option TableFault) (x : TableFault) → IsOwn table o → ending_of o ≡ Refused x → x.table ≡ table
own_ending table None x own is = absurd (cc)
own_ending table (Some a) x own is = refused_table (Refused a) x a is refl ∙ own.1

pub given_table : (table : ℕ) (s : Stream) (facts : List Fact) (e : Endings.Ending) (x : TableFault) → IsGiven table s facts e → IsOwn table s.fault → e ≡ Refused x → x.table ≡ table
given_table table s facts e x (inl whole) own is = own_ending table s.fault x own (sym whole.1 ∙ is)
given_table table s facts e x (inr (inl unread)) own is = refused_table e x _ is unread.refused
given_table table s facts e x (inr (inr short)) own is = refused_table e x _ is short.refused

pub given_own : (table : ℕ) (s : Stream) (facts : List Fact) (e : Endings.Ending) → IsGiven table s facts e → IsOwn table s.fault → IsEndingOf table e
given_own table s facts Closed given own = tt
given_own table s facts (Refused x) given own = given_table table s facts (Refused x) x given own refl

pub ending_below : (tables : ℕ) (e : Endings.Ending) (faults : List TableFault) → ((x : TableFault) → e ≡ Refused x → x.table < tables)
    → AreBelow tables faults → AreBelow tables (refusals (Ending e ∷ []) ++ faults)
ending_below tables Closed faults below rest = rest
ending_below tables (Refused x) faults below rest = (below x refl, rest)

pub one_at_most : (e : Endings.Ending) → length (refusals (Ending e ∷ [])) ≤ 1
one_at_most Closed = omega arith
one_at_most (Refused x) = omega arith
