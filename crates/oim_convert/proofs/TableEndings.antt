-- The ending of a table's history is of that table.
use Rattle.std.specs.Prelude.{◌≡◌, ℕ, true, List, [], ◌∷◌, ◌++◌, Option, Some, None, IfSome}
use Rattle.std.proofs.Common.{refl, sym, ◌∙◌, subst, inl}
use Rattle.oim_report.specs.ReportValue.{ReportValue}
use Rattle.oim_resolve.specs.FactParts.{FactParts as Fact}
use Rattle.oim_ring.specs.Items.{blocks_only}
use Rattle.oim_ring.specs.declared.item.Ending as Endings
use Rattle.oim_ring.specs.declared.item.Item.{Item}
use Rattle.oim_ring.specs.declared.item.Item.TheVariants.{Ending}
use Rattle.oim_rows.specs.Streams.{Stream, facts_of, table_stream}
use Rattle.oim_convert.specs.Answer.{ending_of}
use Rattle.oim_convert.specs.Histories.{IsEndingOf, IsGiven, IsOfTable, facts_in}
use Rattle.oim_convert.proofs.FaultTables.{given_own}
use Rattle.oim_convert.proofs.OwnFaults.{own_table}

-- Blocks were sent, and then an ending of the table.
pub sent_own : (table : ℕ) (sent history : List Item) (e : Endings.Ending) → IsEndingOf table e → blocks_only sent ≡ true → history ≡ sent ++ Ending e ∷ [] → IsOfTable table history
sent_own table sent history e own only is = record { facts = facts_in sent; ending = e; is = record { before = sent; blocks = only; holds = refl; is = is }; own = own }

-- The ending of a table already has the table's number.
module _ (report : ReportValue) (table limit : ℕ) (e n : Endings.Ending) (same : IsEndingOf table e → n ≡ e) where
  pub numbered_given : (o : Option (List ℕ)) (facts : List Fact) → IfSome o (λ bytes. IsGiven table (table_stream report table limit (Some bytes)) facts e)
      → IfSome o (λ bytes. IsGiven table (table_stream report table limit (Some bytes)) facts n)
  numbered_given None facts given = tt
  numbered_given (Some bytes) facts given =
      let s : Stream = table_stream report table limit (Some bytes) in
      subst (λ x. IsGiven table s facts x) (sym (same (given_own table s facts e given (own_table report table limit (Some bytes))))) given

  pub numbered_end : e ≡ ending_of (table_stream report table limit None).fault → n ≡ ending_of (table_stream report table limit None).fault
  numbered_end is = let s : Stream = table_stream report table limit None in same (given_own table s (facts_of s) e (inl (refl, is)) (own_table report table limit None)) ∙ is
