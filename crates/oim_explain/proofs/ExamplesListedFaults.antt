-- Examples of the file of faults: three faults of a table, and limits below, at and above three;
-- and faults with a cause and without.
use Rattle.std.proofs.Common.{◌≡◌, ℕ, List, [], ◌∷◌, Some, false, refl, true}
use Rattle.std.specs.Prelude.{codes}
use Rattle.std.specs.Fmt.{digits}
use Rattle.std.specs.List.{AllZip}
use Rattle.oim_records.specs.Grids.{Record}
use Rattle.oim_places.specs.FaultRows.{cause_fields, more_fields, no_cause}
use Rattle.oim_places.specs.declared.fault_cause.FaultCause.{FaultCause}
use Rattle.oim_explain.specs.ListedFaults.{IsRecordOf, alone_of, listed_of, room_after, up_to}

abbrev one : Record
one = codes "t1" ∷ codes "1" ∷ []

abbrev two : Record
two = codes "t1" ∷ codes "2" ∷ []

abbrev three : Record
three = codes "t1" ∷ codes "3" ∷ []

abbrev all : List Record
all = one ∷ two ∷ three ∷ []

-- A table without faults has no record, whatever the limit.
none_of_none : up_to (codes "t1") 0 [] ≡ []
none_of_none = refl

-- The limit is above the number of faults, or just that number.
all_below_the_limit : up_to (codes "t1") 4 all ≡ all
all_below_the_limit = refl

all_at_the_limit : up_to (codes "t1") 3 all ≡ all
all_at_the_limit = refl

-- One fault more than the limit: the last record says that there are more.
one_above_the_limit : up_to (codes "t1") 2 all ≡ one ∷ two ∷ more_fields (codes "t1") ∷ []
one_above_the_limit = refl

-- Two more, and still one such record.
two_above_the_limit : up_to (codes "t1") 1 all ≡ one ∷ more_fields (codes "t1") ∷ []
two_above_the_limit = refl

-- How many are listed, and whether the table has more.
listed_below : listed_of 4 (room_after 4 all) 2 ≡ record { count = 3; is_cut = false; rows = 2 }
listed_below = refl

listed_at : listed_of 3 (room_after 3 all) 0 ≡ record { count = 3; is_cut = false; rows = 0 }
listed_at = refl

listed_above : listed_of 2 (room_after 2 all) 1 ≡ record { count = 2; is_cut = true; rows = 1 }
listed_above = refl

listed_alone : alone_of ≡ record { count = 1; is_cut = false; rows = 0 }
listed_alone = refl

-- Two faults, of which a parameter causes the first.
abbrev with_cause : List ℕ → FaultCause → Record
with_cause id c = id ∷ cause_fields c

two_causes : AllZip (IsRecordOf with_cause) (codes "t1" ∷ codes "t2" ∷ [])
    ((codes "t1" ∷ codes "p.csv" ∷ codes "3" ∷ codes "2" ∷ codes "x" ∷ []) ∷ (codes "t2" ∷ [] ∷ [] ∷ [] ∷ [] ∷ []) ∷ [])
unfolding digits
two_causes = ((record { file = codes "p.csv"; line = Some 3; cell = codes "2"; text = codes "x" }, refl), ((no_cause, refl), tt))
