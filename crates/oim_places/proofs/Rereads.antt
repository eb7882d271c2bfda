-- The header of a file that is read again, and the records of the file of faults.
use Rattle.std.proofs.Common.{◌≡◌, ◌∙◌, ◌+◌, ◌++◌, ℕ, List, ◌∷◌, [], Option, Some, None, true, option_map, ap, sym, slice_get, subst, take}
use Rattle.std.proofs.lemmas.List.{take_more}
use Rattle.std.proofs.lemmas.Option.{get_or_from_slice_get, slice_get_within}
use Rattle.csv.proofs.RoundTrip.{read-write-many}
use Rattle.csv.specs.Writing.{default_writer, row_text}
use Rattle.oim_records.specs.Grids.{Field, Record, grid}
use Rattle.oim_records.specs.Reads.{TakesRecord}
use Rattle.oim_places.specs.FaultRows.{IsRecordText}
use Rattle.oim_places.specs.state.FaultLists.{HasHeader}

-- A record of at least two fields, as it is written.
pub text_of_record : (x y : Field) (more : Record) (text : List ℕ) → text ≡ row_text default_writer (x ∷ y ∷ more) → IsRecordText (x ∷ y ∷ more) text
text_of_record x y more text is = record { written = is; reads = λ later. rw is (read-write-many x y more later) }

-- The first record of a file is its header.
pub header_taken : (told : Option (List ℕ)) (records after : Option (List Record)) (h : Record) → records ≡ option_map grid told → TakesRecord records true h after → HasHeader told h
header_taken None records after h is took = tt
header_taken (Some bytes) records after h is took = by (grid bytes) (subst (λ o. TakesRecord o true h after) is took)
  where
    by : (rs : List Record) → TakesRecord (Some rs) true h after → slice_get rs 0 ≡ Some h
    by [] took = cc took.0
    by (x ∷ rest) took = ap Some (sym took.1)

-- One more field was copied.
pub fields_more : (fields old new : Record) (place : ℕ) (field rest : Field) → old ≡ take place fields → rest ≡ [] → slice_get fields place ≡ Some field
    → new ≡ old ++ ((rest ++ field) ∷ []) → new ≡ take (place + 1) fields
fields_more fields old new place field rest so none item is =
    is ∙ ap (λ r. old ++ ((r ++ field) ∷ [])) none ∙ ap (λ t. t ++ field ∷ []) so
    ∙ sym (take_more fields place field (slice_get_within fields place field item) ∙ ap (λ f. take place fields ++ f ∷ []) (get_or_from_slice_get fields place field field item))
