-- CSV files (RFC 4180) of entries: a header record, and then a record for each entry.
use Rattle.std.specs.Prelude.{ℕ, ◌+◌, ◌≡◌, ◌⊎◌, List, [], ◌∷◌, ◌&&◌, Option, Some, None, Result, Ok, Err, if◌then◌else◌, nat_le}
use Rattle.std.specs.Option.{ok_or, option_and_then, option_map_or}
use Rattle.std.specs.Str.{is_utf8}
use Rattle.csv.specs.Records.{field_at}
use Rattle.oim_records.specs.Grids.{Field, Record}
use Rattle.oim_entries.specs.declared.entry_fault.EntryFault.{EntryFault}
use Rattle.oim_entries.specs.declared.fault.MetaFault.{MetaFault}
use Rattle.oim_entries.specs.declared.fault.MetaFault.TheVariants as fault
use Rattle.oim_records.specs.declared.read_fault.ReadFault.{ReadFault}
use Rattle.oim_records.specs.declared.read_fault.ReadFault.TheVariants as read

-- A field, if it is text, and the one at an index.
abbrev pub text_of : Field → Option Field
text_of f = if is_utf8 f then Some f else None

abbrev pub text_field : Record → ℕ → Option Field
text_field r i = option_and_then text_of (field_at r i)

-- The fields of a record of exactly two texts.
abbrev pub two_texts : Record → Option (Field × Field)
two_texts (a ∷ b ∷ []) = if is_utf8 a && is_utf8 b then Some (a, b) else None
two_texts r = None

-- The fields of a record of exactly three texts.
abbrev pub three_texts : Record → Option (Field × Field × Field)
three_texts (a ∷ b ∷ c ∷ []) = if is_utf8 a && is_utf8 b && is_utf8 c then Some (a, b, c) else None
three_texts r = None

-- The fields of a record of exactly five texts.
abbrev pub five_texts : Record → Option (Field × Field × Field × Field × Field)
five_texts (a ∷ b ∷ c ∷ d ∷ e ∷ []) = if is_utf8 a && is_utf8 b && is_utf8 c && is_utf8 d && is_utf8 e then Some (a, b, c, d, e) else None
five_texts r = None

-- How a file of entries is read: the most entries that it may have, the fault of a bad record, and
-- the value before the first entry. Then the value after one more record, if that record is good.
-- Last, what is wrong with a bad record of this number; the header is record 0.
pub record EntryFile (S : Type 0) : Type 0 where
  pub limit : ℕ
  pub bad : MetaFault
  pub start : S
  pub after : S → Record → Option S
  pub wrong : ℕ → S → Record → EntryFault

-- The value after record n, from 0. A record past the limit has only that fault, whatever it has.
abbrev pub one_more : {S : Type 0} → EntryFile S → ℕ → S → Record → Result S MetaFault
one_more f n s r = if nat_le f.limit n then Err fault.TooLarge else ok_or (f.after s r) f.bad

-- Continues if there is no fault yet.
abbrev pub unless_bad : {A B : Type 0} → (A → Result B MetaFault) → Result A MetaFault → Result B MetaFault
unless_bad next (Err e) = Err e
unless_bad next (Ok a) = next a

-- The value after these records, which follow n others, or the fault of the earliest bad record.
unfoldable pub all_of : {S : Type 0} → EntryFile S → ℕ → S → List Record → Result S MetaFault
all_of f n s [] = Ok s
all_of f n s (r ∷ rs) = unless_bad (λ t. all_of f (n + 1) t rs) (one_more f n s r)

-- A whole file, whose header chooses how it is read. A file is bad if it has no record, or if its
-- header chooses nothing.
abbrev pub file_result : {S : Type 0} → MetaFault → (Record → Option (EntryFile S)) → List Record → Result S MetaFault
file_result bad chosen [] = Err bad
file_result bad chosen (r ∷ rs) = option_map_or (λ f. all_of f 0 f.start rs) (chosen r) (Err bad)

-- The answer; or the reader failed or memory ran out.
abbrev pub OrOutside : {A : Type 0} → Result A MetaFault → Result A MetaFault → Type 0
OrOutside result answer = (result ≡ Err fault.Read) ⊎ ((result ≡ Err fault.Memory) ⊎ (result ≡ answer))

-- The fault of a file whose record could not be read.
abbrev pub fault_of_read : ReadFault → MetaFault
fault_of_read read.Read = fault.Read
fault_of_read read.Memory = fault.Memory
