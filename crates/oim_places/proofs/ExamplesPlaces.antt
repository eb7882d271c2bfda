-- Examples of the rules for places: texts that are cut, JSON pointers, the lines of records, the
-- files of a folder.
use Rattle.std.proofs.Common.{◌≡◌, List, ℕ, [], ◌∷◌, ◌++◌, Some, None, map, true, false, refl, replicate, ap, arith, inl, inr}
use Rattle.std.specs.Prelude.{⊤, codes, if◌then◌else◌}
use Rattle.std.specs.Str.{bytes_eq, chars}
use Rattle.csv.specs.Reading.{strip_bom}
use lib.Utf8.{encode}
use Rattle.oim_files.specs.Folders.{Files}
use Rattle.oim_rows.specs.FaultNames.{number_of}
use Rattle.oim_rows.specs.Header.{fault_at, file_fault}
use Rattle.oim_rows.specs.Streams.{ending}
use Rattle.oim_rows.specs.declared.fault.TableFault.{TableFault}
use Rattle.oim_rows.specs.declared.fault.TableKind.TheVariants as kind
use Rattle.oim_places.specs.FaultPlaces.{EndsStream}
use Rattle.oim_places.specs.FolderFiles.{FoundAt, HoldsAt}
use Rattle.oim_places.specs.LineNumbers.{IsLineOf, line_of_record}
use Rattle.oim_places.specs.Pointers.{pointer_of}
use Rattle.oim_places.specs.Shown.{excerpt_of, is_unseen, shown}

-- 80 characters are shown whole; of 81, two dots replace the last.
eighty : excerpt_of (replicate 80 97) ≡ replicate 80 97
unfolding chars encode
eighty = refl

eighty_one : excerpt_of (replicate 81 97) ≡ replicate 80 97 ++ codes ".."
unfolding chars encode
eighty_one = refl

-- 81 letters of two bytes each are cut between letters.
letters_of_two_bytes : excerpt_of (195 ∷ 169 ∷ codes "" ++ replicate 79 97) ≡ 195 ∷ 169 ∷ replicate 79 97
unfolding chars encode
letters_of_two_bytes = refl

-- A line feed and the order to clear a terminal.
control_characters : excerpt_of (codes "a" ++ 10 ∷ 27 ∷ codes "[2J") ≡ codes "a\\x0a\\x1b[2J"
unfolding chars encode
control_characters = refl

-- RFC 6901, section 5: the keys a/b, m~n, the empty key.
slash : pointer_of (codes "a/b" ∷ []) ≡ codes "/a~1b"
unfolding chars encode
slash = refl

tilde : pointer_of (codes "m~n" ∷ codes "x" ∷ []) ≡ codes "/m~0n/x"
unfolding chars encode
tilde = refl

empty_key : pointer_of ([] ∷ []) ≡ codes "/"
unfolding chars encode
empty_key = refl

dimension : pointer_of (codes "dimensions" ∷ codes "eg:Regoin" ∷ []) ≡ codes "/dimensions/eg:Regoin"
unfolding chars encode
dimension = refl

key_of_two_lines : pointer_of ((codes "a" ++ 10 ∷ codes "b") ∷ []) ≡ codes "/a\\x0ab"
unfolding chars encode
key_of_two_lines = refl

-- ---- the lines of records: LF is 10, CR 13, the quote 34

abbrev lf : List ℕ
lf = 10 ∷ []

abbrev cr : List ℕ
cr = 13 ∷ []

abbrev quote : List ℕ
quote = 34 ∷ []

header : line_of_record 0 (codes "a,b" ++ lf ++ codes "1,2") ≡ Some 1
unfolding strip_bom
header = refl

first_row : line_of_record 1 (codes "a,b" ++ lf ++ codes "1,2") ≡ Some 2
unfolding strip_bom
first_row = refl

behind_cr_lf : line_of_record 1 (codes "a" ++ cr ++ lf ++ codes "1") ≡ Some 2
unfolding strip_bom
behind_cr_lf = refl

behind_a_lone_cr : line_of_record 1 (codes "a" ++ cr ++ codes "1") ≡ Some 2
unfolding strip_bom
behind_a_lone_cr = refl

behind_lf_and_cr : line_of_record 1 (codes "a" ++ lf ++ cr ++ codes "1") ≡ Some 3
unfolding strip_bom
behind_lf_and_cr = refl

-- Empty lines are not records, and are counted.
behind_empty_lines : line_of_record 1 (lf ++ codes "a" ++ cr ++ lf ++ cr ++ lf ++ lf ++ codes "1") ≡ Some 5
unfolding strip_bom
behind_empty_lines = refl

-- A line feed inside quotes ends a line and no record.
quoted_line_feed : line_of_record 1 (quote ++ codes "a" ++ lf ++ codes "b" ++ quote ++ lf ++ codes "1") ≡ Some 3
unfolding strip_bom
quoted_line_feed = refl

doubled_quote : line_of_record 1 (quote ++ codes "a" ++ quote ++ quote ++ lf ++ codes "b" ++ quote ++ codes ",c" ++ lf ++ codes "1") ≡ Some 3
unfolding strip_bom
doubled_quote = refl

-- A quote inside a field is a character, also after the closing quote.
quote_in_a_field : line_of_record 1 (codes "a" ++ quote ++ lf ++ codes "1") ≡ Some 2
unfolding strip_bom
quote_in_a_field = refl

text_behind_quotes : line_of_record 1 (quote ++ codes "a" ++ quote ++ codes "b" ++ quote ++ lf ++ codes "1") ≡ Some 2
unfolding strip_bom
text_behind_quotes = refl

quote_behind_a_comma : line_of_record 1 (codes "a," ++ quote ++ lf ++ quote ++ lf ++ codes "1") ≡ Some 3
unfolding strip_bom
quote_behind_a_comma = refl

-- A byte-order mark is skipped, so that the quote after it begins a quoted field.
behind_a_mark : line_of_record 1 (239 ∷ 187 ∷ 191 ∷ quote ++ lf ++ quote ++ lf ++ codes "1") ≡ Some 3
unfolding strip_bom
behind_a_mark = refl

no_such_record : line_of_record 2 (codes "a" ++ lf ++ codes "1" ++ lf) ≡ None
unfolding strip_bom
no_such_record = refl

-- A line that is returned is that of the record, if the record exists. No line may be returned.
line_told : IsLineOf 1 (codes "a" ++ lf ++ codes "1") (Some 2) × IsLineOf 1 (codes "a" ++ lf ++ codes "1") None × (IsLineOf 2 (codes "a" ++ lf ++ codes "1") (Some 2) → ⊥)
unfolding strip_bom
line_told = (refl, tt, λ h. absurd (cc h))

-- ---- the files of a folder, which has one

abbrev folder : Files
folder path = if bytes_eq path (codes "t.csv") then Some (codes "a") else None

-- What is found in a file is found only if the file exists.
found_in_the_file : FoundAt (Some folder) (codes "t.csv") (λ bytes. bytes ≡ codes "a")
found_in_the_file = (codes "a", refl, refl)

found_in_no_file : FoundAt (Some folder) (codes "u.csv") (λ _. ⊤) → ⊥
found_in_no_file h = absurd (cc h.1)

-- What holds of a file holds if the file exists. It is empty if the file does not exist or the
-- folder's files are not known.
holds_of_the_file : HoldsAt (Some folder) (codes "t.csv") (λ bytes. bytes ≡ codes "a") × HoldsAt (Some folder) (codes "u.csv") (λ _. ⊥) × HoldsAt None (codes "t.csv") (λ _. ⊥)
holds_of_the_file = (refl, tt, tt)

-- ---- faults

abbrev twice : TableFault
twice = fault_at 0 2 1 kind.RepeatedRowId

-- Reading a table may end by the fault of its stream, or by one from outside, and by no other.
fault_of_a_stream : EndsStream 0 (ending (Some twice)) twice × EndsStream 0 (ending (Some twice)) (file_fault 0 kind.Read) × (EndsStream 0 (ending None) twice → ⊥)
fault_of_a_stream = (inr refl, inl (inl refl), none)
  where
    none : EndsStream 0 (ending None) twice → ⊥
    none (inl (inl e)) = let numbers : 30 ≡ 21 = ap (λ (f : TableFault). number_of f.kind) e in absurd (omega (arith, numbers))
    none (inl (inr e)) = let numbers : 30 ≡ 42 = ap (λ (f : TableFault). number_of f.kind) e in absurd (omega (arith, numbers))
    none (inr e) = absurd (cc e)

-- A letter of two bytes, and U+00A1, which are visible.
shown_letters : shown (codes "a \\ z" ++ 195 ∷ 169 ∷ 194 ∷ 161 ∷ []) ≡ codes "a \\ z" ++ 195 ∷ 169 ∷ 194 ∷ 161 ∷ []
unfolding chars encode
shown_letters = refl

-- A no-break space, a byte-order mark and a change of direction, by their codes.
shown_unseen : shown (codes "1" ++ 194 ∷ 160 ∷ codes "000" ++ 239 ∷ 187 ∷ 191 ∷ 226 ∷ 128 ∷ 174 ∷ []) ≡ codes "1\\u00a0000\\ufeff\\u202e"
unfolding chars encode
shown_unseen = refl

-- The first and the last of each run of characters that are not seen.
unseen_characters : map is_unseen (160 ∷ 173 ∷ 1564 ∷ 5760 ∷ 6158 ∷ 8192 ∷ 8207 ∷ 8232 ∷ 8239 ∷ 8287 ∷ 8303 ∷ 12288 ∷ 65279 ∷ []) ≡ replicate 13 true
unseen_characters = refl

-- Those before and after them.
seen_characters : map is_unseen (32 ∷ 159 ∷ 161 ∷ 172 ∷ 174 ∷ 1563 ∷ 1565 ∷ 5759 ∷ 5761 ∷ 6157 ∷ 6159 ∷ 8191 ∷ 8208 ∷ 8231 ∷ 8240 ∷ 8286 ∷ 8304 ∷ 12287 ∷ 12289 ∷ 65278 ∷ 65280 ∷ []) ≡ replicate 21 false
seen_characters = refl
