-- Examples of the rules for places in a table's file: which faults have none, and the text that
-- names a line and a cell.
use Rattle.std.proofs.Common.{◌≡◌, true, false, ◌∷◌, ◌++◌, [], Some, None, refl}
use Rattle.std.specs.Prelude.{codes}
use Rattle.std.specs.Fmt.{digits}
use Rattle.std.specs.Str.{chars}
use lib.Utf8.{encode}
use Rattle.oim_resolve.specs.declared.fact.CellFault.TheVariants as cell
use Rattle.oim_rows.specs.declared.fault.TableKind.TheVariants as table
use Rattle.oim_places.specs.FaultPlaces.{is_of_file}
use Rattle.oim_places.specs.FilePlaces.{cell_part, line_part, place_text}

-- ---- faults of a file as a whole: 20, 21, 22, 42, 43

-- 20: the file does not exist
no_file : is_of_file table.NoFile ≡ true
no_file = refl

-- 21: the file cannot be read to its end
unread : is_of_file table.Read ≡ true
unread = refl

-- 22: the file has no record
no_header : is_of_file table.NoHeader ≡ true
no_header = refl

-- 42: memory ran out
memory : is_of_file table.Memory ≡ true
memory = refl

-- 43: no worker could be started
no_thread : is_of_file table.NoThread ≡ true
no_thread = refl

-- ---- faults of a record: 23 to 41, 44

-- 23: a cell of the header names no column
unknown_header : is_of_file table.UnknownHeader ≡ false
unknown_header = refl

-- 24: a cell of the header repeats a column
repeated_header : is_of_file table.RepeatedHeader ≡ false
repeated_header = refl

-- 25: the header lacks the column of row identifiers; the place is the header's line
no_row_id_column : is_of_file table.NoRowIdColumn ≡ false
no_row_id_column = refl

-- 26: a record has another length than the header
ragged : is_of_file table.Ragged ≡ false
ragged = refl

-- 27: a cell is not UTF-8
not_utf8 : is_of_file table.NotUtf8 ≡ false
not_utf8 = refl

-- 28: the cell of the row identifier is empty
missing_row_id : is_of_file table.MissingRowId ≡ false
missing_row_id = refl

-- 29: the cell of the row identifier is not well-formed
bad_row_id : is_of_file table.BadRowId ≡ false
bad_row_id = refl

-- 30: an earlier row has the same identifier
repeated_row_id : is_of_file table.RepeatedRowId ≡ false
repeated_row_id = refl

-- 40: the cell of a number is not a numeral
cell_of_a_number : is_of_file (table.Cell cell.BadNumber) ≡ false
cell_of_a_number = refl

-- 41: the first row past the limit
too_many_rows : is_of_file table.TooManyRows ≡ false
too_many_rows = refl

-- ---- the text of a place

-- The third line of a file.
line_three : line_part (Some 3) ≡ codes ", line 3"
unfolding digits
line_three = refl

-- No line is known.
no_line : line_part None ≡ []
no_line = refl

-- The first cell of a record, at place 0, is shown as cell 1.
first_cell : cell_part (Some 0) ≡ codes ", cell 1"
unfolding digits
first_cell = refl

tenth_cell : cell_part (Some 9) ≡ codes ", cell 10"
unfolding digits
tenth_cell = refl

-- A fault of a whole record is in no cell.
no_cell : cell_part None ≡ []
no_cell = refl

-- The greatest number of 64 bits is the last that is counted to.
last_number : cell_part (Some 18446744073709551614) ≡ codes ", cell 18446744073709551615"
unfolding digits
last_number = refl

behind_the_last_number : cell_part (Some 18446744073709551615) ≡ codes ", cell 18446744073709551615"
unfolding digits
behind_the_last_number = refl

-- The second row, whose first cell is not a number.
line_and_cell : place_text (codes "t1.csv") (Some 3) (Some 0) ≡ codes "t1.csv, line 3, cell 1"
unfolding chars encode digits
line_and_cell = refl

-- A record of another length than the header.
line_alone : place_text (codes "q3/claims.csv") (Some 12) None ≡ codes "q3/claims.csv, line 12"
unfolding chars encode digits
line_alone = refl

-- The line cannot be found again.
cell_alone : place_text (codes "t1.csv") None (Some 1) ≡ codes "t1.csv, cell 2"
unfolding chars encode digits
cell_alone = refl

-- Neither is known.
file_alone : place_text (codes "t1.csv") None None ≡ codes "t1.csv"
unfolding chars encode digits
file_alone = refl

-- A path with a line feed in it stays on one line.
path_of_two_lines : place_text (codes "a" ++ 10 ∷ codes "b") (Some 2) (Some 4) ≡ codes "a\\x0ab, line 2, cell 5"
unfolding chars encode digits
path_of_two_lines = refl
