-- A place in a file, as a terminal shows it: a line, and a cell of the record that begins there.
use Rattle.std.specs.Prelude.{◌+◌, ◌-◌, ◌^◌, ℕ, List, [], ◌++◌, Option, Some, None, codes, min}
use Rattle.std.specs.Fmt.{decimal}
use Rattle.oim_places.specs.Shown.{shown}

abbrev pub line_part : Option ℕ → List ℕ
line_part None = []
line_part (Some line) = codes ", line " ++ decimal line

-- Cells are counted from 1; the number is one of 64 bits.
abbrev pub cell_part : Option ℕ → List ℕ
cell_part None = []
cell_part (Some place) = codes ", cell " ++ decimal (min (place + 1) (2 ^ 64 - 1))

-- A place in the file at a path: a line, if it is known, and a cell, if it is one.
abbrev pub place_text : List ℕ → Option ℕ → Option ℕ → List ℕ
place_text path line place = (shown path ++ line_part line) ++ cell_part place
