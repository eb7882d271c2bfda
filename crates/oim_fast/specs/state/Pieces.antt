-- The text of a fact in parts: what each dimension that the levels of a cell write adds to it
-- (xBRL-JSON 1.0, a fact object).
use Rattle.std.specs.Prelude.{◌≡◌, ℕ, Bool, true, ◌||◌, List, [], ◌∷◌, ◌++◌, codes, is_ok, if◌then◌else◌, unwrap_or}
use Rattle.std.specs.List.{All, flat_map}
use Rattle.std.specs.Option.{option_map_or}
use Rattle.oim_cells.specs.Cells.{Meaning, meaning_of}
use Rattle.oim_cells.specs.Cells as m
use Rattle.oim_json.specs.JsonText.{quoted}
use Rattle.oim_report.specs.Readers.{parameter_of}
use Rattle.oim_report.specs.ReportValue.{ReportValue}
use Rattle.oim_report.specs.declared.data.Level.{Level}
use Rattle.oim_report.specs.declared.data.Side.{Side}
use Rattle.oim_report.specs.declared.data.Written.{Written}
use Rattle.oim_report.specs.declared.data.Written.TheVariants as w
use Rattle.oim_report.specs.declared.data.WrittenDecimals.{WrittenDecimals}
use Rattle.oim_report.specs.declared.data.WrittenDecimals.TheVariants as d
use Rattle.oim_report.specs.declared.kind.Kind.{Kind}
use Rattle.oim_resolve.specs.Cell.{Cell}
use Rattle.oim_resolve.specs.Facts.{entry_given, is_dropped, role_of, value_read}
use Rattle.oim_resolve.specs.state.ProgramLevels.{named}
use Rattle.oim_resolve.specs.Values.{Fixed, Read, Stated, literal_of, side_of, value}
use Rattle.oim_resolve.specs.Written.{written}
use Rattle.oim_rows.specs.RowFacts.{TableHeaderValue}
use Rattle.oim_row.specs.Answers.{dimension_json}

-- What the levels write for one name.
abbrev pub entries_named : List Level → List ℕ → List (List ℕ × Written)
entries_named ls n = named n (written ls n)

-- A dimension's name and colon.
abbrev pub name_text : List ℕ → List ℕ
name_text n = quoted n ++ codes ":"

-- A text after `lead`, or no text if the second is empty.
abbrev pub behind : List ℕ → List ℕ → List ℕ
behind lead [] = []
behind lead (b ∷ bs) = lead ++ b ∷ bs

-- What a meaning gives a dimension of a fact with a concept of kind k: name and value, with a comma
-- after them.
abbrev pub dimension_piece : ReportValue → Kind → List ℕ → Side → Meaning → List ℕ
dimension_piece r k n s v = if is_dropped k (role_of r n) then [] else behind (name_text n) (dimension_json (entry_given r (role_of r n) s v))

-- What all written dimensions give in a cell.
abbrev pub written_pieces : Cell → Kind → List (List ℕ × Written) → List ℕ
written_pieces c k es = flat_map (λ e. dimension_piece c.report k e.0 (side_of e.1) (value c e.1)) es

-- The meaning has no fault in a dimension of a fact with a concept of kind k.
abbrev pub is_sound_dimension : ReportValue → Kind → List ℕ → Side → Meaning → Bool
is_sound_dimension r k n s v = is_dropped k (role_of r n) || is_ok (value_read r (role_of r n) s v)

-- No written dimension has a fault in the cell.
abbrev pub AreSound : Cell → Kind → List (List ℕ × Written) → Type 0
AreSound c k es = All (λ e. is_sound_dimension c.report k e.0 (side_of e.1) (value c e.1) ≡ true) es

-- The meaning of the parameter of a name, or Absent.
abbrev pub parameter_meaning : TableHeaderValue → List ℕ → Meaning
parameter_meaning f n = option_map_or meaning_of (parameter_of f.report f.table n) m.Absent

-- What a reference means if it does not depend on the row: the parameter of its name.
abbrev pub constant_reference : TableHeaderValue → Written → Meaning
constant_reference f (w.Named n s) = parameter_meaning f n
constant_reference f _ = m.Absent

-- The meaning of a written value that does not depend on the row: the literal, else what the
-- reference means.
abbrev pub constant_meaning : TableHeaderValue → Written → Meaning
constant_meaning f x = unwrap_or (literal_of x) (constant_reference f x)

-- What decimals state if they do not depend on the row.
abbrev pub constant_stated : TableHeaderValue → WrittenDecimals → Stated
constant_stated f (d.Fixed a) = Fixed a
constant_stated f (d.Named n) = Read (parameter_meaning f n)
constant_stated f d.RowNumber = Read m.Absent
constant_stated f d.Absent = Read m.Absent
