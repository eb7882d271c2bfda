-- Examples of explanations: a place in the metadata, and the lines that are printed below the line
-- of a fault.
use Rattle.std.proofs.Common.{◌≡◌, ℕ, List, [], ◌∷◌, ◌++◌, None, Some, refl}
use Rattle.std.specs.Borrow.{Bor}
use Rattle.std.specs.Prelude.{codes}
use Rattle.std.specs.Str.{chars}
use lib.Utf8.{encode}
use Rattle.oim_explain.specs.Explanations.{explanation_of, fact_lines, first_lines, lines_with, place_shown}
use Rattle.oim_explain.specs.declared.explanation.Explanation.{Explanation}

-- ---- a place in the metadata

-- The file as a whole, its name without control characters, and a place in it.
whole_file : place_shown (codes "r/meta.json") [] ≡ codes "r/meta.json"
unfolding chars encode
whole_file = refl

place_in_it : place_shown (codes "r/meta.json") (codes "tables" ∷ codes "t" ∷ []) ≡ codes "/tables/t"
unfolding chars encode
place_in_it = refl

-- ---- the lines of an explanation

abbrev lf : List ℕ
lf = 10 ∷ []

-- A text, wherever it is in memory.
abbrev word : List ℕ → Bor (List ℕ)
word text = record { ref_ptr = (0, 0); now = text }

-- A dimension of the metadata that is in no types table: the fault is at its own place.
abbrev misspelt : Explanation
misspelt = record {
  place = codes "/tableTemplates/p/columns/cash/dimensions/eg:Regoin";
  found = codes "\"eg:North\"";
  source = None;
  cause = word (codes "no explicit or typed dimension of this name is in the types table");
  advice = [];
  path = [];
}

-- A header cell that could mean a column.
abbrev other_header : Explanation
other_header = record {
  place = codes "t1.csv, line 1, cell 1";
  found = codes "\"Cash\"";
  source = None;
  cause = word (codes "a header cell does not name a column of the template");
  advice = codes "did you mean \"cash\"?" ∷ [];
  path = [];
}

-- A cell whose unit is from a property group that refers to a parameter: that is to be mended.
abbrev bad_unit : Explanation
bad_unit = record {
  place = codes "q3/claims.csv, line 4, cell 2";
  found = codes "\"1200.50\" in cash of row a17";
  source = Some (codes "q3/parameters.csv, line 2, cell 2: \"EUR\"");
  cause = word (codes "an entity, unit, language or explicit member is not well-formed, or its prefix is not declared");
  advice = [];
  path =
      codes "q3/claims.csv, line 4, cell 5: \"net\""
      ∷ codes "/tableTemplates/p/columns/kind/propertyGroups/net/dimensions/unit: \"$currency\""
      ∷ [];
}

-- A cell whose property group is unknown: the groups that are known come before the fact.
abbrev bad_group : Explanation
bad_group = record {
  place = codes "t1.csv, line 2, cell 2";
  found = codes "\"5\" in cash of row r_1";
  source = Some (codes "t1.csv, line 2, cell 1: \"dp9\"");
  cause = word (codes "a cell names no property group of its column");
  advice = codes "\"dp9\" in datapoint: this column knows dp1, dp2" ∷ [];
  path = [];
}

-- No text, no line.
no_text : lines_with (codes "    by ") [] ≡ []
no_text = refl

-- A line for each text, in their order.
two_texts : lines_with (codes "    by ") (codes "t1.csv, line 2, cell 3: \"net\"" ∷ codes "/decimals: \"$d\"" ∷ [])
    ≡ codes "    by t1.csv, line 2, cell 3: \"net\"" ++ lf ++ codes "    by /decimals: \"$d\"" ++ lf
two_texts = refl

-- At its own place: the place, what is there, and the sentence.
first_of_own : first_lines misspelt.source misspelt
    ≡ codes "    /tableTemplates/p/columns/cash/dimensions/eg:Regoin" ++ lf
    ++ codes "    \"eg:North\"" ++ lf
    ++ codes "    no explicit or typed dimension of this name is in the types table" ++ lf
first_of_own = refl

no_fact : fact_lines misspelt.source misspelt ≡ []
no_fact = refl

-- From elsewhere: the place to mend with what is there, and the sentence.
first_of_source : first_lines bad_group.source bad_group
    ≡ codes "    t1.csv, line 2, cell 1: \"dp9\"" ++ lf
    ++ codes "    a cell names no property group of its column" ++ lf
first_of_source = refl

fact_of_source : fact_lines bad_group.source bad_group ≡ codes "    for \"5\" in cash of row r_1: t1.csv, line 2, cell 2" ++ lf
fact_of_source = refl

-- A fault at its own place has three lines, and one for each advice.
of_own : explanation_of misspelt
    ≡ codes "    /tableTemplates/p/columns/cash/dimensions/eg:Regoin" ++ lf
    ++ codes "    \"eg:North\"" ++ lf
    ++ codes "    no explicit or typed dimension of this name is in the types table" ++ lf
of_own = refl

of_header : explanation_of other_header
    ≡ codes "    t1.csv, line 1, cell 1" ++ lf
    ++ codes "    \"Cash\"" ++ lf
    ++ codes "    a header cell does not name a column of the template" ++ lf
    ++ codes "    did you mean \"cash\"?" ++ lf
of_header = refl

-- The place to mend comes first, and the way to it last.
of_unit : explanation_of bad_unit
    ≡ codes "    q3/parameters.csv, line 2, cell 2: \"EUR\"" ++ lf
    ++ codes "    an entity, unit, language or explicit member is not well-formed, or its prefix is not declared" ++ lf
    ++ codes "    for \"1200.50\" in cash of row a17: q3/claims.csv, line 4, cell 2" ++ lf
    ++ codes "    by q3/claims.csv, line 4, cell 5: \"net\"" ++ lf
    ++ codes "    by /tableTemplates/p/columns/kind/propertyGroups/net/dimensions/unit: \"$currency\"" ++ lf
of_unit = refl

of_group : explanation_of bad_group
    ≡ codes "    t1.csv, line 2, cell 1: \"dp9\"" ++ lf
    ++ codes "    a cell names no property group of its column" ++ lf
    ++ codes "    \"dp9\" in datapoint: this column knows dp1, dp2" ++ lf
    ++ codes "    for \"5\" in cash of row r_1: t1.csv, line 2, cell 2" ++ lf
of_group = refl
