-- The definitions on special values, numerals and decimals. The results are from xBRL-CSV 1.0, the
-- lexical forms of XML Schema Part 2 and the Open Information Model 1.0.
use Rattle.std.proofs.Common.{◌≡◌, ℕ, List, [], ◌∷◌, Bool, true, false, refl, codes, Some, None, is_some, pos, negsuc, map}
use Rattle.std.specs.List.{list_all, list_any}
use Rattle.oim_cells.specs.declared.cells.Accuracy.TheVariants.{Infinite, Places}
use Rattle.oim_cells.specs.declared.cells.NumberKind.{NumberKind}
use Rattle.oim_cells.specs.declared.cells.NumberKind.TheVariants.{Integer, Decimal, Double}
use Rattle.oim_cells.specs.Blanks.{is_blank, trimmed}
use Rattle.oim_cells.specs.Boolean.{is_boolean_text}
use Rattle.oim_cells.specs.Cells.{Absent, Nil, Empty, Text, Unknown, meaning_of, accuracy_of, numeral_of}

-- SPECIAL VALUES (xBRL-CSV 1.0).
special : map meaning_of ([] ∷ codes "#none" ∷ codes "#nil" ∷ codes "#empty" ∷ []) ≡ Absent ∷ Absent ∷ Nil ∷ Empty ∷ []
unfolding meaning_of
special = refl

doubled : map meaning_of (codes "##" ∷ codes "##x" ∷ codes "###" ∷ codes "##nil" ∷ []) ≡ Text (codes "#") ∷ Text (codes "#x") ∷ Text (codes "##") ∷ Text (codes "#nil") ∷ []
unfolding meaning_of
doubled = refl

unknown : map meaning_of (codes "#" ∷ codes "#foo" ∷ codes "#NONE" ∷ codes "#nil " ∷ codes "#emptyx" ∷ []) ≡ Unknown ∷ Unknown ∷ Unknown ∷ Unknown ∷ Unknown ∷ []
unfolding meaning_of
unknown = refl

plain : map meaning_of (codes "a#" ∷ codes " " ∷ codes "none" ∷ codes " #nil" ∷ []) ≡ Text (codes "a#") ∷ Text (codes " ") ∷ Text (codes "none") ∷ Text (codes " #nil") ∷ []
unfolding meaning_of
plain = refl

-- BLANKS (XML 1.0): tab, line feed, carriage return and space, but not vertical tab, form feed or
-- the characters next to the blanks.
blanks : (list_all is_blank (9 ∷ 10 ∷ 13 ∷ 32 ∷ []) ≡ true) × (list_any is_blank (0 ∷ 8 ∷ 11 ∷ 12 ∷ 14 ∷ 31 ∷ 33 ∷ 160 ∷ []) ≡ false)
blanks = (refl, refl)

trims : map trimmed ((9 ∷ 10 ∷ 49 ∷ 13 ∷ 32 ∷ []) ∷ (32 ∷ 49 ∷ 32 ∷ 50 ∷ []) ∷ (32 ∷ 9 ∷ []) ∷ []) ≡ codes "1" ∷ codes "1 2" ∷ [] ∷ []
trims = refl

-- BOOLEAN VALUES (XML Schema Part 2).
booleans : list_all is_boolean_text (codes "true" ∷ codes "false" ∷ codes "1" ∷ codes "0" ∷ []) ≡ true
booleans = refl

no_booleans : list_any is_boolean_text ([] ∷ codes "TRUE" ∷ codes "True" ∷ codes "t" ∷ codes "yes" ∷ codes "2" ∷ codes "10" ∷ codes "01" ∷ codes "+1" ∷ codes " true " ∷ codes "truefalse" ∷ []) ≡ false
no_booleans = refl

-- NUMERALS (XML Schema Part 2) of each kind, without a suffix.
bare : NumberKind → List ℕ → Bool
unfolding numeral_of
bare kind text = is_some (numeral_of kind text)

integers : list_all (bare Integer) (codes "0" ∷ codes "9" ∷ codes "+7" ∷ codes "-7" ∷ codes "007" ∷ codes " 7 " ∷ []) ≡ true
unfolding bare numeral_of accuracy_of
integers = refl

no_integers : list_any (bare Integer) ([] ∷ codes " " ∷ codes "+" ∷ codes "--7" ∷ codes "7-" ∷ codes "1.0" ∷ codes "1." ∷ codes "1e2" ∷ codes "1 2" ∷ codes "/" ∷ codes ":" ∷ codes "1,0" ∷ []) ≡ false
unfolding bare numeral_of accuracy_of
no_integers = refl

decimal_numerals : list_all (bare Decimal) (codes "7" ∷ codes "-1.50" ∷ codes "+1." ∷ codes ".5" ∷ codes "-0" ∷ []) ≡ true
unfolding bare numeral_of accuracy_of
decimal_numerals = refl

no_decimal_numerals : list_any (bare Decimal) ([] ∷ codes "." ∷ codes "-" ∷ codes "+." ∷ codes "1.5.2" ∷ codes "1..2" ∷ codes "1e2" ∷ codes "1E2" ∷ codes "1,5" ∷ codes "INF" ∷ []) ≡ false
unfolding bare numeral_of accuracy_of
no_decimal_numerals = refl

doubles : list_all (bare Double) (codes "7" ∷ codes ".5" ∷ codes "1e2" ∷ codes "1E2" ∷ codes "-1.5e-2" ∷ codes "1.E+2" ∷ []) ≡ true
unfolding bare numeral_of accuracy_of
doubles = refl

no_doubles :
    list_any (bare Double)
    ([] ∷ codes "." ∷ codes "e2" ∷ codes "1e" ∷ codes "1e2e3" ∷ codes "1e2E3" ∷ codes "1E2E3" ∷ codes "1e2.5" ∷ codes "1E2.5" ∷ codes "1e+" ∷ codes "INF"
    ∷ codes "NaN" ∷ [])
    ≡ false
unfolding bare numeral_of accuracy_of
no_doubles = refl

-- NUMERALS with the accuracy that they state (xBRL-CSV 1.0, decimals suffix).
suffixed :
    map (numeral_of Decimal) (codes "1250.5d-2" ∷ codes "1dINF" ∷ codes "-0d+1" ∷ codes " 7 " ∷ codes " 7d0\t" ∷ [])
    ≡ Some (codes "1250.5", Some (Places (negsuc 1))) ∷ Some (codes "1", Some Infinite) ∷ Some (codes "-0", Some (Places (pos 1))) ∷ Some (codes "7", None)
    ∷ Some (codes "7", Some (Places (pos 0))) ∷ []
unfolding numeral_of accuracy_of
suffixed = refl

other_suffixed : (numeral_of Integer (codes "12d3") ≡ Some (codes "12", Some (Places (pos 3)))) × (numeral_of Double (codes "1e2d3") ≡ Some (codes "1e2", Some (Places (pos 3))))
unfolding numeral_of accuracy_of
other_suffixed = (refl, refl)

badly_suffixed :
    list_any (bare Decimal)
    (codes "d3" ∷ codes "1d" ∷ codes "1d2d3" ∷ codes "1D2" ∷ codes "1 d2" ∷ codes "1d 2" ∷ codes "1dinf" ∷ codes "1d2.0" ∷ codes "1d2147483648"
    ∷ codes "1e2d3" ∷ [])
    ≡ false
unfolding bare numeral_of accuracy_of
badly_suffixed = refl

-- TEXTS OF DECIMALS (Open Information Model 1.0), at the limits of 32 bits.
accuracies :
    map accuracy_of (codes "INF" ∷ codes "0" ∷ codes "+2" ∷ codes "2147483647" ∷ codes "-2147483648" ∷ codes "0000000000000000000007" ∷ [])
    ≡ Some Infinite ∷ Some (Places (pos 0)) ∷ Some (Places (pos 2)) ∷ Some (Places (pos 2_147_483_647)) ∷ Some (Places (negsuc 2_147_483_647)) ∷ Some (Places (pos 7)) ∷ []
unfolding accuracy_of
accuracies = refl

no_accuracies :
    map accuracy_of ([] ∷ codes "2147483648" ∷ codes "-2147483649" ∷ codes "inf" ∷ codes "-INF" ∷ codes "INF " ∷ codes "+" ∷ codes "1.0" ∷ codes " 1" ∷ codes "1e0" ∷ [])
    ≡ None ∷ None ∷ None ∷ None ∷ None ∷ None ∷ None ∷ None ∷ None ∷ None ∷ []
unfolding accuracy_of
no_accuracies = refl
