-- The definitions on worked cases. Their results are from XML 1.0 fifth edition, Namespaces in XML
-- 1.0, BCP 47 and xBRL-JSON 1.0.
use Rattle.std.proofs.Common.{◌≡◌, [], ◌∷◌, Some, None, true, false, refl, codes, map}
use Rattle.std.specs.List.{list_all, list_any}
use Rattle.std.specs.Str.{chars, is_utf8}
use lib.Utf8.{encode}
use Rattle.oim_names.specs.Names.{is_name_start, is_name_char, is_plain_char, is_ncname, is_identifier, is_row_identifier}
use Rattle.oim_names.specs.Bindings.{Bindings, bound, is_bound, uri_of, has_uri}
use Rattle.oim_names.specs.QName.{qname_of, sqname_of}
use Rattle.oim_names.specs.Unit.{unit_of}
use Rattle.oim_names.specs.Language.{is_letter, is_letter_or_digit, language_of}
use Rattle.oim_names.specs.Fault.{number_of, name_of}
use Rattle.oim_names.specs.declared.namespaces.NameFault.TheVariants.{BadPrefix, Repeated, Memory}
use Rattle.oim_names.specs.declared.unit_kind.UnitKind.TheVariants.{Pure, Written}

-- CHARACTERS (XML 1.0): the first and the last of each range, and those next to the ranges.
begin_a_name :
    list_all is_name_start
    (0x41 ∷ 0x5A ∷ 0x5F ∷ 0x61 ∷ 0x7A ∷ 0xC0 ∷ 0xD6 ∷ 0xD8 ∷ 0xF6 ∷ 0xF8 ∷ 0x2FF ∷ 0x370 ∷ 0x37D ∷ 0x37F ∷ 0x1FFF ∷ 0x200C ∷ 0x200D ∷ 0x2070 ∷ 0x218F
    ∷ 0x2C00 ∷ 0x2FEF ∷ 0x3001 ∷ 0xD7FF ∷ 0xF900 ∷ 0xFDCF ∷ 0xFDF0 ∷ 0xFFFD ∷ 0x10000 ∷ 0xEFFFF ∷ [])
    ≡ true
unfolding is_name_start
begin_a_name = refl

begin_no_name :
    list_any is_name_start
    (0x40 ∷ 0x5B ∷ 0x5E ∷ 0x60 ∷ 0x7B ∷ 0xBF ∷ 0xD7 ∷ 0xF7 ∷ 0x300 ∷ 0x36F ∷ 0x37E ∷ 0x2000 ∷ 0x200B ∷ 0x200E ∷ 0x206F ∷ 0x2190 ∷ 0x2BFF ∷ 0x2FF0 ∷ 0x3000
    ∷ 0xD800 ∷ 0xF8FF ∷ 0xFDD0 ∷ 0xFDEF ∷ 0xFFFE ∷ 0xFFFF ∷ 0xF0000 ∷ 0x2D ∷ 0x2E ∷ 0x30 ∷ 0x39 ∷ 0xB7 ∷ 0x203F ∷ 0x2040 ∷ [])
    ≡ false
unfolding is_name_start
begin_no_name = refl

stand_in_a_name : list_all is_name_char (0x61 ∷ 0x2D ∷ 0x2E ∷ 0x30 ∷ 0x39 ∷ 0xB7 ∷ 0x300 ∷ 0x36F ∷ 0x203F ∷ 0x2040 ∷ []) ≡ true
unfolding is_name_char is_name_start
stand_in_a_name = refl

stand_in_no_name : list_any is_name_char (0x9 ∷ 0xA ∷ 0xD ∷ 0x20 ∷ 0x2C ∷ 0x2F ∷ 0x3A ∷ 0xB6 ∷ 0xB8 ∷ 0x203E ∷ 0x2041 ∷ []) ≡ false
unfolding is_name_char is_name_start
stand_in_no_name = refl

plain : list_all is_plain_char (0x61 ∷ 0x2D ∷ 0x30 ∷ 0x2040 ∷ []) ≡ true
unfolding is_plain_char is_name_char is_name_start
plain = refl

-- NAMES (Namespaces in XML 1.0, NCName). The last of each list is U+2040 after `a`.
ncnames : list_all is_ncname (codes "a" ∷ codes "a.b" ∷ codes "_-1" ∷ (0xC3 ∷ 0xA9 ∷ []) ∷ (0x61 ∷ 0xE2 ∷ 0x81 ∷ 0x80 ∷ []) ∷ []) ≡ true
unfolding is_ncname is_name_char is_name_start chars is_utf8 encode
ncnames = refl

-- The empty text, a wrong first character, a colon, blanks, and bytes that are not UTF-8.
no_ncnames :
    list_any is_ncname
    ([] ∷ codes "1a" ∷ codes "-" ∷ codes ".a" ∷ codes "a:b" ∷ codes "a b" ∷ codes "a\t" ∷ codes "a\n" ∷ codes "a\r" ∷ (0xE2 ∷ 0x81 ∷ 0x80 ∷ [])
    ∷ (0x61 ∷ 0xC3 ∷ 46 ∷ []) ∷ (0x61 ∷ 0xFF ∷ []) ∷ [])
    ≡ false
unfolding is_ncname is_name_char is_name_start chars is_utf8 encode
no_ncnames = refl

identifiers : list_all is_identifier (codes "a-b_1" ∷ (0xC3 ∷ 0xA9 ∷ []) ∷ (0x61 ∷ 0xE2 ∷ 0x81 ∷ 0x80 ∷ []) ∷ []) ≡ true
unfolding is_identifier is_plain_char is_name_char is_name_start chars is_utf8 encode
identifiers = refl

no_identifiers : list_any is_identifier ([] ∷ codes "1a" ∷ codes "a.b" ∷ codes "a:b" ∷ codes "a b" ∷ (0xC3 ∷ 46 ∷ []) ∷ (0x61 ∷ 0xFF ∷ []) ∷ []) ≡ false
unfolding is_identifier is_plain_char is_name_char is_name_start chars is_utf8 encode
no_identifiers = refl

row_identifiers : list_all is_row_identifier (codes "1a" ∷ codes "-" ∷ codes "a" ∷ (0xE2 ∷ 0x81 ∷ 0x80 ∷ []) ∷ []) ≡ true
unfolding is_row_identifier is_plain_char is_name_char is_name_start chars is_utf8 encode
row_identifiers = refl

no_row_identifiers : list_any is_row_identifier ([] ∷ codes ".a" ∷ codes "a.b" ∷ codes "a:b" ∷ codes "1 " ∷ (0x61 ∷ 0xFF ∷ []) ∷ []) ≡ false
unfolding is_row_identifier is_plain_char is_name_char is_name_start chars is_utf8 encode
no_row_identifiers = refl

-- NAMESPACES: three prefixes, bound out of order.
prefixes : Bindings
unfolding bound
prefixes =
    bound (bound (bound [] (codes "xbrli") (codes "http://www.xbrl.org/2003/instance")) (codes "eg") (codes "http://example.com/eg")) (codes "iso4217") (codes "http://www.xbrl.org/2003/iso4217")

in_order : prefixes ≡ (codes "eg", codes "http://example.com/eg") ∷ (codes "iso4217", codes "http://www.xbrl.org/2003/iso4217") ∷ (codes "xbrli", codes "http://www.xbrl.org/2003/instance") ∷ []
unfolding prefixes bound
in_order = refl

uris :
    map (uri_of prefixes) (codes "iso4217" ∷ codes "xbrli" ∷ codes "e" ∷ codes "EG" ∷ [])
    ≡ Some (codes "http://www.xbrl.org/2003/iso4217") ∷ Some (codes "http://www.xbrl.org/2003/instance") ∷ None ∷ None ∷ []
unfolding prefixes bound
uris = refl

uris_there : map (has_uri prefixes) (codes "http://www.xbrl.org/2003/instance" ∷ codes "http://example.com/EG" ∷ codes "eg" ∷ []) ≡ true ∷ false ∷ false ∷ []
unfolding prefixes bound
uris_there = refl

-- Only a prefix, only a URI, both of different bindings, and neither.
bound_already :
    is_bound prefixes (codes "eg") (codes "u") ∷ is_bound prefixes (codes "e") (codes "http://example.com/eg") ∷ is_bound prefixes (codes "eg") (codes "http://www.xbrl.org/2003/instance")
    ∷ is_bound prefixes (codes "e") (codes "u") ∷ []
    ≡ true ∷ true ∷ true ∷ false ∷ []
unfolding prefixes bound
bound_already = refl

-- QUALIFIED NAMES (xBRL-JSON 1.0, QName and SQName).
qnames :
    map (qname_of prefixes) (codes "eg:Cash" ∷ codes "xbrli:a.b" ∷ [])
    ≡ Some (codes "http://example.com/eg", codes "Cash") ∷ Some (codes "http://www.xbrl.org/2003/instance", codes "a.b") ∷ []
unfolding prefixes bound qname_of is_ncname is_name_char is_name_start chars is_utf8 encode
qnames = refl

no_qnames :
    map (qname_of prefixes) (codes "Cash" ∷ codes "zz:a" ∷ codes "eg:" ∷ codes ":a" ∷ codes "eg:a:b" ∷ codes "eg:1a" ∷ codes "eg:a b" ∷ [])
    ≡ None ∷ None ∷ None ∷ None ∷ None ∷ None ∷ None ∷ []
unfolding prefixes bound qname_of is_ncname is_name_char is_name_start chars is_utf8 encode
no_qnames = refl

sqnames :
    map (sqname_of prefixes) (codes "eg:a:b" ∷ codes "eg:1/2" ∷ [])
    ≡ Some (codes "http://example.com/eg", codes "a:b") ∷ Some (codes "http://example.com/eg", codes "1/2") ∷ []
unfolding prefixes bound sqname_of
sqnames = refl

no_sqnames :
    map (sqname_of prefixes) (codes "eg:a b" ∷ codes "eg:\t" ∷ codes "eg:a\r" ∷ codes "eg:\na" ∷ codes "eg: " ∷ codes "eg:" ∷ codes "a" ∷ codes "zz:a" ∷ [])
    ≡ None ∷ None ∷ None ∷ None ∷ None ∷ None ∷ None ∷ None ∷ []
unfolding prefixes bound sqname_of
no_sqnames = refl

-- UNITS (xBRL-JSON 1.0, unit).
pure_units : map (unit_of prefixes) (codes "xbrli:pure" ∷ codes "(xbrli:pure)" ∷ []) ≡ Some Pure ∷ Some Pure ∷ []
unfolding prefixes bound unit_of qname_of is_ncname is_name_char is_name_start chars is_utf8 encode
pure_units = refl

written_units :
    map (unit_of prefixes)
    (codes "iso4217:EUR/xbrli:shares" ∷ codes "(eg:a*eg:b)/eg:c" ∷ codes "eg:a*eg:b/(eg:c)" ∷ codes "xbrli:pure*xbrli:pure" ∷ codes "xbrli:pure/xbrli:pure" ∷ codes "eg:pure"
    ∷ codes "xbrli:shares" ∷ [])
    ≡ Some Written ∷ Some Written ∷ Some Written ∷ Some Written ∷ Some Written ∷ Some Written ∷ Some Written ∷ []
unfolding prefixes bound unit_of qname_of is_ncname is_name_char is_name_start chars is_utf8 encode
written_units = refl

no_units :
    map (unit_of prefixes)
    (codes "eg:a/eg:b/eg:c" ∷ codes "eg:a*" ∷ codes "((eg:a))" ∷ [] ∷ codes "(" ∷ codes "()" ∷ codes "eg:a/" ∷ codes "/eg:a" ∷ codes "(eg:ab" ∷ codes "xeg:a)" ∷ codes "eg:a eg:b" ∷ codes "zz:a" ∷ [])
    ≡ None ∷ None ∷ None ∷ None ∷ None ∷ None ∷ None ∷ None ∷ None ∷ None ∷ None ∷ None ∷ []
unfolding prefixes bound unit_of qname_of is_ncname is_name_char is_name_start chars is_utf8 encode
no_units = refl

-- LANGUAGES (BCP 47): `A`, `Z`, `a`, `z` and the characters next to them, and the same for `0`,
-- `9`.
letters : (list_all is_letter (65 ∷ 90 ∷ 97 ∷ 122 ∷ []) ≡ true) × (list_any is_letter (64 ∷ 91 ∷ 96 ∷ 123 ∷ 48 ∷ 57 ∷ []) ≡ false)
letters = (refl, refl)

letters_and_digits : (list_all is_letter_or_digit (65 ∷ 122 ∷ 48 ∷ 57 ∷ []) ≡ true) × (list_any is_letter_or_digit (47 ∷ 58 ∷ 45 ∷ 95 ∷ []) ≡ false)
letters_and_digits = (refl, refl)

languages : map language_of (codes "e" ∷ codes "en-GB" ∷ codes "ABCDEFGH-12345678-x" ∷ []) ≡ Some (codes "e") ∷ Some (codes "en-gb") ∷ Some (codes "abcdefgh-12345678-x") ∷ []
unfolding language_of
languages = refl

-- A part of nine characters is too long, and an empty one is too short.
no_languages :
    map language_of ([] ∷ codes "en_GB" ∷ codes "e1" ∷ codes "en-" ∷ codes "-en" ∷ codes "en--x" ∷ codes "abcdefghi" ∷ codes "en-123456789" ∷ codes "en " ∷ [])
    ≡ None ∷ None ∷ None ∷ None ∷ None ∷ None ∷ None ∷ None ∷ None ∷ []
unfolding language_of
no_languages = refl

-- FAULTS: this project's numbers and names.
numbers : map number_of (BadPrefix ∷ Repeated ∷ Memory ∷ []) ≡ 60 ∷ 61 ∷ 62 ∷ []
numbers = refl

names : map name_of (BadPrefix ∷ Repeated ∷ Memory ∷ []) ≡ codes "BadPrefix" ∷ codes "Repeated" ∷ codes "Memory" ∷ []
names = refl
