-- The definitions on worked cases. Their results are from XML Schema Part 2, second edition.
use Rattle.std.proofs.Common.{◌≡◌, [], ◌∷◌, true, false, refl, codes, map}
use Rattle.std.specs.List.{list_all, list_any}
use Rattle.std.specs.Str.{chars, is_utf8}
use lib.Utf8.{encode}
use Rattle.oim_names.specs.Bindings.{Bindings}
use Rattle.oim_names.specs.Names.{is_name_start, is_name_char, is_ncname}
use Rattle.oim_names.specs.QName.{qname_of}
use Rattle.oim_schema.specs.declared.integers.IntegerType.TheVariants.{PositiveInteger, NonNegativeInteger, NegativeInteger, NonPositiveInteger, Long, Int, Short, Byte}
use Rattle.oim_schema.specs.declared.integers.IntegerType.TheVariants.{UnsignedLong, UnsignedInt, UnsignedShort, UnsignedByte}
use Rattle.oim_schema.specs.declared.dates.DateForm.TheVariants.{DateTime, Time, Date, GYear, GYearMonth, GMonth, GMonthDay, GDay}
use Rattle.oim_period.specs.Calendar.{is_date}
use Rattle.oim_schema.specs.DatesTimes.{is_date_form}
use Rattle.oim_schema.specs.Durations.{is_duration}
use Rattle.oim_schema.specs.HexBinary.{is_hex_binary}
use Rattle.oim_schema.specs.Members.{is_member_set, joined}
use Rattle.oim_schema.specs.Units.{is_currency, is_shares}
use Rattle.oim_schema.specs.Integers.{is_bounded_integer}

-- INTEGERS. The examples of each section, then the bounds, leading zeros and signs. The refused
-- ones are the neighbors of the bounds, zeros with a sign, and texts that are not numerals.
positive : list_all (is_bounded_integer PositiveInteger) (codes "1" ∷ codes "12678967543233" ∷ codes "+100000" ∷ codes "001" ∷ codes "+1" ∷ codes "18446744073709551616" ∷ []) ≡ true
unfolding is_bounded_integer
positive = refl

no_positive : list_any (is_bounded_integer PositiveInteger) (codes "0" ∷ codes "-0" ∷ codes "+0" ∷ codes "-1" ∷ [] ∷ codes "+" ∷ codes "1.0" ∷ codes "1e2" ∷ codes " 1" ∷ codes "+-1" ∷ codes "1 2" ∷ []) ≡ false
unfolding is_bounded_integer
no_positive = refl

non_negative : list_all (is_bounded_integer NonNegativeInteger) (codes "1" ∷ codes "0" ∷ codes "12678967543233" ∷ codes "+100000" ∷ codes "-0" ∷ codes "-000" ∷ codes "+0" ∷ []) ≡ true
unfolding is_bounded_integer
non_negative = refl

no_non_negative : list_any (is_bounded_integer NonNegativeInteger) (codes "-1" ∷ codes "-01" ∷ codes "-18446744073709551616" ∷ codes "-" ∷ []) ≡ false
unfolding is_bounded_integer
no_non_negative = refl

negative : list_all (is_bounded_integer NegativeInteger) (codes "-1" ∷ codes "-12678967543233" ∷ codes "-100000" ∷ codes "-001" ∷ codes "-18446744073709551616" ∷ []) ≡ true
unfolding is_bounded_integer
negative = refl

no_negative : list_any (is_bounded_integer NegativeInteger) (codes "0" ∷ codes "-0" ∷ codes "+0" ∷ codes "1" ∷ codes "+1" ∷ codes "--1" ∷ codes "18446744073709551616" ∷ []) ≡ false
unfolding is_bounded_integer
no_negative = refl

non_positive : list_all (is_bounded_integer NonPositiveInteger) (codes "-1" ∷ codes "0" ∷ codes "-12678967543233" ∷ codes "-100000" ∷ codes "-0" ∷ codes "+0" ∷ codes "000" ∷ []) ≡ true
unfolding is_bounded_integer
non_positive = refl

no_non_positive : list_any (is_bounded_integer NonPositiveInteger) (codes "1" ∷ codes "+1" ∷ codes "01" ∷ codes "99999999999999999999999" ∷ []) ≡ false
unfolding is_bounded_integer
no_non_positive = refl

longs : list_all (is_bounded_integer Long) (codes "-1" ∷ codes "0" ∷ codes "12678967543233" ∷ codes "+100000" ∷ codes "-9223372036854775808" ∷ codes "9223372036854775807" ∷ codes "+0000000000000000000000009223372036854775807" ∷ []) ≡ true
unfolding is_bounded_integer
longs = refl

no_longs : list_any (is_bounded_integer Long) (codes "-9223372036854775809" ∷ codes "9223372036854775808" ∷ codes "18446744073709551616" ∷ codes "-18446744073709551616" ∷ []) ≡ false
unfolding is_bounded_integer
no_longs = refl

ints : list_all (is_bounded_integer Int) (codes "-1" ∷ codes "0" ∷ codes "126789675" ∷ codes "+100000" ∷ codes "-2147483648" ∷ codes "2147483647" ∷ []) ≡ true
unfolding is_bounded_integer
ints = refl

no_ints : list_any (is_bounded_integer Int) (codes "-2147483649" ∷ codes "2147483648" ∷ []) ≡ false
unfolding is_bounded_integer
no_ints = refl

shorts : list_all (is_bounded_integer Short) (codes "-1" ∷ codes "0" ∷ codes "12678" ∷ codes "+10000" ∷ codes "-32768" ∷ codes "32767" ∷ []) ≡ true
unfolding is_bounded_integer
shorts = refl

no_shorts : list_any (is_bounded_integer Short) (codes "-32769" ∷ codes "32768" ∷ []) ≡ false
unfolding is_bounded_integer
no_shorts = refl

bytes : list_all (is_bounded_integer Byte) (codes "-1" ∷ codes "0" ∷ codes "126" ∷ codes "+100" ∷ codes "-128" ∷ codes "127" ∷ codes "-0128" ∷ []) ≡ true
unfolding is_bounded_integer
bytes = refl

no_bytes : list_any (is_bounded_integer Byte) (codes "-129" ∷ codes "128" ∷ codes "+128" ∷ []) ≡ false
unfolding is_bounded_integer
no_bytes = refl

unsigned_longs : list_all (is_bounded_integer UnsignedLong) (codes "0" ∷ codes "12678967543233" ∷ codes "100000" ∷ codes "18446744073709551615" ∷ codes "000" ∷ []) ≡ true
unfolding is_bounded_integer
unsigned_longs = refl

no_unsigned_longs : list_any (is_bounded_integer UnsignedLong) (codes "18446744073709551616" ∷ codes "+0" ∷ codes "-0" ∷ codes "+1" ∷ codes "-1" ∷ [] ∷ []) ≡ false
unfolding is_bounded_integer
no_unsigned_longs = refl

unsigned_ints : list_all (is_bounded_integer UnsignedInt) (codes "0" ∷ codes "1267896754" ∷ codes "100000" ∷ codes "4294967295" ∷ codes "04294967295" ∷ []) ≡ true
unfolding is_bounded_integer
unsigned_ints = refl

no_unsigned_ints : list_any (is_bounded_integer UnsignedInt) (codes "4294967296" ∷ codes "+0" ∷ codes "-0" ∷ codes "-1" ∷ []) ≡ false
unfolding is_bounded_integer
no_unsigned_ints = refl

unsigned_shorts : list_all (is_bounded_integer UnsignedShort) (codes "0" ∷ codes "12678" ∷ codes "10000" ∷ codes "65535" ∷ []) ≡ true
unfolding is_bounded_integer
unsigned_shorts = refl

no_unsigned_shorts : list_any (is_bounded_integer UnsignedShort) (codes "65536" ∷ codes "+0" ∷ codes "-0" ∷ codes "-1" ∷ []) ≡ false
unfolding is_bounded_integer
no_unsigned_shorts = refl

unsigned_bytes : list_all (is_bounded_integer UnsignedByte) (codes "0" ∷ codes "126" ∷ codes "100" ∷ codes "255" ∷ []) ≡ true
unfolding is_bounded_integer
unsigned_bytes = refl

no_unsigned_bytes : list_any (is_bounded_integer UnsignedByte) (codes "256" ∷ codes "+0" ∷ codes "-0" ∷ codes "-1" ∷ []) ≡ false
unfolding is_bounded_integer
no_unsigned_bytes = refl

-- DATES AND TIMES. Section 3.2.7 (dateTime) and its time zones, the bounds of each part, the
-- midnight that ends a day, and fractions.
date_times : list_all (is_date_form DateTime) (codes "2002-10-10T12:00:00-05:00" ∷ codes "2002-10-10T17:00:00Z" ∷ codes "2002-10-10T12:00:00" ∷ codes "2000-03-04T23:00:00+03:00" ∷ codes "2000-03-04T20:00:00Z" ∷ codes "1999-12-31T24:00:00" ∷ codes "9999-12-31T24:00:00" ∷ codes "0001-01-01T00:00:00" ∷ codes "9999-12-31T23:59:59" ∷ codes "2000-01-15T12:00:00.5" ∷ codes "2000-01-15T12:00:00.000000000000000000001Z" ∷ codes "2000-01-15T24:00:00.000-14:00" ∷ codes "2000-02-29T00:00:00+14:00" ∷ codes "2000-01-15T12:00:00-00:00" ∷ codes "2000-01-15T12:00:00+13:59" ∷ []) ≡ true
unfolding is_date_form is_date
date_times = refl

no_date_times : list_any (is_date_form DateTime) ([] ∷ codes "2002-10-10" ∷ codes "2002-10-10T" ∷ codes "2002-10-10 12:00:00" ∷ codes "2002-10-10t12:00:00" ∷ codes "2002-10-10T12:00" ∷ codes "2002-10-10T12:00:60" ∷ codes "2002-10-10T12:60:00" ∷ codes "2002-10-10T25:00:00" ∷ codes "2002-10-10T24:00:01" ∷ codes "2002-10-10T24:01:00" ∷ codes "2002-10-10T24:00:00.001" ∷ codes "2002-10-10T12:00:00." ∷ codes "2002-10-10T12:00:00.Z" ∷ codes "2002-10-10T12:00:00,5" ∷ codes "2002-10-10T12:00:00+14:01" ∷ codes "2002-10-10T12:00:00+15:00" ∷ codes "2002-10-10T12:00:00-13:60" ∷ codes "2002-10-10T12:00:00+0500" ∷ codes "2002-10-10T12:00:00+05" ∷ codes "2002-10-10T12:00:00z" ∷ codes "2002-10-10T12:00:00ZZ" ∷ codes "2002-10-10T12:00:00Z " ∷ codes "2001-02-29T00:00:00" ∷ codes "1900-02-29T00:00:00" ∷ codes "2002-13-10T12:00:00" ∷ codes "2002-00-10T12:00:00" ∷ codes "2002-10-00T12:00:00" ∷ codes "2002-04-31T12:00:00" ∷ codes "0000-01-01T00:00:00" ∷ codes "-0001-01-01T00:00:00" ∷ codes "12002-10-10T12:00:00" ∷ codes "202-10-10T12:00:00" ∷ codes "2002-10-10T1:00:00" ∷ codes "2002/10/10T12:00:00" ∷ codes "2002-10-10T12-00-00" ∷ []) ≡ false
unfolding is_date_form is_date
no_date_times = refl

-- Section 3.2.8 (time).
times : list_all (is_date_form Time) (codes "13:20:00-05:00" ∷ codes "00:00:00" ∷ codes "23:59:59Z" ∷ codes "24:00:00" ∷ codes "24:00:00.0Z" ∷ codes "13:20:00.123+00:00" ∷ []) ≡ true
unfolding is_date_form is_date
times = refl

no_times : list_any (is_date_form Time) ([] ∷ codes "13:20" ∷ codes "13:20:60" ∷ codes "24:00:00.5" ∷ codes "24:00:01" ∷ codes "1:20:00" ∷ codes "13:20:00." ∷ codes "13:20:00-14:30" ∷ codes "T13:20:00" ∷ codes "13:20:00.5.5" ∷ codes "13:2/:00" ∷ codes "13:2::00" ∷ []) ≡ false
unfolding is_date_form is_date
no_times = refl

-- Section 3.2.9 (date).
dates : list_all (is_date_form Date) (codes "2002-10-10" ∷ codes "2002-10-10+13:00" ∷ codes "2002-10-09-11:00" ∷ codes "2002-10-10Z" ∷ codes "2004-02-29" ∷ codes "2000-02-29Z" ∷ codes "9999-12-31" ∷ codes "0001-01-01" ∷ []) ≡ true
unfolding is_date_form is_date
dates = refl

no_dates : list_any (is_date_form Date) ([] ∷ codes "2002-10-10T00:00:00" ∷ codes "2002-10-1" ∷ codes "2002-10-32" ∷ codes "2003-02-29" ∷ codes "2100-02-29" ∷ codes "2002-06-31" ∷ codes "2002-10-10+14:01" ∷ codes "0000-10-10" ∷ codes "-2002-10-10" ∷ codes "2002-10-10 " ∷ []) ≡ false
unfolding is_date_form is_date
no_dates = refl

-- Sections 3.2.10 (gYearMonth) and 3.2.11 (gYear).
year_months : list_all (is_date_form GYearMonth) (codes "1999-05" ∷ codes "1999-12Z" ∷ codes "0001-01-14:00" ∷ codes "9999-12+05:30" ∷ []) ≡ true
unfolding is_date_form is_date
year_months = refl

no_year_months : list_any (is_date_form GYearMonth) ([] ∷ codes "1999" ∷ codes "1999-13" ∷ codes "1999-00" ∷ codes "1999-5" ∷ codes "1999-05-01" ∷ codes "0000-05" ∷ codes "199905" ∷ codes "99-05" ∷ codes "1999-0:" ∷ []) ≡ false
unfolding is_date_form is_date
no_year_months = refl

years : list_all (is_date_form GYear) (codes "1999" ∷ codes "0001" ∷ codes "9999Z" ∷ codes "1999-05:00" ∷ codes "2002+14:00" ∷ []) ≡ true
unfolding is_date_form is_date
years = refl

no_years : list_any (is_date_form GYear) ([] ∷ codes "99" ∷ codes "199" ∷ codes "0000" ∷ codes "10000" ∷ codes "-1999" ∷ codes "1999-05" ∷ codes "1999z" ∷ codes "19:9" ∷ []) ≡ false
unfolding is_date_form is_date
no_years = refl

-- Sections 3.2.12 (gMonthDay), 3.2.13 (gDay) and 3.2.14 (gMonth).
month_days : list_all (is_date_form GMonthDay) (codes "--05-31" ∷ codes "--02-29" ∷ codes "--12-31Z" ∷ codes "--01-01-05:00" ∷ codes "--04-30+14:00" ∷ []) ≡ true
unfolding is_date_form is_date
month_days = refl

no_month_days : list_any (is_date_form GMonthDay) ([] ∷ codes "--02-30" ∷ codes "--04-31" ∷ codes "--13-01" ∷ codes "--00-01" ∷ codes "--01-00" ∷ codes "--01-32" ∷ codes "-01-01" ∷ codes "--0101" ∷ codes "--1-01" ∷ codes "01-01" ∷ codes "--05-31-1" ∷ []) ≡ false
unfolding is_date_form is_date
no_month_days = refl

days : list_all (is_date_form GDay) (codes "---01" ∷ codes "---31" ∷ codes "---31Z" ∷ codes "---15+05:30" ∷ []) ≡ true
unfolding is_date_form is_date
days = refl

no_days : list_any (is_date_form GDay) ([] ∷ codes "---00" ∷ codes "---32" ∷ codes "--31" ∷ codes "31" ∷ codes "---1" ∷ codes "---311" ∷ codes "----1" ∷ []) ≡ false
unfolding is_date_form is_date
no_days = refl

months : list_all (is_date_form GMonth) (codes "--05" ∷ codes "--01" ∷ codes "--12" ∷ codes "--12Z" ∷ codes "--05-05:00" ∷ []) ≡ true
unfolding is_date_form is_date
months = refl

no_months : list_any (is_date_form GMonth) ([] ∷ codes "--00" ∷ codes "--13" ∷ codes "--05--" ∷ codes "05" ∷ codes "--5" ∷ codes "-05" ∷ codes "--055" ∷ []) ≡ false
unfolding is_date_form is_date
no_months = refl

-- DURATIONS. The examples of section 3.2.6, each part alone, and long numbers.
durations : list_all (is_duration) (codes "P1Y2M3DT10H30M" ∷ codes "-P120D" ∷ codes "P1347Y" ∷ codes "P1347M" ∷ codes "P1Y2MT2H" ∷ codes "P0Y1347M" ∷ codes "P0Y1347M0D" ∷ codes "-P1347M" ∷ codes "P1Y" ∷ codes "P1M" ∷ codes "P1D" ∷ codes "PT1H" ∷ codes "PT1M" ∷ codes "PT1S" ∷ codes "PT1.5S" ∷ codes "PT0.000000000000000000001S" ∷ codes "P1Y1M1DT1H1M1.0S" ∷ codes "P1MT1M" ∷ codes "P99999999999999999999999Y" ∷ codes "PT30M12S" ∷ []) ≡ true
unfolding is_duration
durations = refl

-- Its refused examples and their neighbors.
no_durations : list_any (is_duration) (codes "P-1347M" ∷ codes "P1Y2MT" ∷ [] ∷ codes "P" ∷ codes "-P" ∷ codes "-" ∷ codes "PT" ∷ codes "-PT" ∷ codes "P1" ∷ codes "1Y" ∷ codes "+P1Y" ∷ codes "--P1Y" ∷ codes "p1Y" ∷ codes "P1y" ∷ codes "P1S" ∷ codes "P1H" ∷ codes "PT1Y" ∷ codes "PT1D" ∷ codes "P1M1Y" ∷ codes "P1D1M" ∷ codes "P1Y1Y" ∷ codes "PT1M1H" ∷ codes "PT1S1M" ∷ codes "P1.5Y" ∷ codes "P1,5Y" ∷ codes "PT1.S" ∷ codes "PT.5S" ∷ codes "PT1.5" ∷ codes "PT1.5M" ∷ codes "PT1.5.5S" ∷ codes "P1YT" ∷ codes "P1Y " ∷ codes "P 1Y" ∷ codes "PY" ∷ codes "PTS" ∷ codes "P1YT1" ∷ []) ≡ false
unfolding is_duration
no_durations = refl

-- BINARY TEXTS. The example of section 3.2.15, no octet, and both cases of letters.
binary_texts : list_all (is_hex_binary) (codes "0FB7" ∷ [] ∷ codes "00" ∷ codes "0fb7" ∷ codes "aF09" ∷ codes "ABCDEFabcdef0123456789" ∷ []) ≡ true
unfolding is_hex_binary
binary_texts = refl

no_binary_texts : list_any (is_hex_binary) (codes "0" ∷ codes "0FB" ∷ codes "0G" ∷ codes "G0" ∷ codes "0x0F" ∷ codes "0F B7" ∷ codes " 0F" ∷ codes "/0" ∷ codes ":0" ∷ codes "@0" ∷ codes "`0" ∷ codes "g0" ∷ []) ≡ false
unfolding is_hex_binary
no_binary_texts = refl

-- UNITS (XBRL 2.1, section 4.8.2). Two prefixes name currencies' namespace and that of instances.
prefixes : Bindings
prefixes = (codes "c", codes "http://www.xbrl.org/2003/iso4217") ∷ (codes "eg", codes "http://example.com/eg") ∷ (codes "xbrli", codes "http://www.xbrl.org/2003/instance") ∷ []

currencies : list_all (is_currency prefixes) (codes "c:EUR" ∷ codes "c:USD" ∷ codes "c:XYZ" ∷ []) ≡ true
unfolding prefixes is_currency qname_of is_ncname is_name_char is_name_start chars is_utf8 encode
currencies = refl

no_currencies : list_any (is_currency prefixes) ([] ∷ codes "EUR" ∷ codes "c:eur" ∷ codes "c:EU" ∷ codes "c:EURO" ∷ codes "c:E1R" ∷ codes "c:" ∷ codes "xbrli:EUR" ∷ codes "eg:EUR" ∷ codes "zz:EUR" ∷ codes "(c:EUR)" ∷ codes "c:EUR/xbrli:shares" ∷ codes "c:EUR*c:USD" ∷ codes "xbrli:pure" ∷ codes "xbrli:shares" ∷ []) ≡ false
unfolding prefixes is_currency qname_of is_ncname is_name_char is_name_start chars is_utf8 encode
no_currencies = refl

shares : list_all (is_shares prefixes) (codes "xbrli:shares" ∷ []) ≡ true
unfolding prefixes is_shares qname_of is_ncname is_name_char is_name_start chars is_utf8 encode
shares = refl

no_shares : list_any (is_shares prefixes) ([] ∷ codes "shares" ∷ codes "xbrli:Shares" ∷ codes "xbrli:pure" ∷ codes "xbrli:share" ∷ codes "eg:shares" ∷ codes "c:shares" ∷ codes "(xbrli:shares)" ∷ codes "xbrli:shares/xbrli:pure" ∷ codes "c:EUR" ∷ []) ≡ false
unfolding prefixes is_shares qname_of is_ncname is_name_char is_name_start chars is_utf8 encode
no_shares = refl

-- SETS OF MEMBERS (Extensible Enumerations 2.0). No member, one, several, and blanks of each kind.
member_sets : list_all (is_member_set prefixes) ([] ∷ codes "  " ∷ codes "eg:a" ∷ codes "eg:a eg:b" ∷ codes " eg:a\teg:b\r\neg:c " ∷ codes "eg:a c:a" ∷ codes "eg:a eg:A" ∷ []) ≡ true
unfolding prefixes is_member_set qname_of is_ncname is_name_char is_name_start chars is_utf8 encode
member_sets = refl

-- A member twice, a text that is not a QName, and a prefix that is not declared.
no_member_sets : list_any (is_member_set prefixes) (codes "eg:a eg:a" ∷ codes "eg:a eg:b eg:a" ∷ codes " eg:a  eg:a " ∷ codes "eg:a,eg:b" ∷ codes "eg:a b" ∷ codes "zz:a" ∷ codes "eg:a zz:b" ∷ codes "eg:" ∷ []) ≡ false
unfolding prefixes is_member_set qname_of is_ncname is_name_char is_name_start chars is_utf8 encode
no_member_sets = refl

-- How they are written: in their order, joined by one space, without other blanks.
written_sets :
    map joined ([] ∷ codes "  " ∷ codes "eg:a" ∷ codes " eg:b\t\teg:a\r\neg:c\n" ∷ codes "eg:b eg:a" ∷ [])
    ≡ [] ∷ [] ∷ codes "eg:a" ∷ codes "eg:b eg:a eg:c" ∷ codes "eg:b eg:a" ∷ []
unfolding joined
written_sets = refl
