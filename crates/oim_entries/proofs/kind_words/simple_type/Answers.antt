use Rattle.std.proofs.Common.{refl}
use Rattle.oim_entries.proofs.TypeFacts.{differs}
use Rattle.oim_entries.proofs.kind_words.simple_type.Goals as goal

pub returns-in_default : goal.returns-in_default
returns-in_default c =
    let d = c.in_default in
    let t = c.args.word.now in
    rw (
      differs _ t d.not-integer,
      differs _ t d.not-decimal,
      differs _ t d.not-double,
      differs _ t d.not-positiveInteger,
      differs _ t d.not-nonNegativeInteger,
      differs _ t d.not-negativeInteger,
      differs _ t d.not-nonPositiveInteger,
      differs _ t d.not-long,
      differs _ t d.not-int,
      differs _ t d.not-short,
      differs _ t d.not-byte,
      differs _ t d.not-unsignedLong,
      differs _ t d.not-unsignedInt,
      differs _ t d.not-unsignedShort,
      differs _ t d.not-unsignedByte,
      differs _ t d.not-boolean,
      differs _ t d.not-qname,
      differs _ t d.not-date,
      differs _ t d.not-dateTime,
      differs _ t d.not-time,
      differs _ t d.not-gYear,
      differs _ t d.not-gYearMonth,
      differs _ t d.not-gMonth,
      differs _ t d.not-gMonthDay,
      differs _ t d.not-gDay,
      differs _ t d.not-duration,
      differs _ t d.not-language,
      differs _ t d.not-NCName,
      differs _ t d.not-hexBinary,
    ) refl
