-- The fields of an entry and the forms of a types table, as the program holds them.
use Rattle.std.specs.Prelude.{◌≡◌, ⊤, ℕ, List, Result, Ok, Err}
use Rattle.std.specs.Borrow.{Bor}
use Rattle.oim_records.specs.Grids.{Field}
use Rattle.oim_entries.specs.declared.type_words.TypeWords.{TypeWords}
use Rattle.oim_entries.specs.declared.type_words.TypeWords.TheVariants.{Plain, Wider, Longest}
use Rattle.oim_entries.specs.declared.fields.TypeRecord.{TypeRecord}
use Rattle.oim_entries.specs.TypeWords.{Table, TypeTexts, by_three, by_type, plain_words, wider_words}
use Rattle.oim_entries.specs.BadEntries.{BadRecord}
use Rattle.oim_entries.specs.declared.entry_fault.EntryFault.{EntryFault}
use Rattle.oim_entries.specs.declared.entry_fault.Refused.{Refused}
use Rattle.oim_entries.specs.declared.entry_fault.Refused.TheVariants.{Bad, Unread}
use Rattle.oim_records.specs.Grids.{Record}

-- The bytes of two texts, and of three.
abbrev pub seen_two : Bor (List ℕ) × Bor (List ℕ) → Field × Field
seen_two p = (p.0.now, p.1.now)

abbrev pub seen_three : Bor (List ℕ) × Bor (List ℕ) × Bor (List ℕ) → Field × Field × Field
seen_three p = (p.0.now, p.1.now, p.2.now)

-- The texts of a record of a types table.
abbrev pub seen_texts : TypeRecord → TypeTexts
seen_texts t = (t.uri.now, t.local.now, t.word.now, t.period.now, t.values.now)

-- The forms of a types table, by the program's names for them.
abbrev pub table_in : TypeWords → Table
table_in Plain = by_type plain_words
table_in Wider = by_type wider_words
table_in Longest = by_three

-- What a call returns for this answer. Reading may end early.
abbrev pub Answers : {S : Type 0} → Result S Refused → Result S EntryFault → Type 0
Answers (Ok s) answer = answer ≡ Ok s
Answers (Err (Bad e)) answer = answer ≡ Err e
Answers (Err (Unread fault)) answer = ⊤

-- The same for an answer that has the record that was read last.
abbrev pub AnswersWith : {S : Type 0} → Record → Result S Refused → Result S BadRecord → Type 0
AnswersWith r (Ok s) answer = answer ≡ Ok s
AnswersWith r (Err (Bad e)) answer = answer ≡ Err (e, r)
AnswersWith r (Err (Unread fault)) answer = ⊤
