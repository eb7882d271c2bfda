-- What contracts see of the value that is read from the cell of a fact: its text and its accuracy.
-- A set of members is read last, so that value may still have a fault.
use Rattle.std.specs.Prelude.{Option, Some, None, Result, Ok, Err}
use Rattle.oim_cells.specs.declared.cells.Accuracy.{Accuracy}
use Rattle.oim_report.specs.ReportValue.{ReportValue}
use Rattle.oim_resolve.specs.declared.fact.CellFault.{CellFault}
use Rattle.oim_resolve.specs.declared.reading.FactValue.{FactValue}
use Rattle.oim_resolve.specs.declared.reading.ValueText.{ValueText}
use Rattle.oim_resolve.specs.declared.reading.ValueText.TheVariants.{Plain, Set}
use Rattle.oim_resolve.specs.FactValues.{ValueParts, set_given, set_read}

abbrev pub seen_text : ReportValue → Option ValueText → Option Accuracy → Result ValueParts CellFault
seen_text r None a = Ok (record { text = None; accuracy = a })
seen_text r (Some (Plain t)) a = Ok (record { text = Some t.now; accuracy = a })
seen_text r (Some (Set t)) a = set_given (set_read r t.now)

abbrev pub seen_value : ReportValue → FactValue → Result ValueParts CellFault
seen_value r v = seen_text r v.text v.accuracy

abbrev pub seen_reading : ReportValue → Result FactValue CellFault → Result ValueParts CellFault
seen_reading r (Ok v) = seen_value r v
seen_reading r (Err f) = Err f
