-- The answer of a conversion on one thread that has the end of its run as a fault.
use Rattle.std.specs.Prelude.{Result, Ok, Err}
use Rattle.std.specs.Global.{Vec}
use Rattle.oim_merge.specs.declared.progress.MergeEnd.{MergeEnd}
use Rattle.oim_merge.specs.declared.progress.MergeEnd.TheVariants as end
use Rattle.oim_rows.specs.declared.fault.TableFault.{TableFault}
use Rattle.oim_convert.specs.declared.fault.ConvertFault.{ConvertFault}
use Rattle.oim_convert.specs.declared.fault.ConvertFault.TheVariants as fault
use Rattle.oim_convert.specs.declared.run.Run.{Run}

abbrev pub answer_at : Vec TableFault → MergeEnd → Result (Unit {0}) ConvertFault
answer_at faults end.Complete = Ok tt
answer_at faults end.Refused = Err (fault.Tables faults)
answer_at faults (end.Write w) = Err (fault.Write w)

abbrev pub answer_of : Result Run ConvertFault → Result (Unit {0}) ConvertFault
answer_of (Ok run) = answer_at run.faults run.end
answer_of (Err f) = Err f
