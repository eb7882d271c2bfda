use Rattle.oim_table_faults.proofs.ListRows.{listed_file, refused_file}
use Rattle.oim_table_faults.proofs.file_faults.faults_of_file.Goals as goal

pub returns-in-Ok : goal.returns-in-Ok
returns-in-Ok g c =
    listed_file c.args.report.now c.args.table c.args.limits.rows c.in-Ok.rows.table (g.R.Read.remaining c.args.reader) c.in-Ok.rows.left c.rest_of.result
    c.in-Ok.ensures.start.0 c.in-Ok.ensures.rows c.in-Ok.ensures.header c.rest_of.ensures

pub returns-in-Err : goal.returns-in-Err
returns-in-Err g c =
    refused_file c.args.report.now c.args.table c.args.limits.rows (g.R.Read.remaining c.args.reader) c.in-Err.fault c.alone.result c.in-Err.ensures.fault c.alone.ensures
