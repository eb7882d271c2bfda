use Rattle.oim_files.proofs.StepFacts.{metadata_none, metadata_read}
use Rattle.oim_files.proofs.steps.metadata_at.Goals as goal

pub returns-in-Ok-clause-gives : goal.returns-in-Ok-clause-gives
returns-in-Ok-clause-gives g c =
    let bytes = rw c.new.ensures.0 at c.bytes_of.ensures.bytes in
    metadata_read g.R.Read.remaining c.in-Ok.reader (λ v. v.items) (g.F.Folder.files c.args.folder.now) c.args.path.now c.bytes_of.result
    c.in-Ok.ensures.gives bytes c.bytes_of.ensures.refused

pub returns-in-Err-clause-gives : goal.returns-in-Err-clause-gives
returns-in-Err-clause-gives g c = metadata_none (g.F.Folder.files c.args.folder.now) c.args.path.now c.in-Err.early c.in-Err.ensures.gives
