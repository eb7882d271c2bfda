use Rattle.std.proofs.Common.{option_map, string_bytes, subst, sym}
use Rattle.oim_meta.specs.Reading.{IsUrlFault, SaysUrl}
use Rattle.oim_files.specs.Metadata.{profile, url_result}
use Rattle.oim_files.proofs.MetadataFacts.{says_url, url_fault}
use Rattle.oim_files.proofs.StepFacts.{looks_url, looks_value}
use Rattle.oim_files.proofs.steps.url_in.Goals as goal

pub returns-in-Ok : goal.returns-in-Ok
returns-in-Ok c = record {
  gives =
      looks_value (url_result profile c.args.metadata.now) c.text_of.result (says_url profile c.args.metadata.now c.text_of.result
      (subst (λ url. SaysUrl profile c.args.metadata.now url) (sym c.text_of.ensures)
      (subst (λ l. SaysUrl l c.args.metadata.now (option_map string_bytes c.in-Ok.url)) c.profile.ensures c.in-Ok.ensures.value)));
}

pub returns-in-Err : goal.returns-in-Err
returns-in-Err c = record {
  gives =
      looks_url (url_result profile c.args.metadata.now) c.in-Err.fault c.of_url.result c.of_url.ensures
      (url_fault profile c.args.metadata.now c.in-Err.fault (subst (λ l. IsUrlFault l c.args.metadata.now c.in-Err.fault) c.profile.ensures c.in-Err.ensures.fault));
}
