use Rattle.std.proofs.Common.{◌∷◌, [], Err, subst, sym}
use Rattle.serde_json.specs.View.{view}
use Rattle.oim_meta.specs.Reading.{IsUnread, IsUrlOf, Reads}
use Rattle.oim_meta.proofs.Refused.{url_of_value}
use Rattle.oim_files.specs.Metadata.{profile, url_result}
use Rattle.oim_files.proofs.MetadataFacts.{says_url, unread_url, url_fault}
use Rattle.oim_files.specs.Steps.{TakesTo, looking}
use Rattle.oim_files.proofs.StepFacts.{looks_url, looks_value, looks_whole}
use Rattle.oim_files.proofs.steps.metadata_in.Goals as goal

pub returns-in-Ok-parameter_url : goal.returns-in-Ok-parameter_url
returns-in-Ok-parameter_url c = record {
  gives =
      let within = subst (λ l. Reads l c.as_slice.result.now (view c.in-Ok.metadata)) c.profile.ensures c.in-Ok.ensures.json in
      let reads = subst (λ xs. Reads profile xs (view c.in-Ok.metadata)) c.as_slice.ensures.value within in
      let named = subst (λ url. IsUrlOf (view c.in-Ok.metadata) url) (sym c.text_of.ensures) c.in-Ok-parameter_url.ensures.value in
      let is = says_url profile c.args.bytes.items c.text_of.result (reads.0, (view c.in-Ok.metadata, reads.1, named)) in
      ((looks_value (url_result profile c.args.bytes.items) c.text_of.result is).0, (reads, is));
}

pub returns : goal.returns
returns c = record {
  gives =
      let within = subst (λ l. Reads l c.as_slice.result.now (view c.in-Ok.metadata)) c.profile.ensures c.in-Ok.ensures.json in
      let reads = subst (λ xs. Reads profile xs (view c.in-Ok.metadata)) c.as_slice.ensures.value within in
      looks_url (url_result profile c.args.bytes.items) c.in-Err-parameter_url.fault c.of_url.result c.of_url.ensures
      (url_fault profile c.args.bytes.items c.in-Err-parameter_url.fault
      (url_of_value profile c.args.bytes.items (view c.in-Ok.metadata) c.in-Err-parameter_url.fault reads c.in-Err-parameter_url.ensures.fault));
}

pub returns-in-Err : goal.returns-in-Err
returns-in-Err c = record {
  gives =
      let within = subst (λ l. IsUnread l c.as_slice.result.now c.in-Err.fault) c.profile.ensures c.in-Err.ensures.fault in
      let unread = subst (λ xs. IsUnread profile xs c.in-Err.fault) c.as_slice.ensures.value within in
      let answer = url_result profile c.args.bytes.items in
      subst (λ o. TakesTo (looking answer ∷ []) answer (Err o)) (sym c.whole.ensures)
      (looks_whole answer c.in-Err.fault (unread_url profile c.args.bytes.items c.in-Err.fault unread));
}
