use Rattle.std.proofs.Common.{◌≡◌, ◌++◌, ◌∷◌, [], codes}
use Rattle.serde_json.specs.Find.{get}
use Rattle.serde_json.specs.View.{view}
use Rattle.oim_entries.specs.declared.fault.MetaFault.TheVariants.{NotReport, Unsupported}
use Rattle.oim_meta.specs.Faults.{has_no_report, is_no_empty_object}
use Rattle.oim_meta.specs.Findings.{found}
use Rattle.oim_meta.specs.Members.{if_there}
use Rattle.oim_meta.specs.Paths.{document_path}
use Rattle.oim_meta.specs.WalkReport.{in_document, in_info_in}
use Rattle.oim_meta.proofs.Joined.{joined}
use Rattle.oim_meta.proofs.document.find_document.Goals as goal

pub returns : goal.returns
unfolding in_document
returns c =
    let d = view c.args.report.now in
    let first : c.add_if.new.self ≡ c.args.findings.now ++ found NotReport (document_path ++ codes "documentType" ∷ []) (has_no_report d) =
    rw (← c.no_report.ensures, ← c.at.ensures) c.add_if.ensures in
    let info : c.find_info_in.new.findings ≡ c.add_if.new.self ++ in_info_in (get (codes "documentInfo") d) = c.in_ok-find_info_in.ensures in
    let last : c.add_if-2.new.self ≡ c.find_info_in.new.findings ++ found Unsupported (codes "links" ∷ []) (if_there is_no_empty_object (get (codes "links") d)) =
    rw (← c.has_links.ensures, ← c.at-2.ensures) c.add_if-2.ensures in
    joined _ _ _ _ _ (joined _ _ _ _ _ first info) last
