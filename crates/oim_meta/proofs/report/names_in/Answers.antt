use Rattle.std.proofs.Common.{◌≡◌}
use Rattle.serde_json.specs.View.{view}
use Rattle.oim_meta.specs.WalkReport.{in_document}
use Rattle.oim_meta.proofs.Refused.{good_namespaces}
use Rattle.oim_meta.proofs.report.names_in.Goals as goal

pub prefixes-requires : goal.prefixes-requires
prefixes-requires c =
    let all : c.find_document.new.findings ≡ in_document (view c.args.value.now) = rw c.requires at c.in_ok-find_document.ensures in
    good_namespaces (view c.args.value.now) (rw all at c.in_ok-refuse.ensures.none)
