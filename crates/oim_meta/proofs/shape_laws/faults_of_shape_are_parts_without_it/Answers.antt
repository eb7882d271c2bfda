use Rattle.oim_meta.proofs.ShapeLaws.{document_law, taxonomy_law, alone_law, shape_law}
use Rattle.oim_meta.proofs.PartLaws.{namespaces_law, identifiers_law, kinds_law, templates_law}
use Rattle.oim_meta.proofs.shape_laws.faults_of_shape_are_parts_without_it.Goals as goal

pub returns-clause-document : goal.returns-clause-document
returns-clause-document c = document_law

pub returns-clause-taxonomy : goal.returns-clause-taxonomy
returns-clause-taxonomy c = taxonomy_law

pub returns-clause-alone : goal.returns-clause-alone
returns-clause-alone c = alone_law

pub returns-clause-shape : goal.returns-clause-shape
returns-clause-shape c = shape_law

pub returns-clause-namespaces : goal.returns-clause-namespaces
returns-clause-namespaces c = namespaces_law

pub returns-clause-identifiers : goal.returns-clause-identifiers
returns-clause-identifiers c = identifiers_law

pub returns-clause-kinds : goal.returns-clause-kinds
returns-clause-kinds c = kinds_law

pub returns-clause-templates : goal.returns-clause-templates
returns-clause-templates c = templates_law
