-- A place in a metadata and a finding, as the program holds them.
use Rattle.std.specs.Prelude.{[], ◌++◌, option_map}
use Rattle.std.specs.Option.{option_to_list}
use Rattle.oim_meta.specs.declared.json_path.MetadataPart.{MetadataPart}
use Rattle.oim_meta.specs.declared.json_path.MetadataPart.TheVariants.{Report, Document, Template, Column, Group, Table}
use Rattle.oim_meta.specs.declared.json_path.JsonPath.{JsonPath}
use Rattle.oim_meta.specs.Paths.{Path, document_path, template_path, column_path, group_path, table_path}
use Rattle.oim_meta.specs.declared.findings.Finding.{Finding}
use Rattle.oim_meta.specs.declared.findings.Found.{Found}
use Rattle.oim_meta.specs.Findings.{finding}

-- The keys that lead to a part.
abbrev pub part_path : MetadataPart → Path
part_path Report = []
part_path Document = document_path
part_path (Template t) = template_path t.now
part_path (Column t c) = column_path t.now c.now
part_path (Group t c g) = group_path t.now c.now g.now
part_path (Table t) = table_path t.now

-- The keys that lead to a place: to a part, to one of its properties, to a name in it.
abbrev pub place_path : JsonPath → Path
place_path p = part_path p.part ++ option_to_list (option_map (λ k. k.now) p.property) ++ option_to_list (option_map (λ k. k.now) p.name)

-- A finding of the program as a finding.
abbrev pub seen_found : Found → Finding
seen_found f = finding f.fault (place_path f.place)
