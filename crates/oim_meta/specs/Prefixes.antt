-- The prefixes of a metadata with their URIs (xBRL-CSV 1.0: namespaces of documentInfo).
use Rattle.std.specs.Prelude.{unwrap_or, codes}
use Rattle.serde_json.specs.Data.{Data, null, Members}
use Rattle.serde_json.specs.Find.{get}
use Rattle.oim_names.specs.Bindings.{Bindings}
use Rattle.oim_meta.specs.Members.{text_of, section, map_members}

-- The name of each member with its text.
abbrev pub bindings_of : Members → Bindings
bindings_of = map_members (λ prefix uri. (prefix, text_of uri))

-- The document information, or null.
abbrev pub document_info : Data → Data
document_info d = unwrap_or (get (codes "documentInfo") d) null

-- The prefixes of the metadata.
abbrev pub prefixes_of : Data → Bindings
prefixes_of d = bindings_of (section (codes "namespaces") (document_info d))
