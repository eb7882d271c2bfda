-- The number and the name of each fault of a metadata, a parameters file or a types table.
use Rattle.std.specs.Prelude.{ℕ, List, codes}
use Rattle.oim_entries.specs.declared.fault.MetaFault.{MetaFault}
use Rattle.oim_entries.specs.declared.fault.MetaFault.TheVariants.{Syntax, NotReport, BadNamespaces, BadTaxonomy, Unsupported, BadIdentifier, BadTemplate, ColumnKinds, UnknownTemplate}
use Rattle.oim_entries.specs.declared.fault.MetaFault.TheVariants.{UnknownColumn, BadDimension, BadDecimals, BadParameter, BadTypes, TooLarge, Memory, Read}

abbrev pub fault_number : MetaFault → ℕ
fault_number Syntax = 1
fault_number NotReport = 2
fault_number BadNamespaces = 3
fault_number BadTaxonomy = 4
fault_number Unsupported = 5
fault_number BadIdentifier = 6
fault_number BadTemplate = 7
fault_number ColumnKinds = 8
fault_number UnknownTemplate = 9
fault_number UnknownColumn = 10
fault_number BadDimension = 11
fault_number BadDecimals = 12
fault_number BadParameter = 13
fault_number BadTypes = 14
fault_number TooLarge = 15
fault_number Memory = 16
fault_number Read = 17

abbrev pub fault_name : MetaFault → List ℕ
fault_name Syntax = codes "Syntax"
fault_name NotReport = codes "NotReport"
fault_name BadNamespaces = codes "BadNamespaces"
fault_name BadTaxonomy = codes "BadTaxonomy"
fault_name Unsupported = codes "Unsupported"
fault_name BadIdentifier = codes "BadIdentifier"
fault_name BadTemplate = codes "BadTemplate"
fault_name ColumnKinds = codes "ColumnKinds"
fault_name UnknownTemplate = codes "UnknownTemplate"
fault_name UnknownColumn = codes "UnknownColumn"
fault_name BadDimension = codes "BadDimension"
fault_name BadDecimals = codes "BadDecimals"
fault_name BadParameter = codes "BadParameter"
fault_name BadTypes = codes "BadTypes"
fault_name TooLarge = codes "TooLarge"
fault_name Memory = codes "Memory"
fault_name Read = codes "Read"
