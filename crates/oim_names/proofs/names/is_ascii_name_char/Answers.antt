use Rattle.std.proofs.Common.{refl, arith}
use Rattle.oim_names.specs.declared.names.TheConstants.{NAME_BYTES}
use Rattle.oim_names.specs.Names.{is_name_start, is_name_char}
use Rattle.oim_names.proofs.ByteTables.{agree_below, from_table}
use Rattle.oim_names.proofs.names.is_ascii_name_char.Goals as goal

pub returns : goal.returns
unfolding agree_below is_name_start is_name_char
returns c = from_table is_name_char NAME_BYTES c.args.byte (omega arith) refl
