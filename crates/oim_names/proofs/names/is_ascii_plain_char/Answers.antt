use Rattle.std.proofs.Common.{refl, arith}
use Rattle.oim_names.specs.declared.names.TheConstants.{PLAIN_BYTES}
use Rattle.oim_names.specs.Names.{is_name_start, is_name_char, is_plain_char}
use Rattle.oim_names.proofs.ByteTables.{agree_below, from_table}
use Rattle.oim_names.proofs.names.is_ascii_plain_char.Goals as goal

pub returns : goal.returns
unfolding agree_below is_name_start is_name_char is_plain_char
returns c = from_table is_plain_char PLAIN_BYTES c.args.byte (omega arith) refl
