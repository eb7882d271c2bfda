use Rattle.std.proofs.Common.{◌≡◌, ◌⊎◌, ◌<◌, ◌≤◌, ◌-◌, length, IfSome, IsSome, None}
use Rattle.oim_json.specs.Blocks.{behind_commas}
use Rattle.oim_decode.specs.Blocks.{IsBehind}
use Rattle.oim_decode.specs.state.Blocks.{HasRead, blocks_left, end_or_left, turns_left}
use Rattle.oim_decode.specs.state.RowParts.{with_rest}
use Rattle.oim_decode.proofs.table.table_blocks.fill_with_rows.Given as goal

abbrev pub invariant-loop-whole : goal.invariant-loop-whole
invariant-loop-whole g l = record {
  reads : IfSome (end_or_left l.fn.settled l.fn.rows.left) (λ s. HasRead l.fn.rows.header.table s (with_rest l.fn.facts l.fn.rows.rest) (with_rest l.facts l.rows.rest) (end_or_left l.settled l.rows.left));
  again : IsSome l.fn.settled → blocks_left l.rows l.facts l.settled ≡ blocks_left l.fn.rows l.fn.facts l.fn.settled;
  table : l.rows.header.table ≡ l.fn.rows.header.table;
  limit : l.rows.header.limit ≡ l.fn.rows.header.limit;
  whole : l.whole ≤ 256;
  behind : l.fn.settled ≡ None → IfSome l.fn.rows.unread (λ rs. IsBehind l.fn.rows.header.table rs (l.rows.given - l.fn.rows.given) l.settled l.rows.unread);
  begun : l.fn.rows.given ≤ l.rows.given;
  within : l.rows.given ≤ l.rows.header.limit;
  moves : (l.fn.rows.given < l.rows.given) ⊎ (with_rest l.facts l.rows.rest ≡ with_rest l.fn.facts l.fn.rows.rest);
  long : IsSome l.rows.rest → 131072 < length (behind_commas l.facts);
  closed : IsSome l.settled → l.rows.rest ≡ None;
}

abbrev pub decreases-loop-whole : goal.decreases-loop-whole
decreases-loop-whole g l = turns_left l.settled (l.rows.header.limit - l.rows.given)
