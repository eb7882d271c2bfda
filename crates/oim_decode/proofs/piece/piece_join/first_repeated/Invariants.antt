use Rattle.std.proofs.Common.{◌≡◌, ◌++◌, ◌+◌, length, take}
use Rattle.std.specs.List.{position_from}
use Rattle.std.specs.Vec.Iter.{into_iter_items}
use Rattle.oim_decode.specs.Apart.{repeated_from}
use Rattle.oim_decode.proofs.RepeatedIds.{IsAmong}
use Rattle.oim_decode.proofs.piece.piece_join.first_repeated.Given as goal

abbrev pub invariant-loop-id : goal.invariant-loop-id
invariant-loop-id l = record {
  place : repeated_from 0 l.fn.before l.fn.ids.items ≡ repeated_from l.place l.before (into_iter_items l.id-iterator);
  known : l.known ≡ position_from (IsAmong l.fn.before) l.place (into_iter_items l.id-iterator);
  joined : l.before ++ into_iter_items l.id-iterator ≡ l.fn.before ++ l.fn.ids.items;
  seen : take l.place l.fn.ids.items ++ into_iter_items l.id-iterator ≡ l.fn.ids.items;
  count : l.place + length (into_iter_items l.id-iterator) ≡ length l.fn.ids.items;
  begun : l.before ≡ l.fn.before ++ take l.place l.fn.ids.items;
}
