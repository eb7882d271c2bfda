use Rattle.std.proofs.Common.{◌≡◌, drop}
use Rattle.xbrl_json_cli.specs.RecordCounts.{all_passed}
use Rattle.xbrl_json_cli.proofs.record_count.after_bytes.Given as goal

abbrev pub invariant-loop-byte : goal.invariant-loop-byte
invariant-loop-byte l = all_passed l.now (drop l.byte-index l.bytes) ≡ all_passed l.fn.count l.fn.bytes
