use Rattle.std.proofs.Common.{◌≡◌, ◌%◌, ◌-◌}
use Rattle.request_codec.proofs.HexRuns.{RunsDecoded}
use Rattle.request_codec.proofs.hex_runs.decode_many.Given as goal

abbrev pub invariant-runs : goal.invariant-runs
invariant-runs l = record {
  runs : l.done % 32 ≡ 0;
  decoded : RunsDecoded l.digits l.out l.least l.largest l.done;
}

abbrev pub decreases-runs : goal.decreases-runs
decreases-runs l = l.whole - l.done
