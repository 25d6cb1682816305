use Rattle.std.proofs.Common.{◌≡◌, ◌≤◌, ◌*◌, ◌++◌, ◌-◌, drop, length, take}
use Rattle.hex.specs.Hex.{encode_lower}
use Rattle.request_codec.proofs.hex_text.encode_runs.Given as goal

abbrev pub invariant-runs : goal.invariant-runs
invariant-runs l = record {
  within : l.done ≤ length l.input;
  front : take (2 * l.done) l.output ++ encode_lower (drop l.done l.input) ≡ encode_lower l.input;
}

abbrev pub decreases-runs : goal.decreases-runs
decreases-runs l = length l.input - l.done
