use Rattle.std.proofs.Common.{◌≤◌, ◌-◌}
use Rattle.memchr.specs.Find.{Nowhere, Passes, is_byte}
use Rattle.request_codec.proofs.far_byte.first_within.Given as goal

abbrev pub invariant-steps : goal.invariant-steps
invariant-steps l = record {
  within : l.at ≤ l.to;
  passed : Nowhere (Passes (is_byte l.byte) l.bytes) 0 l.at;
}

abbrev pub decreases-steps : goal.decreases-steps
decreases-steps l = l.to - l.at
