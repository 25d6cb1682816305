use Rattle.std.proofs.Common.{◌≤◌, ◌+◌, length}
use Rattle.request_codec.proofs.Names.{Counted}
use Rattle.request_codec.proofs.path.name_count.Given as goal

abbrev pub invariant-loop-rest : goal.invariant-loop-rest
invariant-loop-rest l = record {
  within : l.count + length l.rest ≤ length l.path;
  counted : Counted l.path l.count l.rest;
}

abbrev pub decreases-loop-rest : goal.decreases-loop-rest
decreases-loop-rest l = length l.rest
