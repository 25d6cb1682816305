use Rattle.std.proofs.Common.{◌≡◌}
use Rattle.rio_model.specs.Cover.{holds, last_of}
use Rattle.test_objects.proofs.standing.entry_of.Given as goal

abbrev pub invariant-loop-k : goal.invariant-loop-k
invariant-loop-k l = l.found ≡ last_of (holds l.words l.b.0) l.k
