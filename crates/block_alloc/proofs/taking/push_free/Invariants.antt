use Rattle.std.proofs.Common.{◌≡◌, ◌-◌, ◌++◌, length, take}
use Rattle.std.specs.Vec.{vec_len}
use Rattle.block_alloc.specs.Bitmap.{numbers}
use Rattle.block_alloc.specs.Words.{set_bits}
use Rattle.block_alloc.proofs.taking.push_free.Given as goal

abbrev pub invariant-loop-rest : goal.invariant-loop-rest
invariant-loop-rest l = record {
  kept : numbers l.found.items ++ take (l.n - length l.found.items) (set_bits l.rest l.first) ≡ numbers l.fn.found.items ++ take (l.n - length l.fn.found.items) (set_bits l.free l.first);
}

abbrev pub decreases-loop-rest : goal.decreases-loop-rest
decreases-loop-rest l = l.n - vec_len l.found
