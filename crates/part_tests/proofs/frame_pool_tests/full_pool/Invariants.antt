use Rattle.std.specs.Prelude.{◌≡◌, ℕ, ◌<◌, ◌≤◌, Some, None, false}
use Rattle.frame_pool.specs.Pools.{block_of, blocks_in, frames_in, is_pinned, pins_in}
use Rattle.part_tests.proofs.frame_pool_tests.full_pool.Given as goal

abbrev pub invariant-loop-k : goal.invariant-loop-k
invariant-loop-k l =
    (frames_in l.pool ≡ 32) × (blocks_in l.pool ≡ 64) × ((j : ℕ) → j < l.k → block_of l.pool j ≡ Some j) × ((j : ℕ) → l.k ≤ j → block_of l.pool j ≡ None)
    × ((j : ℕ) → is_pinned l.pool j ≡ false) × (pins_in l.pool ≡ 0)
