use Rattle.std.specs.Prelude.{◌≡◌, ℕ, ◌<◌, ◌≤◌, false, slice_index_or}
use Rattle.frame_pool.specs.Pools.{NoneFree, blocks_in, frames_in, is_pinned, pins_in}
use Rattle.part_tests.proofs.frame_pool_drawn_tests.drawn_calls_are_as_expected.Given as goal

abbrev pub invariant-loop-drawn : goal.invariant-loop-drawn
invariant-loop-drawn g l =
    (frames_in l.pool ≡ 32) × (blocks_in l.pool ≡ 64) × NoneFree l.pool × ((j : ℕ) → j < 32 → is_pinned l.pool j ≡ slice_index_or l.plain.pins j false)
    × (pins_in l.pool ≡ l.plain.pinned) × (l.plain.pinned ≤ 17)
