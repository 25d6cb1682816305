-- What is read of a list of frames, with the knot behind them.
use Rattle.std.specs.Prelude.{ℕ, zero, suc, Bool, false, List, [], ◌∷◌, slice_index_or, Option, None, is_none}
use Rattle.std.specs.Option.{option_map}
use Rattle.frame_pool.specs.declared.frame.Frame.{Frame}

abbrev pub blank : Frame
blank = record { block = None; older = 0; younger = 0; pinned = false }

-- the block of frame k
abbrev pub block_at : List Frame → ℕ → Option ℕ
block_at frames k = option_map (λ b. b.0) (slice_index_or frames k blank).block

abbrev pub free_at : List Frame → ℕ → Bool
free_at frames k = is_none (block_at frames k)

abbrev pub pinned_at : List Frame → ℕ → Bool
pinned_at frames k = (slice_index_or frames k blank).pinned

abbrev pub older_at : List Frame → ℕ → ℕ
older_at frames k = (slice_index_or frames k blank).older

abbrev pub younger_at : List Frame → ℕ → ℕ
younger_at frames k = (slice_index_or frames k blank).younger

-- n numbers, each the next of the one before, from k on
unfoldable pub walk : (ℕ → ℕ) → ℕ → ℕ → List ℕ
walk next zero k = []
walk next (suc n) k = k ∷ walk next n (next k)

-- the n frames in order of use, from the one after the knot, which is number n
abbrev pub order_at : List Frame → ℕ → List ℕ
order_at frames n = walk (younger_at frames) n (younger_at frames n)
