use Rattle.std.proofs.Common.{◌<◌, ℕ, slice_index}
use Rattle.volume_check.specs.Entries.{KeepsEntry}
use Rattle.volume_check.proofs.entries.are_entries.Given as goal

abbrev pub invariant-loop-j : goal.invariant-loop-j
invariant-loop-j l = (j : ℕ) → j < l.j → KeepsEntry l.inodes (slice_index l.words) j
