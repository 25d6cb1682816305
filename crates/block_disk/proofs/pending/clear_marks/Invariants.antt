use Rattle.std.proofs.Common.{◌≡◌, ◌<◌, ℕ, false, length, slice_index}
use Rattle.rio_base.specs.Disks.{is_pending}
use Rattle.block_disk.proofs.pending.clear_marks.Given as goal

abbrev pub invariant-loop-i : goal.invariant-loop-i
invariant-loop-i l = record {
  count : length l.marks.items ≡ length l.initial.marks.items;
  cleared : (j : ℕ) → j < l.i → is_pending l.marks.items (slice_index l.numbers j) ≡ false;
  unmarked : (b : ℕ) → is_pending l.initial.marks.items b ≡ false → is_pending l.marks.items b ≡ false;
}
