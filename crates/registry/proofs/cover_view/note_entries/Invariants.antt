use Rattle.std.proofs.Common.{◌≡◌, ℕ, ◌<◌, length, slice_index}
use Rattle.rio_model.specs.Cover.{holds, last_of}
use Rattle.registry.specs.Views.{entry_mark}
use Rattle.registry.proofs.cover_view.note_entries.Given as goal

abbrev pub invariant-loop-k : goal.invariant-loop-k
invariant-loop-k g l = record {
  count : length l.entries ≡ length l.fn.entries;
  noted : (b : ℕ) → b < length l.fn.entries → slice_index l.entries b ≡ entry_mark (last_of (holds (g.M.Machine.contents l.m).words b) l.k);
}
