use Rattle.std.proofs.Common.{◌≡◌, ℕ, ◌<◌, slice_index}
use Rattle.rio_base.specs.Machine.{Steps}
use Rattle.shadow_pages.specs.Steps.{IsRestored, Restores, StoresWords}
use Rattle.shadow_pages.proofs.undoing.restore_frames.Given as goal

-- the frames of the first i of the listed entries are restored
abbrev pub invariant-loop-i : goal.invariant-loop-i
invariant-loop-i g l = record {
  restores : Restores (g.M.Machine.contents l.initial.m).words (g.M.Machine.contents l.m).words;
  restored : (i : ℕ) → i < l.i → IsRestored (g.M.Machine.contents l.m).words (slice_index l.shadowed i);
  stores : StoresWords (g.M.Machine.contents l.initial.m) (g.M.Machine.contents l.m);
  steps : Steps (g.M.Machine.run l.initial.m) (g.M.Machine.run l.m);
  runs : (g.M.Machine.run l.m).stopped ≡ (g.M.Machine.run l.initial.m).stopped;
}
