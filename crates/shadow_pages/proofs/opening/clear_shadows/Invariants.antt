use Rattle.std.proofs.Common.{◌≡◌, ℕ, ◌<◌, slice_index}
use Rattle.rio_base.specs.Machine.{Steps}
use Rattle.shadow_pages.specs.Steps.{Clears, IsCleared}
use Rattle.shadow_pages.proofs.opening.clear_shadows.Given as goal

-- the first i of the listed entries are cleared
abbrev pub invariant-loop-i : goal.invariant-loop-i
invariant-loop-i g l = record {
  clears : Clears (g.M.Machine.contents l.initial.m) (g.M.Machine.contents l.m);
  cleared : (i : ℕ) → i < l.i → IsCleared (g.M.Machine.contents l.m).words (slice_index l.shadowed i);
  steps : Steps (g.M.Machine.run l.initial.m) (g.M.Machine.run l.m);
  runs : (g.M.Machine.run l.m).stopped ≡ (g.M.Machine.run l.initial.m).stopped;
}
