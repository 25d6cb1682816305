use Rattle.std.proofs.Common.{ℕ, ◌≡◌, ◌<◌, ◌≤◌}
use Rattle.std.specs.Prelude.{◌==◌}
use Rattle.volume_check.specs.Bitmap.{held_bit}
use Rattle.volume_check.proofs.mark_rules.are_marked.Given as goal

-- the bits before block b are so
abbrev pub invariant-loop-b : goal.invariant-loop-b
invariant-loop-b l = (b : ℕ) → l.from ≤ b → b < l.b → (held_bit l.bitmap b == 1) ≡ l.used
