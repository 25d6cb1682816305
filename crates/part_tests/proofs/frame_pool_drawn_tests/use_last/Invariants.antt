use Rattle.std.specs.Prelude.{◌≡◌}
use Rattle.part_tests.proofs.frame_pool_drawn_tests.use_last.Given as goal

abbrev pub invariant-loop-i : goal.invariant-loop-i
invariant-loop-i l = (l.plain.pins ≡ l.initial.plain.pins) × (l.plain.pinned ≡ l.initial.plain.pinned)
