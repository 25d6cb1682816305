use Rattle.volume_check.proofs.Common.{◌≤◌, reserved}
use Rattle.volume_check.proofs.Bitmaps.{TellsOwners}
use Rattle.volume_check.proofs.mark_rules.keeps_marks.Given as goal

-- the bits of the blocks before this one say who has one
abbrev pub invariant-loop-b : goal.invariant-loop-b
invariant-loop-b l = record {
  from : reserved l.shape ≤ l.b;
  told : TellsOwners l.bitmap l.owners (reserved l.shape) l.b;
}
