use Rattle.rio_base.specs.Frames.{HasRead, LooksShaped}
use Rattle.std.proofs.Common.{◌≡◌, ◌≢◌, ◌%◌, ◌-◌, ◌≤◌, take}
use Rattle.std.specs.Prelude.{None}
use Rattle.rio_base.specs.Blocks.{Caches}
use Rattle.block_alloc.specs.Words.{HoldsRun}
use Rattle.block_alloc.specs.Bitmap.{numbers}
use Rattle.block_alloc.proofs.Free.{free_before}
use Rattle.block_alloc.proofs.taking.take.Given as goal

abbrev pub invariant-loop-w : goal.invariant-loop-w
invariant-loop-w g l =
    let seen = g.V.Blocks.seen in
    record {
      within : l.w ≤ l.words;
      found : numbers l.found.items ≡ take l.n (free_before l.shape (seen l.fn.v).words l.w);
      run : l.w % 64 ≢ 0 → HoldsRun l.shape (seen l.fn.v).words l.w l.run;
      read : HasRead g.V.Blocks.seen g.V.Blocks.health g.V.Blocks.sound g.V.Blocks.passes (LooksShaped l.shape) l.fn.v l.v ⊥ ⊥;
      caches : Caches (seen l.fn.v) (seen l.v) 1 None;
    }

abbrev pub decreases-loop-w : goal.decreases-loop-w
decreases-loop-w g l = l.words - l.w
