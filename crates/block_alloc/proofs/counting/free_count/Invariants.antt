use Rattle.rio_base.specs.Frames.{HasRead, LooksShaped}
use Rattle.std.proofs.Common.{◌≡◌, ◌≢◌, ◌%◌, ◌*◌, length}
use Rattle.std.specs.Prelude.{None}
use Rattle.std.specs.List.{filter, range_with_len}
use Rattle.rio_base.specs.Blocks.{Caches}
use Rattle.block_alloc.specs.Words.{counts, HoldsRun}
use Rattle.block_alloc.proofs.counting.free_count.Given as goal

abbrev pub invariant-loop-w : goal.invariant-loop-w
invariant-loop-w g l =
    let seen = g.V.Blocks.seen in
    record {
      free : l.free ≡ length (filter (counts l.shape (seen l.fn.v).words) (range_with_len 0 (64 * l.w)));
      run : l.w % 64 ≢ 0 → HoldsRun l.shape (seen l.fn.v).words l.w l.run;
      read : HasRead g.V.Blocks.seen g.V.Blocks.health g.V.Blocks.sound g.V.Blocks.passes (LooksShaped l.shape) l.fn.v l.v ⊥ ⊥;
      caches : Caches (seen l.fn.v) (seen l.v) 1 None;
    }
