use Rattle.std.proofs.Common.{refl, arith, ◌∙◌}
use Rattle.rio_base.proofs.HostPieces.{come_more}
use Rattle.rio_base.proofs.host_reading.read_from.Goals as goal

pub pieces-init : goal.pieces-init
pieces-init g c = record { kept = refl; asks = refl; come = λ some. absurd (omega (arith, some)); fits = omega arith; room = refl; later = omega arith }

pub pieces-preserved : goal.pieces-preserved
pieces-preserved g c = record {
  kept = c.in_ok-count.ensures.files ∙ c.pieces.invariant.kept;
  asks = c.in_ok-count.ensures.asked ∙ c.pieces.invariant.asks;
  come = λ some. come_more _ _ _ _ _ _ _ c.pieces.invariant.come (rw c.pieces.invariant.kept at c.in_ok-count.ensures.bytes) c.in_ok-count.ensures.front c.in_ok-count.ensures.bound;
  fits = c.in_ok-count.ensures.bound;
  room = c.in_ok-count.ensures.room ∙ c.pieces.invariant.room;
  later = omega (arith, c.in_ok-count.ensures.cause.later, c.pieces.invariant.later);
}

pub returns-then-done-into-clause-bytes : goal.returns-then-done-into-clause-bytes
returns-then-done-into-clause-bytes g c = come_more _ _ _ _ _ _ _ c.pieces.invariant.come (rw c.pieces.invariant.kept at c.in_ok-count.ensures.bytes) c.in_ok-count.ensures.front c.in_ok-count.ensures.bound
