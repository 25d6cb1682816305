use Rattle.std.proofs.Common.{Ok, ap, arith}
use Rattle.request_codec.proofs.Sendings.{cut_at, cut_here, cut_nothing, fits_left, sent_nothing, sent_piece, some_left}
use Rattle.request_codec.proofs.text_room.send.Goals as goal

pub calls-init : goal.calls-init
calls-init g c = record { few = omega arith; sent = sent_nothing }

pub calls-preserved : goal.calls-preserved
calls-preserved g c =
    let call = c.in_ok-taken.ensures in
    record {
      few = fits_left _ _ _ c.calls-test.true call.bound;
      sent = sent_piece _ _ _ _ _ _ _ _ _ c.calls.invariant.sent call.bytes (call.steady (omega arith));
    }

pub returns-in_err-taken : goal.returns-in_err-taken
returns-in_err-taken g c =
    let call = c.in_err-taken.ensures in
    cut_at c.from_residual.ensures.0 (cut_here c.calls.invariant.sent call.err call.cause.later call.cause.cause)

pub returns-then-taken-eq0 : goal.returns-then-taken-eq0
returns-then-taken-eq0 g c =
    let call = c.in_ok-taken.ensures in
    record {
      ok = tt;
      err = cut_nothing _ _ c.calls.invariant.sent call.bytes c.if-taken-eq0.true call.cause.later (call.nothing (ap (λ n. Ok n) c.if-taken-eq0.true) (some_left _ _ c.calls-test.true));
    }
