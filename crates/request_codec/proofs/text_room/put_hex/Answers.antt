use Rattle.std.proofs.Common.{◌≤◌, arith, subst, sym}
use Rattle.request_codec.proofs.EncodedParts.{encoded_cut, encoded_done, encoded_more, encoded_none}
use Rattle.request_codec.proofs.Sendings.{puts_cut}
use Rattle.request_codec.proofs.text_room.put_hex.Goals as goal

pub chunks-init : goal.chunks-init
chunks-init g c = record { few = omega arith; fits = omega arith; sent = encoded_none }

pub returns-in_err-held : goal.returns-in_err-held
returns-in_err-held g c = puts_cut c.from_residual.ensures.0 (encoded_cut _ _ c.chunks.invariant.sent c.in_err-held.ensures.puts.err)

pub chunks-preserved : goal.chunks-preserved
chunks-preserved g c = record {
  few = omega arith;
  fits = omega (arith, c.in_ok-held.ensures.room);
  sent = encoded_more c.args.bytes.now _ _ _ _ (omega arith) (omega arith) c.chunks.invariant.sent c.in_ok-held.ensures.puts.ok.sent c.hold_hex.ensures;
}

pub returns : goal.returns
returns g c = encoded_done c.args.bytes.now _ _ _ (omega (arith, c.chunks-test.false)) c.chunks.invariant.fits c.chunks.invariant.sent

pub make_room-requires-clause-enough : goal.make_room-requires-clause-enough
make_room-requires-clause-enough g c = subst (λ n. 2 ≤ n) (sym c.chunks.auto.room) c.requires.enough
