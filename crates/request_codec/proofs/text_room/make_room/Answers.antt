use Rattle.std.proofs.Common.{arith}
use Rattle.request_codec.proofs.Sendings.{cut_flushed, puts_cut, sent_flushed, sent_none}
use Rattle.request_codec.proofs.text_room.make_room.Goals as goal

pub returns-in_err-send-clause-puts : goal.returns-in_err-send-clause-puts
returns-in_err-send-clause-puts g c = puts_cut c.from_residual.ensures.0 (cut_flushed c.in_err-send.ensures.err)

pub returns-then-room-held-clause-puts : goal.returns-then-room-held-clause-puts
returns-then-room-held-clause-puts g c = record {
  ok = record { fits = omega arith; sent = sent_flushed c.in_ok-send.ensures.ok };
  err = tt;
}

pub returns-clause-puts : goal.returns-clause-puts
returns-clause-puts g c = record {
  ok = record { fits = c.requires.fits; sent = sent_none };
  err = tt;
}
