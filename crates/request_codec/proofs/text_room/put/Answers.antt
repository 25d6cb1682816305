use Rattle.std.proofs.Common.{arith}
use Rattle.request_codec.proofs.Sendings.{cut_flushed, cut_more, held_more, puts_cut, sent_cut, sent_flushed, sent_last}
use Rattle.request_codec.proofs.text_room.put.Goals as goal

pub returns-in_err-send : goal.returns-in_err-send
returns-in_err-send g c = puts_cut c.from_residual.ensures.0 (cut_more _ (cut_flushed c.in_err-send.ensures.err))

pub returns-in_err-send-2 : goal.returns-in_err-send-2
returns-in_err-send-2 g c = puts_cut c.from_residual-in_err-send-2.ensures.0 (sent_cut (sent_flushed c.in_ok-send.ensures.ok) c.in_err-send-2.ensures.err)

pub returns-then-bytes-room : goal.returns-then-bytes-room
returns-then-bytes-room g c = record {
  ok = record { fits = omega arith; sent = sent_last c.in_ok-send.ensures.ok c.in_ok-send-2.ensures.ok };
  err = tt;
}

pub returns-in_err-held : goal.returns-in_err-held
returns-in_err-held g c = puts_cut c.from_residual-in_err-held.ensures.0 (cut_more _ c.in_err-held.ensures.puts.err)

pub returns : goal.returns
returns g c = record {
  ok = record {
    fits = omega (arith, c.in_ok-held.ensures.room, c.hold.auto.room);
    sent = held_more c.args.bytes.now c.in_ok-held.ensures.puts.ok.sent c.hold.ensures;
  };
  err = tt;
}
