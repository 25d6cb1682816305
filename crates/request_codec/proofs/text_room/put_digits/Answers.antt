use Rattle.std.proofs.Common.{arith, decimal, ◌∙◌}
use Rattle.request_codec.proofs.Sendings.{digits_held, held_more, sent_none}
use Rattle.request_codec.proofs.text_room.put_digits.Goals as goal

pub returns-then-room-held : goal.returns-then-room-held
returns-then-room-held g c = rw (c.as_bytes.ensures.value ∙ c.format.ensures.text) at c.put.ensures

pub returns : goal.returns
returns g c =
    let wrote = c.write_digits.ensures in
    let held = digits_held c.args.room.now _ (decimal c.args.n) c.args.held _ _ (omega arith) wrote.start (omega arith) wrote.written wrote.before in
    record {
      ok = record { fits = omega arith; sent = held_more (decimal c.args.n) sent_none held };
      err = tt;
    }
