use Rattle.std.proofs.Common.{List, ℕ, ◌++◌, ◌∙◌, ap, arith, get_or, take, []}
use Rattle.request_codec.specs.Text.{listed_name}
use Rattle.request_codec.proofs.Sendings.{held_more, puts_as, sent_none}
use Rattle.request_codec.proofs.ShortNames.{short_held}
use Rattle.request_codec.proofs.reply_text.put_listed.Goals as goal

pub returns-then-is_short : goal.returns-then-is_short
returns-then-is_short g c =
    let short = c.is_short.ensures c.if-is_short.true in
    let held = c.args.held in
    let old = c.args.room.now in
    record {
      ok = record {
        fits = omega (arith, short, c.requires.fits, c.hold_short.auto.room);
        sent = held_more (listed_name (get_or c.args.names.now c.args.k [])) sent_none
            (short_held c.hold_short.new.room old c.run-len.result.0.now held c.run-len.result.1 c.requires.fits short.0 c.hold_short.ensures ∙ ap (λ (name : List ℕ). take held old ++ listed_name name) c.run-len.ensures.name);
      };
      err = tt;
    }

pub returns : goal.returns
returns g c = puts_as (ap listed_name c.run-len.ensures.name) c.put_name.ensures
