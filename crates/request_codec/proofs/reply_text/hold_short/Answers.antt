use Rattle.std.proofs.Common.{arith}
use Rattle.std.proofs.lemmas.List.{length-take-le}
use Rattle.request_codec.proofs.ShortNames.{space_held}
use Rattle.request_codec.proofs.reply_text.hold_short.Goals as goal

pub hold-requires-2 : goal.hold-requires-2
hold-requires-2 c = let whole = length-take-le 32 c.args.run.now c.requires.run in omega (arith, whole, c.requires.fits, c.hold.auto.room)

pub returns : goal.returns
returns c = space_held c.hold-2.new.room c.hold.new.room c.args.room.now c.args.run.now c.args.held c.requires.run c.hold-2.ensures c.hold.ensures
