use Rattle.request_codec.proofs.Sendings.{cut_at, room_sent}
use Rattle.request_codec.proofs.reply_text.send_line.Goals as goal

pub returns-in_err-line : goal.returns-in_err-line
returns-in_err-line g c = cut_at c.from_residual.ensures.0 c.in_err-line.ensures.err

pub returns : goal.returns
returns g c = room_sent c.in_ok-line.ensures.ok.sent c.send-2.ensures
