use Rattle.request_codec.proofs.Sendings.{cut_at, cut_more, room_sent, sent_cut, sent_sent}
use Rattle.rio_commands.proofs.check_lines.send_volume_rule.Goals as goal

pub returns-in_err-held : goal.returns-in_err-held
returns-in_err-held g c = cut_at c.from_residual.ensures.0 (cut_more _ (cut_more _ c.in_err-held.ensures.err))

pub returns-in_err-held-2 : goal.returns-in_err-held-2
returns-in_err-held-2 g c = cut_at c.from_residual-in_err-held-2.ensures.0 (cut_more _ (sent_cut c.in_ok-held.ensures.ok.sent c.in_err-held-2.ensures.err))

pub returns-in_err-line : goal.returns-in_err-line
returns-in_err-line g c = cut_at c.from_residual-in_err-line.ensures.0 (sent_cut (sent_sent c.in_ok-held.ensures.ok.sent c.in_ok-held-2.ensures.ok.sent) c.in_err-line.ensures.err)

pub returns : goal.returns
returns g c = room_sent (sent_sent (sent_sent c.in_ok-held.ensures.ok.sent c.in_ok-held-2.ensures.ok.sent) c.in_ok-line.ensures.ok.sent) c.send.ensures
