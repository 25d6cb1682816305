use Rattle.request_codec.proofs.Sendings.{cut_at, cut_more, room_sent, sent_cut, sent_sent}
use Rattle.rio_commands.proofs.registry_lines.send_name.Goals as goal

pub returns-in_err-reason : goal.returns-in_err-reason
returns-in_err-reason g c = cut_at c.from_residual.ensures.0 (cut_more _ (cut_more _ c.in_err-reason.ensures.err))

pub returns-in_err-body : goal.returns-in_err-body
returns-in_err-body g c = cut_at c.from_residual-in_err-body.ensures.0 (cut_more _ (sent_cut c.in_ok-reason.ensures.ok.sent c.in_err-body.ensures.err))

pub returns-in_err-line : goal.returns-in_err-line
returns-in_err-line g c =
    cut_at c.from_residual-in_err-line.ensures.0 (sent_cut (sent_sent c.in_ok-reason.ensures.ok.sent c.in_ok-body.ensures.ok.sent) c.in_err-line.ensures.err)

pub returns : goal.returns
returns g c = room_sent (sent_sent (sent_sent c.in_ok-reason.ensures.ok.sent c.in_ok-body.ensures.ok.sent) c.in_ok-line.ensures.ok.sent) c.send.ensures
