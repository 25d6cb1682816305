use Rattle.request_codec.proofs.Sendings.{cut_at, cut_more, room_sent, sent_cut, sent_sent}
use Rattle.rio_commands.proofs.check_lines.send_census.Goals as goal

pub returns-in_err-nodes : goal.returns-in_err-nodes
returns-in_err-nodes g c = cut_at c.from_residual.ensures.0 (cut_more _ c.in_err-nodes.ensures.err)

pub returns-in_err-line : goal.returns-in_err-line
returns-in_err-line g c = cut_at c.from_residual-in_err-line.ensures.0 (sent_cut c.in_ok-nodes.ensures.ok.sent c.in_err-line.ensures.err)

pub returns : goal.returns
returns g c = room_sent (sent_sent c.in_ok-nodes.ensures.ok.sent c.in_ok-line.ensures.ok.sent) c.send.ensures
