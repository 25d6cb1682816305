use Rattle.request_codec.proofs.Sendings.{cut_more, puts_cut, puts_then, sent_cut, sent_sent}
use Rattle.rio_commands.proofs.check_lines.put_nodes.Goals as goal

pub returns-in_err-held : goal.returns-in_err-held
returns-in_err-held g c = puts_cut c.from_residual.ensures.0 (cut_more _ (cut_more _ (rw c.from.ensures at c.in_err-held.ensures.err)))

pub returns-in_err-held-2 : goal.returns-in_err-held-2
returns-in_err-held-2 g c =
    puts_cut c.from_residual-in_err-held-2.ensures.0 (cut_more _ (sent_cut (rw c.from.ensures at c.in_ok-held.ensures.ok.sent) (rw c.from-2.ensures at c.in_err-held-2.ensures.err)))

pub returns : goal.returns
returns g c =
    puts_then (sent_sent (rw c.from.ensures at c.in_ok-held.ensures.ok.sent) (rw c.from-2.ensures at c.in_ok-held-2.ensures.ok.sent)) (rw c.from-3.ensures at c.put_number-3.ensures)
