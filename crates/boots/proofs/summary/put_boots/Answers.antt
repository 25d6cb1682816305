use Rattle.request_codec.proofs.Sendings.{cut_more, puts_cut, puts_then, sent_cut, sent_sent}
use Rattle.boots.specs.Summaries.{boots_line}
use Rattle.boots.proofs.summary.put_boots.Goals as goal

pub returns-in_err-held : goal.returns-in_err-held
unfolding boots_line
returns-in_err-held g c = puts_cut c.from_residual.ensures.0 (cut_more _ (cut_more _ c.in_err-held.ensures.err))

pub returns-in_err-held-2 : goal.returns-in_err-held-2
unfolding boots_line
returns-in_err-held-2 g c =
    puts_cut c.from_residual-in_err-held-2.ensures.0 (cut_more _ (sent_cut c.in_ok-held.ensures.ok.sent (rw c.stopped_boots.ensures at c.in_err-held-2.ensures.err)))

pub returns : goal.returns
unfolding boots_line
returns g c = puts_then (sent_sent c.in_ok-held.ensures.ok.sent (rw c.stopped_boots.ensures at c.in_ok-held-2.ensures.ok.sent)) c.put.ensures
