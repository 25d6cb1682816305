use Rattle.request_codec.proofs.Sendings.{cut_more, puts_cut, puts_then, sent_cut, sent_sent}
use Rattle.boots.specs.Summaries.{nodes_line}
use Rattle.boots.proofs.summary.put_nodes.Goals as goal

pub returns-in_err-held : goal.returns-in_err-held
unfolding nodes_line
returns-in_err-held g c = puts_cut c.from_residual.ensures.0 (cut_more _ (cut_more _ (cut_more _ (cut_more _ (rw c.from.ensures at c.in_err-held.ensures.err)))))

pub returns-in_err-held-2 : goal.returns-in_err-held-2
unfolding nodes_line
returns-in_err-held-2 g c =
    puts_cut c.from_residual-in_err-held-2.ensures.0
    (cut_more _ (cut_more _ (cut_more _ (sent_cut (rw c.from.ensures at c.in_ok-held.ensures.ok.sent) (rw c.from-2.ensures at c.in_err-held-2.ensures.err)))))

pub returns-in_err-held-3 : goal.returns-in_err-held-3
unfolding nodes_line
returns-in_err-held-3 g c =
    puts_cut c.from_residual-in_err-held-3.ensures.0
    (cut_more _
    (cut_more _
    (sent_cut (sent_sent (rw c.from.ensures at c.in_ok-held.ensures.ok.sent) (rw c.from-2.ensures at c.in_ok-held-2.ensures.ok.sent))
    (rw c.from-3.ensures at c.in_err-held-3.ensures.err))))

pub returns-in_err-held-4 : goal.returns-in_err-held-4
unfolding nodes_line
returns-in_err-held-4 g c =
    puts_cut c.from_residual-in_err-held-4.ensures.0
    (cut_more _
    (sent_cut
    (sent_sent (sent_sent (rw c.from.ensures at c.in_ok-held.ensures.ok.sent) (rw c.from-2.ensures at c.in_ok-held-2.ensures.ok.sent))
    (rw c.from-3.ensures at c.in_ok-held-3.ensures.ok.sent))
    c.in_err-held-4.ensures.err))

pub returns : goal.returns
unfolding nodes_line
returns g c =
    puts_then
    (sent_sent
    (sent_sent (sent_sent (rw c.from.ensures at c.in_ok-held.ensures.ok.sent) (rw c.from-2.ensures at c.in_ok-held-2.ensures.ok.sent))
    (rw c.from-3.ensures at c.in_ok-held-3.ensures.ok.sent))
    c.in_ok-held-4.ensures.ok.sent)
    c.put.ensures
