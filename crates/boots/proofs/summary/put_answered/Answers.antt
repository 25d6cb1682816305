use Rattle.request_codec.proofs.Sendings.{cut_more, puts_cut, puts_then, sent_cut, sent_sent}
use Rattle.boots.specs.Summaries.{answered_line, is_ok}
use Rattle.boots.proofs.Tallies.{passing_few}
use Rattle.boots.proofs.summary.put_answered.Goals as goal

pub ok_replies-requires : goal.ok_replies-requires
ok_replies-requires g c = passing_few is_ok c.args.runs.now c.requires.few

pub returns-in_err-held : goal.returns-in_err-held
unfolding answered_line
returns-in_err-held g c = puts_cut c.from_residual.ensures.0 (cut_more _ (cut_more _ (rw c.all_replies.ensures at c.in_err-held.ensures.err)))

pub returns-in_err-held-2 : goal.returns-in_err-held-2
unfolding answered_line
returns-in_err-held-2 g c =
    puts_cut c.from_residual-in_err-held-2.ensures.0
    (cut_more _ (sent_cut (rw c.all_replies.ensures at c.in_ok-held.ensures.ok.sent) (rw c.ok_replies.ensures at c.in_err-held-2.ensures.err)))

pub returns : goal.returns
unfolding answered_line
returns g c =
    puts_then (sent_sent (rw c.all_replies.ensures at c.in_ok-held.ensures.ok.sent) (rw c.ok_replies.ensures at c.in_ok-held-2.ensures.ok.sent)) c.put.ensures
