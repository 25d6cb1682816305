use Rattle.request_codec.proofs.Sendings.{cut_more, puts_cut, puts_then, sent_cut, sent_sent}
use Rattle.rio_commands.proofs.registry_lines.put_file.Goals as goal

pub returns-in_err-held : goal.returns-in_err-held
returns-in_err-held g c = puts_cut c.from_residual.ensures.0 (cut_more _ (cut_more _ (cut_more _ (cut_more _ c.in_err-held.ensures.err))))

pub returns-in_err-held-2 : goal.returns-in_err-held-2
returns-in_err-held-2 g c =
    puts_cut c.from_residual-in_err-held-2.ensures.0 (cut_more _ (cut_more _ (cut_more _ (sent_cut c.in_ok-held.ensures.ok.sent c.in_err-held-2.ensures.err))))

pub returns-in_err-held-3 : goal.returns-in_err-held-3
returns-in_err-held-3 g c =
    puts_cut c.from_residual-in_err-held-3.ensures.0
    (cut_more _ (cut_more _ (sent_cut (sent_sent c.in_ok-held.ensures.ok.sent c.in_ok-held-2.ensures.ok.sent) c.in_err-held-3.ensures.err)))

pub returns-in_err-held-4 : goal.returns-in_err-held-4
returns-in_err-held-4 g c =
    puts_cut c.from_residual-in_err-held-4.ensures.0
    (cut_more _ (sent_cut (sent_sent (sent_sent c.in_ok-held.ensures.ok.sent c.in_ok-held-2.ensures.ok.sent) c.in_ok-held-3.ensures.ok.sent) c.in_err-held-4.ensures.err))

pub returns : goal.returns
returns g c =
    puts_then (sent_sent (sent_sent (sent_sent c.in_ok-held.ensures.ok.sent c.in_ok-held-2.ensures.ok.sent) c.in_ok-held-3.ensures.ok.sent) c.in_ok-held-4.ensures.ok.sent) c.put.ensures
