use Rattle.request_codec.proofs.Sendings.{cut_at, cut_more, room_sent, sends_as, sent_cut, sent_sent}
use Rattle.boots.proofs.Telling.{summary_of}
use Rattle.boots.proofs.summary.send_summary.Goals as goal

pub returns-in_err-held : goal.returns-in_err-held
returns-in_err-held g c =
    sends_as (summary_of c.args.transcript.now c.as_slice-runs.result.now c.as_slice-runs.ensures)
    (cut_at c.from_residual.ensures.0 (cut_more _ (cut_more _ (cut_more _ c.in_err-held.ensures.err))))

pub returns-in_err-held-2 : goal.returns-in_err-held-2
returns-in_err-held-2 g c =
    sends_as (summary_of c.args.transcript.now c.as_slice-runs.result.now c.as_slice-runs.ensures)
    (cut_at c.from_residual-in_err-held-2.ensures.0 (cut_more _ (cut_more _ (sent_cut c.in_ok-held.ensures.ok.sent c.in_err-held-2.ensures.err))))

pub returns-in_err-held-3 : goal.returns-in_err-held-3
returns-in_err-held-3 g c =
    sends_as (summary_of c.args.transcript.now c.as_slice-runs.result.now c.as_slice-runs.ensures)
    (cut_at c.from_residual-in_err-held-3.ensures.0 (cut_more _ (sent_cut (sent_sent c.in_ok-held.ensures.ok.sent c.in_ok-held-2.ensures.ok.sent) c.in_err-held-3.ensures.err)))

pub returns-in_err-held-4 : goal.returns-in_err-held-4
returns-in_err-held-4 g c =
    sends_as (summary_of c.args.transcript.now c.as_slice-runs.result.now c.as_slice-runs.ensures)
    (cut_at c.from_residual-in_err-held-4.ensures.0 (sent_cut (sent_sent (sent_sent c.in_ok-held.ensures.ok.sent c.in_ok-held-2.ensures.ok.sent) c.in_ok-held-3.ensures.ok.sent) c.in_err-held-4.ensures.err))

pub returns : goal.returns
returns g c =
    sends_as (summary_of c.args.transcript.now c.as_slice-runs.result.now c.as_slice-runs.ensures)
    (room_sent (sent_sent (sent_sent (sent_sent c.in_ok-held.ensures.ok.sent c.in_ok-held-2.ensures.ok.sent) c.in_ok-held-3.ensures.ok.sent) c.in_ok-held-4.ensures.ok.sent) c.send.ensures)
