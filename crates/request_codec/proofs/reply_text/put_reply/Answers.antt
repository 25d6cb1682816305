use Rattle.request_codec.proofs.Sendings.{cut_more, puts_cut, puts_then}
use Rattle.request_codec.proofs.reply_text.put_reply.Goals as goal

pub returns-in_err-body : goal.returns-in_err-body
returns-in_err-body g c = puts_cut c.from_residual.ensures.0 (cut_more _ c.in_err-body.ensures.err)

pub returns : goal.returns
returns g c = puts_then c.in_ok-body.ensures.ok.sent c.put.ensures
