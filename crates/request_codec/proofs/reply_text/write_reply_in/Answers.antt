use Rattle.request_codec.proofs.Sendings.{sends_cause, sends_cut, sends_ok, sends_steady}
use Rattle.request_codec.proofs.reply_text.write_reply_in.Goals as goal

pub returns-clause-ok : goal.returns-clause-ok
returns-clause-ok g c = sends_ok c.send_line.ensures

pub returns-clause-cut : goal.returns-clause-cut
returns-clause-cut g c = sends_cut c.send_line.ensures

pub returns-clause-steady : goal.returns-clause-steady
returns-clause-steady g c = sends_steady c.send_line.ensures

pub returns-clause-cause : goal.returns-clause-cause
returns-clause-cause g c = sends_cause c.send_line.ensures
