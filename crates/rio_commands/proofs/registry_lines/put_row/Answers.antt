use Rattle.request_codec.proofs.Sendings.{cut_more, puts_cut, puts_then}
use Rattle.rio_commands.proofs.registry_lines.put_row.Goals as goal

pub returns-in_err-held : goal.returns-in_err-held
returns-in_err-held g c = puts_cut c.from_residual.ensures.0 (cut_more _ c.in_err-held.ensures.err)

pub returns : goal.returns
returns g c = puts_then c.in_ok-held.ensures.ok.sent c.put_file.ensures
