use Rattle.rio_base.proofs.Frames.{read_ok, read_value, read_on, read_word}
use Rattle.directories.proofs.Found.{finds_read}
use Rattle.directories.proofs.finding.find_in_copy.Goals as goal

pub returns-clause-value : goal.returns-clause-value
returns-clause-value g c = finds_read _ _ c.args.b.0 c.args.count c.read_run.new.into c.args.name.now c.find_in.result (λ q. (g.V.Blocks.seen c.args.v.now).words) c.requires.few c.requires.key.few c.in_ok-read_run.ensures.words c.find_in.ensures

pub returns-in_err-read_run-clause-read : goal.returns-in_err-read_run-clause-read
returns-in_err-read_run-clause-read g c = read_on c.read_run.result c.from_residual.result c.in_err-read_run.was c.from_residual.ensures.1 (read_word c.read_run.result c.read_run.ensures.looks c.read_run.ensures.passes c.read_run.ensures.ends c.read_run.ensures.sound)

pub returns-clause-read : goal.returns-clause-read
returns-clause-read g c = read_value _ (read_ok c.read_run.result _ c.in_ok-read_run.was (read_word c.read_run.result c.read_run.ensures.looks c.read_run.ensures.passes c.read_run.ensures.ends c.read_run.ensures.sound))
