use Rattle.rio_base.proofs.Frames.{read_ok, read_value, read_on, read_word, shaped_block}
use Rattle.inode_table.proofs.reading.read_inode.Goals as goal

pub returns-in_err-read_run-clause-read : goal.returns-in_err-read_run-clause-read
returns-in_err-read_run-clause-read g c = read_on c.read_run.result c.from_residual.result c.in_err-read_run.was c.from_residual.ensures.1 (read_word c.read_run.result (shaped_block c.args.shape.now _ _ _ c.requires.can.meets c.read_run.ensures.looks c.read_run.ensures.caches) c.read_run.ensures.passes c.read_run.ensures.ends c.read_run.ensures.sound)

pub returns-clause-read : goal.returns-clause-read
returns-clause-read g c = read_value _ (read_ok c.read_run.result _ c.in_ok-read_run.was (read_word c.read_run.result (shaped_block c.args.shape.now _ _ _ c.requires.can.meets c.read_run.ensures.looks c.read_run.ensures.caches) c.read_run.ensures.passes c.read_run.ensures.ends c.read_run.ensures.sound))
