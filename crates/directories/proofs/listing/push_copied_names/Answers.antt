use Rattle.rio_base.proofs.Frames.{read_ok, read_word, filled_value, filled_memory, filled_read}
use Rattle.directories.proofs.Common.{refl}
use Rattle.directories.proofs.Listed.{names_read, short_read}
use Rattle.directories.proofs.listing.push_copied_names.Goals as goal

pub returns-clause-value : goal.returns-clause-value
returns-clause-value g c = names_read _ _ c.args.b.0 c.args.count c.read_run.new.into c.args.names.now c.push_names.new.names refl c.requires.few c.requires.short c.in_ok-read_run.ensures.words c.in_ok-push_names.ensures

pub push_names-requires-clause-short : goal.push_names-requires-clause-short
push_names-requires-clause-short g c = short_read _ _ c.args.b.0 c.args.count c.read_run.new.into refl c.requires.few c.requires.short c.in_ok-read_run.ensures.words

pub returns-in_err-read_run-clause-read : goal.returns-in_err-read_run-clause-read
returns-in_err-read_run-clause-read g c = filled_read c.read_run.result c.from_residual.result c.in_err-read_run.was c.from_residual.ensures.1 (read_word c.read_run.result c.read_run.ensures.looks c.read_run.ensures.passes c.read_run.ensures.ends c.read_run.ensures.sound)

pub returns-in_err-push_names-clause-read : goal.returns-in_err-push_names-clause-read
returns-in_err-push_names-clause-read g c = filled_memory c.from_residual-in_err-push_names.result c.from_residual-in_err-push_names.ensures.1 (read_ok c.read_run.result _ c.in_ok-read_run.was (read_word c.read_run.result c.read_run.ensures.looks c.read_run.ensures.passes c.read_run.ensures.ends c.read_run.ensures.sound))

pub returns-clause-read : goal.returns-clause-read
returns-clause-read g c = filled_value _ (read_ok c.read_run.result _ c.in_ok-read_run.was (read_word c.read_run.result c.read_run.ensures.looks c.read_run.ensures.passes c.read_run.ensures.ends c.read_run.ensures.sound))
