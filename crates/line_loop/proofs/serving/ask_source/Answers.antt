use Rattle.line_loop.proofs.Leaving.{end_no_source, err_other, limit_no_source, memory_no_source, ok_no_err, only_memory}
use Rattle.line_loop.proofs.serving.ask_source.Goals as goal

pub returns-in-Err-Limit-clause-cause : goal.returns-in-Err-Limit-clause-cause
returns-in-Err-Limit-clause-cause g c = err_other limit_no_source

pub returns-in-Err-Memory-clause-cause : goal.returns-in-Err-Memory-clause-cause
returns-in-Err-Memory-clause-cause g c = err_other (λ is. memory_no_source is)

pub returns-in-Ok-End-clause-cause : goal.returns-in-Ok-End-clause-cause
returns-in-Ok-End-clause-cause g c = err_other end_no_source

pub returns-in-Ok-TooLong-clause-cause : goal.returns-in-Ok-TooLong-clause-cause
returns-in-Ok-TooLong-clause-cause g c = ok_no_err

pub returns-in-Ok-Line-clause-cause : goal.returns-in-Ok-Line-clause-cause
returns-in-Ok-Line-clause-cause g c = only_memory c.meaning_of.result c.meaning_of.ensures.memory
