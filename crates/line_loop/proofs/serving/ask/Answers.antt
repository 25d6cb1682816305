use Rattle.std.proofs.Common.{inl, le_refl, refl}
use Rattle.request_codec.proofs.Sendings.{sent_none}
use Rattle.line_loop.proofs.Leaving.{asked, err_other, memory_no_source, ok_no_err, sent_on, sink_no_source}
use Rattle.line_loop.proofs.serving.ask.Goals as goal

pub returns-in-Err-release-clause-end : goal.returns-in-Err-release-clause-end
returns-in-Err-release-clause-end g c = inl (refl, refl, refl, c.in-Err-release.ensures.err)

pub returns-in-Err-release-clause-later : goal.returns-in-Err-release-clause-later
returns-in-Err-release-clause-later g c = le_refl _

pub returns-in-Err-release-clause-cause : goal.returns-in-Err-release-clause-cause
returns-in-Err-release-clause-cause g c = err_other (λ is. sink_no_source is)

pub returns-in-Ok-release-clause-later : goal.returns-in-Ok-release-clause-later
returns-in-Ok-release-clause-later g c = le_refl _

pub returns-in-Ok-release-clause-cause : goal.returns-in-Ok-release-clause-cause
returns-in-Ok-release-clause-cause g c = err_other (λ is. memory_no_source is)

pub returns-in-Err-release-2-clause-end : goal.returns-in-Err-release-2-clause-end
returns-in-Err-release-2-clause-end g c = inl (refl, refl, refl, c.in-Err-release-2.ensures.err)

pub returns-in-Err-release-2-clause-later : goal.returns-in-Err-release-2-clause-later
returns-in-Err-release-2-clause-later g c = le_refl _

pub returns-in-Err-release-2-clause-cause : goal.returns-in-Err-release-2-clause-cause
returns-in-Err-release-2-clause-cause g c = err_other (λ is. sink_no_source is)

pub returns-in-Ok-clause-waits : goal.returns-in-Ok-clause-waits
returns-in-Ok-clause-waits g c = sent_none

pub returns-in-Ok-clause-later : goal.returns-in-Ok-clause-later
returns-in-Ok-clause-later g c = le_refl _

pub returns-in-Ok-clause-cause : goal.returns-in-Ok-clause-cause
returns-in-Ok-clause-cause g c = ok_no_err

pub returns-in-Ok-release-2-clause-waits : goal.returns-in-Ok-release-2-clause-waits
returns-in-Ok-release-2-clause-waits g c = sent_on c.ask_source.result c.in-Ok-release-2.ensures.ok c.in-Ok-release-2.ensures.none

pub returns-in-Ok-release-2-clause-end : goal.returns-in-Ok-release-2-clause-end
returns-in-Ok-release-2-clause-end g c = asked c.ask_source.result c.args.reader.now (g.S.Source.left c.args.source.now) c.ask_source.new.reader (g.S.Source.left c.ask_source.new.source) c.ask_source.ensures.end c.in-Ok-release-2.ensures.ok
