use Rattle.file_pages.proofs.Written.{stop_told, bytes_ok, bytes_well, ends_bytes_vol, run_fault, run_stop}
use Rattle.file_pages.proofs.Common.{refl, ◌then◌, ◌<◌, SameBut, ap, arith, ends_by_after, err_from_is_err_and, firm_trans, le_trans, subst, sym, ◌∙◌}
use Rattle.file_pages.proofs.PutPieces.{makes, puts_all, puts_before, puts_front, puts_none, puts_told, told_few}
use Rattle.node_pages.proofs.EndsOn.{if_err}
use Rattle.rio_base.proofs.BlockRules.{can_name_on, stored_trans}
use Rattle.file_pages.proofs.Stored.{stored_read}
use Rattle.file_pages.proofs.pieces.store_words.Goals as goal

pub returns-in-Ok-clause-ok : goal.returns-in-Ok-clause-ok
returns-in-Ok-clause-ok g c = puts_all _ _ _ c.args.b.0 c.args.at _ c.args.bytes.now _ c.requires.some (makes _ c.args.b.0 c.args.at c.args.bytes.now _ _ _ _ c.requires.some c.fill_words.ensures.len c.requires.room c.in_ok-first.ensures.first c.in_ok-first.ensures.last c.fill_words.ensures.bytes) c.end_words.ensures.looks.words c.in-Ok.ensures.ok refl

pub returns-in-Ok-clause-front : goal.returns-in-Ok-clause-front
returns-in-Ok-clause-front g c = puts_front _ _ _ c.args.b.0 c.args.at _ c.args.bytes.now _ c.requires.some (makes _ c.args.b.0 c.args.at c.args.bytes.now _ _ _ _ c.requires.some c.fill_words.ensures.len c.requires.room c.in_ok-first.ensures.first c.in_ok-first.ensures.last c.fill_words.ensures.bytes) c.end_words.ensures.looks.words c.store_run.ensures.front refl

pub returns-in-Ok-clause-goes : goal.returns-in-Ok-clause-goes
returns-in-Ok-clause-goes g c = (g.met.V.Volume.passes_keeps _ _ c.end_words.ensures.passes).goes then c.store_run.ensures.goes

pub returns-in-Err-Fault-clause-fault : goal.returns-in-Err-Fault-clause-fault
returns-in-Err-Fault-clause-fault g c = puts_told _ _ _ c.args.b.0 c.args.at _ _ c.args.bytes.now _ _ c.requires.some (makes _ c.args.b.0 c.args.at c.args.bytes.now _ _ _ _ c.requires.some c.fill_words.ensures.len c.requires.room c.in_ok-first.ensures.first c.in_ok-first.ensures.last c.fill_words.ensures.bytes) c.end_words.ensures.looks.words c.in-Err-Fault.ensures.fault c.in-Err-Fault.field-0-is c.stored_bytes.ensures

pub returns-in-Err-Fault-clause-front : goal.returns-in-Err-Fault-clause-front
returns-in-Err-Fault-clause-front g c = puts_front _ _ _ c.args.b.0 c.args.at _ c.args.bytes.now _ c.requires.some (makes _ c.args.b.0 c.args.at c.args.bytes.now _ _ _ _ c.requires.some c.fill_words.ensures.len c.requires.room c.in_ok-first.ensures.first c.in_ok-first.ensures.last c.fill_words.ensures.bytes) c.end_words.ensures.looks.words c.store_run.ensures.front refl

pub returns-in-Err-Fault-clause-goes : goal.returns-in-Err-Fault-clause-goes
returns-in-Err-Fault-clause-goes g c = (g.met.V.Volume.passes_keeps _ _ c.end_words.ensures.passes).goes then c.store_run.ensures.goes

pub returns-in-Err-Stopped-clause-front : goal.returns-in-Err-Stopped-clause-front
returns-in-Err-Stopped-clause-front g c = puts_front _ _ _ c.args.b.0 c.args.at _ c.args.bytes.now _ c.requires.some (makes _ c.args.b.0 c.args.at c.args.bytes.now _ _ _ _ c.requires.some c.fill_words.ensures.len c.requires.room c.in_ok-first.ensures.first c.in_ok-first.ensures.last c.fill_words.ensures.bytes) c.end_words.ensures.looks.words c.store_run.ensures.front refl

pub returns-in-Err-Stopped-clause-goes : goal.returns-in-Err-Stopped-clause-goes
returns-in-Err-Stopped-clause-goes g c = (g.met.V.Volume.passes_keeps _ _ c.end_words.ensures.passes).goes then c.store_run.ensures.goes

pub returns-in_err-first-clause-firm : goal.returns-in_err-first-clause-firm
returns-in_err-first-clause-firm g c = (g.met.V.Volume.passes_keeps _ _ c.end_words.ensures.passes).firm

pub returns-in_err-first-clause-idle : goal.returns-in_err-first-clause-idle
returns-in_err-first-clause-idle g c = (g.met.V.Volume.passes_keeps _ _ c.end_words.ensures.passes).updating ∙ c.requires.idle

pub returns-in_err-first-clause-goes : goal.returns-in_err-first-clause-goes
returns-in_err-first-clause-goes g c = (g.met.V.Volume.passes_keeps _ _ c.end_words.ensures.passes).goes

pub returns-in-Ok-clause-fault : goal.returns-in-Ok-clause-fault
returns-in-Ok-clause-fault g c = λ k is. absurd (bytes_well _ k is)

pub returns-in-Ok-clause-firm : goal.returns-in-Ok-clause-firm
returns-in-Ok-clause-firm g c = firm_trans _ _ _ (g.met.V.Volume.passes_keeps _ _ c.end_words.ensures.passes).firm c.store_run.ensures.firm

pub returns-in-Ok-clause-count : goal.returns-in-Ok-clause-count
returns-in-Ok-clause-count g c = c.store_run.ensures.count ∙ c.end_words.ensures.looks.count

pub returns-in-Err-Fault-clause-firm : goal.returns-in-Err-Fault-clause-firm
returns-in-Err-Fault-clause-firm g c = firm_trans _ _ _ (g.met.V.Volume.passes_keeps _ _ c.end_words.ensures.passes).firm c.store_run.ensures.firm

pub returns-in-Err-Fault-clause-count : goal.returns-in-Err-Fault-clause-count
returns-in-Err-Fault-clause-count g c = c.store_run.ensures.count ∙ c.end_words.ensures.looks.count

pub returns-in-Err-Stopped-clause-fault : goal.returns-in-Err-Stopped-clause-fault
returns-in-Err-Stopped-clause-fault g c = λ k is. absurd (stop_told k is)

pub returns-in-Err-Stopped-clause-firm : goal.returns-in-Err-Stopped-clause-firm
returns-in-Err-Stopped-clause-firm g c = firm_trans _ _ _ (g.met.V.Volume.passes_keeps _ _ c.end_words.ensures.passes).firm c.store_run.ensures.firm

pub returns-in-Err-Stopped-clause-count : goal.returns-in-Err-Stopped-clause-count
returns-in-Err-Stopped-clause-count g c = c.store_run.ensures.count ∙ c.end_words.ensures.looks.count

pub store_run-requires-clause-name : goal.store_run-requires-clause-name
store_run-requires-clause-name g c = can_name_on _ _ _ _ c.requires.name c.end_words.ensures.caches

pub store_run-requires-clause-idle : goal.store_run-requires-clause-idle
store_run-requires-clause-idle g c = (g.met.V.Volume.passes_keeps _ _ c.end_words.ensures.passes).updating ∙ c.requires.idle

pub returns-in_err-first-clause-caches : goal.returns-in_err-first-clause-caches
returns-in_err-first-clause-caches g c = stored_read _ _ _ _ c.end_words.ensures.caches

pub returns-in-Ok-clause-caches : goal.returns-in-Ok-clause-caches
returns-in-Ok-clause-caches g c = stored_trans _ _ _ _ _ (stored_read _ _ _ _ c.end_words.ensures.caches) c.store_run.ensures.caches

pub returns-in-Err-Fault-clause-caches : goal.returns-in-Err-Fault-clause-caches
returns-in-Err-Fault-clause-caches g c = stored_trans _ _ _ _ _ (stored_read _ _ _ _ c.end_words.ensures.caches) c.store_run.ensures.caches

pub returns-in-Err-Stopped-clause-caches : goal.returns-in-Err-Stopped-clause-caches
returns-in-Err-Stopped-clause-caches g c = stored_trans _ _ _ _ _ (stored_read _ _ _ _ c.end_words.ensures.caches) c.store_run.ensures.caches

pub returns-in-Ok-clause-standing : goal.returns-in-Ok-clause-standing
returns-in-Ok-clause-standing g c = subst (λ f. SameBut c.args.b.0 f (g.V.Volume.kept c.store_run.new.self).standing) (g.met.V.Volume.passes_keeps _ _ c.end_words.ensures.passes).standing c.store_run.ensures.standing

pub returns-in-Err-Fault-clause-standing : goal.returns-in-Err-Fault-clause-standing
returns-in-Err-Fault-clause-standing g c = subst (λ f. SameBut c.args.b.0 f (g.V.Volume.kept c.store_run.new.self).standing) (g.met.V.Volume.passes_keeps _ _ c.end_words.ensures.passes).standing c.store_run.ensures.standing

pub returns-in-Err-Stopped-clause-standing : goal.returns-in-Err-Stopped-clause-standing
returns-in-Err-Stopped-clause-standing g c = subst (λ f. SameBut c.args.b.0 f (g.V.Volume.kept c.store_run.new.self).standing) (g.met.V.Volume.passes_keeps _ _ c.end_words.ensures.passes).standing c.store_run.ensures.standing

pub returns-in_err-first-clause-standing : goal.returns-in_err-first-clause-standing
returns-in_err-first-clause-standing g c = record { others = λ b w away. ap (λ f. f b w) (g.met.V.Volume.passes_keeps _ _ c.end_words.ensures.passes).standing }

pub returns-in_err-first-clause-ok : goal.returns-in_err-first-clause-ok
returns-in_err-first-clause-ok g c = if_err c.from_residual.result _ c.from_residual.ensures.0

pub returns-in_err-first-clause-fault : goal.returns-in_err-first-clause-fault
returns-in_err-first-clause-fault g c = let p = err_from_is_err_and c.from_residual.result c.from_residual.ensures.1 in puts_before _ _ c.args.b.0 c.args.at c.args.bytes.now c.from_residual.result _ p.0 p.1 p.2 c.end_words.ensures.looks.words

pub returns-in_err-first-clause-front : goal.returns-in_err-first-clause-front
returns-in_err-first-clause-front g c = (0, omega arith, puts_none _ _ c.args.b.0 c.args.at c.args.bytes.now c.end_words.ensures.looks.words)

pub returns-in_err-first-clause-ends : goal.returns-in_err-first-clause-ends
returns-in_err-first-clause-ends g c = let p = err_from_is_err_and c.from_residual.result c.from_residual.ensures.1 in ends_bytes_vol _ _ c.end_words.result c.from_residual.result _ p.0 c.in_err-first.was p.1 p.2 c.end_words.ensures.ends

pub returns-in-Ok-clause-ends : goal.returns-in-Ok-clause-ends
returns-in-Ok-clause-ends g c = bytes_ok _ _ _ (le_trans c.end_words.ensures.ends.later c.in-Ok.ensures.ends.later) (c.in-Ok.ensures.ends.cause ∙ c.in_ok-first.ensures.ends.cause)

pub returns-in-Err-Fault-clause-ends : goal.returns-in-Err-Fault-clause-ends
returns-in-Err-Fault-clause-ends g c = ends_by_after _ _ _ _ _ c.end_words.ensures.ends.later c.in_ok-first.ensures.ends.cause (run_fault _ _ _ _ _ c.in-Err-Fault.field-0-is c.in-Err-Fault.ensures.ends)

pub returns-in-Err-Stopped-clause-ends : goal.returns-in-Err-Stopped-clause-ends
returns-in-Err-Stopped-clause-ends g c = ends_by_after _ _ _ _ _ c.end_words.ensures.ends.later c.in_ok-first.ensures.ends.cause (run_stop _ _ _ c.in-Err-Stopped.field-0-is c.in-Err-Stopped.ensures.ends)

pub store_run-requires-clause-place : goal.store_run-requires-clause-place
store_run-requires-clause-place g c = record { block = subst (λ n. c.args.b.0 < n) (sym c.end_words.ensures.looks.count) c.requires.block; within = omega (arith, c.requires.some, c.requires.within, c.requires.room, c.fill_words.ensures.len) }

pub stored_bytes-requires-clause-few : goal.stored_bytes-requires-clause-few
stored_bytes-requires-clause-few g c = let few = told_few (Unit {0}) _ _ _ _ c.in-Err-Fault.ensures.fault c.in-Err-Fault.field-0-is in omega (arith, few, c.requires.some, c.requires.within, c.requires.room, c.fill_words.ensures.len)
