use Rattle.file_pages.proofs.Common.{err_from_is_err_and, firm_trans, ◌then◌, ◌∙◌, le_trans}
use Rattle.rio_base.proofs.BlockSets.{caches_by_drops, caches_by_trans}
use Rattle.node_pages.proofs.EndsOn.{ends_halted, if_err, ends_told}
use Rattle.file_pages.proofs.Undone.{ends_undone, not_fault, stop_no_fault, well_no_fault, fault_runs}
use Rattle.rio_base.proofs.BlockRules.{shape_dropped, ends_later}
use Rattle.file_pages.proofs.Touched.{shape_updated}
use Rattle.file_pages.proofs.committing.open_change.Goals as goal

pub returns-in_err-begin-clause-shape : goal.returns-in_err-begin-clause-shape
returns-in_err-begin-clause-shape g c = shape_dropped _ _ _ c.requires.shape c.begin.ensures.looks.count c.begin.ensures.drops

pub returns-in_err-begin-clause-ends : goal.returns-in_err-begin-clause-ends
returns-in_err-begin-clause-ends g c = let p = err_from_is_err_and c.from_residual.result c.from_residual.ensures.1 in ends_halted _ _ c.begin.result c.from_residual.result _ p.0 c.in_err-begin.was p.1 p.2 c.begin.ensures.ends

pub returns-in-Ok-clause-ok : goal.returns-in-Ok-clause-ok
returns-in-Ok-clause-ok g c = (c.in-Ok.ensures.ok, c.touch_change.ensures.in_update, c.touch_change.ensures.looks.words ∙ c.begin.ensures.looks.words)

pub returns-in-Ok-clause-fault : goal.returns-in-Ok-clause-fault
returns-in-Ok-clause-fault g c = λ is. absurd (well_no_fault _ is)

pub returns-in-Ok-clause-standing : goal.returns-in-Ok-clause-standing
returns-in-Ok-clause-standing g c = c.touch_change.ensures.standing ∙ c.begin.ensures.standing

pub returns-in-Ok-clause-firm : goal.returns-in-Ok-clause-firm
returns-in-Ok-clause-firm g c = firm_trans _ _ _ c.begin.ensures.firm c.touch_change.ensures.firm

pub returns-in-Ok-clause-goes : goal.returns-in-Ok-clause-goes
returns-in-Ok-clause-goes g c = c.begin.ensures.goes then c.touch_change.ensures.goes

pub returns-in-Err-Stopped-clause-fault : goal.returns-in-Err-Stopped-clause-fault
returns-in-Err-Stopped-clause-fault g c = λ is. absurd (stop_no_fault is)

pub returns-in-Err-Stopped-clause-standing : goal.returns-in-Err-Stopped-clause-standing
returns-in-Err-Stopped-clause-standing g c = c.touch_change.ensures.standing ∙ c.begin.ensures.standing

pub returns-in-Err-Stopped-clause-firm : goal.returns-in-Err-Stopped-clause-firm
returns-in-Err-Stopped-clause-firm g c = firm_trans _ _ _ c.begin.ensures.firm c.touch_change.ensures.firm

pub returns-in-Err-Stopped-clause-goes : goal.returns-in-Err-Stopped-clause-goes
returns-in-Err-Stopped-clause-goes g c = c.begin.ensures.goes then c.touch_change.ensures.goes

pub touch_change-requires-clause-shape : goal.touch_change-requires-clause-shape
touch_change-requires-clause-shape g c = shape_dropped _ _ _ c.requires.shape c.begin.ensures.looks.count c.begin.ensures.drops

pub touch_change-requires-clause-can : goal.touch_change-requires-clause-can
touch_change-requires-clause-can g c = record { makes = c.requires.can.makes; one = c.requires.can.one; unnamed = λ e on cached. let was = c.begin.ensures.drops.kept _ cached in was.1 ∙ c.requires.can.unnamed e on was.0 }

pub returns-in_err-begin-clause-caches : goal.returns-in_err-begin-clause-caches
returns-in_err-begin-clause-caches g c = caches_by_drops _ _ _ c.begin.ensures.drops

pub returns-in-Ok-clause-caches : goal.returns-in-Ok-clause-caches
returns-in-Ok-clause-caches g c = caches_by_trans _ _ _ _ (caches_by_drops _ _ _ c.begin.ensures.drops) c.touch_change.ensures.caches

pub returns-in-Err-Stopped-clause-caches : goal.returns-in-Err-Stopped-clause-caches
returns-in-Err-Stopped-clause-caches g c = caches_by_trans _ _ _ _ (caches_by_drops _ _ _ c.begin.ensures.drops) c.touch_change.ensures.caches

pub returns-in-Ok-clause-shape : goal.returns-in-Ok-clause-shape
returns-in-Ok-clause-shape g c = shape_updated _ _ _ _ _ (shape_dropped _ _ _ c.requires.shape c.begin.ensures.looks.count c.begin.ensures.drops) c.touch_change.ensures.looks.count c.touch_change.ensures.caches

pub returns-in-Err-Stopped-clause-shape : goal.returns-in-Err-Stopped-clause-shape
returns-in-Err-Stopped-clause-shape g c = shape_updated _ _ _ _ _ (shape_dropped _ _ _ c.requires.shape c.begin.ensures.looks.count c.begin.ensures.drops) c.touch_change.ensures.looks.count c.touch_change.ensures.caches

pub returns-in-Err-Stopped-clause-ends : goal.returns-in-Err-Stopped-clause-ends
returns-in-Err-Stopped-clause-ends g c = ends_later _ _ _ _ c.begin.ensures.ends.later c.in_ok-begin.ensures.ends.cause (ends_told _ _ _ _ c.in-Err-Stopped.field-0-is c.in-Err-Stopped.ensures.ends)

pub returns-in-Ok-clause-ends : goal.returns-in-Ok-clause-ends
returns-in-Ok-clause-ends g c = ends_later _ _ _ _ c.begin.ensures.ends.later c.in_ok-begin.ensures.ends.cause c.in-Ok.ensures.ends

pub returns-in_err-begin-clause-fault : goal.returns-in_err-begin-clause-fault
returns-in_err-begin-clause-fault g c = let p = err_from_is_err_and c.from_residual.result c.from_residual.ensures.1 in λ is. absurd (not_fault c.from_residual.result p.0 p.1 p.2 is)

pub returns-in_err-begin-clause-ok : goal.returns-in_err-begin-clause-ok
returns-in_err-begin-clause-ok g c = if_err c.from_residual.result _ c.from_residual.ensures.0

pub returns-in_err-rollback-in-Err-Fault-clause-caches : goal.returns-in_err-rollback-in-Err-Fault-clause-caches
returns-in_err-rollback-in-Err-Fault-clause-caches g c = caches_by_trans _ _ _ _ (caches_by_trans _ _ _ _ (caches_by_drops _ _ _ c.begin.ensures.drops) c.touch_change.ensures.caches) (caches_by_drops _ _ _ c.rollback.ensures.drops)

pub returns-in_err-rollback-in-Err-Fault-clause-firm : goal.returns-in_err-rollback-in-Err-Fault-clause-firm
returns-in_err-rollback-in-Err-Fault-clause-firm g c = firm_trans _ _ _ (firm_trans _ _ _ c.begin.ensures.firm c.touch_change.ensures.firm) c.rollback.ensures.firm

pub returns-in_err-rollback-in-Err-Fault-clause-goes : goal.returns-in_err-rollback-in-Err-Fault-clause-goes
returns-in_err-rollback-in-Err-Fault-clause-goes g c = c.begin.ensures.goes then c.touch_change.ensures.goes then c.rollback.ensures.goes

pub returns-in_err-rollback-in-Err-Fault-clause-shape : goal.returns-in_err-rollback-in-Err-Fault-clause-shape
returns-in_err-rollback-in-Err-Fault-clause-shape g c = shape_dropped _ _ _ (shape_updated _ _ _ _ _ (shape_dropped _ _ _ c.requires.shape c.begin.ensures.looks.count c.begin.ensures.drops) c.touch_change.ensures.looks.count c.touch_change.ensures.caches) c.rollback.ensures.count c.rollback.ensures.drops

pub returns-in_err-rollback-in-Err-Fault-clause-standing : goal.returns-in_err-rollback-in-Err-Fault-clause-standing
returns-in_err-rollback-in-Err-Fault-clause-standing g c = c.rollback.ensures.standing ∙ c.touch_change.ensures.standing ∙ c.begin.ensures.standing

pub returns-in_ok-rollback-in-Err-Fault-clause-caches : goal.returns-in_ok-rollback-in-Err-Fault-clause-caches
returns-in_ok-rollback-in-Err-Fault-clause-caches g c = caches_by_trans _ _ _ _ (caches_by_trans _ _ _ _ (caches_by_drops _ _ _ c.begin.ensures.drops) c.touch_change.ensures.caches) (caches_by_drops _ _ _ c.rollback.ensures.drops)

pub returns-in_ok-rollback-in-Err-Fault-clause-firm : goal.returns-in_ok-rollback-in-Err-Fault-clause-firm
returns-in_ok-rollback-in-Err-Fault-clause-firm g c = firm_trans _ _ _ (firm_trans _ _ _ c.begin.ensures.firm c.touch_change.ensures.firm) c.rollback.ensures.firm

pub returns-in_ok-rollback-in-Err-Fault-clause-goes : goal.returns-in_ok-rollback-in-Err-Fault-clause-goes
returns-in_ok-rollback-in-Err-Fault-clause-goes g c = c.begin.ensures.goes then c.touch_change.ensures.goes then c.rollback.ensures.goes

pub returns-in_ok-rollback-in-Err-Fault-clause-shape : goal.returns-in_ok-rollback-in-Err-Fault-clause-shape
returns-in_ok-rollback-in-Err-Fault-clause-shape g c = shape_dropped _ _ _ (shape_updated _ _ _ _ _ (shape_dropped _ _ _ c.requires.shape c.begin.ensures.looks.count c.begin.ensures.drops) c.touch_change.ensures.looks.count c.touch_change.ensures.caches) c.rollback.ensures.count c.rollback.ensures.drops

pub returns-in_ok-rollback-in-Err-Fault-clause-standing : goal.returns-in_ok-rollback-in-Err-Fault-clause-standing
returns-in_ok-rollback-in-Err-Fault-clause-standing g c = c.rollback.ensures.standing ∙ c.touch_change.ensures.standing ∙ c.begin.ensures.standing

pub returns-in_err-rollback-in-Err-Fault-clause-fault : goal.returns-in_err-rollback-in-Err-Fault-clause-fault
returns-in_err-rollback-in-Err-Fault-clause-fault g c = let p = err_from_is_err_and c.from_residual-in_err-rollback-in-Err-Fault.result c.from_residual-in_err-rollback-in-Err-Fault.ensures.1 in λ is. absurd (not_fault c.from_residual-in_err-rollback-in-Err-Fault.result p.0 p.1 p.2 is)

pub returns-in_err-rollback-in-Err-Fault-clause-ok : goal.returns-in_err-rollback-in-Err-Fault-clause-ok
returns-in_err-rollback-in-Err-Fault-clause-ok g c = if_err c.from_residual-in_err-rollback-in-Err-Fault.result _ c.from_residual-in_err-rollback-in-Err-Fault.ensures.0

pub returns-in_err-rollback-in-Err-Fault-clause-ends : goal.returns-in_err-rollback-in-Err-Fault-clause-ends
returns-in_err-rollback-in-Err-Fault-clause-ends g c = let p = err_from_is_err_and c.from_residual-in_err-rollback-in-Err-Fault.result c.from_residual-in_err-rollback-in-Err-Fault.ensures.1 in ends_later _ _ _ _ (le_trans c.begin.ensures.ends.later c.touch_change.ensures.ends.later) (fault_runs _ _ _ c.in-Err-Fault.field-0-is c.in-Err-Fault.ensures.ends ∙ c.in_ok-begin.ensures.ends.cause) (ends_halted _ _ c.rollback.result c.from_residual-in_err-rollback-in-Err-Fault.result _ p.0 c.in_err-rollback-in-Err-Fault.was p.1 p.2 c.rollback.ensures.ends)

pub returns-in_ok-rollback-in-Err-Fault-clause-fault : goal.returns-in_ok-rollback-in-Err-Fault-clause-fault
returns-in_ok-rollback-in-Err-Fault-clause-fault g c = λ is. (c.in_ok-rollback-in-Err-Fault.ensures.ok.1, c.in_ok-rollback-in-Err-Fault.ensures.ok.0 ∙ c.touch_change.ensures.standing ∙ c.in_ok-begin.ensures.ok.standing)

pub returns-in_ok-rollback-in-Err-Fault-clause-ends : goal.returns-in_ok-rollback-in-Err-Fault-clause-ends
returns-in_ok-rollback-in-Err-Fault-clause-ends g c = ends_later _ _ _ _ c.begin.ensures.ends.later c.in_ok-begin.ensures.ends.cause (ends_undone {T = Unit {0}} _ _ _ (ends_told _ _ _ _ c.in-Err-Fault.field-0-is c.in-Err-Fault.ensures.ends) c.rollback.ensures.ends.later c.in_ok-rollback-in-Err-Fault.ensures.ends.cause)
