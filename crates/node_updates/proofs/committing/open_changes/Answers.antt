use Rattle.node_updates.proofs.UpdateEnds.{ends_halted, ends_same, never_fault}
use Rattle.request_ends.proofs.Failed.{never_ok}
use Rattle.rio_base.proofs.BlockSets.{caches_by_drops}
use Rattle.request_ends.proofs.Common.{caches_by_trans, err_from_is_err_and, firm_trans, ◌then◌, ◌∙◌}
use Rattle.rio_base.proofs.BlockRules.{shape_dropped, ends_later}
use Rattle.node_updates.proofs.Several.{can_on_drops}
use Rattle.node_updates.proofs.committing.open_changes.Goals as goal

pub touch_changes-requires-clause-shape : goal.touch_changes-requires-clause-shape
touch_changes-requires-clause-shape g c = shape_dropped _ _ _ c.requires.shape c.begin.ensures.looks.count c.begin.ensures.drops

pub touch_changes-requires-clause-can : goal.touch_changes-requires-clause-can
touch_changes-requires-clause-can g c = can_on_drops _ _ _ _ c.begin.ensures.drops c.requires.can

pub returns-in_err-begin-clause-shape : goal.returns-in_err-begin-clause-shape
returns-in_err-begin-clause-shape g c = shape_dropped _ _ _ c.requires.shape c.begin.ensures.looks.count c.begin.ensures.drops

pub returns-in_err-begin-clause-ends : goal.returns-in_err-begin-clause-ends
returns-in_err-begin-clause-ends g c = let p = err_from_is_err_and c.from_residual.result c.from_residual.ensures.1 in ends_halted _ _ c.begin.result c.from_residual.result _ p.0 c.in_err-begin.was p.1 p.2 c.begin.ensures.ends

pub returns-in-Ok-clause-ok : goal.returns-in-Ok-clause-ok
returns-in-Ok-clause-ok g c = (c.in-Ok.ensures.ok, c.touch_changes.ensures.in_update, c.touch_changes.ensures.looks.words ∙ c.begin.ensures.looks.words)

pub returns-in-Ok-clause-fault : goal.returns-in-Ok-clause-fault
returns-in-Ok-clause-fault g c = λ is. absurd cc

pub returns-in-Ok-clause-standing : goal.returns-in-Ok-clause-standing
returns-in-Ok-clause-standing g c = c.touch_changes.ensures.standing ∙ c.begin.ensures.standing

pub returns-in-Ok-clause-firm : goal.returns-in-Ok-clause-firm
returns-in-Ok-clause-firm g c = firm_trans _ _ _ c.begin.ensures.firm c.touch_changes.ensures.firm

pub returns-in-Ok-clause-goes : goal.returns-in-Ok-clause-goes
returns-in-Ok-clause-goes g c = c.begin.ensures.goes then c.touch_changes.ensures.goes

pub returns-in-Err-Stopped-clause-fault : goal.returns-in-Err-Stopped-clause-fault
returns-in-Err-Stopped-clause-fault g c = λ is. absurd cc

pub returns-in-Err-Stopped-clause-standing : goal.returns-in-Err-Stopped-clause-standing
returns-in-Err-Stopped-clause-standing g c = c.touch_changes.ensures.standing ∙ c.begin.ensures.standing

pub returns-in-Err-Stopped-clause-firm : goal.returns-in-Err-Stopped-clause-firm
returns-in-Err-Stopped-clause-firm g c = firm_trans _ _ _ c.begin.ensures.firm c.touch_changes.ensures.firm

pub returns-in-Err-Stopped-clause-goes : goal.returns-in-Err-Stopped-clause-goes
returns-in-Err-Stopped-clause-goes g c = c.begin.ensures.goes then c.touch_changes.ensures.goes

pub returns-in_err-begin-clause-caches : goal.returns-in_err-begin-clause-caches
returns-in_err-begin-clause-caches g c = caches_by_drops _ _ _ c.begin.ensures.drops

pub returns-in-Ok-clause-caches : goal.returns-in-Ok-clause-caches
returns-in-Ok-clause-caches g c = caches_by_trans _ _ _ _ (caches_by_drops _ _ _ c.begin.ensures.drops) c.touch_changes.ensures.caches

pub returns-in-Err-Stopped-clause-caches : goal.returns-in-Err-Stopped-clause-caches
returns-in-Err-Stopped-clause-caches g c = caches_by_trans _ _ _ _ (caches_by_drops _ _ _ c.begin.ensures.drops) c.touch_changes.ensures.caches

pub returns-in_err-begin-clause-ok : goal.returns-in_err-begin-clause-ok
returns-in_err-begin-clause-ok g c = let p = err_from_is_err_and c.from_residual.result c.from_residual.ensures.1 in never_ok _ _ p.0 p.1

pub returns-in_err-begin-clause-fault : goal.returns-in_err-begin-clause-fault
returns-in_err-begin-clause-fault g c = let p = err_from_is_err_and c.from_residual.result c.from_residual.ensures.1 in never_fault _ p.0 _ p.1 p.2

pub returns-in-Ok-clause-ends : goal.returns-in-Ok-clause-ends
returns-in-Ok-clause-ends g c = ends_later _ _ _ _ c.begin.ensures.ends.later c.in_ok-begin.ensures.ends.cause c.in-Ok.ensures.ends

pub returns-in-Err-Stopped-clause-ends : goal.returns-in-Err-Stopped-clause-ends
returns-in-Err-Stopped-clause-ends g c = ends_later _ _ _ _ c.begin.ensures.ends.later c.in_ok-begin.ensures.ends.cause (ends_same _ _ _ _ c.in-Err-Stopped.field-0-is c.in-Err-Stopped.ensures.ends)
