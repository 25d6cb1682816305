use Rattle.inode_table.proofs.Exits.{ends_err, ends_ok}
use Rattle.rio_base.specs.Rules.{firm_refl}
use Rattle.rio_base.proofs.Rules.{looks_refl}
use Rattle.rio_base.proofs.BlockRules.{caches_refl}
use Rattle.request_ends.proofs.Failed.{never_ok}
use Rattle.request_ends.proofs.Common.{arith, err_from_is_err_and, goes_refl, inr, le_refl, refl}
use Rattle.node_pages.proofs.Updated.{touched_now}
use Rattle.node_updates.proofs.Several.{touches_most}
use Rattle.node_updates.proofs.committing.touch_bitmap.Goals as goal

pub returns-then-all_keep_blocks-clause-ok : goal.returns-then-all_keep_blocks-clause-ok
returns-then-all_keep_blocks-clause-ok g c = λ d on marks. absurd (marks (c.all_keep_blocks.ensures c.if-all_keep_blocks.true d on))

pub returns-clause-ok : goal.returns-clause-ok
returns-clause-ok g c = λ d on marks. touched_now _ _ _ c.in_ok-touch.ensures.ok

pub returns-clause-touches : goal.returns-clause-touches
returns-clause-touches g c = omega (arith, touches_most _ _ _ c.in_ok-touch.ensures.ok, c.requires.room)

pub returns-then-all_keep_blocks-clause-touches : goal.returns-then-all_keep_blocks-clause-touches
returns-then-all_keep_blocks-clause-touches g c = omega (arith, c.requires.room)

pub returns-then-all_keep_blocks-clause-looks : goal.returns-then-all_keep_blocks-clause-looks
returns-then-all_keep_blocks-clause-looks g c = looks_refl _

pub returns-then-all_keep_blocks-clause-firm : goal.returns-then-all_keep_blocks-clause-firm
returns-then-all_keep_blocks-clause-firm g c = firm_refl _

pub returns-then-all_keep_blocks-clause-caches : goal.returns-then-all_keep_blocks-clause-caches
returns-then-all_keep_blocks-clause-caches g c = caches_refl _ _ _

pub returns-then-all_keep_blocks-clause-goes : goal.returns-then-all_keep_blocks-clause-goes
returns-then-all_keep_blocks-clause-goes g c = goes_refl _ _

pub returns-then-all_keep_blocks-clause-ends : goal.returns-then-all_keep_blocks-clause-ends
returns-then-all_keep_blocks-clause-ends g c = record { later = le_refl _; stays = λ on. on; cause = refl }

pub returns-in_err-touch-clause-ok : goal.returns-in_err-touch-clause-ok
returns-in_err-touch-clause-ok g c = let p = err_from_is_err_and c.from_residual.result c.from_residual.ensures.1 in never_ok _ _ p.0 p.1

pub returns-in_err-touch-clause-touches : goal.returns-in_err-touch-clause-touches
returns-in_err-touch-clause-touches g c = let p = err_from_is_err_and c.from_residual.result c.from_residual.ensures.1 in never_ok _ _ p.0 p.1

pub returns-in_err-touch-clause-ends : goal.returns-in_err-touch-clause-ends
returns-in_err-touch-clause-ends g c = let p = err_from_is_err_and c.from_residual.result c.from_residual.ensures.1 in ends_err _ _ c.touch.result c.from_residual.result _ p.0 c.in_err-touch.was p.1 p.2 c.touch.ensures.ends

pub returns-clause-ends : goal.returns-clause-ends
returns-clause-ends g c = ends_ok _ _ c.touch.result _ _ c.in_ok-touch.was c.touch.ensures.ends

pub touch-requires-clause-room : goal.touch-requires-clause-room
touch-requires-clause-room g c = inr (omega (arith, c.requires.room))
