use Rattle.inode_table.proofs.Exits.{ends_err}
use Rattle.request_ends.proofs.Failed.{never_ok}
use Rattle.node_updates.proofs.UpdateEnds.{on_done, on_both}
use Rattle.node_pages.proofs.Updated.{touched_still}
use Rattle.rio_base.proofs.BlockRules.{ends_later}
use Rattle.rio_base.proofs.BlockSets.{caches_by_one, caches_by_wider}
use Rattle.request_ends.proofs.Common.{IsEdited, inr, arith, subst, sym, firm_trans, inl, looks_trans, refl, ◌then◌, ◌∙◌, err_from_is_err_and, caches_by_trans}
use Rattle.directories.specs.Plans.{InThreeBlocks}
use Rattle.node_updates.proofs.Several.{node_edits_fit, node_touched, touches_most}
use Rattle.node_updates.proofs.committing.touch_node.Goals as goal

pub touch-requires-clause-room : goal.touch-requires-clause-room
touch-requires-clause-room g c = inr (omega (arith, c.requires.room))

pub touch_edits-requires-clause-room : goal.touch_edits-requires-clause-room
touch_edits-requires-clause-room g c = omega (arith, c.requires.room, touches_most _ _ _ c.in_ok-touch.ensures.ok)

pub touch_edits-requires-clause-few : goal.touch_edits-requires-clause-few
touch_edits-requires-clause-few g c = subst InThreeBlocks (sym c.as_slice.ensures) c.requires.can.few

pub touch_edits-requires-clause-places : goal.touch_edits-requires-clause-places
touch_edits-requires-clause-places g c = (node_edits_fit _ _ _ c.args.change.now _ _ c.requires.shape c.touch.ensures.looks.count c.requires.can c.as_slice.ensures c.touch.ensures.caches).0

pub touch_edits-requires-clause-unnamed : goal.touch_edits-requires-clause-unnamed
touch_edits-requires-clause-unnamed g c = (node_edits_fit _ _ _ c.args.change.now _ _ c.requires.shape c.touch.ensures.looks.count c.requires.can c.as_slice.ensures c.touch.ensures.caches).1

pub returns-clause-looks : goal.returns-clause-looks
returns-clause-looks g c = looks_trans _ _ _ c.touch.ensures.looks c.touch_edits.ensures.looks

pub returns-clause-standing : goal.returns-clause-standing
returns-clause-standing g c = c.touch_edits.ensures.standing ∙ c.touch.ensures.standing

pub returns-clause-firm : goal.returns-clause-firm
returns-clause-firm g c = firm_trans _ _ _ c.touch.ensures.firm c.touch_edits.ensures.firm

pub returns-clause-goes : goal.returns-clause-goes
returns-clause-goes g c = c.touch.ensures.goes then c.touch_edits.ensures.goes

pub returns-in_err-touch-clause-caches : goal.returns-in_err-touch-clause-caches
returns-in_err-touch-clause-caches g c = caches_by_one _ _ _ _ _ c.touch.ensures.caches (inr (inl c.inode_block.ensures), refl)

pub returns-in_err-touch-clause-ok : goal.returns-in_err-touch-clause-ok
returns-in_err-touch-clause-ok g c = let p = err_from_is_err_and c.from_residual.result c.from_residual.ensures.1 in never_ok _ _ p.0 p.1

pub returns-in_err-touch-clause-touches : goal.returns-in_err-touch-clause-touches
returns-in_err-touch-clause-touches g c = let p = err_from_is_err_and c.from_residual.result c.from_residual.ensures.1 in never_ok _ _ p.0 p.1

pub returns-in_err-touch-clause-more : goal.returns-in_err-touch-clause-more
returns-in_err-touch-clause-more g c = let p = err_from_is_err_and c.from_residual.result c.from_residual.ensures.1 in never_ok _ _ p.0 p.1

pub returns-in_err-touch-clause-ends : goal.returns-in_err-touch-clause-ends
returns-in_err-touch-clause-ends g c = let p = err_from_is_err_and c.from_residual.result c.from_residual.ensures.1 in ends_err _ _ c.touch.result c.from_residual.result _ p.0 c.in_err-touch.was p.1 p.2 c.touch.ensures.ends

pub returns-clause-ok : goal.returns-clause-ok
returns-clause-ok g c = on_both _ _ _ c.touch_edits.result c.touch_edits.ensures.more c.touch_edits.ensures.ok (λ more ok. node_touched _ _ _ c.args.change.now _ _ c.inode_block.ensures c.as_slice.ensures c.requires.bitmap c.in_ok-touch.ensures.ok more ok)

pub returns-clause-more : goal.returns-clause-more
returns-clause-more g c = on_done _ _ c.touch_edits.result c.touch_edits.ensures.more (λ more. λ b on. more b (touched_still _ b _ _ c.in_ok-touch.ensures.ok on))

pub returns-clause-touches : goal.returns-clause-touches
returns-clause-touches g c = on_done _ _ c.touch_edits.result c.touch_edits.ensures.touches (λ few. omega (arith, few, touches_most _ _ _ c.in_ok-touch.ensures.ok))

pub returns-clause-caches : goal.returns-clause-caches
returns-clause-caches g c = caches_by_trans _ _ _ _ (caches_by_one _ _ _ _ _ c.touch.ensures.caches (inr (inl c.inode_block.ensures), refl)) (caches_by_wider _ _ _ _ (λ b name is. (inr (inr (subst (λ es. IsEdited es b) c.as_slice.ensures is.0)), is.1)) c.touch_edits.ensures.caches)

pub returns-clause-ends : goal.returns-clause-ends
returns-clause-ends g c = ends_later _ _ _ _ c.touch.ensures.ends.later c.in_ok-touch.ensures.ends.cause c.touch_edits.ensures.ends
