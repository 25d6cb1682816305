use Rattle.file_pages.proofs.Touched.{first_edited, first_place, first_touched, first_unnamed, no_edit, some_length, change_touched, touches_most}
use Rattle.node_pages.proofs.Updated.{touched_still, unnamed_on}
use Rattle.node_pages.proofs.EndsOn.{ends_vol, ends_vol_ok, if_err, on_ok}
use Rattle.file_pages.proofs.Common.{sym, subst, Contains, arith, caches_by_one, firm_trans, inl, inr, le_trans, refl, ◌then◌, ◌∙◌, CanName, None, err_from_is_err_and, inode_low}
use Rattle.file_pages.specs.Touching.{InOneBlock}
use Rattle.rio_base.proofs.BlockSets.{caches_by_trans}
use Rattle.rio_base.proofs.BlockRules.{ends_later, still_unnamed, metadata}
use Rattle.rio_base.proofs.Rules.{looks_trans}
use Rattle.file_pages.proofs.updating.touch_change.Goals as goal

pub returns-in_err-touch-clause-looks : goal.returns-in_err-touch-clause-looks
returns-in_err-touch-clause-looks g c = looks_trans _ _ _ c.touch_bitmap.ensures.looks c.touch.ensures.looks

pub returns-in_err-touch-clause-standing : goal.returns-in_err-touch-clause-standing
returns-in_err-touch-clause-standing g c = c.touch.ensures.standing ∙ c.touch_bitmap.ensures.standing

pub returns-in_err-touch-clause-firm : goal.returns-in_err-touch-clause-firm
returns-in_err-touch-clause-firm g c = firm_trans _ _ _ c.touch_bitmap.ensures.firm c.touch.ensures.firm

pub returns-in_err-touch-clause-goes : goal.returns-in_err-touch-clause-goes
returns-in_err-touch-clause-goes g c = c.touch_bitmap.ensures.goes then c.touch.ensures.goes

pub returns-in_err-touch_bitmap-clause-caches : goal.returns-in_err-touch_bitmap-clause-caches
returns-in_err-touch_bitmap-clause-caches g c = caches_by_one _ _ _ _ _ c.touch_bitmap.ensures.caches (inl refl, refl)

pub returns-in_err-touch-clause-caches : goal.returns-in_err-touch-clause-caches
returns-in_err-touch-clause-caches g c = caches_by_trans _ _ _ _ (caches_by_one _ _ _ _ _ c.touch_bitmap.ensures.caches (inl refl, refl)) (caches_by_one _ _ _ _ _ c.touch.ensures.caches (inr (inl c.inode_block.ensures), refl))

pub touch-requires-clause-room : goal.touch-requires-clause-room
touch-requires-clause-room g c = inr (omega (arith, c.in_ok-touch_bitmap.ensures.touches))

pub returns-in_err-touch_bitmap-clause-ends : goal.returns-in_err-touch_bitmap-clause-ends
returns-in_err-touch_bitmap-clause-ends g c = let p = err_from_is_err_and c.from_residual.result c.from_residual.ensures.1 in ends_vol _ _ c.touch_bitmap.result c.from_residual.result _ p.0 c.in_err-touch_bitmap.was p.1 p.2 c.touch_bitmap.ensures.ends

pub returns-in_err-touch_bitmap-clause-ok : goal.returns-in_err-touch_bitmap-clause-ok
returns-in_err-touch_bitmap-clause-ok g c = if_err c.from_residual.result _ c.from_residual.ensures.0

pub returns-in_err-touch-clause-ends : goal.returns-in_err-touch-clause-ends
returns-in_err-touch-clause-ends g c = let p = err_from_is_err_and c.from_residual-in_err-touch.result c.from_residual-in_err-touch.ensures.1 in ends_later _ _ _ _ c.touch_bitmap.ensures.ends.later c.in_ok-touch_bitmap.ensures.ends.cause (ends_vol _ _ c.touch.result c.from_residual-in_err-touch.result _ p.0 c.in_err-touch.was p.1 p.2 c.touch.ensures.ends)

pub returns-in_err-touch-clause-ok : goal.returns-in_err-touch-clause-ok
returns-in_err-touch-clause-ok g c = if_err c.from_residual-in_err-touch.result _ c.from_residual-in_err-touch.ensures.0

pub touch-requires-clause-metadata : goal.touch-requires-clause-metadata
touch-requires-clause-metadata g c = subst (λ b. CanName (g.V.Blocks.seen c.touch_bitmap.new.v) b None) (sym c.inode_block.ensures) (metadata c.args.shape.now _ _ (still_unnamed _ _ _ _ c.requires.shape c.touch_bitmap.ensures.looks.count c.touch_bitmap.ensures.caches) (inode_low c.args.shape.now c.args.i.0 c.requires.shape.sizes c.requires.ino))

pub returns-then-is_empty-clause-ok : goal.returns-then-is_empty-clause-ok
returns-then-is_empty-clause-ok g c = change_touched _ _ _ c.args.i.0 _ c.args.change.now _ c.inode_block.ensures c.as_slice-edits.ensures c.in_ok-touch_bitmap.ensures.ok c.in_ok-touch.ensures.ok (λ b on. on) (λ e on. absurd (no_edit c.as_slice-edits.result.now e (sym c.is_empty.ensures ∙ c.if-is_empty.true) on))

pub returns-then-is_empty-clause-looks : goal.returns-then-is_empty-clause-looks
returns-then-is_empty-clause-looks g c = looks_trans _ _ _ c.touch_bitmap.ensures.looks c.touch.ensures.looks

pub returns-then-is_empty-clause-standing : goal.returns-then-is_empty-clause-standing
returns-then-is_empty-clause-standing g c = c.touch.ensures.standing ∙ c.touch_bitmap.ensures.standing

pub returns-then-is_empty-clause-firm : goal.returns-then-is_empty-clause-firm
returns-then-is_empty-clause-firm g c = firm_trans _ _ _ c.touch_bitmap.ensures.firm c.touch.ensures.firm

pub returns-then-is_empty-clause-goes : goal.returns-then-is_empty-clause-goes
returns-then-is_empty-clause-goes g c = c.touch_bitmap.ensures.goes then c.touch.ensures.goes

pub returns-then-is_empty-clause-ends : goal.returns-then-is_empty-clause-ends
returns-then-is_empty-clause-ends g c = ends_vol_ok _ _ _ (le_trans c.touch_bitmap.ensures.ends.later c.touch.ensures.ends.later) (c.in_ok-touch.ensures.ends.cause ∙ c.in_ok-touch_bitmap.ensures.ends.cause)

pub returns-then-is_empty-clause-caches : goal.returns-then-is_empty-clause-caches
returns-then-is_empty-clause-caches g c = caches_by_trans _ _ _ _ (caches_by_one _ _ _ _ _ c.touch_bitmap.ensures.caches (inl refl, refl)) (caches_by_one _ _ _ _ _ c.touch.ensures.caches (inr (inl c.inode_block.ensures), refl))

pub returns-clause-ok : goal.returns-clause-ok
returns-clause-ok g c = on_ok c.touch-2.result _ _ (λ done. change_touched _ _ _ c.args.i.0 _ c.args.change.now _ c.inode_block.ensures c.as_slice-edits.ensures c.in_ok-touch_bitmap.ensures.ok c.in_ok-touch.ensures.ok (λ b on. touched_still _ b _ _ done on) (λ e on. first_touched c.as_slice-edits.result.now _ e _ _ (some_length _ (sym c.is_empty.ensures ∙ c.if-is_empty.false)) (subst InOneBlock (sym c.as_slice-edits.ensures) c.requires.can.one) done on)) c.touch-2.ensures.ok

pub returns-clause-looks : goal.returns-clause-looks
returns-clause-looks g c = looks_trans _ _ _ (looks_trans _ _ _ c.touch_bitmap.ensures.looks c.touch.ensures.looks) c.touch-2.ensures.looks

pub returns-clause-standing : goal.returns-clause-standing
returns-clause-standing g c = c.touch-2.ensures.standing ∙ c.touch.ensures.standing ∙ c.touch_bitmap.ensures.standing

pub returns-clause-firm : goal.returns-clause-firm
returns-clause-firm g c = firm_trans _ _ _ (firm_trans _ _ _ c.touch_bitmap.ensures.firm c.touch.ensures.firm) c.touch-2.ensures.firm

pub returns-clause-goes : goal.returns-clause-goes
returns-clause-goes g c = c.touch_bitmap.ensures.goes then c.touch.ensures.goes then c.touch-2.ensures.goes

pub returns-clause-ends : goal.returns-clause-ends
returns-clause-ends g c = ends_later _ _ _ _ c.touch_bitmap.ensures.ends.later c.in_ok-touch_bitmap.ensures.ends.cause (ends_later _ _ _ _ c.touch.ensures.ends.later c.in_ok-touch.ensures.ends.cause c.touch-2.ensures.ends)

pub returns-clause-caches : goal.returns-clause-caches
returns-clause-caches g c = caches_by_trans _ _ _ _ (caches_by_one _ _ _ _ _ c.touch_bitmap.ensures.caches (inl refl, refl)) (caches_by_trans _ _ _ _ (caches_by_one _ _ _ _ _ c.touch.ensures.caches (inr (inl c.inode_block.ensures), refl)) (caches_by_one _ _ _ _ _ c.touch-2.ensures.caches (inr (inr (first_edited c.as_slice-edits.result.now _ _ c.as_slice-edits.ensures (some_length _ (sym c.is_empty.ensures ∙ c.if-is_empty.false)))), refl)))

pub touch-requires-2-clause-place : goal.touch-requires-2-clause-place
touch-requires-2-clause-place g c = first_place c.as_slice-edits.result.now _ _ _ (some_length _ (sym c.is_empty.ensures ∙ c.if-is_empty.false)) (λ e on. c.requires.can.makes.to e (subst (λ es. Contains es e) c.as_slice-edits.ensures on)) (c.touch.ensures.looks.count ∙ c.touch_bitmap.ensures.looks.count ∙ c.requires.shape.count)

pub touch-requires-2-clause-room : goal.touch-requires-2-clause-room
touch-requires-2-clause-room g c = inr (omega (arith, touches_most _ _ _ c.in_ok-touch.ensures.ok, c.in_ok-touch_bitmap.ensures.touches))

pub touch-requires-2-clause-metadata : goal.touch-requires-2-clause-metadata
touch-requires-2-clause-metadata g c = first_unnamed c.as_slice-edits.result.now _ _ (some_length _ (sym c.is_empty.ensures ∙ c.if-is_empty.false)) (λ e on cached. unnamed_on _ _ _ _ c.touch.ensures.caches (unnamed_on _ _ _ _ c.touch_bitmap.ensures.caches (c.requires.can.unnamed e (subst (λ es. Contains es e) c.as_slice-edits.ensures on))) cached)
