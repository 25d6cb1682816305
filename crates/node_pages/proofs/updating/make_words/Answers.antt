use Rattle.node_pages.proofs.Common.{◌<◌, ◌then◌, ℕ, [], firm_trans, sym, subst, Bool, ◌∙◌, ap, err_from_is_err_and, inode_block}
use Rattle.rio_base.proofs.BlockRules.{shape_dropped}
use Rattle.rio_base.proofs.Rules.{drops_trans}
use Rattle.node_pages.proofs.Updated.{applied, sets_none, update_trans}
use Rattle.node_pages.proofs.EndsOn.{halts_later, halts_on, if_err, on_ok}
use Rattle.node_pages.proofs.updating.make_words.Goals as goal

pub make_edits-requires-clause-blocks : goal.make_edits-requires-clause-blocks
make_edits-requires-clause-blocks g c = λ e on. subst (λ (n : ℕ). e.block.0 < n) (sym c.requires.shape.count) (c.requires.can.to e on)

pub edit_inode-requires-clause-shape : goal.edit_inode-requires-clause-shape
edit_inode-requires-clause-shape g c = shape_dropped _ _ _ c.requires.shape c.make_edits.ensures.count c.make_edits.ensures.drops

pub returns-in_err-make_edits-clause-shape : goal.returns-in_err-make_edits-clause-shape
returns-in_err-make_edits-clause-shape g c = shape_dropped _ _ _ c.requires.shape c.make_edits.ensures.count c.make_edits.ensures.drops

pub returns-clause-ok : goal.returns-clause-ok
returns-clause-ok g c =
    let seen = g.V.Blocks.seen in
    let words = (seen c.edit_inode.new.v).words in
    let shape = c.args.shape.now in
    on_ok c.edit_inode.result _ _ (λ done. applied shape c.args.i.0 c.args.inode.now c.args.edits.now [] [] (seen c.args.v.now).words (seen c.make_edits.new.v).words words words words c.requires.shape.sizes c.requires.ino c.requires.can.from c.requires.can.apart c.in_ok-make_edits.ensures.ok done (sets_none shape words [] 1) (sets_none shape words [] 0)) c.edit_inode.ensures.ok

pub returns-clause-drops : goal.returns-clause-drops
returns-clause-drops g c = drops_trans _ _ _ c.make_edits.ensures.drops c.edit_inode.ensures.drops

pub returns-clause-goes : goal.returns-clause-goes
returns-clause-goes g c = c.make_edits.ensures.goes then c.edit_inode.ensures.goes

pub returns-clause-firm : goal.returns-clause-firm
returns-clause-firm g c = firm_trans _ _ _ c.make_edits.ensures.firm c.edit_inode.ensures.firm

pub returns-in_err-make_edits-clause-ok : goal.returns-in_err-make_edits-clause-ok
returns-in_err-make_edits-clause-ok g c = if_err c.from_residual.result _ c.from_residual.ensures.0

pub returns-in_err-make_edits-clause-update : goal.returns-in_err-make_edits-clause-update
returns-in_err-make_edits-clause-update g c = if_err c.from_residual.result _ c.from_residual.ensures.0

pub returns-in_err-make_edits-clause-ends : goal.returns-in_err-make_edits-clause-ends
returns-in_err-make_edits-clause-ends g c = let p = err_from_is_err_and c.from_residual.result c.from_residual.ensures.1 in halts_on _ _ c.make_edits.result c.from_residual.result _ p.0 c.in_err-make_edits.was p.1 c.make_edits.ensures.ends

pub edit_inode-requires-clause-touched : goal.edit_inode-requires-clause-touched
edit_inode-requires-clause-touched g c = ap (λ (f : ℕ → Bool). f (inode_block c.args.i.0)) c.in_ok-make_edits.ensures.update.touched ∙ c.requires.inode

pub returns-clause-ends : goal.returns-clause-ends
returns-clause-ends g c = halts_later _ _ _ _ c.make_edits.ensures.ends.later c.in_ok-make_edits.ensures.ends.cause c.edit_inode.ensures.ends

pub returns-clause-update : goal.returns-clause-update
returns-clause-update g c = on_ok c.edit_inode.result _ _ (λ done. update_trans _ _ _ c.in_ok-make_edits.ensures.update done) c.edit_inode.ensures.update

pub returns-clause-standing : goal.returns-clause-standing
returns-clause-standing g c = c.edit_inode.ensures.standing ∙ c.make_edits.ensures.standing
