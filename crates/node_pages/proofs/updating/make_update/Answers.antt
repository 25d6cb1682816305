use Rattle.node_pages.proofs.Updated.{bitmap_dropped, applied_marked, can_words, update_trans}
use Rattle.rio_base.proofs.BlockRules.{caches_trans}
use Rattle.node_pages.proofs.EndsOn.{halts_later, halts_on, if_err, on_ok}
use Rattle.node_pages.proofs.Common.{◌∙◌, ◌then◌, ℕ, firm_trans, sym, subst, numbers, Bool, ap, err_from_is_err_and}
use Rattle.node_pages.specs.Updating.{SetsBits}
use Rattle.node_pages.proofs.Listed.{as_many}
use Rattle.node_pages.proofs.updating.make_update.Goals as goal

pub make_words-requires-clause-can : goal.make_words-requires-clause-can
make_words-requires-clause-can g c = can_words c.args.shape.now c.args.edits.now _ _ c.requires.can

pub mark_all-requires-clause-touched : goal.mark_all-requires-clause-touched
mark_all-requires-clause-touched g c = ap (λ (f : ℕ → Bool). f 1) c.in_ok-make_words.ensures.update.touched ∙ c.requires.touched.bitmap

pub mark_all-requires-2-clause-touched : goal.mark_all-requires-2-clause-touched
mark_all-requires-2-clause-touched g c = ap (λ (f : ℕ → Bool). f 1) (c.in_ok-mark_all.ensures.update.touched ∙ c.in_ok-make_words.ensures.update.touched) ∙ c.requires.touched.bitmap

pub returns-in_err-make_words-clause-ok : goal.returns-in_err-make_words-clause-ok
returns-in_err-make_words-clause-ok g c = if_err c.from_residual.result _ c.from_residual.ensures.0

pub returns-in_err-make_words-clause-update : goal.returns-in_err-make_words-clause-update
returns-in_err-make_words-clause-update g c = if_err c.from_residual.result _ c.from_residual.ensures.0

pub returns-in_err-make_words-clause-ends : goal.returns-in_err-make_words-clause-ends
returns-in_err-make_words-clause-ends g c = let p = err_from_is_err_and c.from_residual.result c.from_residual.ensures.1 in halts_on _ _ c.make_words.result c.from_residual.result _ p.0 c.in_err-make_words.was p.1 c.make_words.ensures.ends

pub returns-in_err-make_words-clause-caches : goal.returns-in_err-make_words-clause-caches
returns-in_err-make_words-clause-caches g c = bitmap_dropped _ _ c.make_words.ensures.drops

pub returns-in_err-mark_all-clause-standing : goal.returns-in_err-mark_all-clause-standing
returns-in_err-mark_all-clause-standing g c = c.mark_all.ensures.standing ∙ c.make_words.ensures.standing

pub returns-in_err-mark_all-clause-goes : goal.returns-in_err-mark_all-clause-goes
returns-in_err-mark_all-clause-goes g c = c.make_words.ensures.goes then c.mark_all.ensures.goes

pub returns-in_err-mark_all-clause-firm : goal.returns-in_err-mark_all-clause-firm
returns-in_err-mark_all-clause-firm g c = firm_trans _ _ _ c.make_words.ensures.firm c.mark_all.ensures.firm

pub returns-in_err-mark_all-clause-ok : goal.returns-in_err-mark_all-clause-ok
returns-in_err-mark_all-clause-ok g c = if_err c.from_residual-in_err-mark_all.result _ c.from_residual-in_err-mark_all.ensures.0

pub returns-in_err-mark_all-clause-update : goal.returns-in_err-mark_all-clause-update
returns-in_err-mark_all-clause-update g c = if_err c.from_residual-in_err-mark_all.result _ c.from_residual-in_err-mark_all.ensures.0

pub returns-in_err-mark_all-clause-ends : goal.returns-in_err-mark_all-clause-ends
returns-in_err-mark_all-clause-ends g c = let p = err_from_is_err_and c.from_residual-in_err-mark_all.result c.from_residual-in_err-mark_all.ensures.1 in halts_later _ _ _ _ c.make_words.ensures.ends.later c.in_ok-make_words.ensures.ends.cause (halts_on _ _ c.mark_all.result c.from_residual-in_err-mark_all.result _ p.0 c.in_err-mark_all.was p.1 c.mark_all.ensures.ends)

pub returns-in_err-mark_all-clause-caches : goal.returns-in_err-mark_all-clause-caches
returns-in_err-mark_all-clause-caches g c = caches_trans _ _ _ _ _ (bitmap_dropped _ _ c.make_words.ensures.drops) c.mark_all.ensures.caches

pub returns-clause-standing : goal.returns-clause-standing
returns-clause-standing g c = c.mark_all-2.ensures.standing ∙ c.mark_all.ensures.standing ∙ c.make_words.ensures.standing

pub returns-clause-goes : goal.returns-clause-goes
returns-clause-goes g c = c.make_words.ensures.goes then c.mark_all.ensures.goes then c.mark_all-2.ensures.goes

pub returns-clause-firm : goal.returns-clause-firm
returns-clause-firm g c = firm_trans _ _ _ (firm_trans _ _ _ c.make_words.ensures.firm c.mark_all.ensures.firm) c.mark_all-2.ensures.firm

pub returns-clause-ends : goal.returns-clause-ends
returns-clause-ends g c = halts_later _ _ _ _ c.make_words.ensures.ends.later c.in_ok-make_words.ensures.ends.cause (halts_later _ _ _ _ c.mark_all.ensures.ends.later c.in_ok-mark_all.ensures.ends.cause c.mark_all-2.ensures.ends)

pub returns-clause-update : goal.returns-clause-update
returns-clause-update g c = on_ok c.mark_all-2.result _ _ (λ done. update_trans _ _ _ (update_trans _ _ _ c.in_ok-make_words.ensures.update c.in_ok-mark_all.ensures.update) done) c.mark_all-2.ensures.update

pub returns-clause-caches : goal.returns-clause-caches
returns-clause-caches g c = caches_trans _ _ _ _ _ (bitmap_dropped _ _ c.make_words.ensures.drops) (caches_trans _ _ _ _ _ c.mark_all.ensures.caches c.mark_all-2.ensures.caches)

pub returns-clause-ok : goal.returns-clause-ok
returns-clause-ok g c =
    let seen = g.V.Blocks.seen in
    let shape = c.args.shape.now in
    let taken = c.args.taken.now in
    let freed = c.args.freed.now in
    on_ok c.mark_all-2.result _ _ (λ done. applied_marked shape c.args.i.0 c.args.inode.now c.args.edits.now taken freed (seen c.args.v.now).words (seen c.make_words.new.v).words (seen c.mark_all.new.v).words (seen c.mark_all-2.new.v).words
    c.requires.can.apart
    c.in_ok-make_words.ensures.ok
    (subst (λ n. SetsBits shape (seen c.make_words.new.v).words (seen c.mark_all.new.v).words (numbers taken) n 1) (sym (as_many taken)) c.in_ok-mark_all.ensures.ok)
    (subst (λ n. SetsBits shape (seen c.mark_all.new.v).words (seen c.mark_all-2.new.v).words (numbers freed) n 0) (sym (as_many freed)) done)) c.mark_all-2.ensures.ok
