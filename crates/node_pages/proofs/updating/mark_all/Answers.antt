use Rattle.node_pages.specs.Updating.{SetsBits}
use Rattle.block_alloc.specs.Words.{bit_of}
use Rattle.node_pages.proofs.EndsOn.{halts_later, halts_ok, halts_on, if_err}
use Rattle.node_pages.proofs.Common.{Bool, ◌<◌, ℕ, length, sym, ap, subst, ◌∙◌, le_trans, firm_trans, goes_trans, numbers, arith, err_from_is_err_and}
use Rattle.rio_base.proofs.BlockRules.{caches_trans}
use Rattle.node_pages.proofs.Listed.{number_at, listed, as_many}
use Rattle.node_pages.proofs.Updated.{caches_first, in_first, sets_more, update_trans}
use Rattle.node_pages.proofs.updating.mark_all.Goals as goal

pub loop-t-preserved : goal.loop-t-preserved
loop-t-preserved g c =
    let inv = c.loop-t.invariant in
    let now = c.in_ok-set_used.ensures in
    let call = c.set_used.ensures in
    let bs = c.args.blocks.now in
    let few : c.loop-t.t < length bs = c.loop-t-test.true in
    let is = number_at bs c.loop-t.t _ few in
    let within = subst (λ (b : ℕ). b < c.args.shape.now.blocks) (sym is) (c.requires.blocks _ (listed (numbers bs) c.loop-t.t (subst (λ (n : ℕ). c.loop-t.t < n) (sym (as_many bs)) few))) in
    record {
      bits = sets_more c.args.shape.now _ _ _ (numbers bs) c.loop-t.t _ _ c.requires.shape.sizes within is inv.bits now.marks.ok;
      update = update_trans _ _ _ inv.update now.marks.update;
      standing = call.marks.standing ∙ inv.standing;
      firm = firm_trans _ _ _ inv.firm call.marks.firm;
      shape = call.shape;
      caches = caches_trans _ _ _ _ _ inv.caches (caches_first c.args.shape.now _ _ _ c.requires.shape.sizes within call.marks.caches);
      goes = goes_trans _ _ _ _ _ _ inv.goes call.goes;
      later = le_trans inv.later call.ends.later;
      running = now.ends.cause ∙ inv.running;
      sound = call.sound;
    }

pub set_used-requires-clause-block : goal.set_used-requires-clause-block
set_used-requires-clause-block g c =
    let bs = c.args.blocks.now in
    let few : c.loop-t.t < length bs = c.loop-t-test.true in
    subst (λ (b : ℕ). b < c.args.shape.now.blocks) (sym (number_at bs c.loop-t.t _ few)) (c.requires.blocks _ (listed (numbers bs) c.loop-t.t (subst (λ (n : ℕ). c.loop-t.t < n) (sym (as_many bs)) few)))

pub set_used-requires-clause-touched : goal.set_used-requires-clause-touched
set_used-requires-clause-touched g c =
    let bs = c.args.blocks.now in
    let few : c.loop-t.t < length bs = c.loop-t-test.true in
    let within = subst (λ (b : ℕ). b < c.args.shape.now.blocks) (sym (number_at bs c.loop-t.t _ few)) (c.requires.blocks _ (listed (numbers bs) c.loop-t.t (subst (λ (n : ℕ). c.loop-t.t < n) (sym (as_many bs)) few))) in
    ap (g.V.Volume.kept c.loop-t.v).touched (in_first c.args.shape.now _ c.requires.shape.sizes within) ∙ ap (λ (f : ℕ → Bool). f 1) c.loop-t.invariant.update.touched ∙ c.requires.touched

pub returns-in_err-set_used-clause-caches : goal.returns-in_err-set_used-clause-caches
returns-in_err-set_used-clause-caches g c =
    let bs = c.args.blocks.now in
    let few : c.loop-t.t < length bs = c.loop-t-test.true in
    let within = subst (λ (b : ℕ). b < c.args.shape.now.blocks) (sym (number_at bs c.loop-t.t _ few)) (c.requires.blocks _ (listed (numbers bs) c.loop-t.t (subst (λ (n : ℕ). c.loop-t.t < n) (sym (as_many bs)) few))) in
    caches_trans _ _ _ _ _ c.loop-t.invariant.caches (caches_first c.args.shape.now _ _ _ c.requires.shape.sizes within c.set_used.ensures.marks.caches)

pub returns-in_err-set_used-clause-goes : goal.returns-in_err-set_used-clause-goes
returns-in_err-set_used-clause-goes g c = goes_trans _ _ _ _ _ _ c.loop-t.invariant.goes c.set_used.ensures.goes

pub returns-clause-ok : goal.returns-clause-ok
returns-clause-ok g c = subst (λ n. SetsBits c.args.shape.now (g.V.Blocks.seen c.args.v.now).words (g.V.Blocks.seen c.loop-t.v).words (numbers c.args.blocks.now) n (bit_of c.args.used)) (omega (arith, c.loop-t-test.false, c.loop-t.auto.t-end)) c.loop-t.invariant.bits

pub returns-clause-in_update : goal.returns-clause-in_update
returns-clause-in_update g c = c.loop-t.invariant.update.updating ∙ c.requires.in_update

pub returns-clause-ends : goal.returns-clause-ends
returns-clause-ends g c = halts_ok _ _ _ c.loop-t.invariant.later c.loop-t.invariant.running

pub returns-in_err-set_used-clause-ends : goal.returns-in_err-set_used-clause-ends
returns-in_err-set_used-clause-ends g c = let p = err_from_is_err_and c.from_residual.result c.from_residual.ensures.1 in halts_later _ _ _ _ c.loop-t.invariant.later c.loop-t.invariant.running (halts_on _ _ c.set_used.result c.from_residual.result _ p.0 c.in_err-set_used.was p.1 c.set_used.ensures.ends)

pub returns-in_err-set_used-clause-firm : goal.returns-in_err-set_used-clause-firm
returns-in_err-set_used-clause-firm g c = firm_trans _ _ _ c.loop-t.invariant.firm c.set_used.ensures.marks.firm

pub returns-in_err-set_used-clause-ok : goal.returns-in_err-set_used-clause-ok
returns-in_err-set_used-clause-ok g c = if_err c.from_residual.result _ c.from_residual.ensures.0

pub returns-in_err-set_used-clause-update : goal.returns-in_err-set_used-clause-update
returns-in_err-set_used-clause-update g c = if_err c.from_residual.result _ c.from_residual.ensures.0

pub returns-in_err-set_used-clause-standing : goal.returns-in_err-set_used-clause-standing
returns-in_err-set_used-clause-standing g c = c.set_used.ensures.marks.standing ∙ c.loop-t.invariant.standing
