use Rattle.std.proofs.Common.{arith, sym, ◌∙◌, ap, le_trans, subst, ℕ}
use Rattle.std.proofs.lemmas.Result.{err_from_is_err_and}
use Rattle.rio_base.proofs.BlockRules.{ends_later}
use Rattle.rio_base.proofs.RegionRules.{stays_trans}
use Rattle.rio_model.proofs.UndoRules.{undone_by, undoes_refl, undoes_trans}
use Rattle.rio_model.specs.Undo.{IsRegion, Undoes}
use Rattle.undo_list.proofs.Outcomes.{ends_err}
use Rattle.undo_list.proofs.rewinding.rewind.Goals as goal

pub returns-clause-ok : goal.returns-clause-ok
returns-clause-ok g c = undone_by (g.R.RegionWords.count c.args.r.now) (g.R.RegionWords.words c.args.r.now) (g.R.RegionWords.words c.loop-head.r) c.loop-head.invariant.before (sym c.loop-head.invariant.head ∙ omega arith)

pub loop-head-init : goal.loop-head-init
loop-head-init g c =
    record {
      undo = c.in_ok-header.ensures.header.undo ∙ sym (ap (λ (w : ℕ → ℕ). w 1) c.read_header.ensures.words);
      head = c.in_ok-header.ensures.header.head ∙ sym (ap (λ (w : ℕ → ℕ). w 3) c.read_header.ensures.words);
      region = c.read_header.ensures.region;
      before = subst (λ w. Undoes (g.R.RegionWords.count c.args.r.now) (g.R.RegionWords.words c.args.r.now) w) (sym c.read_header.ensures.words) (undoes_refl (g.R.RegionWords.count c.args.r.now) (g.R.RegionWords.words c.args.r.now) c.requires.region);
      stays = c.read_header.ensures.stays;
      later = c.read_header.ensures.ends.later;
      running = c.in_ok-header.ensures.ends.cause;
    }

pub returns-in_err-header-clause-ok : goal.returns-in_err-header-clause-ok
returns-in_err-header-clause-ok g c =
    let p = err_from_is_err_and c.from_residual.result c.from_residual.ensures.1 in
    rw (p.1) tt

pub returns-in_err-header-clause-before : goal.returns-in_err-header-clause-before
returns-in_err-header-clause-before g c =
    subst (λ w. Undoes (g.R.RegionWords.count c.args.r.now) (g.R.RegionWords.words c.args.r.now) w) (sym c.read_header.ensures.words) (undoes_refl (g.R.RegionWords.count c.args.r.now) (g.R.RegionWords.words c.args.r.now) c.requires.region)

pub returns-in_err-header-clause-ends : goal.returns-in_err-header-clause-ends
returns-in_err-header-clause-ends g c =
    let p = err_from_is_err_and c.from_residual.result c.from_residual.ensures.1 in
    ends_err _ _ c.read_header.result c.from_residual.result _ _ c.in_err-header.was p.1 p.2 c.read_header.ensures.ends

pub returns-in_err-head-clause-ok : goal.returns-in_err-head-clause-ok
returns-in_err-head-clause-ok g c =
    let p = err_from_is_err_and c.from_residual-in_err-head.result c.from_residual-in_err-head.ensures.1 in
    rw (p.1) tt

pub returns-in_err-head-clause-before : goal.returns-in_err-head-clause-before
returns-in_err-head-clause-before g c =
    undoes_trans (g.R.RegionWords.count c.args.r.now) (g.R.RegionWords.words c.args.r.now) (g.R.RegionWords.words c.loop-head.r) (g.R.RegionWords.words c.rewind_newest.new.r) c.loop-head.invariant.before (subst (λ k. Undoes k (g.R.RegionWords.words c.loop-head.r) (g.R.RegionWords.words c.rewind_newest.new.r)) c.loop-head.invariant.stays.count c.rewind_newest.ensures.before)

pub returns-in_err-head-clause-region : goal.returns-in_err-head-clause-region
returns-in_err-head-clause-region g c = subst (λ k. IsRegion k (g.R.RegionWords.words c.rewind_newest.new.r)) (sym c.rewind_newest.ensures.stays.count) c.rewind_newest.ensures.before.region

pub returns-in_err-head-clause-stays : goal.returns-in_err-head-clause-stays
returns-in_err-head-clause-stays g c = stays_trans g.met.R.RegionWords.rest_trans c.loop-head.invariant.stays c.rewind_newest.ensures.stays

pub returns-in_err-head-clause-ends : goal.returns-in_err-head-clause-ends
returns-in_err-head-clause-ends g c =
    let p = err_from_is_err_and c.from_residual-in_err-head.result c.from_residual-in_err-head.ensures.1 in
    ends_later _ _ _ _ c.loop-head.invariant.later c.loop-head.invariant.running (ends_err _ _ c.rewind_newest.result c.from_residual-in_err-head.result _ _ c.in_err-head.was p.1 p.2 c.rewind_newest.ensures.ends)

pub loop-head-preserved : goal.loop-head-preserved
loop-head-preserved g c =
    let inv = c.loop-head.invariant in
    let now = c.rewind_newest.ensures in
    record {
      undo = inv.undo ∙ sym now.before.sizes.undo;
      head = c.in_ok-head.ensures.head.0;
      region = subst (λ k. IsRegion k (g.R.RegionWords.words c.rewind_newest.new.r)) (sym c.rewind_newest.ensures.stays.count) c.rewind_newest.ensures.before.region;
      before = undoes_trans (g.R.RegionWords.count c.args.r.now) (g.R.RegionWords.words c.args.r.now) (g.R.RegionWords.words c.loop-head.r) (g.R.RegionWords.words c.rewind_newest.new.r) c.loop-head.invariant.before (subst (λ k. Undoes k (g.R.RegionWords.words c.loop-head.r) (g.R.RegionWords.words c.rewind_newest.new.r)) c.loop-head.invariant.stays.count c.rewind_newest.ensures.before);
      stays = stays_trans g.met.R.RegionWords.rest_trans inv.stays now.stays;
      later = le_trans inv.later now.ends.later;
      running = c.in_ok-head.ensures.ends.cause ∙ inv.running;
    }

pub returns-clause-ends : goal.returns-clause-ends
returns-clause-ends g c = record { later = c.loop-head.invariant.later; stays = λ stopped. c.loop-head.invariant.running ∙ stopped; cause = c.loop-head.invariant.running }
