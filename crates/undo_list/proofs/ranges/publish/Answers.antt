use Rattle.std.proofs.Common.{arith, ap, sym, subst, ◌∙◌, ℕ, ◌+◌, ◌*◌, ◌≡◌, inl}
use Rattle.std.proofs.lemmas.Result.{err_from_is_err_and}
use Rattle.rio_base.specs.Regions.{OldOrPutWord, put_word}
use Rattle.rio_base.proofs.BlockRules.{ends_later}
use Rattle.rio_base.proofs.RegionRules.{stays_trans}
use Rattle.rio_model.specs.Undo.{Gains}
use Rattle.undo_list.proofs.Frames.{off_trans, off_same, rests_off, published, gains_put}
use Rattle.undo_list.proofs.Outcomes.{on_ok, ends_err}
use Rattle.undo_list.specs.Stages.{Staged}
use Rattle.undo_list.proofs.ranges.publish.Goals as goal

pub returns-in_err-stage-clause-fault : goal.returns-in_err-stage-clause-fault
returns-in_err-stage-clause-fault g c =
    let f = g.R.RegionWords.words c.args.r.now in
    let n = g.R.RegionWords.count c.args.r.now in
    let at = c.args.at in
    let k = c.args.count in
    let off = c.stage.ensures.off in
    λ is. rests_off n f (g.R.RegionWords.words c.stage.new.r) (512 + at) (515 + at + k) c.requires.region (omega (arith, c.requires.at)) (omega (arith, c.requires.room)) off

pub returns-in_err-stage-clause-either : goal.returns-in_err-stage-clause-either
returns-in_err-stage-clause-either g c =
    let f = g.R.RegionWords.words c.args.r.now in
    let n = g.R.RegionWords.count c.args.r.now in
    let at = c.args.at in
    let k = c.args.count in
    let off = c.stage.ensures.off in
    inl (rests_off n f (g.R.RegionWords.words c.stage.new.r) (512 + at) (515 + at + k) c.requires.region (omega (arith, c.requires.at)) (omega (arith, c.requires.room)) off)

pub returns-clause-fault : goal.returns-clause-fault
returns-clause-fault g c =
    let f = g.R.RegionWords.words c.args.r.now in
    let n = g.R.RegionWords.count c.args.r.now in
    let at = c.args.at in
    let k = c.args.count in
    let off = c.stage.ensures.off in
    λ is. rests_off n f (g.R.RegionWords.words c.set.new.self) (512 + at) (515 + at + k) c.requires.region (omega (arith, c.requires.at)) (omega (arith, c.requires.room)) (off_trans off (off_same (512 + at) (515 + at + k) (g.R.RegionWords.words c.stage.new.r) (g.R.RegionWords.words c.set.new.self) (c.set.ensures.fault is)))

pub returns-clause-ok : goal.returns-clause-ok
returns-clause-ok g c =
    let f = g.R.RegionWords.words c.args.r.now in
    let n = g.R.RegionWords.count c.args.r.now in
    let at = c.args.at in
    let k = c.args.count in
    let off = c.stage.ensures.off in
    let st = subst (λ h. Staged f (g.R.RegionWords.words c.stage.new.r) at h c.args.place (512 * (1 + c.args.header.undo) + c.args.place) k) c.requires.head c.in_ok-stage.ensures.ok in
    let stored = λ (put : g.R.RegionWords.words c.set.new.self ≡ put_word (g.R.RegionWords.words c.stage.new.r) 3 (c.from.result + 1)). subst (λ w. Gains n f w c.args.place k) (sym (put ∙ ap (λ v. put_word (g.R.RegionWords.words c.stage.new.r) 3 (v + 1)) c.from.ensures)) (gains_put n f (g.R.RegionWords.words c.stage.new.r) at c.args.place (512 * (1 + c.args.header.undo) + c.args.place) k c.requires.region c.requires.at off st (omega (arith, c.requires.undo)) c.requires.place c.requires.room) in
    on_ok c.set.result _ _ stored c.set.ensures.ok

pub returns-clause-either : goal.returns-clause-either
returns-clause-either g c =
    let f = g.R.RegionWords.words c.args.r.now in
    let n = g.R.RegionWords.count c.args.r.now in
    let at = c.args.at in
    let k = c.args.count in
    let off = c.stage.ensures.off in
    let st = subst (λ h. Staged f (g.R.RegionWords.words c.stage.new.r) at h c.args.place (512 * (1 + c.args.header.undo) + c.args.place) k) c.requires.head c.in_ok-stage.ensures.ok in
    let ends = λ (v : ℕ) (e : v ≡ at + 1) (w : ℕ → ℕ) (o : OldOrPutWord (g.R.RegionWords.words c.stage.new.r) w 3 v). published n f (g.R.RegionWords.words c.stage.new.r) w at c.args.place (512 * (1 + c.args.header.undo) + c.args.place) k v c.requires.region c.requires.at off st (omega (arith, c.requires.undo)) c.requires.place c.requires.room e o in
    ends (c.from.result + 1) (ap (λ x. x + 1) c.from.ensures) (g.R.RegionWords.words c.set.new.self) c.set.ensures.either

pub set-requires-clause-place : goal.set-requires-clause-place
set-requires-clause-place g c = omega (arith, c.stage.ensures.stays.count, c.requires.region.size)

pub returns-in_err-stage-clause-ok : goal.returns-in_err-stage-clause-ok
returns-in_err-stage-clause-ok g c =
    let p = err_from_is_err_and c.from_residual.result c.from_residual.ensures.1 in
    rw (p.1) tt

pub returns-in_err-stage-clause-ends : goal.returns-in_err-stage-clause-ends
returns-in_err-stage-clause-ends g c =
    let p = err_from_is_err_and c.from_residual.result c.from_residual.ensures.1 in
    ends_err _ _ c.stage.result c.from_residual.result _ _ c.in_err-stage.was p.1 p.2 c.stage.ensures.ends

pub returns-clause-stays : goal.returns-clause-stays
returns-clause-stays g c = stays_trans g.met.R.RegionWords.rest_trans c.stage.ensures.stays c.set.ensures.stays

pub returns-clause-ends : goal.returns-clause-ends
returns-clause-ends g c = ends_later _ _ _ _ c.stage.ensures.ends.later c.in_ok-stage.ensures.ends.cause c.set.ensures.ends
