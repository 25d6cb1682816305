use Rattle.std.proofs.Common.{arith, ap, sym, subst, ◌∙◌, ℕ, ◌+◌, ◌≡◌, inl, refl}
use Rattle.std.proofs.lemmas.Result.{err_from_is_err_and}
use Rattle.rio_base.specs.Regions.{OldOrPutWord, put_word}
use Rattle.rio_base.proofs.BlockRules.{ends_later}
use Rattle.rio_base.proofs.RegionRules.{stays_trans}
use Rattle.rio_model.specs.Undo.{Gains, map_from}
use Rattle.undo_list.proofs.Frames.{off_trans, off_same, rests_off, published, gains_put}
use Rattle.undo_list.proofs.Outcomes.{on_ok, ends_err}
use Rattle.undo_list.specs.Stages.{Staged}
use Rattle.undo_list.proofs.ranges.publish_pair.Goals as goal

pub returns-in_err-stage_pair-clause-fault : goal.returns-in_err-stage_pair-clause-fault
returns-in_err-stage_pair-clause-fault g c =
    let at = c.args.at in
    λ is. rests_off (g.R.RegionWords.count c.args.r.now) (g.R.RegionWords.words c.args.r.now) (g.R.RegionWords.words c.stage_pair.new.r) (512 + at) (515 + at + 2) c.requires.region (omega (arith, c.requires.at)) (omega (arith, c.requires.room)) c.stage_pair.ensures.off

pub returns-in_err-stage_pair-clause-either : goal.returns-in_err-stage_pair-clause-either
returns-in_err-stage_pair-clause-either g c =
    let at = c.args.at in
    inl (rests_off (g.R.RegionWords.count c.args.r.now) (g.R.RegionWords.words c.args.r.now) (g.R.RegionWords.words c.stage_pair.new.r) (512 + at) (515 + at + 2) c.requires.region (omega (arith, c.requires.at)) (omega (arith, c.requires.room)) c.stage_pair.ensures.off)

pub returns-clause-fault : goal.returns-clause-fault
returns-clause-fault g c =
    let f = g.R.RegionWords.words in
    let at = c.args.at in
    λ is. rests_off (g.R.RegionWords.count c.args.r.now) (f c.args.r.now) (f c.set.new.self) (512 + at) (515 + at + 2) c.requires.region (omega (arith, c.requires.at)) (omega (arith, c.requires.room)) (off_trans c.stage_pair.ensures.off (off_same (512 + at) (515 + at + 2) (f c.stage_pair.new.r) (f c.set.new.self) (c.set.ensures.fault is)))

pub returns-clause-ok : goal.returns-clause-ok
returns-clause-ok g c =
    let f = g.R.RegionWords.words c.args.r.now in
    let n = g.R.RegionWords.count c.args.r.now in
    let m = g.R.RegionWords.words c.stage_pair.new.r in
    let at = c.args.at in
    let st = subst (λ h. Staged f m at h c.args.place (map_from f + c.args.place) 2) c.requires.head (c.in_ok-stage_pair.ensures.ok (map_from f + c.args.place) c.requires.first (c.requires.second ∙ ap f (omega arith))) in
    let stored = λ (put : g.R.RegionWords.words c.set.new.self ≡ put_word m 3 (c.from.result + 1)). subst (λ w. Gains n f w c.args.place 2) (sym (put ∙ ap (λ v. put_word m 3 (v + 1)) c.from.ensures)) (gains_put n f m at c.args.place (map_from f + c.args.place) 2 c.requires.region c.requires.at c.stage_pair.ensures.off st refl c.requires.place c.requires.room) in
    on_ok c.set.result _ _ stored c.set.ensures.ok

pub returns-clause-either : goal.returns-clause-either
returns-clause-either g c =
    let f = g.R.RegionWords.words c.args.r.now in
    let n = g.R.RegionWords.count c.args.r.now in
    let m = g.R.RegionWords.words c.stage_pair.new.r in
    let at = c.args.at in
    let st = subst (λ h. Staged f m at h c.args.place (map_from f + c.args.place) 2) c.requires.head (c.in_ok-stage_pair.ensures.ok (map_from f + c.args.place) c.requires.first (c.requires.second ∙ ap f (omega arith))) in
    let ends = λ (v : ℕ) (e : v ≡ at + 1) (w : ℕ → ℕ) (o : OldOrPutWord m w 3 v). published n f m w at c.args.place (map_from f + c.args.place) 2 v c.requires.region c.requires.at c.stage_pair.ensures.off st refl c.requires.place c.requires.room e o in
    ends (c.from.result + 1) (ap (λ x. x + 1) c.from.ensures) (g.R.RegionWords.words c.set.new.self) c.set.ensures.either

pub returns-clause-stays : goal.returns-clause-stays
returns-clause-stays g c = stays_trans g.met.R.RegionWords.rest_trans c.stage_pair.ensures.stays c.set.ensures.stays

pub set-requires-clause-place : goal.set-requires-clause-place
set-requires-clause-place g c = omega (arith, c.stage_pair.ensures.stays.count, c.requires.region.size)

pub returns-in_err-stage_pair-clause-ok : goal.returns-in_err-stage_pair-clause-ok
returns-in_err-stage_pair-clause-ok g c =
    let p = err_from_is_err_and c.from_residual.result c.from_residual.ensures.1 in
    rw (p.1) tt

pub returns-in_err-stage_pair-clause-ends : goal.returns-in_err-stage_pair-clause-ends
returns-in_err-stage_pair-clause-ends g c =
    let p = err_from_is_err_and c.from_residual.result c.from_residual.ensures.1 in
    ends_err _ _ c.stage_pair.result c.from_residual.result _ _ c.in_err-stage_pair.was p.1 p.2 c.stage_pair.ensures.ends

pub returns-clause-ends : goal.returns-clause-ends
returns-clause-ends g c = ends_later _ _ _ _ c.stage_pair.ensures.ends.later c.in_ok-stage_pair.ensures.ends.cause c.set.ensures.ends
