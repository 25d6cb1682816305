use Rattle.std.proofs.Common.{◌+◌, ◌<◌, ℕ, Bool, ◌∙◌, ap, arith, refl, slice_index, subst, sym}
use Rattle.std.proofs.lemmas.Result.{err_from_is_err_and}
use Rattle.rio_base.specs.Blocks.{BlockWords}
use Rattle.rio_base.specs.Rules.{firm_refl, firm_trans, goes_refl, goes_trans}
use Rattle.rio_base.specs.Volume.{put}
use Rattle.rio_base.proofs.BlockRuns.{halts_failed, ran_more, ran_none}
use Rattle.rio_base.proofs.Exits.{none_ok}
use Rattle.rio_base.proofs.Rules.{drops_refl, drops_trans}
use Rattle.rio_base.proofs.VolumeRuns.{front_of, put_next, put_none, update_refl, update_trans}
use Rattle.rio_base.proofs.volume.Volume.edit_run.Goals as goal

pub loop-i-init : goal.loop-i-init
loop-i-init g c = record {
  words = put_none _ c.args.b.0 c.args.w c.args.from.now;
  update = update_refl _;
  in_update = (g.met.Self.Volume.settled _ c.requires.sound).touched _ c.requires.touched;
  standing = refl;
  firm = firm_refl _;
  count = refl;
  drops = drops_refl _;
  goes = goes_refl _ _;
  ran = ran_none _;
  sound = c.requires.sound;
}

pub edit-requires-clause-place : goal.edit-requires-clause-place
edit-requires-clause-place g c = record {
  block = subst (λ n. c.args.b.0 < n) (sym c.loop-i.invariant.count) c.requires.place.block;
  word = omega (arith, c.requires.place.within, c.loop-i-test.true);
}

pub edit-requires-clause-touched : goal.edit-requires-clause-touched
edit-requires-clause-touched g c = ap (λ (t : ℕ → Bool). t c.args.b.0) c.loop-i.invariant.update.touched ∙ c.requires.touched

pub returns-in_err-edit-clause-ok : goal.returns-in_err-edit-clause-ok
returns-in_err-edit-clause-ok g c =
    let p = err_from_is_err_and c.from_residual.result c.from_residual.ensures.1 in
    none_ok _ p.0 _ p.1

pub returns-in_err-edit-clause-front : goal.returns-in_err-edit-clause-front
returns-in_err-edit-clause-front g c = front_of _ _ _ _ _ _ _ _ c.loop-i-test.true c.loop-i.invariant.words c.edit.ensures.either

pub returns-in_err-edit-clause-update : goal.returns-in_err-edit-clause-update
returns-in_err-edit-clause-update g c =
    let p = err_from_is_err_and c.from_residual.result c.from_residual.ensures.1 in
    none_ok _ p.0 _ p.1

pub returns-in_err-edit-clause-standing : goal.returns-in_err-edit-clause-standing
returns-in_err-edit-clause-standing g c = c.edit.ensures.standing ∙ c.loop-i.invariant.standing

pub returns-in_err-edit-clause-firm : goal.returns-in_err-edit-clause-firm
returns-in_err-edit-clause-firm g c = firm_trans _ _ _ c.loop-i.invariant.firm c.edit.ensures.firm

pub returns-in_err-edit-clause-count : goal.returns-in_err-edit-clause-count
returns-in_err-edit-clause-count g c = c.edit.ensures.count ∙ c.loop-i.invariant.count

pub returns-in_err-edit-clause-drops : goal.returns-in_err-edit-clause-drops
returns-in_err-edit-clause-drops g c = drops_trans _ _ _ c.loop-i.invariant.drops c.edit.ensures.drops

pub returns-in_err-edit-clause-goes : goal.returns-in_err-edit-clause-goes
returns-in_err-edit-clause-goes g c = goes_trans _ _ _ _ _ _ c.loop-i.invariant.goes c.edit.ensures.goes

pub returns-in_err-edit-clause-ends : goal.returns-in_err-edit-clause-ends
returns-in_err-edit-clause-ends g c =
    let p = err_from_is_err_and c.from_residual.result c.from_residual.ensures.1 in
    halts_failed _ _ _ _ p.0 c.from_residual.result p.1 c.loop-i.invariant.ran c.in_err-edit.ensures.ends

pub loop-i-preserved : goal.loop-i-preserved
loop-i-preserved g c =
    let i = c.loop-i.invariant in
    let call = c.edit.ensures in
    let now = c.in_ok-edit.ensures in
    record {
      words = now.ok ∙ ap (λ (k : BlockWords). put k c.args.b.0 (c.args.w + c.loop-i.i) (slice_index c.args.from.now c.loop-i.i)) i.words ∙ put_next _ _ _ _ _ c.args.from.now refl;
      update = update_trans _ _ _ i.update now.update;
      in_update = call.in_update;
      standing = call.standing ∙ i.standing;
      firm = firm_trans _ _ _ i.firm call.firm;
      count = call.count ∙ i.count;
      drops = drops_trans _ _ _ i.drops call.drops;
      goes = goes_trans _ _ _ _ _ _ i.goes call.goes;
      ran = ran_more _ _ _ i.ran call.ends.later now.ends.cause;
      sound = call.sound;
    }

pub returns-clause-ends : goal.returns-clause-ends
returns-clause-ends g c =
    let ran = c.loop-i.invariant.ran in
    record { later = ran.later; stays = λ e. ran.same ∙ e; cause = ran.same }
