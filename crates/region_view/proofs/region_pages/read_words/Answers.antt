use Rattle.rio_base.proofs.Frames.{vol_ends}
use Rattle.rio_base.proofs.RegionRuns.{words_none}
use Rattle.region_view.proofs.Common.{◌≡◌, ◌≤◌, ◌∙◌, arith, err_from_is_err_and, le_refl, le_trans, refl, subst, sym, held_of, IsInode}
use Rattle.node_pages.proofs.EndsOn.{ends_vol, ends_vol_ok, if_err}
use Rattle.rio_base.specs.Regions.{AreWords}
use Rattle.rio_base.proofs.BlockRules.{ends_later}
use Rattle.region_view.proofs.WordsRead.{place_on, words_as}
use Rattle.region_view.proofs.region_pages.read_words.Goals as goal

pub loop-done-init : goal.loop-done-init
loop-done-init g c = record {
  within = omega arith;
  value = words_none _ c.args.at c.args.into.now;
  len = refl;
  words = refl;
  can = c.requires.can;
  passes = g.met.V.Blocks.passes_refl _;
  later = le_refl _;
  running = refl;
  sound = c.requires.sound;
}

pub loop-done-preserved : goal.loop-done-preserved
loop-done-preserved g c =
    let inv = c.loop-done.invariant in
    let call = c.in_ok-done.ensures in
    record {
      within = subst (λ n. c.in_ok-done.done ≤ n) (sym call.len) call.more.1;
      value = words_as c.args.shape.now _ _ c.args.i.0 c.args.at _ _ inv.words call.more.2;
      len = call.len ∙ inv.len;
      words = call.read.looks.words ∙ inv.words;
      can = call.read.looks.can;
      passes = g.met.V.Blocks.passes_trans _ _ _ inv.passes call.read.passed;
      later = le_trans inv.later (vol_ends _ _ _ call.read.ends).later;
      running = (vol_ends _ _ _ call.read.ends).cause ∙ inv.running;
      sound = call.read.keeps;
    }

pub read_more-requires-clause-can : goal.read_more-requires-clause-can
read_more-requires-clause-can g c = record { keeps = c.loop-done.invariant.sound; meets = c.loop-done.invariant.can }

pub read_more-requires-clause-region : goal.read_more-requires-clause-region
read_more-requires-clause-region g c = subst (λ f. (held_of c.args.shape.now f c.args.i.0).kind ≡ 3) (sym c.loop-done.invariant.words) c.requires.region

pub read_more-requires-clause-inode : goal.read_more-requires-clause-inode
read_more-requires-clause-inode g c = subst (λ f. IsInode f c.args.i.0 c.args.inode.now) (sym c.loop-done.invariant.words) c.requires.inode

pub read_more-requires-clause-some : goal.read_more-requires-clause-some
read_more-requires-clause-some g c = c.loop-done-test.true

pub read_more-requires-clause-few : goal.read_more-requires-clause-few
read_more-requires-clause-few g c = omega (arith, c.loop-done.invariant.len, c.requires.few)

pub read_more-requires-clause-place : goal.read_more-requires-clause-place
read_more-requires-clause-place g c = place_on c.args.shape.now _ _ c.args.i.0 c.args.at _ _ c.loop-done.invariant.words c.loop-done.invariant.len c.requires.place

pub read_more-requires-clause-value : goal.read_more-requires-clause-value
read_more-requires-clause-value g c = words_as c.args.shape.now _ _ c.args.i.0 c.args.at _ _ (sym c.loop-done.invariant.words) c.loop-done.invariant.value

pub returns-in_err-done-clause-value : goal.returns-in_err-done-clause-value
returns-in_err-done-clause-value g c = if_err c.from_residual.result _ c.from_residual.ensures.0

pub returns-in_err-done-clause-len : goal.returns-in_err-done-clause-len
returns-in_err-done-clause-len g c = c.read_more.ensures.len ∙ c.loop-done.invariant.len

pub returns-in_err-done-clause-words : goal.returns-in_err-done-clause-words
returns-in_err-done-clause-words g c = c.read_more.ensures.read.looks.words ∙ c.loop-done.invariant.words

pub returns-in_err-done-clause-passes : goal.returns-in_err-done-clause-passes
returns-in_err-done-clause-passes g c = g.met.V.Blocks.passes_trans _ _ _ c.loop-done.invariant.passes c.read_more.ensures.read.passed

pub returns-in_err-done-clause-ends : goal.returns-in_err-done-clause-ends
returns-in_err-done-clause-ends g c =
    let p = err_from_is_err_and c.from_residual.result c.from_residual.ensures.1 in
    ends_later _ _ _ c.from_residual.result c.loop-done.invariant.later c.loop-done.invariant.running (ends_vol _ _ c.read_more.result c.from_residual.result _ p.0 c.in_err-done.was p.1 p.2 (vol_ends _ _ _ c.read_more.ensures.read.ends))

pub returns-clause-value : goal.returns-clause-value
returns-clause-value g c =
    let inv = c.loop-done.invariant in
    subst (λ n. AreWords (held_of c.args.shape.now (g.V.Blocks.seen c.args.v.now).words c.args.i.0).word c.args.at n c.loop-done.into) (omega (arith, c.loop-done-test.false, inv.within, inv.len)) inv.value

pub returns-clause-ends : goal.returns-clause-ends
returns-clause-ends g c = ends_vol_ok _ _ _ c.loop-done.invariant.later c.loop-done.invariant.running
