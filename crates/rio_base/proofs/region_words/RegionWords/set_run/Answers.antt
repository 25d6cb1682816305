use Rattle.std.proofs.Common.{◌+◌, slice_index, Err, refl, ◌∙◌, sym, ap, arith}
use Rattle.rio_base.specs.Rules.{goes_refl}
use Rattle.rio_base.proofs.BlockRuns.{ends_failed, ran_more, ran_none}
use Rattle.rio_base.proofs.RegionRules.{stays_trans}
use Rattle.rio_base.specs.Regions.{RegionContent, put_word}
use Rattle.rio_base.proofs.RegionRuns.{put_none, set_front, set_next}
use Rattle.rio_base.proofs.region_words.RegionWords.set_run.Goals as goal

pub loop-i-init : goal.loop-i-init
loop-i-init g c = record {
  words = put_none _ _ _;
  stays = record { rest = g.met.Self.RegionWords.rest_refl _; ready = c.requires.ready; count = refl; goes = goes_refl _ _ };
  ran = ran_none _;
}

pub overflow_cast-i : goal.overflow_cast-i
overflow_cast-i g c = omega (arith, c.requires.place, c.loop-i-test.true, g.met.Self.RegionWords.small _ c.requires.ready)

pub overflow_add-at : goal.overflow_add-at
overflow_add-at g c = omega (arith, c.requires.place, c.loop-i-test.true, g.met.Self.RegionWords.small _ c.requires.ready)

pub overflow_cast-result : goal.overflow_cast-result
overflow_cast-result g c = omega (arith, c.requires.place, c.loop-i-test.true, g.met.Self.RegionWords.small _ c.requires.ready)

pub set-requires-clause-place : goal.set-requires-clause-place
set-requires-clause-place g c = omega (arith, c.requires.place, c.loop-i-test.true, c.loop-i.invariant.stays.count)

pub returns-in-Err-Fault-clause-fault : goal.returns-in-Err-Fault-clause-fault
returns-in-Err-Fault-clause-fault g c = (c.loop-i-test.true, c.in-Err-Fault.ensures.fault (ap Err c.in-Err-Fault.field-0-is) ∙ c.loop-i.invariant.words)

pub returns-in-Err-Fault-clause-front : goal.returns-in-Err-Fault-clause-front
returns-in-Err-Fault-clause-front g c = set_front _ _ _ _ _ _ _ c.loop-i-test.true c.loop-i.invariant.words c.set.ensures.either

pub returns-in-Err-Fault-clause-stays : goal.returns-in-Err-Fault-clause-stays
returns-in-Err-Fault-clause-stays g c = stays_trans g.met.Self.RegionWords.rest_trans c.loop-i.invariant.stays c.set.ensures.stays

pub returns-in-Err-Fault-clause-ends : goal.returns-in-Err-Fault-clause-ends
returns-in-Err-Fault-clause-ends g c = ends_failed _ _ _ _ _ _ refl (sym c.in-Err-Fault.field-0-is) c.loop-i.invariant.ran c.in-Err-Fault.ensures.ends

pub returns-in-Err-Stopped-clause-stays : goal.returns-in-Err-Stopped-clause-stays
returns-in-Err-Stopped-clause-stays g c = stays_trans g.met.Self.RegionWords.rest_trans c.loop-i.invariant.stays c.set.ensures.stays

pub returns-in-Err-Stopped-clause-ends : goal.returns-in-Err-Stopped-clause-ends
returns-in-Err-Stopped-clause-ends g c = ends_failed _ _ _ _ _ _ refl (sym c.in-Err-Stopped.field-0-is) c.loop-i.invariant.ran c.in-Err-Stopped.ensures.ends

pub returns-in-Err-Stopped-clause-front : goal.returns-in-Err-Stopped-clause-front
returns-in-Err-Stopped-clause-front g c = set_front _ _ _ _ _ _ _ c.loop-i-test.true c.loop-i.invariant.words c.set.ensures.either

pub loop-i-preserved : goal.loop-i-preserved
loop-i-preserved g c =
    let i = c.loop-i.invariant in
    let s = c.in-Ok.ensures in
    record {
      words = s.ok ∙ ap (λ (k : RegionContent). put_word k (c.args.at + c.loop-i.i) (slice_index c.args.from.now c.loop-i.i)) i.words ∙ set_next _ _ _ _ c.args.from.now refl;
      stays = stays_trans g.met.Self.RegionWords.rest_trans i.stays s.stays;
      ran = ran_more _ _ _ i.ran s.ends.later s.ends.cause;
    }

pub returns-clause-ends : goal.returns-clause-ends
returns-clause-ends g c =
    let ran = c.loop-i.invariant.ran in
    record { later = ran.later; stays = λ e. ran.same ∙ e; cause = ran.same }
