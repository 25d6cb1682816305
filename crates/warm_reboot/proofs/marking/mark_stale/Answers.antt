use Rattle.std.proofs.Common.{◌<◌, arith, subst}
use Rattle.warm_reboot.proofs.Marks.{marks_all, marks_next}
use Rattle.warm_reboot.proofs.marking.mark_stale.Goals as goal

pub loop-k-preserved : goal.loop-k-preserved
loop-k-preserved g c = marks_next c.args.owners.now (g.M.Machine.contents c.args.m.now).words c.loop-k.k c.loop-k.marks.items c.is_stale.result (subst (λ f. c.loop-k.k < f) c.frame_count-frames.ensures c.loop-k-test.true) c.loop-k.invariant c.is_stale.ensures

pub returns : goal.returns
returns g c = marks_all c.args.owners.now (g.M.Machine.contents c.args.m.now).words c.loop-k.k c.loop-k.marks.items (omega (arith, c.loop-k.auto.k-end, c.loop-k-test.false, c.frame_count-frames.ensures)) c.loop-k.invariant

pub is_stale-requires-clause-entry : goal.is_stale-requires-clause-entry
is_stale-requires-clause-entry g c = subst (λ f. c.loop-k.k < f) c.frame_count-frames.ensures c.loop-k-test.true

pub is_stale-requires-clause-within : goal.is_stale-requires-clause-within
is_stale-requires-clause-within g c = c.requires.within c.loop-k.k
