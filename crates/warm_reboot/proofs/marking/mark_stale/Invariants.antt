use Rattle.warm_reboot.proofs.Marks.{Marked}
use Rattle.warm_reboot.proofs.marking.mark_stale.Given as goal

abbrev pub invariant-loop-k : goal.invariant-loop-k
invariant-loop-k g l = Marked l.owners (g.M.Machine.contents l.m).words l.k l.marks.items
