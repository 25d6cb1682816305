use Rattle.directories.proofs.Common.{◌*◌, ◌<◌, sym, subst, BlockWords, held_of}
use Rattle.directories_tests.proofs.dirs.plan_replaced.Goals as goal

pub plan_both-requires-clause-slot : goal.plan_both-requires-clause-slot
plan_both-requires-clause-slot c = subst (λ (f : BlockWords). 64 * c.in_ok-slot.slot < (held_of c.args.shape.now f c.args.dir.0).size) (sym c.slot_of-2.ensures.words) c.in_ok-slot.ensures.value
