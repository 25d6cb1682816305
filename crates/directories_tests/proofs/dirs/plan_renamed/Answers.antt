use Rattle.directories.proofs.Common.{◌*◌, ◌<◌, sym, subst, BlockWords, held_of}
use Rattle.directories_tests.proofs.dirs.plan_renamed.Goals as goal

pub plan_other-requires-clause-slot : goal.plan_other-requires-clause-slot
plan_other-requires-clause-slot c = subst (λ (f : BlockWords). 64 * c.in_ok-slot.slot < (held_of c.args.shape.now f c.args.dir.0).size) (sym c.find_row.ensures.words) c.in_ok-slot.ensures.value
