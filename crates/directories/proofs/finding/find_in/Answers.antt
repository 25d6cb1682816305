use Rattle.directories.proofs.Common.{arith, slice_index}
use Rattle.directories.proofs.Found.{none_behind}
use Rattle.directories.proofs.finding.find_in.Goals as goal

pub returns-then-k-count : goal.returns-then-k-count
returns-then-k-count c = λ j low. none_behind (slice_index c.args.words.now) c.args.name.now c.loop-from.from c.past_fours-k.result c.loop-from.invariant.none c.past_fours-k.ensures.none j (omega (arith, low, c.if-k-count.true))
