use Rattle.std.proofs.Common.{arith}
use Rattle.rio_model.proofs.UndoRules.{gains_covers}
use Rattle.region_tests.proofs.undo_calls.change.Goals as goal

pub put_word-requires-clause-covered : goal.put_word-requires-clause-covered
put_word-requires-clause-covered g c = λ q low high. gains_covers (g.R.RegionWords.count c.args.r.now) (g.R.RegionWords.words c.args.r.now) (g.R.RegionWords.words c.set_range.new.r) c.args.place c.args.count c.in_ok-set_range.ensures.ok q low (omega (arith, high, c.requires.some))
