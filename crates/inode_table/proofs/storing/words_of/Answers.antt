use Rattle.std.proofs.Common.{arith, ◌≡◌, subst}
use Rattle.inode_table.proofs.Numbers.{FrontOf, all_words, front_next}
use Rattle.inode_table.proofs.storing.words_of.Goals as goal

pub loop-k-preserved : goal.loop-k-preserved
loop-k-preserved c = front_next c.args.inode.now c.loop-k.words c.loop-k.k _ (omega arith) c.pair_of.ensures c.loop-k.invariant

pub returns : goal.returns
returns c = all_words c.args.inode.now c.loop-k.words (let all : c.loop-k.k ≡ 12 = omega arith in subst (FrontOf c.args.inode.now c.loop-k.words) all c.loop-k.invariant)
