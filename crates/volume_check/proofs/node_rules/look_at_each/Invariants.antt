use Rattle.volume_check.specs.NodeRules.{NodeKeeps}
use Rattle.volume_check.proofs.LookOn.{KeepTo}
use Rattle.volume_check.proofs.Looking.{LooksOn}
use Rattle.volume_check.proofs.node_rules.look_at_each.Given as goal

-- the inodes so far keep the rule
abbrev pub invariant-loop-k : goal.invariant-loop-k
invariant-loop-k g l =
    let V = g.V.Blocks in
    record {
      looked : LooksOn V.seen V.health V.sound V.passes l.fn.v l.v;
      keeps : KeepTo l.inodes.shape (NodeKeeps l.fn.rule l.inodes.shape (V.seen l.fn.v).words) l.k;
    }
