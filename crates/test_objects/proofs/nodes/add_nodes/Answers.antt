use Rattle.std.proofs.Common.{◌≡◌, ◌+◌, ◌-◌, subst, arith}
use Rattle.rio_base.specs.Rules.{firm_trans}
use Rattle.test_objects.specs.TestVolumes.{HasNodes}
use Rattle.test_objects.proofs.MadeNodes.{node_made}
use Rattle.test_objects.proofs.nodes.add_nodes.Goals as goal

pub loop-i-preserved : goal.loop-i-preserved
loop-i-preserved g c =
    let inv = c.loop-i.invariant in
    let from = inv.from in
    let i = c.loop-i.i in
    let n = c.empty_node-inode.result in
    let below = c.loop-i-test.true in
    let most = c.requires.to in
    let next : i ≡ i + 1 - 1 = omega arith in
    let nodes = node_made c.args.shape.now (g.V.Blocks.seen c.loop-i.v).words (g.V.Blocks.seen c.add_node.new.v).words i c.args.kind n c.requires.sizes inv.nodes from (omega (arith, below, most)) c.requires.kind c.empty_node-inode.ensures.kind c.empty_node-inode.ensures.size c.in_ok-add_node.ensures.words in
    record {
      from = omega (arith, from);
      to = omega (arith, below);
      nodes = subst (HasNodes c.args.shape.now (g.V.Blocks.seen c.add_node.new.v).words c.args.kind) next nodes;
      firm = firm_trans _ _ _ inv.firm c.add_node.ensures.firm;
      shape = c.add_node.ensures.shape;
      idle = c.in_ok-add_node.ensures.idle;
      sound = c.add_node.ensures.sound;
    }

pub returns-clause-nodes : goal.returns-clause-nodes
returns-clause-nodes g c =
    let past = c.loop-i-test.false in
    let to = c.loop-i.invariant.to in
    let end : c.loop-i.i - 1 ≡ c.args.last = omega (arith, past, to) in
    subst (HasNodes c.args.shape.now (g.V.Blocks.seen c.loop-i.v).words c.args.kind) end c.loop-i.invariant.nodes

pub returns-in_err-add_node-clause-firm : goal.returns-in_err-add_node-clause-firm
returns-in_err-add_node-clause-firm g c = firm_trans _ _ _ c.loop-i.invariant.firm c.add_node.ensures.firm
