use Rattle.rio_base.specs.Blocks.{BlockWords}
use Rattle.test_objects.specs.ListVolumes.{list_seen}
use Rattle.std.proofs.Common.{sym, subst}
use Rattle.test_objects.specs.TestVolumes.{HasNodes}
use Rattle.test_objects.proofs.FreshVolumes.{fresh_ready}
use Rattle.test_objects.proofs.MadeNodes.{fresh_nodes}
use Rattle.test_objects.proofs.starting.fresh.Goals as goal

pub returns-clause-fresh : goal.returns-clause-fresh
returns-clause-fresh c = fresh_ready c.args.shape.now c.args.stop_after c.in_ok-v.v c.format.new.v c.requires c.in_ok-v.ensures c.format.ensures.firm c.format.ensures.shape c.format.ensures.idle c.in_ok-format.ensures.words

pub returns-clause-nodes : goal.returns-clause-nodes
returns-clause-nodes c = subst (λ (f : BlockWords). HasNodes c.args.shape.now f 1 1) (sym c.in_ok-format.ensures.words) (fresh_nodes c.args.shape.now (list_seen c.in_ok-v.v).words 1 c.requires c.format.ensures.shape.sizes c.in_ok-v.ensures.words)
