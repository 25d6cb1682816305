use Rattle.test_objects.specs.ListVolumes.{list_seen}
use Rattle.test_objects.proofs.MadeNodes.{nodes_ready, root_alone}
use Rattle.test_objects.proofs.nodes.with_nodes.Goals as goal

pub add_nodes-requires-clause-root : goal.add_nodes-requires-clause-root
add_nodes-requires-clause-root c = root_alone c.args.shape.now (list_seen c.in_ok-v.v).words 1 c.args.kind c.in_ok-v.ensures.nodes

pub returns-clause-ready : goal.returns-clause-ready
returns-clause-ready c = nodes_ready c.args.shape.now c.in_ok-v.v c.add_nodes.new.v c.args.kind c.args.last c.in_ok-v.ensures.fresh.ready c.add_nodes.ensures.firm c.in_ok-v.ensures.fresh.loose c.add_nodes.ensures.shape c.in_ok-add_nodes.ensures.idle c.in_ok-add_nodes.ensures.nodes
