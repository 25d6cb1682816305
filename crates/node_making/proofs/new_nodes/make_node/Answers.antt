use Rattle.request_ends.proofs.Common.{sym, subst, Some, ReadsAs, State, NoneDone}
use Rattle.rio_requests.specs.Answers.{make_new as make_new_of}
use Rattle.request_ends.specs.Ends.{FileEnds, SaysNumber}
use Rattle.node_making.specs.NewNodes.{FitsNode, node_made}
use Rattle.file_tree.proofs.FreeFound.{free_held}
use Rattle.node_making.proofs.new_nodes.make_node.Goals as goal

pub make_row-requires-clause-free : goal.make_row-requires-clause-free
make_row-requires-clause-free g c = free_held c.args.shape.now (g.V.Blocks.seen c.args.v.now).words c.args.i.0 c.requires.ino c.requires.free

pub make_row-requires-clause-kind : goal.make_row-requires-clause-kind
make_row-requires-clause-kind g c = subst FitsNode c.in-Bare.is c.requires.node

pub make_region_row-requires-clause-sizes : goal.make_region_row-requires-clause-sizes
make_region_row-requires-clause-sizes g c = subst FitsNode c.in-Sized.is c.requires.node

pub returns-in-Bare-clause-leaves : goal.returns-in-Bare-clause-leaves
returns-in-Bare-clause-leaves g c =
    let x = g.V.Blocks.seen c.args.v.now in
    let k = g.V.Volume.kept c.args.v.now in
    let y = g.V.Blocks.seen c.make_row.new.v in
    let j = g.V.Volume.kept c.make_row.new.v in
    subst (λ n. (s : State) → ReadsAs c.args.shape.now x.words s → FileEnds (SaysNumber c.args.i.0) c.args.shape.now x k y j s (make_new_of s c.args.dir.0 c.args.name.now (node_made n) (Some c.args.i.0)) (NoneDone s) c.make_row.result) (sym c.in-Bare.is) c.make_row.ensures.leaves

pub returns-in-Sized-clause-leaves : goal.returns-in-Sized-clause-leaves
returns-in-Sized-clause-leaves g c =
    let x = g.V.Blocks.seen c.args.v.now in
    let k = g.V.Volume.kept c.args.v.now in
    let y = g.V.Blocks.seen c.make_region_row.new.v in
    let j = g.V.Volume.kept c.make_region_row.new.v in
    subst (λ n. (s : State) → ReadsAs c.args.shape.now x.words s → FileEnds (SaysNumber c.args.i.0) c.args.shape.now x k y j s (make_new_of s c.args.dir.0 c.args.name.now (node_made n) (Some c.args.i.0)) (NoneDone s) c.make_region_row.result) (sym c.in-Sized.is) c.make_region_row.ensures.leaves
