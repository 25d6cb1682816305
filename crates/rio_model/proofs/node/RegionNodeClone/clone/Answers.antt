use Rattle.std.specs.List.{each_same}
use Rattle.rio_model.proofs.Copies.{pairs_same, region_same}
use Rattle.rio_model.proofs.node.RegionNodeClone.clone.Goals as goal

pub returns : goal.returns
returns c = record {
  cases = region_same c.args.self.now _ _ (each_same _ _ c.in_ok-words.ensures.cases) (pairs_same _ _ c.in_ok-blocks.ensures.cases);
}
