use Rattle.std.specs.List.{each_same}
use Rattle.rio_model.proofs.Copies.{state_same}
use Rattle.rio_model.proofs.state.StateClone.clone.Goals as goal

pub returns : goal.returns
returns c = record {
  cases = state_same c.args.self.now _ _ _ c.in_ok-names.ensures.cases c.in_ok-nodes.ensures.cases (each_same _ _ c.in_ok-txns.ensures.cases);
}
