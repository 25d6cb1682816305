use Rattle.std.specs.List.{each_same}
use Rattle.rio_model.proofs.Copies.{pairs_same, txn_same}
use Rattle.rio_model.proofs.txn.TxnClone.clone.Goals as goal

pub returns : goal.returns
returns c = record {
  cases = txn_same c.args.self.now _ _ _ (each_same _ _ c.in_ok-before.ensures.cases) (pairs_same _ _ c.in_ok-before_blocks.ensures.cases) (pairs_same _ _ c.in_ok-ranges.ensures.cases);
}
