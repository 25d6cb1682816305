use Rattle.plain_requests.proofs.Common.{◌≡◌, ◌++◌, take, drop}
use Rattle.rio_requests.specs.Transactions.{set_txn}
use Rattle.plain_requests.proofs.answering.regions.set_txn.Given as goal

-- none of those passed is of the region
abbrev pub invariant-loop-at : goal.invariant-loop-at
invariant-loop-at l = record {
  same : l.rows.items ≡ l.fn.txns;
  behind : set_txn l.rows.items l.ino.0 l.txn ≡ take l.at l.rows.items ++ set_txn (drop l.at l.rows.items) l.ino.0 l.txn;
}
