use Rattle.plain_requests.proofs.Common.{◌≡◌, drop}
use Rattle.rio_requests.specs.Transactions.{txn_at}
use Rattle.plain_requests.proofs.answering.regions.txn_at.Given as goal

-- the transactions left tell
abbrev pub invariant-loop-txn : goal.invariant-loop-txn
invariant-loop-txn l = txn_at l.txns l.ino.0 ≡ txn_at (drop l.txn-index l.txns) l.ino.0
