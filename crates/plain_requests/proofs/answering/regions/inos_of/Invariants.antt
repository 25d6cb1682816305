use Rattle.plain_requests.proofs.Common.{◌≡◌, map, take, Txn}
use Rattle.plain_requests.proofs.answering.regions.inos_of.Given as goal

-- those passed are listed
abbrev pub invariant-loop-txn : goal.invariant-loop-txn
invariant-loop-txn l = l.inos.items ≡ map (λ (t : Txn). t.ino) (take l.txn-index l.txns)
