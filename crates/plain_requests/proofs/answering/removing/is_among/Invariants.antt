use Rattle.plain_requests.proofs.Common.{◌≡◌, drop, map, Txn}
use Rattle.rio_requests.specs.Answers.{is_among}
use Rattle.plain_requests.proofs.answering.removing.is_among.Given as goal

-- the transactions left tell
abbrev pub invariant-loop-txn : goal.invariant-loop-txn
invariant-loop-txn l = is_among (map (λ (t : Txn). t.ino.0) l.txns) l.ino.0 ≡ is_among (map (λ (t : Txn). t.ino.0) (drop l.txn-index l.txns)) l.ino.0
