use Rattle.rio_core.proofs.Common.{Result, Err, sym, subst, ap, ◌∙◌, IsFault, says_done, TxnFail}
use Rattle.rio_core.specs.CallEnds.{TellsAs, told}
use Rattle.rio_core.proofs.replies.txn_reply.Goals as goal

pub returns-in-Err-clause-tells : goal.returns-in-Err-clause-tells
returns-in-Err-clause-tells c = subst (λ (a : Result (Unit {0}) TxnFail). TellsAs (told says_done a) c.txn_fail_reply.result) (sym c.in-Err.is) c.txn_fail_reply.ensures.tells

pub returns-in-Err-clause-fault : goal.returns-in-Err-clause-fault
returns-in-Err-clause-fault c p = let at = c.txn_fail_reply.ensures.fault p in subst (λ (a : Result (Unit {0}) TxnFail). IsFault a) (sym (c.in-Err.is ∙ ap (λ e. Err e) at.1)) tt
