use Rattle.std.proofs.Common.{arith}
use Rattle.rio_words.proofs.drill_words.numbers_of.Goals as goal

pub returns-in_err-seed : goal.returns-in_err-seed
returns-in_err-seed c = rw c.from_residual.ensures (λ seed boots requests has. c.in_err-seed.ensures seed has.seed_is (omega arith) has.most_seed)

pub returns-in_err-boots : goal.returns-in_err-boots
returns-in_err-boots c = rw c.from_residual-in_err-boots.ensures (λ seed boots requests has. c.in_err-boots.ensures boots has.boots_are has.some_boots has.few_boots)

pub returns-in_err-requests : goal.returns-in_err-requests
returns-in_err-requests c = rw c.from_residual-in_err-requests.ensures (λ seed boots requests has. c.in_err-requests.ensures requests has.requests_are has.some_requests has.few_requests)
