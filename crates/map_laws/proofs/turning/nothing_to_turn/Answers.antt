use Rattle.map_laws.proofs.Turned.{settled_ok, skew_ok, split_ok}
use Rattle.map_laws.proofs.turning.nothing_to_turn.Goals as goal

pub returns-clause-skew : goal.returns-clause-skew
returns-clause-skew c = skew_ok

pub returns-clause-split : goal.returns-clause-split
returns-clause-split c = split_ok

pub returns-clause-settled : goal.returns-clause-settled
returns-clause-settled c = settled_ok
