use Rattle.map_laws.proofs.Times.{times-settled, times-skew, times-split}
use Rattle.map_laws.proofs.Turned.{pairs-settled, pairs-skew, pairs-split}
use Rattle.map_laws.proofs.turning.turns.Goals as goal

pub returns-clause-skew_pairs : goal.returns-clause-skew_pairs
returns-clause-skew_pairs c = pairs-skew

pub returns-clause-split_pairs : goal.returns-clause-split_pairs
returns-clause-split_pairs c = pairs-split

pub returns-clause-settled_pairs : goal.returns-clause-settled_pairs
returns-clause-settled_pairs c = pairs-settled

pub returns-clause-skew_places : goal.returns-clause-skew_places
returns-clause-skew_places c = times-skew

pub returns-clause-split_places : goal.returns-clause-split_places
returns-clause-split_places c = times-split

pub returns-clause-settled_places : goal.returns-clause-settled_places
returns-clause-settled_places c = times-settled
