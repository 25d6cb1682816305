use Rattle.map_laws.proofs.Heights.{highest-levels, highest-skew, highest-skewed_lowered, highest-split}
use Rattle.map_laws.proofs.turning.levels_stay_low.Goals as goal

pub returns-clause-root : goal.returns-clause-root
returns-clause-root c = highest-levels

pub returns-clause-skew : goal.returns-clause-skew
returns-clause-skew c = highest-skew

pub returns-clause-split : goal.returns-clause-split
returns-clause-split c = highest-split

pub returns-clause-settling : goal.returns-clause-settling
returns-clause-settling c = highest-skewed_lowered
