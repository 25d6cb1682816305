use Rattle.map_laws.proofs.RuleLevels.{levels_by_rules, rules_by_levels}
use Rattle.map_laws.proofs.bounds.rules.Goals as goal

pub returns : goal.returns
returns c = λ t. (levels_by_rules t, rules_by_levels t)
