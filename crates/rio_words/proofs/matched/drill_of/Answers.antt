use Rattle.rio_words.specs.Clap.{found_in}
use Rattle.rio_words.proofs.FoundCommands.{none_drill}
use Rattle.rio_words.proofs.matched.drill_of.Goals as goal

pub returns-in_default : goal.returns-in_default
returns-in_default c = none_drill (found_in c.args.matches.now) c.in_default.ensures
