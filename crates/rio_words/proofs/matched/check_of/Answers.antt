use Rattle.rio_words.specs.Clap.{found_in}
use Rattle.rio_words.specs.Matched.{IsCheck}
use Rattle.rio_words.proofs.FoundCommands.{no_memory, none_check}
use Rattle.rio_words.proofs.Readings.{files_moved}
use Rattle.rio_words.proofs.matched.check_of.Goals as goal

pub returns-in_default : goal.returns-in_default
returns-in_default c = none_check (found_in c.args.matches.now) c.in_default.ensures

pub returns-in_err-names : goal.returns-in_err-names
returns-in_err-names c = no_memory (IsCheck (found_in c.args.matches.now)) c.from_residual.result c.from_residual.ensures.1

pub returns : goal.returns
returns c = files_moved (found_in c.args.matches.now) _ _ _ _ c.in_ok-names.ensures.0 c.in_ok-names.ensures.1 c.in-Some.ensures
