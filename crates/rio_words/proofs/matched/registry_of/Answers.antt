use Rattle.std.proofs.Common.{codes}
use Rattle.rio_words.specs.Clap.{found_in}
use Rattle.rio_words.specs.Matched.{IsRegistry}
use Rattle.rio_words.proofs.FoundCommands.{no_memory, none_registry}
use Rattle.rio_words.proofs.Readings.{file_moved}
use Rattle.rio_words.proofs.matched.registry_of.Goals as goal

pub returns-in_default : goal.returns-in_default
returns-in_default c = none_registry (found_in c.args.matches.now) c.in_default.ensures

pub returns-in_err-image : goal.returns-in_err-image
returns-in_err-image c = no_memory (IsRegistry (found_in c.args.matches.now)) c.from_residual.result c.from_residual.ensures.1

pub returns : goal.returns
returns c = file_moved (found_in c.args.matches.now) (codes "image") c.in-Some.image.now c.in_ok-image.image c.in_ok-image.ensures c.in-Some.ensures
