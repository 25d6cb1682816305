use Rattle.rio_words.specs.Clap.{found_in}
use Rattle.rio_words.specs.Matched.{IsFormat}
use Rattle.rio_words.proofs.FoundCommands.{no_memory, none_format}
use Rattle.rio_words.proofs.Readings.{files_moved}
use Rattle.rio_words.proofs.matched.format_of.Goals as goal

pub returns-in_default : goal.returns-in_default
returns-in_default c = none_format (found_in c.args.matches.now) (λ image disk frames blocks inodes scratch is. c.in_default.ensures image disk is.0)

pub returns-in_default-sizes_of : goal.returns-in_default-sizes_of
returns-in_default-sizes_of c = none_format (found_in c.args.matches.now) (λ image disk frames blocks inodes scratch is. c.in_default-sizes_of.ensures frames blocks inodes scratch is.1)

pub returns-in_err-names : goal.returns-in_err-names
returns-in_err-names c = no_memory (IsFormat (found_in c.args.matches.now)) c.from_residual.result c.from_residual.ensures.1

pub returns : goal.returns
returns c = (files_moved (found_in c.args.matches.now) _ _ _ _ c.in_ok-names.ensures.0 c.in_ok-names.ensures.1 c.in-Some.ensures, c.in-Some-sizes_of.ensures)
