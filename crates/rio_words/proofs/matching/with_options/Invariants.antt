use Rattle.std.proofs.Common.{◌≡◌, drop, map}
use Rattle.clap.specs.Walk.{texts}
use Rattle.clap.specs.Simple.{app_of}
use Rattle.rio_words.specs.Plans.{option_given, with_rules}
use Rattle.rio_words.proofs.matching.with_options.Given as goal

-- with the options that are left the command is the one that is asked for
abbrev pub invariant-loop-name : goal.invariant-loop-name
invariant-loop-name l = with_rules (app_of l.command) (map option_given (texts (drop l.name-index l.names))) ≡ with_rules (app_of l.initial.command) (map option_given (texts l.names))
