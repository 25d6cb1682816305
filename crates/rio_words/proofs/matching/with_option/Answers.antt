use Rattle.rio_words.specs.Plans.{option_given}
use Rattle.rio_words.proofs.ClapCommands.{arg_added}
use Rattle.rio_words.proofs.matching.with_option.Goals as goal

pub returns : goal.returns
returns c = arg_added c.args.command c.option_of.result c.arg.result (option_given c.args.name.now) c.option_of.ensures.rule c.option_of.ensures.local c.arg.ensures
