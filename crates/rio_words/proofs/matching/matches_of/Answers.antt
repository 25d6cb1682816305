use Rattle.clap.specs.Simple.{app_of}
use Rattle.clap.specs.Walk.{texts}
use Rattle.rio_words.specs.Words.{texts_of}
use Rattle.rio_words.proofs.ClapCommands.{sorts_of, usage_of}
use Rattle.rio_words.proofs.matching.matches_of.Goals as goal

pub returns-in-Ok : goal.returns-in-Ok
returns-in-Ok c =
    sorts_of (texts c.args.options.now) (texts c.args.files.now) c.requires (app_of c.in_ok-command.command) (texts_of c.args.words.now) c.in_ok-command.ensures
    c.in-Ok.matches c.in-Ok.ensures.matches c.in-Ok.ensures.kinds

pub returns-in-Err : goal.returns-in-Err
returns-in-Err c =
    usage_of (texts c.args.options.now) (texts c.args.files.now) c.requires (app_of c.in_ok-command.command) (texts_of c.args.words.now) c.in_ok-command.ensures
    c.in-Err.error c.from.result c.in-Err.ensures.kinds c.from.ensures
