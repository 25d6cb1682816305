use Rattle.std.proofs.Common.{[]}
use Rattle.rio_words.specs.Clap.{found_in}
use Rattle.rio_words.specs.Words.{texts_of}
use Rattle.rio_words.proofs.FoundCommands.{check_handed}
use Rattle.rio_words.proofs.Readings.{not_check, pair_ids, passed}
use Rattle.rio_words.proofs.reading.read_check.Goals as goal

pub returns-in_err-matches : goal.returns-in_err-matches
returns-in_err-matches c =
    passed [] pair_ids (texts_of c.args.words.now) c.from_residual.result c.in_err-matches.field-0.0 c.from_residual.ensures.1 c.in_err-matches.ensures (not_check (texts_of c.args.words.now) c.requires)

pub returns : goal.returns
returns c = check_handed (texts_of c.args.words.now) (found_in c.in_ok-matches.matches) c.requires c.in_ok-matches.ensures c.check_of.result c.check_of.ensures
