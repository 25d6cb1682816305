use Rattle.std.proofs.Common.{[]}
use Rattle.rio_words.specs.Clap.{found_in}
use Rattle.rio_words.specs.Words.{drill_keys, texts_of}
use Rattle.rio_words.proofs.FoundCommands.{drill_handed}
use Rattle.rio_words.proofs.Readings.{not_drill, passed}
use Rattle.rio_words.proofs.reading.read_drill.Goals as goal

pub returns-in_err-matches : goal.returns-in_err-matches
returns-in_err-matches c =
    passed drill_keys [] (texts_of c.args.words.now) c.from_residual.result c.in_err-matches.field-0.0 c.from_residual.ensures.1 c.in_err-matches.ensures (not_drill (texts_of c.args.words.now) c.requires)

pub returns : goal.returns
returns c = drill_handed (texts_of c.args.words.now) (found_in c.in_ok-matches.matches) c.requires c.in_ok-matches.ensures c.drill_of.result c.drill_of.ensures
