use Rattle.part_tests.proofs.Fronts.{run_written}
use Rattle.part_tests.proofs.past_file.PastFileWordFile.write_words.Goals as goal

pub returns-in-Ok-clause-ok : goal.returns-in-Ok-clause-ok
returns-in-Ok-clause-ok c = run_written c.args.at c.args.words.now _ _ c.in-Ok.ensures.inside c.in-Ok.ensures.ok
