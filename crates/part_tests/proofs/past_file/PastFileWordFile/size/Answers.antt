use Rattle.std.proofs.Common.{arith}
use Rattle.part_tests.proofs.Fronts.{run_size}
use Rattle.part_tests.proofs.past_file.PastFileWordFile.size.Goals as goal

pub returns-clause-size : goal.returns-clause-size
returns-clause-size c = λ file e. run_size c.args.self.now.words.items c.len.result file (omega (arith, c.len.ensures)) e
