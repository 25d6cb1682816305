use Rattle.request_ends.proofs.Common.{arith, nat_tests}
use Rattle.file_tree.proofs.PathNames.{root_long, root_short}
use Rattle.file_tree.proofs.paths.is_root.Goals as goal

pub returns-clause-root : goal.returns-clause-root
returns-clause-root c = λ is. root_short c.args.path.now c.requires.path (grind (arith, nat_tests, is))

pub returns-clause-not : goal.returns-clause-not
returns-clause-not c = λ is. root_long c.args.path.now c.requires.path (grind (arith, nat_tests, is))
