use Rattle.directories_tests.proofs.MadeDirs.{dirs_made}
use Rattle.directories_tests.proofs.dirs.with_dirs.Goals as goal

pub returns-clause-dirs : goal.returns-clause-dirs
returns-clause-dirs g c = dirs_made c.args.shape.now _ _ c.in-Ok.ensures.ready c.in-Ok.ensures.nodes
