use Rattle.pair_files.proofs.LeftFiles.{leaves_by}
use Rattle.pair_files.proofs.saving.hand_back.Goals as goal

pub returns-clause-files : goal.returns-clause-files
returns-clause-files g c = λ told asked disk here. leaves_by told _ asked _ disk _ _ _ c.into_host.ensures.file c.into_host.ensures.around c.into_host.ensures.fit c.part.ensures.disk here
