use Rattle.pair_files.proofs.LoadRules.{misses_disk}
use Rattle.pair_files.proofs.loading.load_pair.Goals as goal

pub returns-in-Err-load_disk-clause-fails : goal.returns-in-Err-load_disk-clause-fails
returns-in-Err-load_disk-clause-fails g c = misses_disk _ _ _ _ _ _ _ _ _ _ c.in-Err-load_disk.fail c.load_image.ensures.files c.load_image.ensures.later c.in-Ok.ensures.loaded c.in-Err-load_disk.ensures.fails
