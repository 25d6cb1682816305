use Rattle.std.proofs.Common.{◌∙◌, le_refl}
use Rattle.pair_files.proofs.LoadRules.{disk_loaded, disk_missed}
use Rattle.pair_files.proofs.loading.load_disk.Goals as goal

pub returns-in_default-clause-counted : goal.returns-in_default-clause-counted
returns-in_default-clause-counted g c = le_refl _

pub returns-in-Ok-new-clause-disk : goal.returns-in-Ok-new-clause-disk
returns-in-Ok-new-clause-disk g c = disk_loaded _ _ _ _ _ _ (c.in-Ok.ensures.ok ∙ c.deref.ensures) c.in-Ok-new.ensures.disk

pub returns-in-Err-clause-fails : goal.returns-in-Err-clause-fails
returns-in-Err-clause-fails g c = disk_missed c.in-Err.fail _ _ _ _ _ c.failure_of.ensures (c.in-Ok.ensures.ok ∙ c.deref.ensures) c.in-Err.ensures.fails
