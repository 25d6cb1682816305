use Rattle.std.proofs.Common.{ap, sym, ◌∙◌}
use Rattle.rio_base.specs.Disks.{DiskContents}
use Rattle.rio_commands.proofs.Checking.{files_looked, files_read, found_examined, pair_sure}
use Rattle.rio_commands.proofs.check_command.look_at_pair.Goals as goal

pub returns-in-Ok-clause-found : goal.returns-in-Ok-clause-found
returns-in-Ok-clause-found g c = λ told image disk loaded on.
    found_examined _ told image disk _ _ _ _ _ _ _ _ loaded on c.in-Ok.ensures.memory c.in-Ok.ensures.disk
    (sym (c.into_host.ensures.faults ∙ ap (λ (d : DiskContents). d.faults.count) c.into_parts-disk.ensures.disk)) c.look_at_machine-end.ensures.examined

pub returns-in-Ok-clause-sure : goal.returns-in-Ok-clause-sure
returns-in-Ok-clause-sure g c = λ told image disk image_bytes disk_bytes s loaded on pair.
    pair_sure _ told image disk image_bytes disk_bytes _ _ _ _ _ _ s loaded on c.in-Ok.ensures.memory c.in-Ok.ensures.disk pair c.look_at_machine-end.ensures.sure

pub returns-in-Ok-clause-files : goal.returns-in-Ok-clause-files
returns-in-Ok-clause-files g c = λ told disk on.
    files_looked told _ _ disk _ _ _ _ _ _ _ on c.in-Ok.ensures.disk c.look_at_machine-end.ensures.untouched c.into_parts-disk.ensures.disk c.into_host.ensures.file c.into_host.ensures.around c.into_host.ensures.fit

pub returns-clause-files : goal.returns-clause-files
returns-clause-files g c = λ told disk on.
    files_read told _ _ disk _ _ _ on (ap (λ (d : DiskContents). d.blocks) c.in-Err.ensures.back) (ap (λ (d : DiskContents). d.pending) c.in-Err.ensures.back) (ap (λ (d : DiskContents). d.around) c.in-Err.ensures.back)
    c.into_host-in-Err.ensures.file c.into_host-in-Err.ensures.around c.into_host-in-Err.ensures.fit
