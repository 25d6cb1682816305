use Rattle.std.proofs.Common.{◌∙◌}
use Rattle.rio_commands.specs.declared.formatting.FormatEnd.TheVariants.{DiskFault, ImageFault}
use Rattle.rio_commands.proofs.FormatEnds.{formats_at}
use Rattle.rio_commands.proofs.formatting.format.Goals as goal

pub returns-in-DiskFault-clause-run : goal.returns-in-DiskFault-clause-run
returns-in-DiskFault-clause-run g c =
    formats_at DiskFault _ _ _ c.in-Ok.pair _ _ _ _ _ _ _ c.in-Ok.ensures c.say-in-DiskFault.ensures.status c.in-DiskFault.ensures.files
    (c.as_bytes-in-DiskFault.ensures.value ∙ c.in-Ok.ensures.disk_fault) c.say-in-DiskFault.ensures.line

pub returns-in-ImageFault-clause-run : goal.returns-in-ImageFault-clause-run
returns-in-ImageFault-clause-run g c =
    formats_at ImageFault _ _ _ c.in-Ok.pair _ _ _ _ _ _ _ c.in-Ok.ensures c.say-in-ImageFault.ensures.status c.in-ImageFault.ensures.files
    (c.as_bytes-in-ImageFault.ensures.value ∙ c.in-Ok.ensures.image_fault) c.say-in-ImageFault.ensures.line
