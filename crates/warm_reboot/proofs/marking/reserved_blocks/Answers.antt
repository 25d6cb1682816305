use Rattle.std.proofs.Common.{sym}
use Rattle.warm_reboot.proofs.Marks.{reserved_count}
use Rattle.warm_reboot.proofs.marking.reserved_blocks.Goals as goal

pub returns : goal.returns
returns c = sym (reserved_count c.args.shape.now c.requires.served.version)
