use Rattle.volume_check.proofs.Common.{sym}
use Rattle.volume_check.proofs.Bitmaps.{reserved_count}
use Rattle.volume_check.proofs.mark_rules.reserved_blocks.Goals as goal

pub returns : goal.returns
returns c = sym (reserved_count c.args.shape.now c.requires.version)
