use Rattle.std.proofs.Common.{◌-◌, ◌/◌}
use Rattle.inode_table.proofs.PassedBlocks.{zeros_at}
use Rattle.inode_table.proofs.full_blocks.FullBlocks.new.Goals as goal

pub returns : goal.returns
returns c = λ shape f. record { each = λ i ino mark. absurd (mark (zeros_at 1024 ((i - 1) / 32))) }
