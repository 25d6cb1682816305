use Rattle.std.proofs.Common.{sym, subst}
use Rattle.rio_base.specs.Blocks.{BlockWords}
use Rattle.inode_table.specs.Inodes.{KnowsFull}
use Rattle.volume_tests.specs.declared.inode_tests.TheConstants.{SHAPE}
use Rattle.volume_tests.proofs.inode_tests.least_known.Goals as goal

pub least_free_past_full-requires-clause-can : goal.least_free_past_full-requires-clause-can
least_free_past_full-requires-clause-can g c = record { keeps = c.requires.sound; meets = c.requires.shape }

pub returns-clause-known : goal.returns-clause-known
returns-clause-known g c = subst (λ (f : BlockWords). KnowsFull SHAPE c.least_free_past_full.new.full f) (sym c.least_free_past_full.ensures.read.looks.looks.words) c.least_free_past_full.ensures.known

pub returns-clause-idle : goal.returns-clause-idle
returns-clause-idle g c = (g.met.V.Volume.passes_keeps _ _ c.least_free_past_full.ensures.read.passed).updating
