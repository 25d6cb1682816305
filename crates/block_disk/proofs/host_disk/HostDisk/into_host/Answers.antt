use Rattle.std.proofs.Common.{◌<◌, ◌^◌, ℕ, List, slice_index, subst}
use Rattle.block_disk.proofs.HostDiskRules.{blocks_fit, settled}
use Rattle.block_disk.proofs.host_disk.HostDisk.into_host.Goals as goal

pub returns-clause-file : goal.returns-clause-file
returns-clause-file g c = settled _ _ _ _ _ _ _ _ c.args.self.file c.args.self.marks c.args.self.unwritten_pending

pub returns-clause-fit : goal.returns-clause-fit
returns-clause-fit g c = blocks_fit c.args.self.words.items (subst (λ (words : List ℕ). (i : ℕ) → slice_index words i < 2 ^ 64) c.deref.ensures.value c.words_fit.ensures)
