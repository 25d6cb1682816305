use Rattle.machine_bench.proofs.kept.block_is_whole.Goals as goal

pub returns : goal.returns
returns g c = g.met.D.DiskBlocks.whole c.args.disk.now c.args.b.0 c.requires
