use Rattle.rio_base.specs.declared.failures.DiskFail.TheVariants.{Stopped}
use Rattle.rio_base.proofs.MachineRules.{never}
use Rattle.std.proofs.Common.{Ok, refl, rules}
use Rattle.dump_area.proofs.Holding.{synced_front, synced_zeros, writes_front, writes_one}
use Rattle.dump_area.proofs.StepRuns.{goes_step, goes_then}
use Rattle.dump_area.proofs.fronts.put_front.Goals as goal

pub returns-clause-others : goal.returns-clause-others
returns-clause-others g c =
    let disk = g.D.DumpBlocks in
    synced_front c.sync.result (disk.contents c.args.d.now) (disk.contents c.write.new.self) (disk.contents c.sync.new.self) (writes_front _ _ c.requires.settled (writes_one _ _ _ _ _ _ c.write.ensures.writes)) c.sync.ensures.ok c.sync.ensures.err

pub returns-clause-zeros : goal.returns-clause-zeros
returns-clause-zeros g c =
    let disk = g.D.DumpBlocks in
    synced_zeros c.sync.result (disk.contents c.args.d.now) (disk.contents c.write.new.self) (disk.contents c.sync.new.self) _ c.fill_front.new.room.items (search rules) c.requires.block c.in_ok-write.ensures.writes.ok c.fill_front.ensures.zeros c.sync.ensures.ok

pub returns-clause-goes : goal.returns-clause-goes
returns-clause-goes g c = goes_then _ _ _ _ _ _ _ _ _ _ _ _ _ _ _ _ refl (never _ Stopped) (goes_step (Ok c.in_ok-write.field-0) _ _ _ _ c.in_ok-write.ensures.step c.in_ok-write.ensures.cause) (goes_step c.sync.result _ _ _ _ c.sync.ensures.step c.sync.ensures.cause)
