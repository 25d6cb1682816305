use Rattle.std.proofs.Common.{refl}
use Rattle.block_disk.specs.MemDisks.{contents_of, state_of}
use Rattle.test_servers.proofs.FreshMachineCaches.{cache_no_regions, cache_reads, cache_ready, fresh_below, fresh_health}
use Rattle.test_servers.proofs.FreshMachineDisks.{disk_same}
use Rattle.test_servers.proofs.fresh_machine.fresh_cache.Goals as goal

pub returns-clause-reads : goal.returns-clause-reads
returns-clause-reads c =
    let e = c.in_ok-board.ensures in
    cache_reads c.args.frames c.args.shape.now _ _ _ c.requires.shape (disk_same _ _ _ _ _ c.requires.disk e.disk e.pending) c.start.ensures.started

pub returns-clause-ready : goal.returns-clause-ready
returns-clause-ready c =
    let e = c.in_ok-board.ensures in
    let started = rw c.start.ensures.machine at c.start.ensures.started in
    rw c.start.ensures.machine (cache_ready c.args.shape.now _ _ _ c.requires.shape (disk_same _ _ _ _ _ c.requires.disk e.disk e.pending) started refl)

pub returns-clause-no_regions : goal.returns-clause-no_regions
returns-clause-no_regions c =
    let e = c.in_ok-board.ensures in
    cache_no_regions c.args.shape.now _ _ _ c.requires.shape (disk_same _ _ _ _ _ c.requires.disk e.disk e.pending) c.start.ensures.started

pub returns-clause-health : goal.returns-clause-health
returns-clause-health c = let e = c.in_ok-board.ensures in rw c.start.ensures.machine (fresh_health c.args.frames _ _ (contents_of (state_of c.args.disk)) e.memory e.faults)

pub returns-clause-below : goal.returns-clause-below
returns-clause-below c = let e = c.in_ok-board.ensures in rw c.start.ensures.machine (fresh_below c.args.frames _ _ (contents_of (state_of c.args.disk)) e.memory e.faults e.writes)
