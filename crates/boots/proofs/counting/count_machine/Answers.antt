use Rattle.warm_reboot.proofs.Survivals.{survives_viewed}
use Rattle.boots.proofs.PartsMachines.{standing_layout}
use Rattle.boots.proofs.FileSizes.{examined_never_fails, still_never}
use Rattle.boots.proofs.counting.count_machine.Goals as goal

pub examine-requires-clause-layout : goal.examine-requires-clause-layout
examine-requires-clause-layout g c = standing_layout _ _ _ c.requires.standing.1

pub sum_machine-requires-clause-never : goal.sum_machine-requires-clause-never
sum_machine-requires-clause-never g c = still_never _ _ c.requires.never c.in-Ok.ensures.untouched.faults (g.met.M.Machine.limited c.in-Ok.machine)

pub sum_machine-requires-clause-standing : goal.sum_machine-requires-clause-standing
sum_machine-requires-clause-standing g c =
    let s = c.requires.standing in
    (s.0, (survives_viewed _ _ _ _ c.in-Ok.ensures.untouched).state s.0 s.1, (c.in-Ok.ensures.standing s.0 s.1).shape)

pub returns-in-Ok : goal.returns-in-Ok
returns-in-Ok g c = record { counts = λ s st. (c.in-Ok.ensures.standing s st, c.in_ok-bytes-in-Ok.ensures.bytes s ((survives_viewed _ _ _ _ c.in-Ok.ensures.untouched).state s st)) }

pub unreachable-requires : goal.unreachable-requires
unreachable-requires g c =
    let old = c.args.machine in
    let new = c.in-Err.field-0.machine in
    let s = c.requires.standing in
    examined_never_fails (g.M.Machine.contents old) (g.M.Machine.contents new) (g.M.Machine.run old) (g.M.Machine.run new) c.in-Err.field-0.fail c.requires.never c.in-Err.ensures.untouched (g.met.M.Machine.limited new) c.requires.running (c.in-Err.ensures.standing s.0 s.1) c.in-Err.ensures.unexamined c.in_default.not-Memory
