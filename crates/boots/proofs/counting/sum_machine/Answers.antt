use Rattle.std.proofs.Common.{subst, sym}
use Rattle.rio_base.specs.declared.places.VolumeShape.{VolumeShape}
use Rattle.rio_model.specs.Cover.{stands}
use Rattle.rio_model.specs.VolumeReads.{ReadsAs}
use Rattle.boots.proofs.FileSizes.{standing_reads, view_never_fails}
use Rattle.boots.proofs.counting.sum_machine.Goals as goal

pub sum_files-bytes-requires-clause-reads : goal.sum_files-bytes-requires-clause-reads
sum_files-bytes-requires-clause-reads g c =
    let s = c.requires.standing in
    (s.0, rw c.in-Ok.ensures.machine (subst (λ (shape : VolumeShape). ReadsAs shape (stands (g.M.Machine.contents c.args.machine)) s.0) (sym s.2) (standing_reads _ _ s.0 (g.met.M.Machine.whole_blocks c.args.machine) s.1)))

pub unreachable-requires : goal.unreachable-requires
unreachable-requires g c =
    let old = c.in-Ok.view.machine in
    let new = c.sum_files-bytes.new.v.machine in
    view_never_fails (g.M.Machine.contents old) (g.M.Machine.contents new) (g.M.Machine.run old) (g.M.Machine.run new) c.in-Err-bytes.field-0 (rw c.in-Ok.ensures.machine c.requires.never) c.sum_files-bytes.ensures.passes (g.met.M.Machine.limited new) (rw c.in-Ok.ensures.machine c.requires.running) c.in-Err-bytes.ensures.ends
