use Rattle.rio_base.proofs.Frames.{vol_ends}
use Rattle.std.proofs.Common.{rules}
use Rattle.file_pages.proofs.Common.{◌≡◌, ◌+◌, ◌<◌, ◌≤◌, ◌∙◌, length, sym, subst, arith, err_from_is_err_and, free_blocks, ◌then◌, ends_by_after, inr, IsInode, OnOk, held_of, largest_size, written, volume_layout, LeavesInUse}
use Rattle.node_pages.specs.Changes.{wanted_blocks}
use Rattle.file_pages.specs.Files.{FaultsAfter, HasSpaceFor, SetsBoth, StopsAs, file_bytes}
use Rattle.file_pages.specs.Writing.{WriteStops}
use Rattle.file_pages.proofs.Resized.{file_ino}
use Rattle.file_pages.proofs.Written.{ends_write_vol, no_length, none_both, none_vol, vol_unrefused, write_fault, write_stopped, large_fault, large_space, large_still, large_stopped, well_fault, well_refused, well_stopped, write_still, write_unrefused}
use Rattle.node_pages.proofs.EndsOn.{if_err}
use Rattle.node_pages.proofs.LookingUpRules.{can_look_up}
use Rattle.node_pages.proofs.OrderRules.{leaves_looked, leaves_refl, leaves_trans, ready_left}
use Rattle.rio_base.specs.Rules.{goes_refl}
use Rattle.file_pages.proofs.writing.write.Goals as goal

pub returns-then-is_empty-clause-ok : goal.returns-then-is_empty-clause-ok
returns-then-is_empty-clause-ok g c =
    none_both c.args.shape.now (g.V.Blocks.seen c.args.v.now) (g.V.Volume.kept c.args.v.now) c.args.i.0 c.args.off c.args.bytes.now c.requires.ready (g.met.V.Volume.settled _ c.requires.sound) c.requires.file (no_length _ (sym c.is_empty.ensures ∙ c.if-is_empty.true))

pub returns-then-is_empty-clause-ends : goal.returns-then-is_empty-clause-ends
returns-then-is_empty-clause-ends g c = write_still _ _

pub returns-then-is_empty-clause-goes : goal.returns-then-is_empty-clause-goes
returns-then-is_empty-clause-goes g c = goes_refl _ _

pub returns-then-is_empty-clause-fault : goal.returns-then-is_empty-clause-fault
returns-then-is_empty-clause-fault g c = λ k is. absurd (well_fault _ k is)

pub returns-then-is_empty-clause-no_space : goal.returns-then-is_empty-clause-no_space
returns-then-is_empty-clause-no_space g c = λ is. absurd ((write_unrefused _).0 is)

pub returns-then-is_empty-clause-too_large : goal.returns-then-is_empty-clause-too_large
returns-then-is_empty-clause-too_large g c = λ is. absurd ((write_unrefused _).1 is)

pub returns-then-is_empty-clause-ready : goal.returns-then-is_empty-clause-ready
returns-then-is_empty-clause-ready g c = inr c.requires.ready

pub returns-then-is_empty-clause-refused : goal.returns-then-is_empty-clause-refused
returns-then-is_empty-clause-refused g c = λ is. absurd (well_refused _ is)

pub returns-then-is_empty-clause-stopped : goal.returns-then-is_empty-clause-stopped
returns-then-is_empty-clause-stopped g c = λ is. absurd (well_stopped _ is)

pub returns-then-is_empty-clause-value : goal.returns-then-is_empty-clause-value
returns-then-is_empty-clause-value g c = sym (no_length _ (sym c.is_empty.ensures ∙ c.if-is_empty.true))

pub returns-then-is_empty-clause-space : goal.returns-then-is_empty-clause-space
returns-then-is_empty-clause-space g c = let none = no_length _ (sym c.is_empty.ensures ∙ c.if-is_empty.true) in λ some. absurd (omega (arith, some, none))

pub returns-then-off-gt-LARGEST_SIZE-clause-ends : goal.returns-then-off-gt-LARGEST_SIZE-clause-ends
returns-then-off-gt-LARGEST_SIZE-clause-ends g c = large_still _

pub returns-then-off-gt-LARGEST_SIZE-clause-goes : goal.returns-then-off-gt-LARGEST_SIZE-clause-goes
returns-then-off-gt-LARGEST_SIZE-clause-goes g c = goes_refl _ _

pub returns-then-off-gt-LARGEST_SIZE-clause-ready : goal.returns-then-off-gt-LARGEST_SIZE-clause-ready
returns-then-off-gt-LARGEST_SIZE-clause-ready g c = inr c.requires.ready

pub returns-then-off-gt-LARGEST_SIZE-clause-fault : goal.returns-then-off-gt-LARGEST_SIZE-clause-fault
returns-then-off-gt-LARGEST_SIZE-clause-fault g c = λ k is. absurd (large_fault k is)

pub returns-then-off-gt-LARGEST_SIZE-clause-no_space : goal.returns-then-off-gt-LARGEST_SIZE-clause-no_space
returns-then-off-gt-LARGEST_SIZE-clause-no_space g c = λ is. absurd (large_space is)

pub returns-then-off-gt-LARGEST_SIZE-clause-stopped : goal.returns-then-off-gt-LARGEST_SIZE-clause-stopped
returns-then-off-gt-LARGEST_SIZE-clause-stopped g c = λ is. absurd (large_stopped is)

pub returns-then-off-gt-LARGEST_SIZE-clause-refused : goal.returns-then-off-gt-LARGEST_SIZE-clause-refused
returns-then-off-gt-LARGEST_SIZE-clause-refused g c = λ is. leaves_refl c.args.shape.now _ _ c.requires.ready

pub look_inode-requires-clause-ino : goal.look_inode-requires-clause-ino
look_inode-requires-clause-ino g c = file_ino c.args.shape.now (g.V.Blocks.seen c.args.v.now).words c.args.i.0 c.requires.file

pub write_at_inode-requires-clause-ready : goal.write_at_inode-requires-clause-ready
write_at_inode-requires-clause-ready g c =
    let shape = c.args.shape.now in
    let x = g.V.Blocks.seen c.args.v.now in
    let k = g.V.Volume.kept c.args.v.now in
    let z = g.V.Blocks.seen c.look_inode.new.v in
    let l = g.V.Volume.kept c.look_inode.new.v in
    let looked : LeavesInUse (volume_layout shape x.words) x k z l = leaves_looked shape _ _ _ _ x z k l c.requires.ready c.look_inode.ensures.read.looks (g.met.V.Volume.passes_keeps _ _ c.look_inode.ensures.read.passed) in
    ready_left shape x k z l c.requires.ready looked

pub write_at_inode-requires-clause-inode : goal.write_at_inode-requires-clause-inode
write_at_inode-requires-clause-inode g c = subst (λ f. IsInode f c.args.i.0 c.in_ok-inode.inode) (sym c.look_inode.ensures.read.looks.looks.words) c.in_ok-inode.ensures.value

pub write_at_inode-requires-clause-file : goal.write_at_inode-requires-clause-file
write_at_inode-requires-clause-file g c = subst (λ f. (held_of c.args.shape.now f c.args.i.0).kind ≡ 2) (sym c.look_inode.ensures.read.looks.looks.words) c.requires.file

pub returns-in_err-inode-clause-ok : goal.returns-in_err-inode-clause-ok
returns-in_err-inode-clause-ok g c = if_err c.from_residual.result _ c.from_residual.ensures.0

pub returns-in_err-inode-clause-space : goal.returns-in_err-inode-clause-space
returns-in_err-inode-clause-space g c = if_err c.from_residual.result _ c.from_residual.ensures.0

pub returns-in_err-inode-clause-value : goal.returns-in_err-inode-clause-value
returns-in_err-inode-clause-value g c = if_err c.from_residual.result _ c.from_residual.ensures.0

pub returns-in_err-inode-clause-too_large : goal.returns-in_err-inode-clause-too_large
returns-in_err-inode-clause-too_large g c = let p = err_from_is_err_and c.from_residual.result c.from_residual.ensures.1 in λ is. absurd ((vol_unrefused c.from_residual.result _ _ p.1 p.2).1 is)

pub returns-in_err-inode-clause-no_space : goal.returns-in_err-inode-clause-no_space
returns-in_err-inode-clause-no_space g c = let p = err_from_is_err_and c.from_residual.result c.from_residual.ensures.1 in λ is. absurd ((vol_unrefused c.from_residual.result _ _ p.1 p.2).0 is)

pub returns-in_err-inode-clause-refused : goal.returns-in_err-inode-clause-refused
returns-in_err-inode-clause-refused g c =
    let shape = c.args.shape.now in
    let x = g.V.Blocks.seen c.args.v.now in
    let k = g.V.Volume.kept c.args.v.now in
    let z = g.V.Blocks.seen c.look_inode.new.v in
    let l = g.V.Volume.kept c.look_inode.new.v in
    let looked : LeavesInUse (volume_layout shape x.words) x k z l = leaves_looked shape _ _ _ _ x z k l c.requires.ready c.look_inode.ensures.read.looks (g.met.V.Volume.passes_keeps _ _ c.look_inode.ensures.read.passed) in
    λ is. looked

pub returns-in_err-inode-clause-fault : goal.returns-in_err-inode-clause-fault
returns-in_err-inode-clause-fault g c =
    let shape = c.args.shape.now in
    let x = g.V.Blocks.seen c.args.v.now in
    let k = g.V.Volume.kept c.args.v.now in
    let z = g.V.Blocks.seen c.look_inode.new.v in
    let l = g.V.Volume.kept c.look_inode.new.v in
    let looked : LeavesInUse (volume_layout shape x.words) x k z l = leaves_looked shape _ _ _ _ x z k l c.requires.ready c.look_inode.ensures.read.looks (g.met.V.Volume.passes_keeps _ _ c.look_inode.ensures.read.passed) in
    let p = err_from_is_err_and c.from_residual.result c.from_residual.ensures.1 in
    let left = none_vol shape x k z l c.args.i.0 c.args.off c.args.bytes.now c.from_residual.result _ p.0 p.1 p.2 c.requires.ready (g.met.V.Volume.settled _ c.requires.sound) c.requires.file looked in
    write_fault shape x k z l c.args.i.0 c.args.off c.args.bytes.now c.from_residual.result left

pub returns-in_err-inode-clause-stopped : goal.returns-in_err-inode-clause-stopped
returns-in_err-inode-clause-stopped g c =
    let shape = c.args.shape.now in
    let x = g.V.Blocks.seen c.args.v.now in
    let k = g.V.Volume.kept c.args.v.now in
    let z = g.V.Blocks.seen c.look_inode.new.v in
    let l = g.V.Volume.kept c.look_inode.new.v in
    let looked : LeavesInUse (volume_layout shape x.words) x k z l = leaves_looked shape _ _ _ _ x z k l c.requires.ready c.look_inode.ensures.read.looks (g.met.V.Volume.passes_keeps _ _ c.look_inode.ensures.read.passed) in
    let p = err_from_is_err_and c.from_residual.result c.from_residual.ensures.1 in
    let left = none_vol shape x k z l c.args.i.0 c.args.off c.args.bytes.now c.from_residual.result _ p.0 p.1 p.2 c.requires.ready (g.met.V.Volume.settled _ c.requires.sound) c.requires.file looked in
    write_stopped shape x k z l c.args.i.0 c.args.off c.args.bytes.now c.from_residual.result left

pub returns-in_err-inode-clause-ready : goal.returns-in_err-inode-clause-ready
returns-in_err-inode-clause-ready g c =
    let shape = c.args.shape.now in
    let x = g.V.Blocks.seen c.args.v.now in
    let k = g.V.Volume.kept c.args.v.now in
    let z = g.V.Blocks.seen c.look_inode.new.v in
    let l = g.V.Volume.kept c.look_inode.new.v in
    let looked : LeavesInUse (volume_layout shape x.words) x k z l = leaves_looked shape _ _ _ _ x z k l c.requires.ready c.look_inode.ensures.read.looks (g.met.V.Volume.passes_keeps _ _ c.look_inode.ensures.read.passed) in
    inr (ready_left shape x k z l c.requires.ready looked)

pub returns-in_err-inode-clause-goes : goal.returns-in_err-inode-clause-goes
returns-in_err-inode-clause-goes g c = (g.met.V.Volume.passes_keeps _ _ c.look_inode.ensures.read.passed).goes

pub returns-in_err-inode-clause-ends : goal.returns-in_err-inode-clause-ends
returns-in_err-inode-clause-ends g c = let p = err_from_is_err_and c.from_residual.result c.from_residual.ensures.1 in ends_write_vol _ _ _ c.from_residual.result _ p.0 c.in_err-inode.was p.1 p.2 (vol_ends _ _ _ c.look_inode.ensures.read.ends)

pub returns-clause-ok : goal.returns-clause-ok
returns-clause-ok g c = subst (λ f. OnOk c.write_at_inode.result (SetsBoth c.args.shape.now f (g.V.Blocks.seen c.write_at_inode.new.v) (g.V.Volume.kept c.write_at_inode.new.v) c.args.i.0 (written (file_bytes c.args.shape.now f c.args.i.0) c.args.off c.args.bytes.now))) c.look_inode.ensures.read.looks.looks.words c.write_at_inode.ensures.ok

pub returns-clause-space : goal.returns-clause-space
returns-clause-space g c = subst (λ f. OnOk c.write_at_inode.result (HasSpaceFor c.args.shape.now f (length (file_bytes c.args.shape.now f c.args.i.0)) c.args.off c.args.bytes.now)) c.look_inode.ensures.read.looks.looks.words c.write_at_inode.ensures.space

pub returns-clause-no_space : goal.returns-clause-no_space
returns-clause-no_space g c = λ is. subst (λ f. (0 < length c.args.bytes.now) × (c.args.off + length c.args.bytes.now ≤ largest_size) × (length (free_blocks c.args.shape.now f) < wanted_blocks (length (file_bytes c.args.shape.now f c.args.i.0)) (c.args.off + length c.args.bytes.now))) c.look_inode.ensures.read.looks.looks.words (c.write_at_inode.ensures.no_space is)

pub returns-clause-refused : goal.returns-clause-refused
returns-clause-refused g c =
    let shape = c.args.shape.now in
    let x = g.V.Blocks.seen c.args.v.now in
    let k = g.V.Volume.kept c.args.v.now in
    let z = g.V.Blocks.seen c.look_inode.new.v in
    let l = g.V.Volume.kept c.look_inode.new.v in
    let looked : LeavesInUse (volume_layout shape x.words) x k z l = leaves_looked shape _ _ _ _ x z k l c.requires.ready c.look_inode.ensures.read.looks (g.met.V.Volume.passes_keeps _ _ c.look_inode.ensures.read.passed) in
    λ is. leaves_trans shape x k z l (g.V.Blocks.seen c.write_at_inode.new.v) (g.V.Volume.kept c.write_at_inode.new.v) c.requires.ready looked (c.write_at_inode.ensures.refused is)

pub returns-clause-fault : goal.returns-clause-fault
returns-clause-fault g c = λ n is. subst (λ f. FaultsAfter c.args.shape.now f (g.V.Blocks.seen c.write_at_inode.new.v) (g.V.Volume.kept c.write_at_inode.new.v) c.args.i.0 c.args.off c.args.bytes.now n) c.look_inode.ensures.read.looks.looks.words (c.write_at_inode.ensures.fault n is)

pub returns-clause-stopped : goal.returns-clause-stopped
returns-clause-stopped g c = λ is. subst (λ f. StopsAs c.args.shape.now f (g.V.Blocks.seen c.write_at_inode.new.v) (g.V.Volume.kept c.write_at_inode.new.v) c.args.i.0 (WriteStops c.args.shape.now f c.args.i.0 c.args.off c.args.bytes.now)) c.look_inode.ensures.read.looks.looks.words (c.write_at_inode.ensures.stopped is)

pub returns-clause-goes : goal.returns-clause-goes
returns-clause-goes g c = (g.met.V.Volume.passes_keeps _ _ c.look_inode.ensures.read.passed).goes then c.write_at_inode.ensures.goes

pub returns-clause-ends : goal.returns-clause-ends
returns-clause-ends g c = ends_by_after _ _ _ _ _ (vol_ends _ _ _ c.look_inode.ensures.read.ends).later (vol_ends _ _ _ c.in_ok-inode.ensures.read.ends).cause c.write_at_inode.ensures.ends

pub look_inode-requires-clause-can : goal.look_inode-requires-clause-can
look_inode-requires-clause-can g c = record { keeps = (search rules); meets = can_look_up c.args.shape.now _ c.requires.ready.order.has_shape c.requires.ready.order.mapped c.requires.ready.order.named }
