use Rattle.rio_base.proofs.Frames.{vol_ends}
use Rattle.std.proofs.Common.{rules}
use Rattle.rio_base.specs.Rules.{goes_refl}
use Rattle.node_pages.proofs.Ends.{ends_vol_size, refused_still, unrefused_vol}
use Rattle.node_pages.proofs.EndsOn.{if_err}
use Rattle.node_pages.proofs.LookingUpRules.{can_look_up}
use Rattle.node_pages.proofs.OrderRules.{leaves_looked, leaves_refl, leaves_trans, ready_left}
use Rattle.file_pages.proofs.Prepared.{leaves_err}
use Rattle.file_pages.proofs.Common.{◌≡◌, ◌<◌, ◌≤◌, length, sym, subst, arith, inr, OnOk, err_from_is_err_and, free_blocks, ◌then◌, ends_by_after, IsInode, held_of, largest_size, resized, volume_layout, LeavesInUse}
use Rattle.node_pages.specs.Changes.{wanted_blocks}
use Rattle.file_pages.specs.Files.{HasSpace, ResizeStops, SetsBoth, StopsAs, file_bytes}
use Rattle.node_pages.specs.Staging.{Forgets}
use Rattle.file_pages.proofs.Resized.{file_ino, size_fault, size_stopped}
use Rattle.file_pages.proofs.resizing.resize.Goals as goal

pub returns-then-len-gt-LARGEST_SIZE-clause-too_large : goal.returns-then-len-gt-LARGEST_SIZE-clause-too_large
returns-then-len-gt-LARGEST_SIZE-clause-too_large g c = λ is. omega (arith, c.if-len-gt-LARGEST_SIZE.true)

pub returns-then-len-gt-LARGEST_SIZE-clause-no_space : goal.returns-then-len-gt-LARGEST_SIZE-clause-no_space
returns-then-len-gt-LARGEST_SIZE-clause-no_space g c = λ is. absurd cc

pub returns-then-len-gt-LARGEST_SIZE-clause-refused : goal.returns-then-len-gt-LARGEST_SIZE-clause-refused
returns-then-len-gt-LARGEST_SIZE-clause-refused g c = λ is. leaves_refl c.args.shape.now _ _ c.requires.ready

pub returns-then-len-gt-LARGEST_SIZE-clause-fault : goal.returns-then-len-gt-LARGEST_SIZE-clause-fault
returns-then-len-gt-LARGEST_SIZE-clause-fault g c = λ is. absurd cc

pub returns-then-len-gt-LARGEST_SIZE-clause-stopped : goal.returns-then-len-gt-LARGEST_SIZE-clause-stopped
returns-then-len-gt-LARGEST_SIZE-clause-stopped g c = λ is. absurd cc

pub returns-then-len-gt-LARGEST_SIZE-clause-ready : goal.returns-then-len-gt-LARGEST_SIZE-clause-ready
returns-then-len-gt-LARGEST_SIZE-clause-ready g c = inr c.requires.ready

pub returns-then-len-gt-LARGEST_SIZE-clause-goes : goal.returns-then-len-gt-LARGEST_SIZE-clause-goes
returns-then-len-gt-LARGEST_SIZE-clause-goes g c = goes_refl _ _

pub returns-then-len-gt-LARGEST_SIZE-clause-ends : goal.returns-then-len-gt-LARGEST_SIZE-clause-ends
returns-then-len-gt-LARGEST_SIZE-clause-ends g c = refused_still _

pub look_inode-requires-clause-ino : goal.look_inode-requires-clause-ino
look_inode-requires-clause-ino g c = file_ino c.args.shape.now (g.V.Blocks.seen c.args.v.now).words c.args.i.0 c.requires.file

pub resize_at_inode-requires-clause-ready : goal.resize_at_inode-requires-clause-ready
resize_at_inode-requires-clause-ready g c =
    let shape = c.args.shape.now in
    let x = g.V.Blocks.seen c.args.v.now in
    let k = g.V.Volume.kept c.args.v.now in
    let z = g.V.Blocks.seen c.look_inode.new.v in
    let l = g.V.Volume.kept c.look_inode.new.v in
    let looked : LeavesInUse (volume_layout shape x.words) x k z l = leaves_looked shape _ _ _ _ x z k l c.requires.ready c.look_inode.ensures.read.looks (g.met.V.Volume.passes_keeps _ _ c.look_inode.ensures.read.passed) in
    ready_left shape x k z l c.requires.ready looked

pub resize_at_inode-requires-clause-inode : goal.resize_at_inode-requires-clause-inode
resize_at_inode-requires-clause-inode g c = subst (λ f. IsInode f c.args.i.0 c.in_ok-inode.inode) (sym c.look_inode.ensures.read.looks.looks.words) c.in_ok-inode.ensures.value

pub resize_at_inode-requires-clause-file : goal.resize_at_inode-requires-clause-file
resize_at_inode-requires-clause-file g c = subst (λ f. (held_of c.args.shape.now f c.args.i.0).kind ≡ 2) (sym c.look_inode.ensures.read.looks.looks.words) c.requires.file

pub returns-in_err-inode-clause-ok : goal.returns-in_err-inode-clause-ok
returns-in_err-inode-clause-ok g c = if_err c.from_residual.result _ c.from_residual.ensures.0

pub returns-in_err-inode-clause-space : goal.returns-in_err-inode-clause-space
returns-in_err-inode-clause-space g c = if_err c.from_residual.result _ c.from_residual.ensures.0

pub returns-in_err-inode-clause-forgets : goal.returns-in_err-inode-clause-forgets
returns-in_err-inode-clause-forgets g c = if_err c.from_residual.result _ c.from_residual.ensures.0

pub returns-in_err-inode-clause-too_large : goal.returns-in_err-inode-clause-too_large
returns-in_err-inode-clause-too_large g c = let p = err_from_is_err_and c.from_residual.result c.from_residual.ensures.1 in λ is. absurd ((unrefused_vol c.from_residual.result _ p.0 p.1 p.2).1 is)

pub returns-in_err-inode-clause-no_space : goal.returns-in_err-inode-clause-no_space
returns-in_err-inode-clause-no_space g c = let p = err_from_is_err_and c.from_residual.result c.from_residual.ensures.1 in λ is. absurd ((unrefused_vol c.from_residual.result _ p.0 p.1 p.2).0 is)

pub returns-in_err-inode-clause-refused : goal.returns-in_err-inode-clause-refused
returns-in_err-inode-clause-refused g c =
    let shape = c.args.shape.now in
    let x = g.V.Blocks.seen c.args.v.now in
    let k = g.V.Volume.kept c.args.v.now in
    let z = g.V.Blocks.seen c.look_inode.new.v in
    let l = g.V.Volume.kept c.look_inode.new.v in
    let looked : LeavesInUse (volume_layout shape x.words) x k z l = leaves_looked shape _ _ _ _ x z k l c.requires.ready c.look_inode.ensures.read.looks (g.met.V.Volume.passes_keeps _ _ c.look_inode.ensures.read.passed) in
    λ is. looked

pub returns-in_err-inode-clause-fault : goal.returns-in_err-inode-clause-fault
returns-in_err-inode-clause-fault g c =
    let shape = c.args.shape.now in
    let x = g.V.Blocks.seen c.args.v.now in
    let k = g.V.Volume.kept c.args.v.now in
    let z = g.V.Blocks.seen c.look_inode.new.v in
    let l = g.V.Volume.kept c.look_inode.new.v in
    let looked : LeavesInUse (volume_layout shape x.words) x k z l = leaves_looked shape _ _ _ _ x z k l c.requires.ready c.look_inode.ensures.read.looks (g.met.V.Volume.passes_keeps _ _ c.look_inode.ensures.read.passed) in
    let p = err_from_is_err_and c.from_residual.result c.from_residual.ensures.1 in
    let i = c.args.i.0 in
    let len = c.args.len in
    let left = leaves_err shape x k z l i len c.from_residual.result p.0 p.1 c.requires.ready (g.met.V.Volume.settled _ c.requires.sound) c.requires.file looked in
    size_fault shape x k z l i len c.from_residual.result left

pub returns-in_err-inode-clause-stopped : goal.returns-in_err-inode-clause-stopped
returns-in_err-inode-clause-stopped g c =
    let shape = c.args.shape.now in
    let x = g.V.Blocks.seen c.args.v.now in
    let k = g.V.Volume.kept c.args.v.now in
    let z = g.V.Blocks.seen c.look_inode.new.v in
    let l = g.V.Volume.kept c.look_inode.new.v in
    let looked : LeavesInUse (volume_layout shape x.words) x k z l = leaves_looked shape _ _ _ _ x z k l c.requires.ready c.look_inode.ensures.read.looks (g.met.V.Volume.passes_keeps _ _ c.look_inode.ensures.read.passed) in
    let p = err_from_is_err_and c.from_residual.result c.from_residual.ensures.1 in
    let i = c.args.i.0 in
    let len = c.args.len in
    let left = leaves_err shape x k z l i len c.from_residual.result p.0 p.1 c.requires.ready (g.met.V.Volume.settled _ c.requires.sound) c.requires.file looked in
    size_stopped shape x k z l i len c.from_residual.result c.requires.ready (g.met.V.Volume.settled _ c.requires.sound) c.requires.file (inr looked) left

pub returns-in_err-inode-clause-ready : goal.returns-in_err-inode-clause-ready
returns-in_err-inode-clause-ready g c =
    let shape = c.args.shape.now in
    let x = g.V.Blocks.seen c.args.v.now in
    let k = g.V.Volume.kept c.args.v.now in
    let z = g.V.Blocks.seen c.look_inode.new.v in
    let l = g.V.Volume.kept c.look_inode.new.v in
    let looked : LeavesInUse (volume_layout shape x.words) x k z l = leaves_looked shape _ _ _ _ x z k l c.requires.ready c.look_inode.ensures.read.looks (g.met.V.Volume.passes_keeps _ _ c.look_inode.ensures.read.passed) in
    inr (ready_left shape x k z l c.requires.ready looked)

pub returns-in_err-inode-clause-goes : goal.returns-in_err-inode-clause-goes
returns-in_err-inode-clause-goes g c = (g.met.V.Volume.passes_keeps _ _ c.look_inode.ensures.read.passed).goes

pub returns-in_err-inode-clause-ends : goal.returns-in_err-inode-clause-ends
returns-in_err-inode-clause-ends g c = let p = err_from_is_err_and c.from_residual.result c.from_residual.ensures.1 in ends_vol_size _ _ _ c.from_residual.result _ p.0 c.in_err-inode.was p.1 p.2 (vol_ends _ _ _ c.look_inode.ensures.read.ends)

pub returns-clause-ok : goal.returns-clause-ok
returns-clause-ok g c = subst (λ f. OnOk c.resize_at_inode.result (SetsBoth c.args.shape.now f (g.V.Blocks.seen c.resize_at_inode.new.v) (g.V.Volume.kept c.resize_at_inode.new.v) c.args.i.0 (resized (file_bytes c.args.shape.now f c.args.i.0) c.args.len))) c.look_inode.ensures.read.looks.looks.words c.resize_at_inode.ensures.ok

pub returns-clause-space : goal.returns-clause-space
returns-clause-space g c = subst (λ f. OnOk c.resize_at_inode.result (HasSpace c.args.shape.now f (length (file_bytes c.args.shape.now f c.args.i.0)) c.args.len)) c.look_inode.ensures.read.looks.looks.words c.resize_at_inode.ensures.space

pub returns-clause-no_space : goal.returns-clause-no_space
returns-clause-no_space g c = λ is. subst (λ f. (c.args.len ≤ largest_size) × (length (free_blocks c.args.shape.now f) < wanted_blocks (length (file_bytes c.args.shape.now f c.args.i.0)) c.args.len)) c.look_inode.ensures.read.looks.looks.words (c.resize_at_inode.ensures.no_space is)

pub returns-clause-refused : goal.returns-clause-refused
returns-clause-refused g c =
    let shape = c.args.shape.now in
    let x = g.V.Blocks.seen c.args.v.now in
    let k = g.V.Volume.kept c.args.v.now in
    let z = g.V.Blocks.seen c.look_inode.new.v in
    let l = g.V.Volume.kept c.look_inode.new.v in
    let looked : LeavesInUse (volume_layout shape x.words) x k z l = leaves_looked shape _ _ _ _ x z k l c.requires.ready c.look_inode.ensures.read.looks (g.met.V.Volume.passes_keeps _ _ c.look_inode.ensures.read.passed) in
    λ is. leaves_trans shape x k z l (g.V.Blocks.seen c.resize_at_inode.new.v) (g.V.Volume.kept c.resize_at_inode.new.v) c.requires.ready looked (c.resize_at_inode.ensures.refused is)

pub returns-clause-fault : goal.returns-clause-fault
returns-clause-fault g c = λ is. subst (λ f. SetsBoth c.args.shape.now f (g.V.Blocks.seen c.resize_at_inode.new.v) (g.V.Volume.kept c.resize_at_inode.new.v) c.args.i.0 (file_bytes c.args.shape.now f c.args.i.0)) c.look_inode.ensures.read.looks.looks.words (c.resize_at_inode.ensures.fault is)

pub returns-clause-stopped : goal.returns-clause-stopped
returns-clause-stopped g c = λ is. subst (λ f. StopsAs c.args.shape.now f (g.V.Blocks.seen c.resize_at_inode.new.v) (g.V.Volume.kept c.resize_at_inode.new.v) c.args.i.0 (ResizeStops c.args.shape.now f c.args.i.0 c.args.len)) c.look_inode.ensures.read.looks.looks.words (c.resize_at_inode.ensures.stopped is)

pub returns-clause-forgets : goal.returns-clause-forgets
returns-clause-forgets g c = subst (λ f. OnOk c.resize_at_inode.result (Forgets (volume_layout c.args.shape.now f) (volume_layout c.args.shape.now (g.V.Blocks.seen c.resize_at_inode.new.v).words) (g.V.Blocks.seen c.resize_at_inode.new.v))) c.look_inode.ensures.read.looks.looks.words c.resize_at_inode.ensures.forgets

pub returns-clause-goes : goal.returns-clause-goes
returns-clause-goes g c = (g.met.V.Volume.passes_keeps _ _ c.look_inode.ensures.read.passed).goes then c.resize_at_inode.ensures.goes

pub returns-clause-ends : goal.returns-clause-ends
returns-clause-ends g c = ends_by_after _ _ _ _ _ (vol_ends _ _ _ c.look_inode.ensures.read.ends).later (vol_ends _ _ _ c.in_ok-inode.ensures.read.ends).cause c.resize_at_inode.ensures.ends

pub look_inode-requires-clause-can : goal.look_inode-requires-clause-can
look_inode-requires-clause-can g c = record { keeps = (search rules); meets = can_look_up c.args.shape.now _ c.requires.ready.order.has_shape c.requires.ready.order.mapped c.requires.ready.order.named }
