use Rattle.rio_base.proofs.Frames.{vol_ends}
use Rattle.node_pages.proofs.Ends.{ends_vol_read}
use Rattle.std.proofs.Common.{le_refl}
use Rattle.directories.proofs.Common.{◌≡◌, err_from_is_err_and, ◌then◌, ends_by_after, if_ok_map, leaves_looked, BlockWords, IsInode, subst, sym}
use Rattle.std.specs.Prelude.{slice_index}
use Rattle.directories.specs.Contents.{sized_to, with_entry}
use Rattle.directories.specs.Plans.{PlansDir}
use Rattle.directories.specs.RowChanges.{SetsRow}
use Rattle.directories.proofs.CanRead.{can_read}
use Rattle.directories.proofs.PlannedOn.{leaves_on, ready_on}
use Rattle.directories.proofs.PlannedRows.{has_room, whole_size, dir_back, set_planned, slot_in}
use Rattle.node_pages.proofs.EndsOn.{if_err}
use Rattle.directories.proofs.planning.plan_set.Goals as goal

pub returns-in_err-inode-clause-leaves : goal.returns-in_err-inode-clause-leaves
returns-in_err-inode-clause-leaves g c = leaves_looked c.args.shape.now _ _ _ _ _ _ _ _ c.requires.ready (c.dir_inode.ensures.read.looks) (g.met.V.Volume.passes_keeps _ _ (c.dir_inode.ensures.read.passed))

pub returns-in_err-inode-clause-goes : goal.returns-in_err-inode-clause-goes
returns-in_err-inode-clause-goes g c = (g.met.V.Volume.passes_keeps _ _ (c.dir_inode.ensures.read.passed)).goes

pub plan_entry-requires-clause-ready : goal.plan_entry-requires-clause-ready
plan_entry-requires-clause-ready g c = ready_on c.args.shape.now _ _ _ _ _ _ _ _ c.requires.ready (c.dir_inode.ensures.read.looks) (g.met.V.Volume.passes_keeps _ _ (c.dir_inode.ensures.read.passed))

pub returns-clause-ok : goal.returns-clause-ok
returns-clause-ok g c =
    let shape = c.args.shape.now in
    let x = g.V.Blocks.seen c.args.v.now in
    let y = g.V.Blocks.seen c.plan_entry.new.v in
    let j = g.V.Volume.kept c.plan_entry.new.v in
    let d = c.args.dir.0 in
    let len = c.in_ok-inode.inode.size in
    let slot = c.args.slot in
    let own = c.entry_words-words.result in
    let ready = c.requires.ready in
    let can = can_read shape x d ready.order.has_shape ready.order.mapped ready.order.named c.requires.entries c.requires.slot.dir in
    let is = c.in_ok-inode.ensures.value.size in
    if_ok_map (PlansDir shape (g.V.Blocks.seen c.dir_inode.new.v).words y j d (λ h k. k ≡ sized_to len (with_entry h slot (slice_index own)))) (PlansDir shape x.words y j d (SetsRow slot c.args.name.now c.args.i.0)) c.plan_entry.result
    (λ change plans. set_planned shape x y j d slot c.args.i.0 len own c.args.name.now change can is (slot_in shape x d slot len can is c.requires.slot) c.entry_words-words.ensures c.requires.is_name c.requires.absent
    (dir_back shape x _ y j d _ change c.dir_inode.ensures.read.looks plans))
    c.plan_entry.ensures.ok

pub returns-clause-leaves : goal.returns-clause-leaves
returns-clause-leaves g c = leaves_on c.args.shape.now _ _ _ _ _ _ _ _ _ _ c.requires.ready (c.dir_inode.ensures.read.looks) (g.met.V.Volume.passes_keeps _ _ (c.dir_inode.ensures.read.passed)) c.plan_entry.ensures.leaves

pub returns-clause-goes : goal.returns-clause-goes
returns-clause-goes g c = (g.met.V.Volume.passes_keeps _ _ (c.dir_inode.ensures.read.passed)).goes then c.plan_entry.ensures.goes

pub returns-clause-ends : goal.returns-clause-ends
returns-clause-ends g c = ends_by_after _ _ _ _ _ (vol_ends _ _ _ c.dir_inode.ensures.read.ends).later (vol_ends _ _ _ c.in_ok-inode.ensures.read.ends).cause c.plan_entry.ensures.ends

pub returns-in_err-inode-clause-ends : goal.returns-in_err-inode-clause-ends
returns-in_err-inode-clause-ends g c =
    let p = err_from_is_err_and c.from_residual.result c.from_residual.ensures.1 in
    ends_vol_read _ _ c.dir_inode.result c.from_residual.result _ _ c.in_err-inode.was p.1 p.2 (vol_ends _ _ _ c.dir_inode.ensures.read.ends)

pub plan_entry-requires-clause-inode : goal.plan_entry-requires-clause-inode
plan_entry-requires-clause-inode g c = subst (λ (f : BlockWords). IsInode f c.args.dir.0 c.in_ok-inode.inode) (sym c.in_ok-inode.ensures.read.looks.looks.words) c.in_ok-inode.ensures.value

pub plan_entry-requires-clause-less : goal.plan_entry-requires-clause-less
plan_entry-requires-clause-less g c = le_refl _

pub returns-in_err-inode-clause-ok : goal.returns-in_err-inode-clause-ok
returns-in_err-inode-clause-ok g c = if_err c.from_residual.result _ c.from_residual.ensures.0

pub plan_entry-requires-clause-slot : goal.plan_entry-requires-clause-slot
plan_entry-requires-clause-slot g c = (has_room _ _ _ _ _ _ c.requires.ready c.requires.entries c.requires.slot c.in_ok-inode.ensures.value).within

pub plan_entry-requires-clause-whole : goal.plan_entry-requires-clause-whole
plan_entry-requires-clause-whole g c = whole_size _ _ (has_room _ _ _ _ _ _ c.requires.ready c.requires.entries c.requires.slot c.in_ok-inode.ensures.value)

pub dir_inode-requires : goal.dir_inode-requires
dir_inode-requires g c = record { can = record { keeps = c.requires.sound; meets = can_read _ _ _ c.requires.ready.order.has_shape c.requires.ready.order.mapped c.requires.ready.order.named c.requires.entries c.requires.slot.dir } }
