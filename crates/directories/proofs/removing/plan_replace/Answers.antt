use Rattle.rio_base.proofs.Frames.{vol_ends}
use Rattle.node_pages.proofs.Ends.{ends_vol_read}
use Rattle.directories.proofs.Common.{◌≡◌, ◌+◌, ◌-◌, ◌*◌, ◌/◌, ap, arith, subst, ◌≢◌, refl, err_from_is_err_and, ◌then◌, ends_by_after, if_ok_map, look_trans, leaves_looked, placed_at, BlockWords, IsInode, sym, ◌∙◌}
use Rattle.std.specs.Prelude.{slice_index}
use Rattle.directories.specs.Contents.{sized_to, with_entry}
use Rattle.directories.specs.Plans.{PlansDir}
use Rattle.directories.specs.RowChanges.{ReplacesRow}
use Rattle.directories.proofs.CanRead.{can_read}
use Rattle.directories.proofs.PlannedOn.{leaves_on, moved_back, ready_on}
use Rattle.directories.proofs.PlannedRows.{Replacing, dir_back, gone_dropped, last_moved, own_moved, slot_in, slot_named, has_room, room_before, room_beside}
use Rattle.directories.proofs.removing.plan_replace.Goals as goal

pub returns-in_err-inode-clause-leaves : goal.returns-in_err-inode-clause-leaves
returns-in_err-inode-clause-leaves g c = leaves_looked c.args.shape.now _ _ _ _ _ _ _ _ c.requires.ready (c.dir_inode.ensures.read.looks) (g.met.V.Volume.passes_keeps _ _ (c.dir_inode.ensures.read.passed))

pub returns-in_err-inode-clause-goes : goal.returns-in_err-inode-clause-goes
returns-in_err-inode-clause-goes g c = (g.met.V.Volume.passes_keeps _ _ (c.dir_inode.ensures.read.passed)).goes

pub returns-in_err-own-clause-leaves : goal.returns-in_err-own-clause-leaves
returns-in_err-own-clause-leaves g c = leaves_looked c.args.shape.now _ _ _ _ _ _ _ _ c.requires.ready (look_trans c.args.shape.now _ _ _ c.dir_inode.ensures.read.looks c.read_entry.ensures.read.looks) (g.met.V.Volume.passes_keeps _ _ (g.met.V.Blocks.passes_trans _ _ _ c.dir_inode.ensures.read.passed c.read_entry.ensures.read.passed))

pub returns-in_err-own-clause-goes : goal.returns-in_err-own-clause-goes
returns-in_err-own-clause-goes g c = (g.met.V.Volume.passes_keeps _ _ (g.met.V.Blocks.passes_trans _ _ _ c.dir_inode.ensures.read.passed c.read_entry.ensures.read.passed)).goes

pub plan_entry-requires-clause-ready : goal.plan_entry-requires-clause-ready
plan_entry-requires-clause-ready g c = ready_on c.args.shape.now _ _ _ _ _ _ _ _ c.requires.ready (look_trans c.args.shape.now _ _ _ c.dir_inode.ensures.read.looks c.read_entry.ensures.read.looks) (g.met.V.Volume.passes_keeps _ _ (g.met.V.Blocks.passes_trans _ _ _ c.dir_inode.ensures.read.passed c.read_entry.ensures.read.passed))

pub returns-then-slot-last-clause-ok : goal.returns-then-slot-last-clause-ok
returns-then-slot-last-clause-ok g c =
    let shape = c.args.shape.now in
    let x = g.V.Blocks.seen c.args.v.now in
    let y = g.V.Blocks.seen c.plan_entry.new.v in
    let j = g.V.Volume.kept c.plan_entry.new.v in
    let d = c.args.dir.0 in
    let size = c.in_ok-inode.inode.size in
    let len = size - 64 in
    let slot = c.args.slot in
    let last = c.last_slot-last.result in
    let ready = c.requires.ready in
    let can = can_read shape x d ready.order.has_shape ready.order.mapped ready.order.named c.requires.entries c.requires.slot.dir in
    let is = c.in_ok-inode.ensures.value.size in
    let end = c.last_slot-last.ensures in
    let within = slot_in shape x d slot size can is c.requires.slot in
    let gone = c.args.gone in
    let own = c.with_ino-words.result in
    let gone_within = slot_in shape x d gone size can is c.requires.gone in
    let read = moved_back shape x (g.V.Blocks.seen c.dir_inode.new.v) d slot slot c.in_ok-own.own refl c.dir_inode.ensures.read.looks c.in_ok-own.ensures.words in
    let entry = slot_named shape x d slot c.args.i.0 c.in_ok-own.own own can (omega (arith, within, is)) read c.with_ino-words.ensures in
    let replacing : Replacing (placed_at x.words d).size len slot gone last = record { less = ap (λ s. s - 64) is; end = omega (arith, end, is); slot_within = omega (arith, within, is); gone_within = omega (arith, gone_within, is); two = c.requires.two } in
    if_ok_map (PlansDir shape (g.V.Blocks.seen c.read_entry.new.v).words y j d (λ h k. k ≡ sized_to len (with_entry h gone (slice_index own)))) (PlansDir shape x.words y j d (ReplacesRow slot c.args.i.0 gone)) c.plan_entry.result
    (λ change plans. own_moved shape x y j d slot gone last c.args.i.0 len own change can replacing c.if-slot-last.true entry (dir_back shape x _ y j d _ change (look_trans c.args.shape.now _ _ _ c.dir_inode.ensures.read.looks c.read_entry.ensures.read.looks) plans))
    c.plan_entry.ensures.ok

pub returns-then-slot-last-clause-leaves : goal.returns-then-slot-last-clause-leaves
returns-then-slot-last-clause-leaves g c = leaves_on c.args.shape.now _ _ _ _ _ _ _ _ _ _ c.requires.ready (look_trans c.args.shape.now _ _ _ c.dir_inode.ensures.read.looks c.read_entry.ensures.read.looks) (g.met.V.Volume.passes_keeps _ _ (g.met.V.Blocks.passes_trans _ _ _ c.dir_inode.ensures.read.passed c.read_entry.ensures.read.passed)) c.plan_entry.ensures.leaves

pub returns-then-slot-last-clause-goes : goal.returns-then-slot-last-clause-goes
returns-then-slot-last-clause-goes g c = (g.met.V.Volume.passes_keeps _ _ (g.met.V.Blocks.passes_trans _ _ _ c.dir_inode.ensures.read.passed c.read_entry.ensures.read.passed)).goes then c.plan_entry.ensures.goes

pub returns-then-slot-last-clause-ends : goal.returns-then-slot-last-clause-ends
returns-then-slot-last-clause-ends g c = ends_by_after _ _ _ _ _ (vol_ends _ _ _ c.dir_inode.ensures.read.ends).later (vol_ends _ _ _ c.in_ok-inode.ensures.read.ends).cause (ends_by_after _ _ _ _ _ (vol_ends _ _ _ c.read_entry.ensures.read.ends).later (vol_ends _ _ _ c.in_ok-own.ensures.read.ends).cause c.plan_entry.ensures.ends)

pub plan_entry-requires-then-gone-last-clause-ready : goal.plan_entry-requires-then-gone-last-clause-ready
plan_entry-requires-then-gone-last-clause-ready g c = ready_on c.args.shape.now _ _ _ _ _ _ _ _ c.requires.ready (look_trans c.args.shape.now _ _ _ c.dir_inode.ensures.read.looks c.read_entry.ensures.read.looks) (g.met.V.Volume.passes_keeps _ _ (g.met.V.Blocks.passes_trans _ _ _ c.dir_inode.ensures.read.passed c.read_entry.ensures.read.passed))

pub returns-then-gone-last-clause-ok : goal.returns-then-gone-last-clause-ok
returns-then-gone-last-clause-ok g c =
    let shape = c.args.shape.now in
    let x = g.V.Blocks.seen c.args.v.now in
    let y = g.V.Blocks.seen c.plan_entry-then-gone-last.new.v in
    let j = g.V.Volume.kept c.plan_entry-then-gone-last.new.v in
    let d = c.args.dir.0 in
    let size = c.in_ok-inode.inode.size in
    let len = size - 64 in
    let slot = c.args.slot in
    let last = c.last_slot-last.result in
    let ready = c.requires.ready in
    let can = can_read shape x d ready.order.has_shape ready.order.mapped ready.order.named c.requires.entries c.requires.slot.dir in
    let is = c.in_ok-inode.ensures.value.size in
    let end = c.last_slot-last.ensures in
    let within = slot_in shape x d slot size can is c.requires.slot in
    let gone = c.args.gone in
    let own = c.with_ino-words.result in
    let gone_within = slot_in shape x d gone size can is c.requires.gone in
    let read = moved_back shape x (g.V.Blocks.seen c.dir_inode.new.v) d slot slot c.in_ok-own.own refl c.dir_inode.ensures.read.looks c.in_ok-own.ensures.words in
    let entry = slot_named shape x d slot c.args.i.0 c.in_ok-own.own own can (omega (arith, within, is)) read c.with_ino-words.ensures in
    let replacing : Replacing (placed_at x.words d).size len slot gone last = record { less = ap (λ s. s - 64) is; end = omega (arith, end, is); slot_within = omega (arith, within, is); gone_within = omega (arith, gone_within, is); two = c.requires.two } in
    if_ok_map (PlansDir shape (g.V.Blocks.seen c.read_entry.new.v).words y j d (λ h k. k ≡ sized_to len (with_entry h slot (slice_index own)))) (PlansDir shape x.words y j d (ReplacesRow slot c.args.i.0 gone)) c.plan_entry-then-gone-last.result
    (λ change plans. gone_dropped shape x y j d slot gone last c.args.i.0 len own change can replacing c.if-slot-last.false c.if-gone-last.true entry (dir_back shape x _ y j d _ change (look_trans c.args.shape.now _ _ _ c.dir_inode.ensures.read.looks c.read_entry.ensures.read.looks) plans))
    c.plan_entry-then-gone-last.ensures.ok

pub returns-then-gone-last-clause-leaves : goal.returns-then-gone-last-clause-leaves
returns-then-gone-last-clause-leaves g c = leaves_on c.args.shape.now _ _ _ _ _ _ _ _ _ _ c.requires.ready (look_trans c.args.shape.now _ _ _ c.dir_inode.ensures.read.looks c.read_entry.ensures.read.looks) (g.met.V.Volume.passes_keeps _ _ (g.met.V.Blocks.passes_trans _ _ _ c.dir_inode.ensures.read.passed c.read_entry.ensures.read.passed)) c.plan_entry-then-gone-last.ensures.leaves

pub returns-then-gone-last-clause-goes : goal.returns-then-gone-last-clause-goes
returns-then-gone-last-clause-goes g c = (g.met.V.Volume.passes_keeps _ _ (g.met.V.Blocks.passes_trans _ _ _ c.dir_inode.ensures.read.passed c.read_entry.ensures.read.passed)).goes then c.plan_entry-then-gone-last.ensures.goes

pub returns-then-gone-last-clause-ends : goal.returns-then-gone-last-clause-ends
returns-then-gone-last-clause-ends g c = ends_by_after _ _ _ _ _ (vol_ends _ _ _ c.dir_inode.ensures.read.ends).later (vol_ends _ _ _ c.in_ok-inode.ensures.read.ends).cause (ends_by_after _ _ _ _ _ (vol_ends _ _ _ c.read_entry.ensures.read.ends).later (vol_ends _ _ _ c.in_ok-own.ensures.read.ends).cause c.plan_entry-then-gone-last.ensures.ends)

pub plan_filled-requires-clause-ready : goal.plan_filled-requires-clause-ready
plan_filled-requires-clause-ready g c = ready_on c.args.shape.now _ _ _ _ _ _ _ _ c.requires.ready (look_trans c.args.shape.now _ _ _ c.dir_inode.ensures.read.looks c.read_entry.ensures.read.looks) (g.met.V.Volume.passes_keeps _ _ (g.met.V.Blocks.passes_trans _ _ _ c.dir_inode.ensures.read.passed c.read_entry.ensures.read.passed))

pub returns-clause-ok : goal.returns-clause-ok
returns-clause-ok g c =
    let shape = c.args.shape.now in
    let x = g.V.Blocks.seen c.args.v.now in
    let y = g.V.Blocks.seen c.plan_filled.new.v in
    let j = g.V.Volume.kept c.plan_filled.new.v in
    let d = c.args.dir.0 in
    let size = c.in_ok-inode.inode.size in
    let len = size - 64 in
    let slot = c.args.slot in
    let last = c.last_slot-last.result in
    let ready = c.requires.ready in
    let can = can_read shape x d ready.order.has_shape ready.order.mapped ready.order.named c.requires.entries c.requires.slot.dir in
    let is = c.in_ok-inode.ensures.value.size in
    let end = c.last_slot-last.ensures in
    let within = slot_in shape x d slot size can is c.requires.slot in
    let gone = c.args.gone in
    let own = c.with_ino-words.result in
    let gone_within = slot_in shape x d gone size can is c.requires.gone in
    let read = moved_back shape x (g.V.Blocks.seen c.dir_inode.new.v) d slot slot c.in_ok-own.own refl c.dir_inode.ensures.read.looks c.in_ok-own.ensures.words in
    let entry = slot_named shape x d slot c.args.i.0 c.in_ok-own.own own can (omega (arith, within, is)) read c.with_ino-words.ensures in
    let replacing : Replacing (placed_at x.words d).size len slot gone last = record { less = ap (λ s. s - 64) is; end = omega (arith, end, is); slot_within = omega (arith, within, is); gone_within = omega (arith, gone_within, is); two = c.requires.two } in
    let at : last ≡ size / 64 - 1 = omega (arith, end) in
    if_ok_map (PlansDir shape (g.V.Blocks.seen c.read_entry.new.v).words y j d (λ h k. k ≡ sized_to len (with_entry (with_entry h slot (slice_index own)) gone (λ t. h.word (8 * (size / 64 - 1) + t))))) (PlansDir shape x.words y j d (ReplacesRow slot c.args.i.0 gone)) c.plan_filled.result
    (λ change plans. last_moved shape x y j d slot gone (size / 64 - 1) c.args.i.0 len own change can (subst (Replacing (placed_at x.words d).size len slot gone) at replacing) (subst (λ a. slot ≢ a) at c.if-slot-last.false) (subst (λ a. gone ≢ a) at c.if-gone-last.false) entry (dir_back shape x _ y j d _ change (look_trans c.args.shape.now _ _ _ c.dir_inode.ensures.read.looks c.read_entry.ensures.read.looks) plans))
    c.plan_filled.ensures.ok

pub returns-clause-leaves : goal.returns-clause-leaves
returns-clause-leaves g c = leaves_on c.args.shape.now _ _ _ _ _ _ _ _ _ _ c.requires.ready (look_trans c.args.shape.now _ _ _ c.dir_inode.ensures.read.looks c.read_entry.ensures.read.looks) (g.met.V.Volume.passes_keeps _ _ (g.met.V.Blocks.passes_trans _ _ _ c.dir_inode.ensures.read.passed c.read_entry.ensures.read.passed)) c.plan_filled.ensures.leaves

pub returns-clause-goes : goal.returns-clause-goes
returns-clause-goes g c = (g.met.V.Volume.passes_keeps _ _ (g.met.V.Blocks.passes_trans _ _ _ c.dir_inode.ensures.read.passed c.read_entry.ensures.read.passed)).goes then c.plan_filled.ensures.goes

pub returns-clause-ends : goal.returns-clause-ends
returns-clause-ends g c = ends_by_after _ _ _ _ _ (vol_ends _ _ _ c.dir_inode.ensures.read.ends).later (vol_ends _ _ _ c.in_ok-inode.ensures.read.ends).cause (ends_by_after _ _ _ _ _ (vol_ends _ _ _ c.read_entry.ensures.read.ends).later (vol_ends _ _ _ c.in_ok-own.ensures.read.ends).cause c.plan_filled.ensures.ends)

pub returns-in_err-inode-clause-ends : goal.returns-in_err-inode-clause-ends
returns-in_err-inode-clause-ends g c =
    let p = err_from_is_err_and c.from_residual.result c.from_residual.ensures.1 in
    ends_vol_read _ _ c.dir_inode.result c.from_residual.result _ _ c.in_err-inode.was p.1 p.2 (vol_ends _ _ _ c.dir_inode.ensures.read.ends)

pub returns-in_err-own-clause-ends : goal.returns-in_err-own-clause-ends
returns-in_err-own-clause-ends g c =
    let p = err_from_is_err_and c.from_residual-in_err-own.result c.from_residual-in_err-own.ensures.1 in
    ends_by_after _ _ _ _ _ (vol_ends _ _ _ c.dir_inode.ensures.read.ends).later (vol_ends _ _ _ c.in_ok-inode.ensures.read.ends).cause (ends_vol_read _ _ c.read_entry.result c.from_residual-in_err-own.result _ _ c.in_err-own.was p.1 p.2 (vol_ends _ _ _ c.read_entry.ensures.read.ends))

pub read_entry-requires-clause-inode : goal.read_entry-requires-clause-inode
read_entry-requires-clause-inode g c = subst (λ (f : BlockWords). IsInode f c.args.dir.0 c.in_ok-inode.inode) (sym c.in_ok-inode.ensures.read.looks.looks.words) c.in_ok-inode.ensures.value

pub plan_entry-requires-clause-inode : goal.plan_entry-requires-clause-inode
plan_entry-requires-clause-inode g c = subst (λ (f : BlockWords). IsInode f c.args.dir.0 c.in_ok-inode.inode) (sym (c.read_entry.ensures.read.looks.looks.words ∙ c.in_ok-inode.ensures.read.looks.looks.words)) c.in_ok-inode.ensures.value

pub plan_entry-requires-then-gone-last-clause-inode : goal.plan_entry-requires-then-gone-last-clause-inode
plan_entry-requires-then-gone-last-clause-inode g c = subst (λ (f : BlockWords). IsInode f c.args.dir.0 c.in_ok-inode.inode) (sym (c.read_entry.ensures.read.looks.looks.words ∙ c.in_ok-inode.ensures.read.looks.looks.words)) c.in_ok-inode.ensures.value

pub plan_filled-requires-clause-inode : goal.plan_filled-requires-clause-inode
plan_filled-requires-clause-inode g c = subst (λ (f : BlockWords). IsInode f c.args.dir.0 c.in_ok-inode.inode) (sym (c.read_entry.ensures.read.looks.looks.words ∙ c.in_ok-inode.ensures.read.looks.looks.words)) c.in_ok-inode.ensures.value

pub last_slot-last-requires-clause-some : goal.last_slot-last-requires-clause-some
last_slot-last-requires-clause-some g c = (has_room _ _ _ _ _ _ c.requires.ready c.requires.entries c.requires.slot c.in_ok-inode.ensures.value).some

pub last_slot-last-requires-clause-few : goal.last_slot-last-requires-clause-few
last_slot-last-requires-clause-few g c = (has_room _ _ _ _ _ _ c.requires.ready c.requires.entries c.requires.slot c.in_ok-inode.ensures.value).few

pub overflow_sub-len : goal.overflow_sub-len
overflow_sub-len g c = (has_room _ _ _ _ _ _ c.requires.ready c.requires.entries c.requires.slot c.in_ok-inode.ensures.value).some

pub read_entry-requires-clause-slot : goal.read_entry-requires-clause-slot
read_entry-requires-clause-slot g c = (has_room _ _ _ _ _ _ c.requires.ready c.requires.entries c.requires.slot c.in_ok-inode.ensures.value).within

pub plan_entry-requires-clause-less : goal.plan_entry-requires-clause-less
plan_entry-requires-clause-less g c = (has_room _ _ _ _ _ _ c.requires.ready c.requires.entries c.requires.slot c.in_ok-inode.ensures.value).less

pub plan_entry-requires-clause-whole : goal.plan_entry-requires-clause-whole
plan_entry-requires-clause-whole g c = (has_room _ _ _ _ _ _ c.requires.ready c.requires.entries c.requires.slot c.in_ok-inode.ensures.value).whole

pub plan_entry-requires-clause-slot : goal.plan_entry-requires-clause-slot
plan_entry-requires-clause-slot g c = room_beside _ c.args.slot _ _ (has_room _ _ _ _ _ _ c.requires.ready c.requires.entries c.requires.gone c.in_ok-inode.ensures.value) c.last_slot-last.ensures c.requires.two c.if-slot-last.true

pub plan_entry-requires-then-gone-last-clause-less : goal.plan_entry-requires-then-gone-last-clause-less
plan_entry-requires-then-gone-last-clause-less g c = (has_room _ _ _ _ _ _ c.requires.ready c.requires.entries c.requires.slot c.in_ok-inode.ensures.value).less

pub plan_entry-requires-then-gone-last-clause-whole : goal.plan_entry-requires-then-gone-last-clause-whole
plan_entry-requires-then-gone-last-clause-whole g c = (has_room _ _ _ _ _ _ c.requires.ready c.requires.entries c.requires.slot c.in_ok-inode.ensures.value).whole

pub plan_entry-requires-then-gone-last-clause-slot : goal.plan_entry-requires-then-gone-last-clause-slot
plan_entry-requires-then-gone-last-clause-slot g c = room_before _ _ _ (has_room _ _ _ _ _ _ c.requires.ready c.requires.entries c.requires.slot c.in_ok-inode.ensures.value) c.last_slot-last.ensures c.if-slot-last.false

pub plan_filled-requires-clause-slot : goal.plan_filled-requires-clause-slot
plan_filled-requires-clause-slot g c = room_before _ _ _ (has_room _ _ _ _ _ _ c.requires.ready c.requires.entries c.requires.slot c.in_ok-inode.ensures.value) c.last_slot-last.ensures c.if-slot-last.false

pub plan_filled-requires-clause-gap : goal.plan_filled-requires-clause-gap
plan_filled-requires-clause-gap g c = room_before _ _ _ (has_room _ _ _ _ _ _ c.requires.ready c.requires.entries c.requires.gone c.in_ok-inode.ensures.value) c.last_slot-last.ensures c.if-gone-last.false

pub dir_inode-requires : goal.dir_inode-requires
dir_inode-requires g c = record { can = record { keeps = c.requires.sound; meets = can_read _ _ _ c.requires.ready.order.has_shape c.requires.ready.order.mapped c.requires.ready.order.named c.requires.entries c.requires.slot.dir } }

pub read_entry-requires-clause-can : goal.read_entry-requires-clause-can
read_entry-requires-clause-can g c = record { keeps = c.dir_inode.ensures.read.keeps; meets = c.dir_inode.ensures.can }
