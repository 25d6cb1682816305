use Rattle.rio_base.proofs.Frames.{vol_ends}
use Rattle.std.proofs.Common.{le_refl}
use Rattle.directories.proofs.PushedEdits.{one_within}
use Rattle.directories.proofs.PlannedSizes.{dir_fits, none_skipped, none_twice, plans_dir_inode}
use Rattle.node_pages.proofs.EndsOn.{if_err}
use Rattle.directories.proofs.Common.{◌≡◌, ◌+◌, ◌/◌, ◌<◌, ◌≤◌, [], length, sym, ap, subst, ◌∙◌, arith, err_from_is_err_and, BlockWords, ◌then◌, ends_by_after, numbers, PlansSize, free_beside, wanted_blocks, leaves_looked, leaves_trans, ready_left, IsInode, held_of, AtPage, placed_at, refl}
use Rattle.std.specs.Prelude.{slice_index}
use Rattle.rio_base.specs.declared.places.Block.{Block}
use Rattle.node_pages.specs.declared.failures.SizeFail.TheVariants.{NoSpace, TooLarge}
use Rattle.node_pages.proofs.Listed.{as_many}
use Rattle.node_pages.proofs.Ends.{err_handed, size_err, ends_vol_size, ends_well_memory, ends_well_ok, size_then, unrefused_memory, unrefused_vol}
use Rattle.directories.specs.Rows.{HasRow}
use Rattle.directories.specs.declared.storing.EntryWords.{EntryWords}
use Rattle.directories.proofs.AddedRow.{IsNext, looked_twice, no_larger, planned_before, room_left, row_planned, space_said, takes_page}
use Rattle.directories.proofs.CanRead.{can_read, dir_size}
use Rattle.directories.proofs.planning.plan_add.Goals as goal

pub returns-in_err-inode-clause-leaves : goal.returns-in_err-inode-clause-leaves
returns-in_err-inode-clause-leaves g c =
    let shape = c.args.shape.now in
    let d = c.args.dir.0 in
    let x = g.V.Blocks.seen c.args.v.now in
    let k = g.V.Volume.kept c.args.v.now in
    let ready = c.requires.ready in
    let can = can_read shape x d ready.order.has_shape ready.order.mapped ready.order.named c.requires.entries c.requires.dir in
    let x1 = g.V.Blocks.seen c.dir_inode.new.v in
    let k1 = g.V.Volume.kept c.dir_inode.new.v in
    let p1 = g.met.V.Volume.passes_keeps _ _ c.dir_inode.ensures.read.passed in
    let looks1 = c.dir_inode.ensures.read.looks in
    leaves_looked shape _ _ _ _ x x1 k k1 ready looks1 p1

pub returns-in_err-inode-clause-goes : goal.returns-in_err-inode-clause-goes
returns-in_err-inode-clause-goes g c =
    (g.met.V.Volume.passes_keeps _ _ c.dir_inode.ensures.read.passed).goes

pub returns-in_err-last-clause-leaves : goal.returns-in_err-last-clause-leaves
returns-in_err-last-clause-leaves g c =
    let shape = c.args.shape.now in
    let d = c.args.dir.0 in
    let x = g.V.Blocks.seen c.args.v.now in
    let k = g.V.Volume.kept c.args.v.now in
    let ready = c.requires.ready in
    let can = can_read shape x d ready.order.has_shape ready.order.mapped ready.order.named c.requires.entries c.requires.dir in
    let x1 = g.V.Blocks.seen c.dir_inode.new.v in
    let k1 = g.V.Volume.kept c.dir_inode.new.v in
    let p1 = g.met.V.Volume.passes_keeps _ _ c.dir_inode.ensures.read.passed in
    let looks1 = c.dir_inode.ensures.read.looks in
    let x2 = g.V.Blocks.seen c.last_block.new.v in
    let k2 = g.V.Volume.kept c.last_block.new.v in
    let p2 = g.met.V.Volume.passes_keeps _ _ c.last_block.ensures.read.passed in
    let looks2 = c.last_block.ensures.read.looks in
    let left = looked_twice shape _ _ _ _ _ _ x x1 x2 k k1 k2 ready looks1 p1 looks2 p2 in
    let words : x2.words ≡ x.words = looks2.looks.words ∙ looks1.looks.words in
    left

pub returns-in_err-last-clause-goes : goal.returns-in_err-last-clause-goes
returns-in_err-last-clause-goes g c =
    let x1 = g.V.Blocks.seen c.dir_inode.new.v in
    let k1 = g.V.Volume.kept c.dir_inode.new.v in
    let p1 = g.met.V.Volume.passes_keeps _ _ c.dir_inode.ensures.read.passed in
    let looks1 = c.dir_inode.ensures.read.looks in
    let x2 = g.V.Blocks.seen c.last_block.new.v in
    let k2 = g.V.Volume.kept c.last_block.new.v in
    let p2 = g.met.V.Volume.passes_keeps _ _ c.last_block.ensures.read.passed in
    p1.goes then p2.goes

pub plan_size-requires-clause-ready : goal.plan_size-requires-clause-ready
plan_size-requires-clause-ready g c =
    let shape = c.args.shape.now in
    let d = c.args.dir.0 in
    let x = g.V.Blocks.seen c.args.v.now in
    let k = g.V.Volume.kept c.args.v.now in
    let ready = c.requires.ready in
    let can = can_read shape x d ready.order.has_shape ready.order.mapped ready.order.named c.requires.entries c.requires.dir in
    let x1 = g.V.Blocks.seen c.dir_inode.new.v in
    let k1 = g.V.Volume.kept c.dir_inode.new.v in
    let p1 = g.met.V.Volume.passes_keeps _ _ c.dir_inode.ensures.read.passed in
    let looks1 = c.dir_inode.ensures.read.looks in
    let x2 = g.V.Blocks.seen c.last_block.new.v in
    let k2 = g.V.Volume.kept c.last_block.new.v in
    let p2 = g.met.V.Volume.passes_keeps _ _ c.last_block.ensures.read.passed in
    let looks2 = c.last_block.ensures.read.looks in
    let left = looked_twice shape _ _ _ _ _ _ x x1 x2 k k1 k2 ready looks1 p1 looks2 p2 in
    let words : x2.words ≡ x.words = looks2.looks.words ∙ looks1.looks.words in
    ready_left shape x k x2 k2 ready left

pub returns-in_err-change-clause-no_space : goal.returns-in_err-change-clause-no_space
returns-in_err-change-clause-no_space g c =
    let shape = c.args.shape.now in
    let d = c.args.dir.0 in
    let x = g.V.Blocks.seen c.args.v.now in
    let k = g.V.Volume.kept c.args.v.now in
    let ready = c.requires.ready in
    let can = can_read shape x d ready.order.has_shape ready.order.mapped ready.order.named c.requires.entries c.requires.dir in
    let x1 = g.V.Blocks.seen c.dir_inode.new.v in
    let k1 = g.V.Volume.kept c.dir_inode.new.v in
    let p1 = g.met.V.Volume.passes_keeps _ _ c.dir_inode.ensures.read.passed in
    let looks1 = c.dir_inode.ensures.read.looks in
    let x2 = g.V.Blocks.seen c.last_block.new.v in
    let k2 = g.V.Volume.kept c.last_block.new.v in
    let p2 = g.met.V.Volume.passes_keeps _ _ c.last_block.ensures.read.passed in
    let looks2 = c.last_block.ensures.read.looks in
    let left = looked_twice shape _ _ _ _ _ _ x x1 x2 k k1 k2 ready looks1 p1 looks2 p2 in
    let words : x2.words ≡ x.words = looks2.looks.words ∙ looks1.looks.words in
    let inode = c.in_ok-inode.inode in
    let is = c.in_ok-inode.ensures.value in
    let none : numbers c.from-skip.result ≡ [] = ap numbers (c.from-skip.ensures ∙ c.new.ensures.items) in
    let p = err_from_is_err_and c.from_residual-in_err-change.result c.from_residual-in_err-change.ensures.1 in
    λ no. space_said shape x x2 d inode (λ wanted free. free < wanted) can is words (subst (λ skip. length (free_beside shape x2.words skip) < wanted_blocks inode.size (inode.size + 64)) none (c.plan_size.ensures.no_space (err_handed NoSpace c.plan_size.result c.from_residual-in_err-change.result _ p.0 c.in_err-change.was p.1 p.2 no)).2)

pub returns-in_err-change-clause-leaves : goal.returns-in_err-change-clause-leaves
returns-in_err-change-clause-leaves g c =
    let shape = c.args.shape.now in
    let d = c.args.dir.0 in
    let x = g.V.Blocks.seen c.args.v.now in
    let k = g.V.Volume.kept c.args.v.now in
    let ready = c.requires.ready in
    let can = can_read shape x d ready.order.has_shape ready.order.mapped ready.order.named c.requires.entries c.requires.dir in
    let x1 = g.V.Blocks.seen c.dir_inode.new.v in
    let k1 = g.V.Volume.kept c.dir_inode.new.v in
    let p1 = g.met.V.Volume.passes_keeps _ _ c.dir_inode.ensures.read.passed in
    let looks1 = c.dir_inode.ensures.read.looks in
    let x2 = g.V.Blocks.seen c.last_block.new.v in
    let k2 = g.V.Volume.kept c.last_block.new.v in
    let p2 = g.met.V.Volume.passes_keeps _ _ c.last_block.ensures.read.passed in
    let looks2 = c.last_block.ensures.read.looks in
    let left = looked_twice shape _ _ _ _ _ _ x x1 x2 k k1 k2 ready looks1 p1 looks2 p2 in
    let words : x2.words ≡ x.words = looks2.looks.words ∙ looks1.looks.words in
    let x3 = g.V.Blocks.seen c.plan_size.new.v in
    let k3 = g.V.Volume.kept c.plan_size.new.v in
    let leaves = leaves_trans shape x k x2 k2 x3 k3 ready left c.plan_size.ensures.leaves in
    leaves

pub returns-in_err-change-clause-goes : goal.returns-in_err-change-clause-goes
returns-in_err-change-clause-goes g c =
    let x1 = g.V.Blocks.seen c.dir_inode.new.v in
    let k1 = g.V.Volume.kept c.dir_inode.new.v in
    let p1 = g.met.V.Volume.passes_keeps _ _ c.dir_inode.ensures.read.passed in
    let looks1 = c.dir_inode.ensures.read.looks in
    let x2 = g.V.Blocks.seen c.last_block.new.v in
    let k2 = g.V.Volume.kept c.last_block.new.v in
    let p2 = g.met.V.Volume.passes_keeps _ _ c.last_block.ensures.read.passed in
    (p1.goes then p2.goes) then c.plan_size.ensures.goes

pub returns-in_err-change-clause-ends : goal.returns-in_err-change-clause-ends
returns-in_err-change-clause-ends g c =
    let p = err_from_is_err_and c.from_residual-in_err-change.result c.from_residual-in_err-change.ensures.1 in
    ends_by_after _ _ _ _ _ (vol_ends _ _ _ c.dir_inode.ensures.read.ends).later (vol_ends _ _ _ c.in_ok-inode.ensures.read.ends).cause (ends_by_after _ _ _ _ _ (vol_ends _ _ _ c.last_block.ensures.read.ends).later (vol_ends _ _ _ c.in_ok-last.ensures.read.ends).cause (size_err _ _ _ c.from_residual-in_err-change.result _ p.0 c.in_err-change.was p.1 p.2 c.plan_size.ensures.ends))

pub next_block-requires : goal.next_block-requires
next_block-requires g c =
    let inode = c.in_ok-inode.inode in
    let is = c.in_ok-inode.ensures.value in
    λ full. takes_page inode.size _ full (ap length c.as_slice.ensures ∙ sym (as_many c.in_ok-change.change.taken) ∙ c.in_ok-change.ensures.ok.count)

pub returns-in_err-with_entries-clause-leaves : goal.returns-in_err-with_entries-clause-leaves
returns-in_err-with_entries-clause-leaves g c =
    let shape = c.args.shape.now in
    let d = c.args.dir.0 in
    let x = g.V.Blocks.seen c.args.v.now in
    let k = g.V.Volume.kept c.args.v.now in
    let ready = c.requires.ready in
    let can = can_read shape x d ready.order.has_shape ready.order.mapped ready.order.named c.requires.entries c.requires.dir in
    let x1 = g.V.Blocks.seen c.dir_inode.new.v in
    let k1 = g.V.Volume.kept c.dir_inode.new.v in
    let p1 = g.met.V.Volume.passes_keeps _ _ c.dir_inode.ensures.read.passed in
    let looks1 = c.dir_inode.ensures.read.looks in
    let x2 = g.V.Blocks.seen c.last_block.new.v in
    let k2 = g.V.Volume.kept c.last_block.new.v in
    let p2 = g.met.V.Volume.passes_keeps _ _ c.last_block.ensures.read.passed in
    let looks2 = c.last_block.ensures.read.looks in
    let left = looked_twice shape _ _ _ _ _ _ x x1 x2 k k1 k2 ready looks1 p1 looks2 p2 in
    let words : x2.words ≡ x.words = looks2.looks.words ∙ looks1.looks.words in
    let x3 = g.V.Blocks.seen c.plan_size.new.v in
    let k3 = g.V.Volume.kept c.plan_size.new.v in
    let leaves = leaves_trans shape x k x2 k2 x3 k3 ready left c.plan_size.ensures.leaves in
    leaves

pub returns-in_err-with_entries-clause-goes : goal.returns-in_err-with_entries-clause-goes
returns-in_err-with_entries-clause-goes g c =
    let x1 = g.V.Blocks.seen c.dir_inode.new.v in
    let k1 = g.V.Volume.kept c.dir_inode.new.v in
    let p1 = g.met.V.Volume.passes_keeps _ _ c.dir_inode.ensures.read.passed in
    let looks1 = c.dir_inode.ensures.read.looks in
    let x2 = g.V.Blocks.seen c.last_block.new.v in
    let k2 = g.V.Volume.kept c.last_block.new.v in
    let p2 = g.met.V.Volume.passes_keeps _ _ c.last_block.ensures.read.passed in
    (p1.goes then p2.goes) then c.plan_size.ensures.goes

pub returns-clause-ok : goal.returns-clause-ok
returns-clause-ok g c =
    let shape = c.args.shape.now in
    let d = c.args.dir.0 in
    let x = g.V.Blocks.seen c.args.v.now in
    let k = g.V.Volume.kept c.args.v.now in
    let ready = c.requires.ready in
    let can = can_read shape x d ready.order.has_shape ready.order.mapped ready.order.named c.requires.entries c.requires.dir in
    let x1 = g.V.Blocks.seen c.dir_inode.new.v in
    let k1 = g.V.Volume.kept c.dir_inode.new.v in
    let p1 = g.met.V.Volume.passes_keeps _ _ c.dir_inode.ensures.read.passed in
    let looks1 = c.dir_inode.ensures.read.looks in
    let x2 = g.V.Blocks.seen c.last_block.new.v in
    let k2 = g.V.Volume.kept c.last_block.new.v in
    let p2 = g.met.V.Volume.passes_keeps _ _ c.last_block.ensures.read.passed in
    let looks2 = c.last_block.ensures.read.looks in
    let left = looked_twice shape _ _ _ _ _ _ x x1 x2 k k1 k2 ready looks1 p1 looks2 p2 in
    let words : x2.words ≡ x.words = looks2.looks.words ∙ looks1.looks.words in
    let inode = c.in_ok-inode.inode in
    let is = c.in_ok-inode.ensures.value in
    let none : numbers c.from-skip.result ≡ [] = ap numbers (c.from-skip.ensures ∙ c.new.ensures.items) in
    let x3 = g.V.Blocks.seen c.plan_size.new.v in
    let k3 = g.V.Volume.kept c.plan_size.new.v in
    let change = c.in_ok-change.change in
    let e : EntryWords = record { block = c.next_block.result; first = c.first_word.result; words = c.entry_words.result } in
    let made = c.in_ok-with_entries.ensures in
    let room = room_left shape x d inode can is c.requires.room in
    let first = c.first_word.ensures.is in
    let next : IsNext shape x2 d inode change e = record {
      last = λ part. ap (λ (b : Block). b.0) (c.next_block.ensures.last part) ∙ c.in_ok-last.ensures.value part ∙ ap (λ (f : BlockWords). (placed_at f d).block (AtPage (inode.size / 4096))) (sym looks2.looks.words);
      taken = λ full. c.next_block.ensures.taken full ∙ ap (λ bs. slice_index (numbers bs) 0) c.as_slice.ensures;
      first = omega (arith, first, room);
    } in
    planned_before shape x2.words x.words x3 k3 d c.args.name.now c.args.i.0 c.in_ok-with_entries.field-0 words
    (row_planned shape x2 k2 x3 k3 c.args.dir inode change e c.args.name.now c.args.i.0 c.in_ok-with_entries.field-0 c.last_block.ensures.can (ready_left shape x k x2 k2 ready left) c.plan_size.ensures.leaves
    (subst (λ (f : BlockWords). IsInode f d inode) (sym words) is)
    (subst (λ skip. PlansSize shape x2.words x3 k3 d inode (inode.size + 64) skip change) none c.in_ok-change.ensures.ok)
    (record { dir = made.dir; inode = made.inode; edits = made.edits; taken = made.taken; freed = made.freed })
    next c.requires.is_name c.entry_words.ensures (λ n row. c.requires.absent n (subst (λ (f : BlockWords). HasRow (held_of shape f d) c.args.name.now n) words row)))

pub returns-clause-space : goal.returns-clause-space
returns-clause-space g c =
    let shape = c.args.shape.now in
    let d = c.args.dir.0 in
    let x = g.V.Blocks.seen c.args.v.now in
    let k = g.V.Volume.kept c.args.v.now in
    let ready = c.requires.ready in
    let can = can_read shape x d ready.order.has_shape ready.order.mapped ready.order.named c.requires.entries c.requires.dir in
    let x1 = g.V.Blocks.seen c.dir_inode.new.v in
    let k1 = g.V.Volume.kept c.dir_inode.new.v in
    let p1 = g.met.V.Volume.passes_keeps _ _ c.dir_inode.ensures.read.passed in
    let looks1 = c.dir_inode.ensures.read.looks in
    let x2 = g.V.Blocks.seen c.last_block.new.v in
    let k2 = g.V.Volume.kept c.last_block.new.v in
    let p2 = g.met.V.Volume.passes_keeps _ _ c.last_block.ensures.read.passed in
    let looks2 = c.last_block.ensures.read.looks in
    let left = looked_twice shape _ _ _ _ _ _ x x1 x2 k k1 k2 ready looks1 p1 looks2 p2 in
    let words : x2.words ≡ x.words = looks2.looks.words ∙ looks1.looks.words in
    let inode = c.in_ok-inode.inode in
    let is = c.in_ok-inode.ensures.value in
    let none : numbers c.from-skip.result ≡ [] = ap numbers (c.from-skip.ensures ∙ c.new.ensures.items) in
    space_said shape x x2 d inode (λ wanted free. wanted ≤ free) can is words (subst (λ skip. wanted_blocks inode.size (inode.size + 64) ≤ length (free_beside shape x2.words skip)) none c.in_ok-change.ensures.space.1)

pub returns-clause-leaves : goal.returns-clause-leaves
returns-clause-leaves g c =
    let shape = c.args.shape.now in
    let d = c.args.dir.0 in
    let x = g.V.Blocks.seen c.args.v.now in
    let k = g.V.Volume.kept c.args.v.now in
    let ready = c.requires.ready in
    let can = can_read shape x d ready.order.has_shape ready.order.mapped ready.order.named c.requires.entries c.requires.dir in
    let x1 = g.V.Blocks.seen c.dir_inode.new.v in
    let k1 = g.V.Volume.kept c.dir_inode.new.v in
    let p1 = g.met.V.Volume.passes_keeps _ _ c.dir_inode.ensures.read.passed in
    let looks1 = c.dir_inode.ensures.read.looks in
    let x2 = g.V.Blocks.seen c.last_block.new.v in
    let k2 = g.V.Volume.kept c.last_block.new.v in
    let p2 = g.met.V.Volume.passes_keeps _ _ c.last_block.ensures.read.passed in
    let looks2 = c.last_block.ensures.read.looks in
    let left = looked_twice shape _ _ _ _ _ _ x x1 x2 k k1 k2 ready looks1 p1 looks2 p2 in
    let words : x2.words ≡ x.words = looks2.looks.words ∙ looks1.looks.words in
    let x3 = g.V.Blocks.seen c.plan_size.new.v in
    let k3 = g.V.Volume.kept c.plan_size.new.v in
    let leaves = leaves_trans shape x k x2 k2 x3 k3 ready left c.plan_size.ensures.leaves in
    leaves

pub returns-clause-goes : goal.returns-clause-goes
returns-clause-goes g c =
    let x1 = g.V.Blocks.seen c.dir_inode.new.v in
    let k1 = g.V.Volume.kept c.dir_inode.new.v in
    let p1 = g.met.V.Volume.passes_keeps _ _ c.dir_inode.ensures.read.passed in
    let looks1 = c.dir_inode.ensures.read.looks in
    let x2 = g.V.Blocks.seen c.last_block.new.v in
    let k2 = g.V.Volume.kept c.last_block.new.v in
    let p2 = g.met.V.Volume.passes_keeps _ _ c.last_block.ensures.read.passed in
    (p1.goes then p2.goes) then c.plan_size.ensures.goes

pub last_block-requires-clause-inode : goal.last_block-requires-clause-inode
last_block-requires-clause-inode g c = subst (λ (f : BlockWords). IsInode f c.args.dir.0 c.in_ok-inode.inode) (sym c.in_ok-inode.ensures.read.looks.looks.words) c.in_ok-inode.ensures.value

pub returns-in_err-inode-clause-ends : goal.returns-in_err-inode-clause-ends
returns-in_err-inode-clause-ends g c =
    let p = err_from_is_err_and c.from_residual.result c.from_residual.ensures.1 in
    ends_vol_size _ _ c.dir_inode.result c.from_residual.result _ _ c.in_err-inode.was p.1 p.2 (vol_ends _ _ _ c.dir_inode.ensures.read.ends)

pub returns-in_err-last-clause-ends : goal.returns-in_err-last-clause-ends
returns-in_err-last-clause-ends g c =
    let p = err_from_is_err_and c.from_residual-in_err-last.result c.from_residual-in_err-last.ensures.1 in
    ends_by_after _ _ _ _ _ (vol_ends _ _ _ c.dir_inode.ensures.read.ends).later (vol_ends _ _ _ c.in_ok-inode.ensures.read.ends).cause (ends_vol_size _ _ c.last_block.result c.from_residual-in_err-last.result _ _ c.in_err-last.was p.1 p.2 (vol_ends _ _ _ c.last_block.ensures.read.ends))

pub returns-in_err-with_entries-clause-ends : goal.returns-in_err-with_entries-clause-ends
returns-in_err-with_entries-clause-ends g c =
    let p = err_from_is_err_and c.from_residual-in_err-with_entries.result c.from_residual-in_err-with_entries.ensures.1 in
    ends_by_after _ _ _ _ _ (vol_ends _ _ _ c.dir_inode.ensures.read.ends).later (vol_ends _ _ _ c.in_ok-inode.ensures.read.ends).cause (ends_by_after _ _ _ _ _ (vol_ends _ _ _ c.last_block.ensures.read.ends).later (vol_ends _ _ _ c.in_ok-last.ensures.read.ends).cause (size_then _ _ _ c.plan_size.result _ _ c.in_ok-change.was c.plan_size.ensures.ends (ends_well_memory _ _ c.from_residual-in_err-with_entries.result _ p.1 p.2 (le_refl _) refl)))

pub returns-clause-ends : goal.returns-clause-ends
returns-clause-ends g c = ends_by_after _ _ _ _ _ (vol_ends _ _ _ c.dir_inode.ensures.read.ends).later (vol_ends _ _ _ c.in_ok-inode.ensures.read.ends).cause (ends_by_after _ _ _ _ _ (vol_ends _ _ _ c.last_block.ensures.read.ends).later (vol_ends _ _ _ c.in_ok-last.ensures.read.ends).cause (size_then _ _ _ c.plan_size.result _ _ c.in_ok-change.was c.plan_size.ensures.ends (ends_well_ok _ _ _ (le_refl _) refl)))

pub returns-in_err-inode-clause-fits : goal.returns-in_err-inode-clause-fits
returns-in_err-inode-clause-fits g c =
    let p = err_from_is_err_and c.from_residual.result c.from_residual.ensures.1 in
    (unrefused_vol c.from_residual.result _ p.0 p.1 p.2).1

pub returns-in_err-inode-clause-no_space : goal.returns-in_err-inode-clause-no_space
returns-in_err-inode-clause-no_space g c =
    let p = err_from_is_err_and c.from_residual.result c.from_residual.ensures.1 in
    λ is. absurd ((unrefused_vol c.from_residual.result _ p.0 p.1 p.2).0 is)

pub returns-in_err-last-clause-fits : goal.returns-in_err-last-clause-fits
returns-in_err-last-clause-fits g c =
    let p = err_from_is_err_and c.from_residual-in_err-last.result c.from_residual-in_err-last.ensures.1 in
    (unrefused_vol c.from_residual-in_err-last.result _ p.0 p.1 p.2).1

pub returns-in_err-last-clause-no_space : goal.returns-in_err-last-clause-no_space
returns-in_err-last-clause-no_space g c =
    let p = err_from_is_err_and c.from_residual-in_err-last.result c.from_residual-in_err-last.ensures.1 in
    λ is. absurd ((unrefused_vol c.from_residual-in_err-last.result _ p.0 p.1 p.2).0 is)

pub returns-in_err-with_entries-clause-fits : goal.returns-in_err-with_entries-clause-fits
returns-in_err-with_entries-clause-fits g c =
    let p = err_from_is_err_and c.from_residual-in_err-with_entries.result c.from_residual-in_err-with_entries.ensures.1 in
    (unrefused_memory c.from_residual-in_err-with_entries.result _ p.1 p.2).1

pub returns-in_err-with_entries-clause-no_space : goal.returns-in_err-with_entries-clause-no_space
returns-in_err-with_entries-clause-no_space g c =
    let p = err_from_is_err_and c.from_residual-in_err-with_entries.result c.from_residual-in_err-with_entries.ensures.1 in
    λ is. absurd ((unrefused_memory c.from_residual-in_err-with_entries.result _ p.1 p.2).0 is)

pub returns-clause-fits : goal.returns-clause-fits
returns-clause-fits g c = λ is. absurd cc

pub returns-clause-no_space : goal.returns-clause-no_space
returns-clause-no_space g c = λ is. absurd cc

pub plan_size-requires-clause-fits : goal.plan_size-requires-clause-fits
plan_size-requires-clause-fits g c =
    let shape = c.args.shape.now in
    let d = c.args.dir.0 in
    let y = g.V.Blocks.seen c.last_block.new.v in
    let can = c.in_ok-last.ensures.can in
    let is = subst (λ (f : BlockWords). IsInode f d c.in_ok-inode.inode) (sym (c.in_ok-last.ensures.read.looks.looks.words ∙ c.in_ok-inode.ensures.read.looks.looks.words)) c.in_ok-inode.ensures.value in
    let size = is.size in
    let whole = dir_size shape y d can in
    λ most. dir_fits shape y d (c.in_ok-inode.inode.size + 64) c.in_ok-inode.inode can is (omega (arith, whole, size)) most

pub plan_size-requires-clause-inode : goal.plan_size-requires-clause-inode
plan_size-requires-clause-inode g c =
    let d = c.args.dir.0 in
    let is = subst (λ (f : BlockWords). IsInode f d c.in_ok-inode.inode) (sym (c.in_ok-last.ensures.read.looks.looks.words ∙ c.in_ok-inode.ensures.read.looks.looks.words)) c.in_ok-inode.ensures.value in
    plans_dir_inode c.args.shape.now (g.V.Blocks.seen c.last_block.new.v) d c.in_ok-inode.inode c.in_ok-last.ensures.can is

pub returns-in_err-inode-clause-ok : goal.returns-in_err-inode-clause-ok
returns-in_err-inode-clause-ok g c = if_err c.from_residual.result _ c.from_residual.ensures.0

pub returns-in_err-inode-clause-space : goal.returns-in_err-inode-clause-space
returns-in_err-inode-clause-space g c = if_err c.from_residual.result _ c.from_residual.ensures.0

pub returns-in_err-last-clause-ok : goal.returns-in_err-last-clause-ok
returns-in_err-last-clause-ok g c = if_err c.from_residual-in_err-last.result _ c.from_residual-in_err-last.ensures.0

pub returns-in_err-last-clause-space : goal.returns-in_err-last-clause-space
returns-in_err-last-clause-space g c = if_err c.from_residual-in_err-last.result _ c.from_residual-in_err-last.ensures.0

pub returns-in_err-change-clause-ok : goal.returns-in_err-change-clause-ok
returns-in_err-change-clause-ok g c = if_err c.from_residual-in_err-change.result _ c.from_residual-in_err-change.ensures.0

pub returns-in_err-change-clause-space : goal.returns-in_err-change-clause-space
returns-in_err-change-clause-space g c = if_err c.from_residual-in_err-change.result _ c.from_residual-in_err-change.ensures.0

pub returns-in_err-with_entries-clause-ok : goal.returns-in_err-with_entries-clause-ok
returns-in_err-with_entries-clause-ok g c = if_err c.from_residual-in_err-with_entries.result _ c.from_residual-in_err-with_entries.ensures.0

pub returns-in_err-with_entries-clause-space : goal.returns-in_err-with_entries-clause-space
returns-in_err-with_entries-clause-space g c = if_err c.from_residual-in_err-with_entries.result _ c.from_residual-in_err-with_entries.ensures.0

pub plan_size-requires-clause-skip : goal.plan_size-requires-clause-skip
plan_size-requires-clause-skip g c = none_skipped _ _ (c.from-skip.ensures ∙ c.new.ensures.items)

pub plan_size-requires-clause-once : goal.plan_size-requires-clause-once
plan_size-requires-clause-once g c = none_twice _ (ap numbers (c.from-skip.ensures ∙ c.new.ensures.items))

pub returns-in_err-change-clause-fits : goal.returns-in_err-change-clause-fits
returns-in_err-change-clause-fits g c =
    let ready = c.requires.ready in
    let d = c.args.dir.0 in
    let x = g.V.Blocks.seen c.args.v.now in
    let can = can_read c.args.shape.now x d ready.order.has_shape ready.order.mapped ready.order.named c.requires.entries c.requires.dir in
    let p = err_from_is_err_and c.from_residual-in_err-change.result c.from_residual-in_err-change.ensures.1 in
    λ is. no_larger _ _ (room_left c.args.shape.now x d c.in_ok-inode.inode can c.in_ok-inode.ensures.value c.requires.room) (c.plan_size.ensures.too_large (err_handed TooLarge c.plan_size.result c.from_residual-in_err-change.result _ p.0 c.in_err-change.was p.1 p.2 is))

pub with_entries-requires-clause-within : goal.with_entries-requires-clause-within
with_entries-requires-clause-within g c = one_within _ c.first_word.ensures.within

pub with_entries-requires-clause-few : goal.with_entries-requires-clause-few
with_entries-requires-clause-few g c = omega arith

pub overflow_add-inode : goal.overflow_add-inode
overflow_add-inode g c =
    let ready = c.requires.ready in
    let x = g.V.Blocks.seen c.args.v.now in
    let can = can_read c.args.shape.now x c.args.dir.0 ready.order.has_shape ready.order.mapped ready.order.named c.requires.entries c.requires.dir in
    omega (arith, room_left c.args.shape.now x c.args.dir.0 c.in_ok-inode.inode can c.in_ok-inode.ensures.value c.requires.room)

pub overflow_cast-inode : goal.overflow_cast-inode
overflow_cast-inode g c =
    let ready = c.requires.ready in
    let x = g.V.Blocks.seen c.args.v.now in
    let can = can_read c.args.shape.now x c.args.dir.0 ready.order.has_shape ready.order.mapped ready.order.named c.requires.entries c.requires.dir in
    omega (arith, room_left c.args.shape.now x c.args.dir.0 c.in_ok-inode.inode can c.in_ok-inode.ensures.value c.requires.room)

pub dir_inode-requires : goal.dir_inode-requires
dir_inode-requires g c = record { can = record { keeps = c.requires.sound; meets = can_read _ _ _ c.requires.ready.order.has_shape c.requires.ready.order.mapped c.requires.ready.order.named c.requires.entries c.requires.dir } }

pub last_block-requires-clause-can : goal.last_block-requires-clause-can
last_block-requires-clause-can g c = record { keeps = c.dir_inode.ensures.read.keeps; meets = c.dir_inode.ensures.can }
