use Rattle.rio_base.proofs.Frames.{vol_ends}
use Rattle.node_pages.proofs.Ends.{ends_vol_read}
use Rattle.directories.proofs.Common.{◌≡◌, ◌+◌, ◌-◌, ◌*◌, ◌/◌, arith, err_from_is_err_and, ◌then◌, ends_by_after, if_ok_map, look_trans, leaves_looked, BlockWords, IsInode, subst, sym, ◌∙◌}
use Rattle.std.specs.Prelude.{[], ◌∷◌, slice_index}
use Rattle.directories.specs.Contents.{sized_to, with_entry}
use Rattle.directories.specs.Plans.{PlansDir}
use Rattle.directories.proofs.PlannedOn.{into_back, leaves_on, moved_back, ready_on}
use Rattle.node_pages.proofs.EndsOn.{if_err}
use Rattle.directories.proofs.PushedEdits.{two_within}
use Rattle.directories.proofs.PlannedRows.{PlansEntries, gap_room, last_in, plans_back, two_planned}
use Rattle.directories.proofs.removing.plan_filled.Goals as goal

pub returns-in_err-stored-clause-leaves : goal.returns-in_err-stored-clause-leaves
returns-in_err-stored-clause-leaves g c = leaves_looked c.args.shape.now _ _ _ _ _ _ _ _ c.requires.ready (c.words_for_slot.ensures.read.looks) (g.met.V.Volume.passes_keeps _ _ (c.words_for_slot.ensures.read.passed))

pub returns-in_err-stored-clause-goes : goal.returns-in_err-stored-clause-goes
returns-in_err-stored-clause-goes g c = (g.met.V.Volume.passes_keeps _ _ (c.words_for_slot.ensures.read.passed)).goes

pub returns-in_err-moved-clause-leaves : goal.returns-in_err-moved-clause-leaves
returns-in_err-moved-clause-leaves g c = leaves_looked c.args.shape.now _ _ _ _ _ _ _ _ c.requires.ready (look_trans c.args.shape.now _ _ _ c.words_for_slot.ensures.read.looks c.moved_words.ensures.read.looks) (g.met.V.Volume.passes_keeps _ _ (g.met.V.Blocks.passes_trans _ _ _ c.words_for_slot.ensures.read.passed c.moved_words.ensures.read.passed))

pub returns-in_err-moved-clause-goes : goal.returns-in_err-moved-clause-goes
returns-in_err-moved-clause-goes g c = (g.met.V.Volume.passes_keeps _ _ (g.met.V.Blocks.passes_trans _ _ _ c.words_for_slot.ensures.read.passed c.moved_words.ensures.read.passed)).goes

pub plan_entries-requires-clause-ready : goal.plan_entries-requires-clause-ready
plan_entries-requires-clause-ready g c = ready_on c.args.shape.now _ _ _ _ _ _ _ _ c.requires.ready (look_trans c.args.shape.now _ _ _ c.words_for_slot.ensures.read.looks c.moved_words.ensures.read.looks) (g.met.V.Volume.passes_keeps _ _ (g.met.V.Blocks.passes_trans _ _ _ c.words_for_slot.ensures.read.passed c.moved_words.ensures.read.passed))

pub returns-clause-ok : goal.returns-clause-ok
returns-clause-ok g c =
    let shape = c.args.shape.now in
    let x = g.V.Blocks.seen c.args.v.now in
    let z = g.V.Blocks.seen c.words_for_slot.new.v in
    let w = g.V.Blocks.seen c.moved_words.new.v in
    let y = g.V.Blocks.seen c.plan_entries.new.v in
    let j = g.V.Volume.kept c.plan_entries.new.v in
    let d = c.args.dir.0 in
    let size = c.args.inode.now.size in
    let e = c.in_ok-stored.stored in
    let m = c.in_ok-moved.moved in
    let slot = c.args.entry.slot in
    let own = c.args.entry.words in
    let gap = c.args.gap in
    let last = size / 64 - 1 in
    let is = c.requires.inode.size in
    let end = c.last_slot.ensures in
    let room = c.requires.slot in
    let looks = c.words_for_slot.ensures.read.looks in
    let at : c.last_slot.result ≡ last = omega (arith, end) in
    if_ok_map (PlansEntries shape w.words y j d (size - 64) (e ∷ m ∷ [])) (PlansDir shape x.words y j d (λ h k. k ≡ sized_to (size - 64) (with_entry (with_entry h slot (slice_index own)) gap (λ t. h.word (8 * last + t))))) c.plan_entries.result
    (λ change plans. two_planned shape x y j d slot gap last (size - 64) e m own change c.requires.can (omega (arith, is, room)) c.requires.slot c.requires.gap c.in_ok-stored.ensures.into
    (into_back shape x z d gap m looks c.in_ok-moved.ensures.into) c.in_ok-stored.ensures.words
    (moved_back shape x z d c.last_slot.result last m.words at looks c.in_ok-moved.ensures.words)
    (plans_back shape x w y j d (size - 64) (e ∷ m ∷ []) change (look_trans shape _ _ _ looks c.moved_words.ensures.read.looks) plans))
    c.plan_entries.ensures.ok

pub returns-clause-leaves : goal.returns-clause-leaves
returns-clause-leaves g c = leaves_on c.args.shape.now _ _ _ _ _ _ _ _ _ _ c.requires.ready (look_trans c.args.shape.now _ _ _ c.words_for_slot.ensures.read.looks c.moved_words.ensures.read.looks) (g.met.V.Volume.passes_keeps _ _ (g.met.V.Blocks.passes_trans _ _ _ c.words_for_slot.ensures.read.passed c.moved_words.ensures.read.passed)) c.plan_entries.ensures.leaves

pub returns-clause-goes : goal.returns-clause-goes
returns-clause-goes g c = (g.met.V.Volume.passes_keeps _ _ (g.met.V.Blocks.passes_trans _ _ _ c.words_for_slot.ensures.read.passed c.moved_words.ensures.read.passed)).goes then c.plan_entries.ensures.goes

pub returns-clause-ends : goal.returns-clause-ends
returns-clause-ends g c = ends_by_after _ _ _ _ _ (vol_ends _ _ _ c.words_for_slot.ensures.read.ends).later (vol_ends _ _ _ c.in_ok-stored.ensures.read.ends).cause (ends_by_after _ _ _ _ _ (vol_ends _ _ _ c.moved_words.ensures.read.ends).later (vol_ends _ _ _ c.in_ok-moved.ensures.read.ends).cause c.plan_entries.ensures.ends)

pub returns-in_err-stored-clause-ends : goal.returns-in_err-stored-clause-ends
returns-in_err-stored-clause-ends g c =
    let p = err_from_is_err_and c.from_residual.result c.from_residual.ensures.1 in
    ends_vol_read _ _ c.words_for_slot.result c.from_residual.result _ _ c.in_err-stored.was p.1 p.2 (vol_ends _ _ _ c.words_for_slot.ensures.read.ends)

pub returns-in_err-moved-clause-ends : goal.returns-in_err-moved-clause-ends
returns-in_err-moved-clause-ends g c =
    let p = err_from_is_err_and c.from_residual-in_err-moved.result c.from_residual-in_err-moved.ensures.1 in
    ends_by_after _ _ _ _ _ (vol_ends _ _ _ c.words_for_slot.ensures.read.ends).later (vol_ends _ _ _ c.in_ok-stored.ensures.read.ends).cause (ends_vol_read _ _ c.moved_words.result c.from_residual-in_err-moved.result _ _ c.in_err-moved.was p.1 p.2 (vol_ends _ _ _ c.moved_words.ensures.read.ends))

pub moved_words-requires-clause-inode : goal.moved_words-requires-clause-inode
moved_words-requires-clause-inode g c = subst (λ (f : BlockWords). IsInode f c.args.dir.0 c.args.inode.now) (sym c.words_for_slot.ensures.read.looks.looks.words) c.requires.inode

pub moved_words-requires-clause-to : goal.moved_words-requires-clause-to
moved_words-requires-clause-to g c =
    let gap = c.requires.gap in
    omega (arith, gap)

pub words_for_slot-requires-clause-slot : goal.words_for_slot-requires-clause-slot
words_for_slot-requires-clause-slot g c =
    let slot = c.requires.slot in
    omega (arith, slot)

pub plan_entries-requires-clause-inode : goal.plan_entries-requires-clause-inode
plan_entries-requires-clause-inode g c = subst (λ (f : BlockWords). IsInode f c.args.dir.0 c.args.inode.now) (sym (c.moved_words.ensures.read.looks.looks.words ∙ c.words_for_slot.ensures.read.looks.looks.words)) c.requires.inode

pub returns-in_err-stored-clause-ok : goal.returns-in_err-stored-clause-ok
returns-in_err-stored-clause-ok g c = if_err c.from_residual.result _ c.from_residual.ensures.0

pub returns-in_err-moved-clause-ok : goal.returns-in_err-moved-clause-ok
returns-in_err-moved-clause-ok g c = if_err c.from_residual-in_err-moved.result _ c.from_residual-in_err-moved.ensures.0

pub last_slot-requires-clause-some : goal.last_slot-requires-clause-some
last_slot-requires-clause-some g c = (gap_room c.args.shape.now _ c.args.dir.0 c.args.gap c.args.inode.now c.requires.can c.requires.inode c.requires.gap).some

pub last_slot-requires-clause-few : goal.last_slot-requires-clause-few
last_slot-requires-clause-few g c = (gap_room c.args.shape.now _ c.args.dir.0 c.args.gap c.args.inode.now c.requires.can c.requires.inode c.requires.gap).few

pub moved_words-requires-clause-from : goal.moved_words-requires-clause-from
moved_words-requires-clause-from g c = last_in _ c.args.gap _ (gap_room c.args.shape.now _ c.args.dir.0 c.args.gap c.args.inode.now c.requires.can c.requires.inode c.requires.gap) c.last_slot.ensures

pub plan_entries-requires-clause-less : goal.plan_entries-requires-clause-less
plan_entries-requires-clause-less g c = (gap_room c.args.shape.now _ c.args.dir.0 c.args.gap c.args.inode.now c.requires.can c.requires.inode c.requires.gap).less

pub plan_entries-requires-clause-whole : goal.plan_entries-requires-clause-whole
plan_entries-requires-clause-whole g c = (gap_room c.args.shape.now _ c.args.dir.0 c.args.gap c.args.inode.now c.requires.can c.requires.inode c.requires.gap).whole

pub plan_entries-requires-clause-within : goal.plan_entries-requires-clause-within
plan_entries-requires-clause-within g c = two_within _ _ c.in_ok-stored.ensures.within c.in_ok-moved.ensures.within

pub plan_entries-requires-clause-few : goal.plan_entries-requires-clause-few
plan_entries-requires-clause-few g c = omega arith

pub words_for_slot-requires-clause-can : goal.words_for_slot-requires-clause-can
words_for_slot-requires-clause-can g c = record { keeps = c.requires.sound; meets = c.requires.can }

pub moved_words-requires-clause-can : goal.moved_words-requires-clause-can
moved_words-requires-clause-can g c = record { keeps = c.words_for_slot.ensures.read.keeps; meets = c.words_for_slot.ensures.can }
