use Rattle.rio_base.proofs.Frames.{vol_ends}
use Rattle.node_pages.proofs.Ends.{ends_vol_read}
use Rattle.directories.proofs.Common.{◌≡◌, arith, err_from_is_err_and, ◌then◌, ends_by_after, if_ok_map, leaves_looked, BlockWords, IsInode, subst, sym}
use Rattle.std.specs.Prelude.{[], ◌∷◌, slice_index}
use Rattle.directories.specs.Contents.{sized_to, with_entry}
use Rattle.node_pages.proofs.EndsOn.{if_err}
use Rattle.directories.specs.Plans.{PlansDir}
use Rattle.directories.proofs.PlannedOn.{leaves_on, ready_on}
use Rattle.directories.proofs.PushedEdits.{one_within}
use Rattle.directories.proofs.PlannedRows.{PlansEntries, one_planned, plans_back}
use Rattle.directories.proofs.planning.plan_entry.Goals as goal

pub returns-in_err-stored-clause-leaves : goal.returns-in_err-stored-clause-leaves
returns-in_err-stored-clause-leaves g c = leaves_looked c.args.shape.now _ _ _ _ _ _ _ _ c.requires.ready (c.words_for_slot.ensures.read.looks) (g.met.V.Volume.passes_keeps _ _ (c.words_for_slot.ensures.read.passed))

pub returns-in_err-stored-clause-goes : goal.returns-in_err-stored-clause-goes
returns-in_err-stored-clause-goes g c = (g.met.V.Volume.passes_keeps _ _ (c.words_for_slot.ensures.read.passed)).goes

pub plan_entries-requires-clause-ready : goal.plan_entries-requires-clause-ready
plan_entries-requires-clause-ready g c = ready_on c.args.shape.now _ _ _ _ _ _ _ _ c.requires.ready (c.words_for_slot.ensures.read.looks) (g.met.V.Volume.passes_keeps _ _ (c.words_for_slot.ensures.read.passed))

pub returns-clause-ok : goal.returns-clause-ok
returns-clause-ok g c =
    let shape = c.args.shape.now in
    let x = g.V.Blocks.seen c.args.v.now in
    let y = g.V.Blocks.seen c.plan_entries.new.v in
    let j = g.V.Volume.kept c.plan_entries.new.v in
    let d = c.args.dir.0 in
    let len = c.args.len in
    let e = c.in_ok-stored.stored in
    let slot = c.args.entry.slot in
    let own = c.args.entry.words in
    if_ok_map (PlansEntries shape (g.V.Blocks.seen c.words_for_slot.new.v).words y j d len (e ∷ [])) (PlansDir shape x.words y j d (λ h k. k ≡ sized_to len (with_entry h slot (slice_index own)))) c.plan_entries.result
    (λ change plans. one_planned shape x y j d slot len e own change c.requires.slot c.in_ok-stored.ensures.into c.in_ok-stored.ensures.words (plans_back shape x _ y j d len (e ∷ []) change c.words_for_slot.ensures.read.looks plans))
    c.plan_entries.ensures.ok

pub returns-clause-leaves : goal.returns-clause-leaves
returns-clause-leaves g c = leaves_on c.args.shape.now _ _ _ _ _ _ _ _ _ _ c.requires.ready (c.words_for_slot.ensures.read.looks) (g.met.V.Volume.passes_keeps _ _ (c.words_for_slot.ensures.read.passed)) c.plan_entries.ensures.leaves

pub returns-clause-goes : goal.returns-clause-goes
returns-clause-goes g c = (g.met.V.Volume.passes_keeps _ _ (c.words_for_slot.ensures.read.passed)).goes then c.plan_entries.ensures.goes

pub returns-clause-ends : goal.returns-clause-ends
returns-clause-ends g c = ends_by_after _ _ _ _ _ (vol_ends _ _ _ c.words_for_slot.ensures.read.ends).later (vol_ends _ _ _ c.in_ok-stored.ensures.read.ends).cause c.plan_entries.ensures.ends

pub returns-in_err-stored-clause-ends : goal.returns-in_err-stored-clause-ends
returns-in_err-stored-clause-ends g c =
    let p = err_from_is_err_and c.from_residual.result c.from_residual.ensures.1 in
    ends_vol_read _ _ c.words_for_slot.result c.from_residual.result _ _ c.in_err-stored.was p.1 p.2 (vol_ends _ _ _ c.words_for_slot.ensures.read.ends)

pub plan_entries-requires-clause-inode : goal.plan_entries-requires-clause-inode
plan_entries-requires-clause-inode g c = subst (λ (f : BlockWords). IsInode f c.args.dir.0 c.args.inode.now) (sym c.words_for_slot.ensures.read.looks.looks.words) c.requires.inode

pub returns-in_err-stored-clause-ok : goal.returns-in_err-stored-clause-ok
returns-in_err-stored-clause-ok g c = if_err c.from_residual.result _ c.from_residual.ensures.0

pub plan_entries-requires-clause-within : goal.plan_entries-requires-clause-within
plan_entries-requires-clause-within g c = one_within _ c.in_ok-stored.ensures.within

pub plan_entries-requires-clause-few : goal.plan_entries-requires-clause-few
plan_entries-requires-clause-few g c = omega arith

pub words_for_slot-requires-clause-can : goal.words_for_slot-requires-clause-can
words_for_slot-requires-clause-can g c = record { keeps = c.requires.sound; meets = c.requires.can }
