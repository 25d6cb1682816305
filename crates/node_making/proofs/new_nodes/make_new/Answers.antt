use Rattle.rio_base.proofs.Frames.{vol_ends}
use Rattle.request_ends.proofs.Failed.{never_ok}
use Rattle.request_ends.proofs.Common.{◌≡◌, ℕ, refl, sym, ap, subst, err_from_is_err_and, Ok, None, Some, inode_kind, ◌then◌, held_of, volume_layout, ReadsAs, LeavesInUse, with_new, NoneDone, Forgets, State}
use Rattle.directories.specs.Rows.{HasRow}
use Rattle.std.specs.Prelude.{is_err}
use Rattle.rio_model.specs.States.{least_free as least_of}
use Rattle.inode_table.specs.Inodes.{FindsFree}
use Rattle.rio_requests.specs.Answers.{make_new as make_new_of}
use Rattle.request_ends.specs.Ends.{SaysIno, SaysNumber}
use Rattle.node_making.specs.NewNodes.{node_made}
use Rattle.request_ends.specs.declared.failures.FileFail.TheVariants.{Refused}
use Rattle.request_ends.proofs.AnsweredAt.{ends_after, ends_look, ends_as, ends_handed, fails_vol}
use Rattle.request_ends.proofs.CallEnds.{after_well, ends_ok, ends_on, ends_refused, ends_vol, well, well_vol}
use Rattle.node_making.proofs.LeastFree.{least_none, least_some, leaves_found}
use Rattle.file_tree.proofs.MemoEnds.{new_next, none_same, step_failed, was_done}
use Rattle.file_tree.proofs.MemoSteps.{same_step, stay_new}
use Rattle.request_ends.proofs.Unchanged.{can_again}
use Rattle.node_making.proofs.new_nodes.make_new.Goals as goal

pub returns-in_err-i-clause-leaves : goal.returns-in_err-i-clause-leaves
returns-in_err-i-clause-leaves g c =
    let shape = c.args.shape.now in
    let x = g.V.Blocks.seen c.args.v.now in
    let k = g.V.Volume.kept c.args.v.now in
    let m = g.V.Blocks.seen c.least_free_past_full.new.v in
    let l = g.V.Volume.kept c.least_free_past_full.new.v in
    let leaves : LeavesInUse (volume_layout shape x.words) x k m l = leaves_found shape _ _ _ _ x m k l c.requires.can.ready c.least_free_past_full.ensures.read.looks.looks c.least_free_past_full.ensures.read.looks.has_shape c.least_free_past_full.ensures.caches (g.met.V.Volume.passes_keeps _ _ c.least_free_past_full.ensures.read.passed) in
    let dir = c.args.dir.0 in
    let name = c.args.name.now in
    let node = node_made c.args.node in
    let p = err_from_is_err_and c.from_residual.result c.from_residual.ensures.1 in
    λ s reads. ends_look SaysIno shape x k m l s (make_new_of s dir name node (least_of s)) (NoneDone s) c.from_residual.result _ p.0 p.1 p.2 c.requires.can.ready (g.met.V.Volume.settled _ c.requires.sound) leaves reads (refl, refl) (fails_vol s (make_new_of s dir name node (least_of s)) _)

pub returns-in_err-i-clause-goes : goal.returns-in_err-i-clause-goes
returns-in_err-i-clause-goes g c = (g.met.V.Volume.passes_keeps _ _ c.least_free_past_full.ensures.read.passed).goes

pub returns-in_err-i-clause-ends : goal.returns-in_err-i-clause-ends
returns-in_err-i-clause-ends g c =
    let p = err_from_is_err_and c.from_residual.result c.from_residual.ensures.1 in
    ends_vol _ _ c.least_free_past_full.result c.from_residual.result _ p.0 c.in_err-i.was p.1 p.2 (vol_ends _ _ _ c.least_free_past_full.ensures.read.ends)

pub returns-in_default-clause-leaves : goal.returns-in_default-clause-leaves
returns-in_default-clause-leaves g c =
    let shape = c.args.shape.now in
    let x = g.V.Blocks.seen c.args.v.now in
    let k = g.V.Volume.kept c.args.v.now in
    let m = g.V.Blocks.seen c.least_free_past_full.new.v in
    let l = g.V.Volume.kept c.least_free_past_full.new.v in
    let leaves : LeavesInUse (volume_layout shape x.words) x k m l = leaves_found shape _ _ _ _ x m k l c.requires.can.ready c.least_free_past_full.ensures.read.looks.looks c.least_free_past_full.ensures.read.looks.has_shape c.least_free_past_full.ensures.caches (g.met.V.Volume.passes_keeps _ _ c.least_free_past_full.ensures.read.passed) in
    let dir = c.args.dir.0 in
    let name = c.args.name.now in
    let node = node_made c.args.node in
    let used : FindsFree shape x.words None = rw c.in_default.is at c.in_ok-i.ensures.value in
    λ s reads. ends_look SaysIno shape x k m l s (make_new_of s dir name node (least_of s)) (NoneDone s) _ (Refused 12) (Refused 12) refl refl c.requires.can.ready (g.met.V.Volume.settled _ c.requires.sound) leaves reads (refl, refl) (ap (make_new_of s dir name node) (least_none shape x.words s reads used))

pub returns-in_default-clause-goes : goal.returns-in_default-clause-goes
returns-in_default-clause-goes g c = (g.met.V.Volume.passes_keeps _ _ c.least_free_past_full.ensures.read.passed).goes

pub returns-in_default-clause-ends : goal.returns-in_default-clause-ends
returns-in_default-clause-ends g c = ends_refused _ _ 12 (well_vol _ _ c.least_free_past_full.result _ c.in_ok-i.was (vol_ends _ _ _ c.least_free_past_full.ensures.read.ends))

pub make_node-requires-clause-can : goal.make_node-requires-clause-can
make_node-requires-clause-can g c =
    let shape = c.args.shape.now in
    let x = g.V.Blocks.seen c.args.v.now in
    let k = g.V.Volume.kept c.args.v.now in
    let m = g.V.Blocks.seen c.least_free_past_full.new.v in
    let l = g.V.Volume.kept c.least_free_past_full.new.v in
    let leaves : LeavesInUse (volume_layout shape x.words) x k m l = leaves_found shape _ _ _ _ x m k l c.requires.can.ready c.least_free_past_full.ensures.read.looks.looks c.least_free_past_full.ensures.read.looks.has_shape c.least_free_past_full.ensures.caches (g.met.V.Volume.passes_keeps _ _ c.least_free_past_full.ensures.read.passed) in
    can_again shape x k m l c.requires.can leaves c.least_free_past_full.ensures.read.looks.looks.words

pub make_node-requires-clause-dir : goal.make_node-requires-clause-dir
make_node-requires-clause-dir g c = subst (λ f. (held_of c.args.shape.now f c.args.dir.0).kind ≡ 1) (sym c.least_free_past_full.ensures.read.looks.looks.words) c.requires.dir

pub make_node-requires-clause-absent : goal.make_node-requires-clause-absent
make_node-requires-clause-absent g c = subst (λ f. (n : ℕ) → HasRow (held_of c.args.shape.now f c.args.dir.0) c.args.name.now n → ⊥) (sym c.least_free_past_full.ensures.read.looks.looks.words) c.requires.absent

pub make_node-requires-clause-ino : goal.make_node-requires-clause-ino
make_node-requires-clause-ino g c =
    let value : FindsFree c.args.shape.now (g.V.Blocks.seen c.args.v.now).words (Some c.in-Some.i) = rw c.in-Some.is at c.in_ok-i.ensures.value in
    value.0

pub make_node-requires-clause-free : goal.make_node-requires-clause-free
make_node-requires-clause-free g c =
    let value : FindsFree c.args.shape.now (g.V.Blocks.seen c.args.v.now).words (Some c.in-Some.i) = rw c.in-Some.is at c.in_ok-i.ensures.value in
    subst (λ f. inode_kind f c.in-Some.i.0 ≡ 0) (sym c.least_free_past_full.ensures.read.looks.looks.words) value.1

pub returns-in_err-make_node-clause-leaves : goal.returns-in_err-make_node-clause-leaves
returns-in_err-make_node-clause-leaves g c =
    let shape = c.args.shape.now in
    let x = g.V.Blocks.seen c.args.v.now in
    let k = g.V.Volume.kept c.args.v.now in
    let m = g.V.Blocks.seen c.least_free_past_full.new.v in
    let l = g.V.Volume.kept c.least_free_past_full.new.v in
    let leaves : LeavesInUse (volume_layout shape x.words) x k m l = leaves_found shape _ _ _ _ x m k l c.requires.can.ready c.least_free_past_full.ensures.read.looks.looks c.least_free_past_full.ensures.read.looks.has_shape c.least_free_past_full.ensures.caches (g.met.V.Volume.passes_keeps _ _ c.least_free_past_full.ensures.read.passed) in
    let dir = c.args.dir.0 in
    let name = c.args.name.now in
    let node = node_made c.args.node in
    let y = g.V.Blocks.seen c.make_node.new.v in
    let j = g.V.Volume.kept c.make_node.new.v in
    let i = c.in-Some.i.0 in
    let value : FindsFree c.args.shape.now (g.V.Blocks.seen c.args.v.now).words (Some c.in-Some.i) = rw c.in-Some.is at c.in_ok-i.ensures.value in
    let p = err_from_is_err_and c.from_residual-in_err-make_node.result c.from_residual-in_err-make_node.ensures.1 in
    λ s reads. ends_after SaysIno shape x k m l y j s (make_new_of s dir name node (least_of s)) (NoneDone s) c.from_residual-in_err-make_node.result leaves c.least_free_past_full.ensures.read.looks.looks.words
    (ends_as SaysIno shape m l y j s (make_new_of s dir name node (least_of s)) (make_new_of s dir name node (Some i)) (NoneDone s) c.from_residual-in_err-make_node.result (ap (make_new_of s dir name node) (least_some shape x.words s i reads value.0 value.1 value.2))
    (ends_handed (SaysNumber i) SaysIno shape m l y j s (make_new_of s dir name node (Some i)) (NoneDone s) c.make_node.result c.from_residual-in_err-make_node.result _ p.0 c.in_err-make_node.was p.1 p.2 (c.make_node.ensures.leaves s (subst (λ f. ReadsAs shape f s) (sym c.least_free_past_full.ensures.read.looks.looks.words) reads))))

pub returns-in_err-make_node-clause-goes : goal.returns-in_err-make_node-clause-goes
returns-in_err-make_node-clause-goes g c = (g.met.V.Volume.passes_keeps _ _ c.least_free_past_full.ensures.read.passed).goes then c.make_node.ensures.goes

pub returns-in_err-make_node-clause-ends : goal.returns-in_err-make_node-clause-ends
returns-in_err-make_node-clause-ends g c =
    let p = err_from_is_err_and c.from_residual-in_err-make_node.result c.from_residual-in_err-make_node.ensures.1 in
    after_well _ _ _ _ _ (well_vol _ _ c.least_free_past_full.result _ c.in_ok-i.was (vol_ends _ _ _ c.least_free_past_full.ensures.read.ends)) (ends_on _ _ c.make_node.result c.from_residual-in_err-make_node.result _ p.0 c.in_err-make_node.was p.1 p.2 c.make_node.ensures.ends)

pub returns-clause-leaves : goal.returns-clause-leaves
returns-clause-leaves g c =
    let shape = c.args.shape.now in
    let x = g.V.Blocks.seen c.args.v.now in
    let k = g.V.Volume.kept c.args.v.now in
    let m = g.V.Blocks.seen c.least_free_past_full.new.v in
    let l = g.V.Volume.kept c.least_free_past_full.new.v in
    let leaves : LeavesInUse (volume_layout shape x.words) x k m l = leaves_found shape _ _ _ _ x m k l c.requires.can.ready c.least_free_past_full.ensures.read.looks.looks c.least_free_past_full.ensures.read.looks.has_shape c.least_free_past_full.ensures.caches (g.met.V.Volume.passes_keeps _ _ c.least_free_past_full.ensures.read.passed) in
    let dir = c.args.dir.0 in
    let name = c.args.name.now in
    let node = node_made c.args.node in
    let y = g.V.Blocks.seen c.make_node.new.v in
    let j = g.V.Volume.kept c.make_node.new.v in
    let i = c.in-Some.i.0 in
    let value : FindsFree c.args.shape.now (g.V.Blocks.seen c.args.v.now).words (Some c.in-Some.i) = rw c.in-Some.is at c.in_ok-i.ensures.value in
    λ s reads. ends_after SaysIno shape x k m l y j s (make_new_of s dir name node (least_of s)) (NoneDone s) (Ok c.in-Some.i) leaves c.least_free_past_full.ensures.read.looks.looks.words
    (ends_as SaysIno shape m l y j s (make_new_of s dir name node (least_of s)) (make_new_of s dir name node (Some i)) (NoneDone s) (Ok c.in-Some.i) (ap (make_new_of s dir name node) (least_some shape x.words s i reads value.0 value.1 value.2))
    (c.in_ok-make_node.ensures.leaves s (subst (λ f. ReadsAs shape f s) (sym c.least_free_past_full.ensures.read.looks.looks.words) reads)))

pub returns-clause-forgets : goal.returns-clause-forgets
returns-clause-forgets g c =
    let shape = c.args.shape.now in
    let z = g.V.Blocks.seen c.make_node.new.v in
    subst (λ f. Forgets (volume_layout shape f) (volume_layout shape z.words) z) c.least_free_past_full.ensures.read.looks.looks.words c.in_ok-make_node.ensures.forgets

pub returns-clause-goes : goal.returns-clause-goes
returns-clause-goes g c = (g.met.V.Volume.passes_keeps _ _ c.least_free_past_full.ensures.read.passed).goes then c.make_node.ensures.goes

pub returns-clause-ends : goal.returns-clause-ends
returns-clause-ends g c = ends_ok _ _ _ (after_well _ _ _ _ _ (well_vol _ _ c.least_free_past_full.result _ c.in_ok-i.was (vol_ends _ _ _ c.least_free_past_full.ensures.read.ends)) (well _ _ c.make_node.result _ c.in_ok-make_node.was c.make_node.ensures.ends))

pub returns-in_err-i-clause-in_step : goal.returns-in_err-i-clause-in_step
returns-in_err-i-clause-in_step g c = λ on. same_step c.args.shape.now (g.V.Blocks.seen c.args.v.now).words _ _ c.least_free_past_full.ensures.read.looks.looks.words (record { names = c.requires.in_step.names; full = c.least_free_past_full.ensures.known; path = c.requires.in_step.path })

pub returns-in_default-clause-in_step : goal.returns-in_default-clause-in_step
returns-in_default-clause-in_step g c = λ on. same_step c.args.shape.now (g.V.Blocks.seen c.args.v.now).words _ _ c.least_free_past_full.ensures.read.looks.looks.words (record { names = c.requires.in_step.names; full = c.least_free_past_full.ensures.known; path = c.requires.in_step.path })

pub returns-in_err-make_node-clause-in_step : goal.returns-in_err-make_node-clause-in_step
returns-in_err-make_node-clause-in_step g c = λ on.
    let shape = c.args.shape.now in
    let x = g.V.Blocks.seen c.args.v.now in
    let k = g.V.Volume.kept c.args.v.now in
    let y = g.V.Blocks.seen c.make_node.new.v in
    let j = g.V.Volume.kept c.make_node.new.v in
    let s = c.requires.can.state in
    let reads = c.requires.can.reads in
    let p = err_from_is_err_and c.from_residual-in_err-make_node.result c.from_residual-in_err-make_node.ensures.1 in
    step_failed SaysIno shape x k y j s (make_new_of s c.args.dir.0 c.args.name.now (node_made c.args.node) (least_of s)) (NoneDone s) _ c.from_residual-in_err-make_node.result (ap is_err p.1) (record { names = c.requires.in_step.names; full = c.least_free_past_full.ensures.known; path = c.requires.in_step.path }) reads (none_same s) (returns-in_err-make_node-clause-leaves g c s reads) on

pub returns-clause-in_step : goal.returns-clause-in_step
returns-clause-in_step g c = λ on.
    let shape = c.args.shape.now in
    let x = g.V.Blocks.seen c.args.v.now in
    let m = g.V.Blocks.seen c.least_free_past_full.new.v in
    let l = g.V.Volume.kept c.least_free_past_full.new.v in
    let y = g.V.Blocks.seen c.make_node.new.v in
    let j = g.V.Volume.kept c.make_node.new.v in
    let s = c.requires.can.state in
    let reads = c.requires.can.reads in
    let d = c.args.dir.0 in
    let name = c.args.name.now in
    let i = c.in-Some.i.0 in
    let node = node_made c.args.node in
    let same = c.least_free_past_full.ensures.read.looks.looks.words in
    let done = was_done (SaysNumber i) shape m l y j s (make_new_of s d name node (Some i)) (NoneDone s) c.make_node.result (ap is_err c.in_ok-make_node.was) (c.make_node.ensures.leaves s (subst (λ f. ReadsAs shape f s) (sym same) reads)) in
    c.made.ensures shape x.words y.words s (with_new s d name i node) (record { names = c.requires.in_step.names; full = c.least_free_past_full.ensures.known; path = c.requires.in_step.path }) reads
    (subst (λ (t : State). ReadsAs shape y.words t) (new_next s d name i node done.reply done.told done.said) done.reads) refl (stay_new s d name i node)

pub returns-in_err-i-clause-forgets : goal.returns-in_err-i-clause-forgets
returns-in_err-i-clause-forgets g c = let p = err_from_is_err_and c.from_residual.result c.from_residual.ensures.1 in never_ok _ _ p.0 p.1

pub returns-in_err-make_node-clause-forgets : goal.returns-in_err-make_node-clause-forgets
returns-in_err-make_node-clause-forgets g c = let p = err_from_is_err_and c.from_residual-in_err-make_node.result c.from_residual-in_err-make_node.ensures.1 in never_ok _ _ p.0 p.1

pub least_free_past_full-requires-clause-can : goal.least_free_past_full-requires-clause-can
least_free_past_full-requires-clause-can g c = record { keeps = c.requires.sound; meets = c.requires.can.ready.order.has_shape }
