use Rattle.request_ends.proofs.Reading.{can_read, file_served}
use Rattle.request_ends.proofs.Common.{◌≡◌, refl, sym, ap, subst, err_from_is_err_and, ◌then◌, held_of, names_of, walk, ReadsAs, File, answered, with_node, NoneDone, volume_layout, Forgets}
use Rattle.rio_model.specs.FileParts.{resized}
use Rattle.std.proofs.Common.{Ok}
use Rattle.rio_requests.specs.declared.reply.Reply.TheVariants.{Ok as Done}
use Rattle.std.specs.Prelude.{length}
use Rattle.rio_requests.specs.Answers.{truncate as truncate_of, with_size}
use Rattle.request_ends.specs.Ends.{SaysDone}
use Rattle.request_ends.proofs.AnsweredAt.{ends_after, ends_look}
use Rattle.file_data.proofs.BytesAnswered.{fails_file, size_ends_err, size_ends_ok}
use Rattle.request_ends.proofs.CallEnds.{after_well, ends_ok, ends_on, ends_size, well, well_size}
use Rattle.inode_table.specs.Inodes.{IsInode}
use Rattle.file_tree.specs.Walks.{ino_in}
use Rattle.file_data.proofs.MemoData.{truncate_same}
use Rattle.file_tree.proofs.MemoEnds.{none_same, step_untold}
use Rattle.file_tree.proofs.MemoSteps.{same_step}
use Rattle.file_data.proofs.data.truncate.Goals as goal

pub returns-in_err-i-clause-leaves : goal.returns-in_err-i-clause-leaves
returns-in_err-i-clause-leaves g c =
    let path = c.args.path.now in
    let len = c.args.len in
    let p = err_from_is_err_and c.from_residual.result c.from_residual.ensures.1 in
    λ s reads. ends_look SaysDone c.args.shape.now (g.V.Blocks.seen c.args.v.now) (g.V.Volume.kept c.args.v.now) (g.V.Blocks.seen c.walk_to_file.new.v) (g.V.Volume.kept c.walk_to_file.new.v) s (truncate_of s path len) (NoneDone s) c.from_residual.result _ p.0 p.1 p.2
    c.requires.can.ready (g.met.V.Volume.settled _ c.requires.sound) (file_served g.met.V.Volume.passes_keeps c.requires.can c.walk_to_file.ensures.read).leaves reads (refl, refl)
    (fails_file s (walk s 1 (names_of path)) (λ i old. with_size s (length old) len (answered (with_node s i (File (resized old len))) Done)) (ino_in c.walk_to_file.result) _ (ap ino_in c.in_err-i.was) (c.walk_to_file.ensures.value s reads))

pub returns-in_err-i-clause-ends : goal.returns-in_err-i-clause-ends
returns-in_err-i-clause-ends g c =
    let p = err_from_is_err_and c.from_residual.result c.from_residual.ensures.1 in
    ends_on _ _ c.walk_to_file.result c.from_residual.result _ p.0 c.in_err-i.was p.1 p.2 c.walk_to_file.ensures.read.ends

pub resize_at_inode-requires-clause-inode : goal.resize_at_inode-requires-clause-inode
resize_at_inode-requires-clause-inode g c = subst (λ f. IsInode f c.in_ok-i.i.0 c.in_ok-i.inode) (sym c.walk_to_file.ensures.read.looks.looks.words) c.in_ok-i.ensures.inode

pub resize_at_inode-requires-clause-file : goal.resize_at_inode-requires-clause-file
resize_at_inode-requires-clause-file g c = subst (λ f. (held_of c.args.shape.now f c.in_ok-i.i.0).kind ≡ 2) (sym c.walk_to_file.ensures.read.looks.looks.words) c.in_ok-i.ensures.file

pub returns-in_err-resize_at_inode-clause-leaves : goal.returns-in_err-resize_at_inode-clause-leaves
returns-in_err-resize_at_inode-clause-leaves g c =
    let shape = c.args.shape.now in
    let path = c.args.path.now in
    let len = c.args.len in
    let m = g.V.Blocks.seen c.walk_to_file.new.v in
    let l = g.V.Volume.kept c.walk_to_file.new.v in
    let y = g.V.Blocks.seen c.resize_at_inode.new.v in
    let j = g.V.Volume.kept c.resize_at_inode.new.v in
    let i = c.in_ok-i.i.0 in
    let way = c.walk_to_file.ensures in
    let call = c.resize_at_inode.ensures in
    let p = err_from_is_err_and c.from_residual-in_err-resize_at_inode.result c.from_residual-in_err-resize_at_inode.ensures.1 in
    λ s reads. ends_after {T = Unit {0}} SaysDone shape (g.V.Blocks.seen c.args.v.now) (g.V.Volume.kept c.args.v.now) m l y j s (truncate_of s path len) (NoneDone s) c.from_residual-in_err-resize_at_inode.result (file_served g.met.V.Volume.passes_keeps c.requires.can way.read).leaves way.read.looks.looks.words
    (size_ends_err shape m l y j s path i len c.resize_at_inode.result c.from_residual-in_err-resize_at_inode.result _ p.0 c.in_err-resize_at_inode.was p.1 p.2
    (subst (λ f. ReadsAs shape f s) (sym way.read.looks.looks.words) reads) (c.in_ok-i.ensures.value s reads) (subst (λ f. (held_of shape f i).kind ≡ 2) (sym way.read.looks.looks.words) c.in_ok-i.ensures.file)
    (record { ok = call.ok; space = call.space; too_large = call.too_large; no_space = call.no_space; refused = call.refused; fault = call.fault; stopped = call.stopped; ready = call.ready }))

pub returns-in_err-resize_at_inode-clause-goes : goal.returns-in_err-resize_at_inode-clause-goes
returns-in_err-resize_at_inode-clause-goes g c = (g.met.V.Volume.passes_keeps _ _ c.walk_to_file.ensures.read.passed).goes then c.resize_at_inode.ensures.goes

pub returns-in_err-resize_at_inode-clause-ends : goal.returns-in_err-resize_at_inode-clause-ends
returns-in_err-resize_at_inode-clause-ends g c =
    let p = err_from_is_err_and c.from_residual-in_err-resize_at_inode.result c.from_residual-in_err-resize_at_inode.ensures.1 in
    after_well _ _ _ _ _ (well _ _ c.walk_to_file.result _ c.in_ok-i.was c.walk_to_file.ensures.read.ends) (ends_size _ _ c.resize_at_inode.result c.from_residual-in_err-resize_at_inode.result _ p.0 c.in_err-resize_at_inode.was p.1 p.2 c.resize_at_inode.ensures.ends)

pub returns-clause-leaves : goal.returns-clause-leaves
returns-clause-leaves g c =
    let shape = c.args.shape.now in
    let path = c.args.path.now in
    let len = c.args.len in
    let m = g.V.Blocks.seen c.walk_to_file.new.v in
    let l = g.V.Volume.kept c.walk_to_file.new.v in
    let y = g.V.Blocks.seen c.resize_at_inode.new.v in
    let j = g.V.Volume.kept c.resize_at_inode.new.v in
    let i = c.in_ok-i.i.0 in
    let way = c.walk_to_file.ensures in
    let call = c.resize_at_inode.ensures in
    λ s reads. ends_after {T = Unit {0}} SaysDone shape (g.V.Blocks.seen c.args.v.now) (g.V.Volume.kept c.args.v.now) m l y j s (truncate_of s path len) (NoneDone s) (Ok tt) (file_served g.met.V.Volume.passes_keeps c.requires.can way.read).leaves way.read.looks.looks.words
    (size_ends_ok shape m l y j s path i len c.resize_at_inode.result _ tt c.in_ok-resize_at_inode.was
    (subst (λ f. ReadsAs shape f s) (sym way.read.looks.looks.words) reads) (c.in_ok-i.ensures.value s reads) (subst (λ f. (held_of shape f i).kind ≡ 2) (sym way.read.looks.looks.words) c.in_ok-i.ensures.file)
    (record { ok = call.ok; space = call.space; too_large = call.too_large; no_space = call.no_space; refused = call.refused; fault = call.fault; stopped = call.stopped; ready = call.ready }))

pub returns-clause-forgets : goal.returns-clause-forgets
returns-clause-forgets g c =
    let shape = c.args.shape.now in
    let z = g.V.Blocks.seen c.resize_at_inode.new.v in
    subst (λ f. Forgets (volume_layout shape f) (volume_layout shape z.words) z) c.walk_to_file.ensures.read.looks.looks.words c.in_ok-resize_at_inode.ensures.forgets

pub returns-clause-goes : goal.returns-clause-goes
returns-clause-goes g c = (g.met.V.Volume.passes_keeps _ _ c.walk_to_file.ensures.read.passed).goes then c.resize_at_inode.ensures.goes

pub returns-clause-ends : goal.returns-clause-ends
returns-clause-ends g c = ends_ok _ _ _ (after_well _ _ _ _ _ (well _ _ c.walk_to_file.result _ c.in_ok-i.was c.walk_to_file.ensures.read.ends) (well_size _ _ c.resize_at_inode.result _ c.in_ok-resize_at_inode.was c.resize_at_inode.ensures.ends))

pub returns-in_err-i-clause-in_step : goal.returns-in_err-i-clause-in_step
returns-in_err-i-clause-in_step g c = λ on. same_step c.args.shape.now _ _ _ (c.walk_to_file.ensures.read.looks.looks.words) c.walk_to_file.ensures.in_step

pub returns-in_err-resize_at_inode-clause-in_step : goal.returns-in_err-resize_at_inode-clause-in_step
returns-in_err-resize_at_inode-clause-in_step g c = λ on.
    let shape = c.args.shape.now in
    let x = g.V.Blocks.seen c.args.v.now in
    let k = g.V.Volume.kept c.args.v.now in
    let y = g.V.Blocks.seen c.resize_at_inode.new.v in
    let j = g.V.Volume.kept c.resize_at_inode.new.v in
    let s = c.requires.can.state in
    let reads = c.requires.can.reads in
    step_untold SaysDone shape x k y j s (truncate_of s c.args.path.now c.args.len) (NoneDone s) c.walk_to_file.new.memo c.from_residual-in_err-resize_at_inode.result c.walk_to_file.ensures.in_step reads (none_same s) (truncate_same s c.args.path.now c.args.len) (returns-in_err-resize_at_inode-clause-leaves g c s reads) on

pub returns-clause-in_step : goal.returns-clause-in_step
returns-clause-in_step g c = λ on.
    let shape = c.args.shape.now in
    let x = g.V.Blocks.seen c.args.v.now in
    let k = g.V.Volume.kept c.args.v.now in
    let y = g.V.Blocks.seen c.resize_at_inode.new.v in
    let j = g.V.Volume.kept c.resize_at_inode.new.v in
    let s = c.requires.can.state in
    let reads = c.requires.can.reads in
    step_untold {T = Unit {0}} SaysDone shape x k y j s (truncate_of s c.args.path.now c.args.len) (NoneDone s) c.walk_to_file.new.memo (Ok tt) c.walk_to_file.ensures.in_step reads (none_same s) (truncate_same s c.args.path.now c.args.len) (returns-clause-leaves g c s reads) on

pub walk_to_file-requires-clause-can : goal.walk_to_file-requires-clause-can
walk_to_file-requires-clause-can g c = can_read c.requires.sound c.requires.can

pub returns-in_err-i-clause-goes : goal.returns-in_err-i-clause-goes
returns-in_err-i-clause-goes g c = (g.met.V.Volume.passes_keeps _ _ c.walk_to_file.ensures.read.passed).goes

pub resize_at_inode-requires-clause-ready : goal.resize_at_inode-requires-clause-ready
resize_at_inode-requires-clause-ready g c = (file_served g.met.V.Volume.passes_keeps c.requires.can c.walk_to_file.ensures.read).can.ready
