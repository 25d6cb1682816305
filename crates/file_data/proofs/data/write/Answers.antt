use Rattle.request_ends.proofs.Reading.{can_read, file_served}
use Rattle.request_ends.proofs.Common.{◌≡◌, refl, sym, ap, subst, inl, err_from_is_err_and, ◌then◌, held_of, names_of, walk, ReadsAs}
use Rattle.rio_requests.specs.Parts.{WriteDone}
use Rattle.std.proofs.Common.{Ok}
use Rattle.rio_requests.specs.Answers.{write as write_of, write_file}
use Rattle.request_ends.specs.Ends.{SaysCount}
use Rattle.request_ends.proofs.AnsweredAt.{ends_after, ends_look}
use Rattle.file_data.proofs.BytesAnswered.{fails_file, write_ends_err, write_ends_ok}
use Rattle.request_ends.proofs.CallEnds.{after_well, ends_ok, ends_on, ends_write, well, well_write}
use Rattle.inode_table.specs.Inodes.{IsInode}
use Rattle.file_tree.specs.Walks.{ino_in}
use Rattle.file_data.proofs.MemoData.{write_parts, write_same}
use Rattle.file_tree.proofs.MemoEnds.{step_untold}
use Rattle.file_tree.proofs.MemoSteps.{same_step}
use Rattle.file_data.proofs.data.write.Goals as goal

pub returns-in_err-i-clause-leaves : goal.returns-in_err-i-clause-leaves
returns-in_err-i-clause-leaves g c =
    let path = c.args.path.now in
    let bytes = c.args.bytes.now in
    let p = err_from_is_err_and c.from_residual.result c.from_residual.ensures.1 in
    λ s reads. ends_look SaysCount c.args.shape.now (g.V.Blocks.seen c.args.v.now) (g.V.Volume.kept c.args.v.now) (g.V.Blocks.seen c.walk_to_file.new.v) (g.V.Volume.kept c.walk_to_file.new.v) s (write_of s path c.args.off bytes) (WriteDone s path c.args.off bytes (write_of s path c.args.off bytes)) c.from_residual.result _ p.0 p.1 p.2
    c.requires.can.ready (g.met.V.Volume.settled _ c.requires.sound) (file_served g.met.V.Volume.passes_keeps c.requires.can c.walk_to_file.ensures.read).leaves reads (inl (refl, refl))
    (fails_file s (walk s 1 (names_of path)) (λ i. write_file s c.args.off bytes i) (ino_in c.walk_to_file.result) _ (ap ino_in c.in_err-i.was) (c.walk_to_file.ensures.value s reads))

pub returns-in_err-i-clause-ends : goal.returns-in_err-i-clause-ends
returns-in_err-i-clause-ends g c =
    let p = err_from_is_err_and c.from_residual.result c.from_residual.ensures.1 in
    ends_on _ _ c.walk_to_file.result c.from_residual.result _ p.0 c.in_err-i.was p.1 p.2 c.walk_to_file.ensures.read.ends

pub write_at_inode-requires-clause-inode : goal.write_at_inode-requires-clause-inode
write_at_inode-requires-clause-inode g c = subst (λ f. IsInode f c.in_ok-i.i.0 c.in_ok-i.inode) (sym c.walk_to_file.ensures.read.looks.looks.words) c.in_ok-i.ensures.inode

pub write_at_inode-requires-clause-file : goal.write_at_inode-requires-clause-file
write_at_inode-requires-clause-file g c = subst (λ f. (held_of c.args.shape.now f c.in_ok-i.i.0).kind ≡ 2) (sym c.walk_to_file.ensures.read.looks.looks.words) c.in_ok-i.ensures.file

pub returns-in_err-count-clause-leaves : goal.returns-in_err-count-clause-leaves
returns-in_err-count-clause-leaves g c =
    let shape = c.args.shape.now in
    let path = c.args.path.now in
    let off = c.args.off in
    let bytes = c.args.bytes.now in
    let m = g.V.Blocks.seen c.walk_to_file.new.v in
    let l = g.V.Volume.kept c.walk_to_file.new.v in
    let y = g.V.Blocks.seen c.write_at_inode.new.v in
    let j = g.V.Volume.kept c.write_at_inode.new.v in
    let i = c.in_ok-i.i.0 in
    let way = c.walk_to_file.ensures in
    let call = c.write_at_inode.ensures in
    let p = err_from_is_err_and c.from_residual-in_err-count.result c.from_residual-in_err-count.ensures.1 in
    λ s reads. ends_after SaysCount shape (g.V.Blocks.seen c.args.v.now) (g.V.Volume.kept c.args.v.now) m l y j s (write_of s path off bytes) (WriteDone s path off bytes (write_of s path off bytes)) c.from_residual-in_err-count.result (file_served g.met.V.Volume.passes_keeps c.requires.can way.read).leaves way.read.looks.looks.words
    (write_ends_err shape m l y j s path off bytes i c.write_at_inode.result c.from_residual-in_err-count.result _ p.0 c.in_err-count.was p.1 p.2
    (subst (λ f. ReadsAs shape f s) (sym way.read.looks.looks.words) reads) (c.in_ok-i.ensures.value s reads) (subst (λ f. (held_of shape f i).kind ≡ 2) (sym way.read.looks.looks.words) c.in_ok-i.ensures.file)
    (record { value = call.value; ok = call.ok; space = call.space; too_large = call.too_large; no_space = call.no_space; refused = call.refused; fault = call.fault; stopped = call.stopped; ready = call.ready }))

pub returns-in_err-count-clause-goes : goal.returns-in_err-count-clause-goes
returns-in_err-count-clause-goes g c = (g.met.V.Volume.passes_keeps _ _ c.walk_to_file.ensures.read.passed).goes then c.write_at_inode.ensures.goes

pub returns-in_err-count-clause-ends : goal.returns-in_err-count-clause-ends
returns-in_err-count-clause-ends g c =
    let p = err_from_is_err_and c.from_residual-in_err-count.result c.from_residual-in_err-count.ensures.1 in
    after_well _ _ _ _ _ (well _ _ c.walk_to_file.result _ c.in_ok-i.was c.walk_to_file.ensures.read.ends) (ends_write _ _ c.write_at_inode.result c.from_residual-in_err-count.result _ p.0 c.in_err-count.was p.1 p.2 c.write_at_inode.ensures.ends)

pub returns-clause-leaves : goal.returns-clause-leaves
returns-clause-leaves g c =
    let shape = c.args.shape.now in
    let path = c.args.path.now in
    let off = c.args.off in
    let bytes = c.args.bytes.now in
    let m = g.V.Blocks.seen c.walk_to_file.new.v in
    let l = g.V.Volume.kept c.walk_to_file.new.v in
    let y = g.V.Blocks.seen c.write_at_inode.new.v in
    let j = g.V.Volume.kept c.write_at_inode.new.v in
    let i = c.in_ok-i.i.0 in
    let way = c.walk_to_file.ensures in
    let call = c.write_at_inode.ensures in
    λ s reads. ends_after SaysCount shape (g.V.Blocks.seen c.args.v.now) (g.V.Volume.kept c.args.v.now) m l y j s (write_of s path off bytes) (WriteDone s path off bytes (write_of s path off bytes)) (Ok c.in_ok-count.count) (file_served g.met.V.Volume.passes_keeps c.requires.can way.read).leaves way.read.looks.looks.words
    (write_ends_ok shape m l y j s path off bytes i _ c.write_at_inode.result c.in_ok-count.was
    (subst (λ f. ReadsAs shape f s) (sym way.read.looks.looks.words) reads) (c.in_ok-i.ensures.value s reads) (subst (λ f. (held_of shape f i).kind ≡ 2) (sym way.read.looks.looks.words) c.in_ok-i.ensures.file)
    (record { value = call.value; ok = call.ok; space = call.space; too_large = call.too_large; no_space = call.no_space; refused = call.refused; fault = call.fault; stopped = call.stopped; ready = call.ready }))

pub returns-clause-goes : goal.returns-clause-goes
returns-clause-goes g c = (g.met.V.Volume.passes_keeps _ _ c.walk_to_file.ensures.read.passed).goes then c.write_at_inode.ensures.goes

pub returns-clause-ends : goal.returns-clause-ends
returns-clause-ends g c = ends_ok _ _ _ (after_well _ _ _ _ _ (well _ _ c.walk_to_file.result _ c.in_ok-i.was c.walk_to_file.ensures.read.ends) (well_write _ _ c.write_at_inode.result _ c.in_ok-count.was c.write_at_inode.ensures.ends))

pub returns-in_err-i-clause-in_step : goal.returns-in_err-i-clause-in_step
returns-in_err-i-clause-in_step g c = λ on. same_step c.args.shape.now _ _ _ (c.walk_to_file.ensures.read.looks.looks.words) c.walk_to_file.ensures.in_step

pub returns-in_err-count-clause-in_step : goal.returns-in_err-count-clause-in_step
returns-in_err-count-clause-in_step g c = λ on.
    let shape = c.args.shape.now in
    let x = g.V.Blocks.seen c.args.v.now in
    let k = g.V.Volume.kept c.args.v.now in
    let y = g.V.Blocks.seen c.write_at_inode.new.v in
    let j = g.V.Volume.kept c.write_at_inode.new.v in
    let s = c.requires.can.state in
    let reads = c.requires.can.reads in
    step_untold SaysCount shape x k y j s (write_of s c.args.path.now c.args.off c.args.bytes.now) (WriteDone s c.args.path.now c.args.off c.args.bytes.now (write_of s c.args.path.now c.args.off c.args.bytes.now)) c.walk_to_file.new.memo c.from_residual-in_err-count.result c.walk_to_file.ensures.in_step reads (write_parts s c.args.path.now c.args.off c.args.bytes.now (write_of s c.args.path.now c.args.off c.args.bytes.now)) (write_same s c.args.path.now c.args.off c.args.bytes.now) (returns-in_err-count-clause-leaves g c s reads) on

pub returns-clause-in_step : goal.returns-clause-in_step
returns-clause-in_step g c = λ on.
    let shape = c.args.shape.now in
    let x = g.V.Blocks.seen c.args.v.now in
    let k = g.V.Volume.kept c.args.v.now in
    let y = g.V.Blocks.seen c.write_at_inode.new.v in
    let j = g.V.Volume.kept c.write_at_inode.new.v in
    let s = c.requires.can.state in
    let reads = c.requires.can.reads in
    step_untold SaysCount shape x k y j s (write_of s c.args.path.now c.args.off c.args.bytes.now) (WriteDone s c.args.path.now c.args.off c.args.bytes.now (write_of s c.args.path.now c.args.off c.args.bytes.now)) c.walk_to_file.new.memo (Ok c.in_ok-count.count) c.walk_to_file.ensures.in_step reads (write_parts s c.args.path.now c.args.off c.args.bytes.now (write_of s c.args.path.now c.args.off c.args.bytes.now)) (write_same s c.args.path.now c.args.off c.args.bytes.now) (returns-clause-leaves g c s reads) on

pub walk_to_file-requires-clause-can : goal.walk_to_file-requires-clause-can
walk_to_file-requires-clause-can g c = can_read c.requires.sound c.requires.can

pub returns-in_err-i-clause-goes : goal.returns-in_err-i-clause-goes
returns-in_err-i-clause-goes g c = (g.met.V.Volume.passes_keeps _ _ c.walk_to_file.ensures.read.passed).goes

pub write_at_inode-requires-clause-ready : goal.write_at_inode-requires-clause-ready
write_at_inode-requires-clause-ready g c = (file_served g.met.V.Volume.passes_keeps c.requires.can c.walk_to_file.ensures.read).can.ready
