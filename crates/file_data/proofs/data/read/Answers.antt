use Rattle.request_ends.proofs.Reading.{can_read, file_served}
use Rattle.request_ends.proofs.Common.{◌≡◌, refl, sym, ap, subst, err_from_is_err_and, held_of, names_of, walk, answered, ◌then◌, NoneDone, ◌∙◌}
use Rattle.file_pages.specs.Files.{file_bytes}
use Rattle.rio_requests.specs.declared.reply.Reply.TheVariants.{Bytes}
use Rattle.rio_model.specs.States.{bytes_from}
use Rattle.std.specs.Prelude.{drop, take}
use Rattle.rio_requests.specs.Answers.{read as read_of}
use Rattle.request_ends.specs.Ends.{SaysBytes}
use Rattle.request_ends.proofs.AnsweredAt.{ends_answered, ends_look, fails_read}
use Rattle.file_data.proofs.BytesAnswered.{fails_file, read_answer}
use Rattle.request_ends.proofs.CallEnds.{after_well, ends_ok, ends_on, ends_read, well, well_read}
use Rattle.file_tree.proofs.MemoSteps.{same_step}
use Rattle.request_ends.proofs.Unchanged.{leaves_read, leaves_then}
use Rattle.inode_table.specs.Inodes.{IsInode}
use Rattle.file_tree.specs.Walks.{ino_in}
use Rattle.file_data.proofs.data.read.Goals as goal

pub returns-in_err-i-clause-leaves : goal.returns-in_err-i-clause-leaves
returns-in_err-i-clause-leaves g c =
    let path = c.args.path.now in
    let way = c.walk_to_file in
    let p = err_from_is_err_and c.from_residual.result c.from_residual.ensures.1 in
    λ s reads. ends_look SaysBytes c.args.shape.now (g.V.Blocks.seen c.args.v.now) (g.V.Volume.kept c.args.v.now) (g.V.Blocks.seen way.new.v) (g.V.Volume.kept way.new.v) s (read_of s path c.args.off c.args.len) (NoneDone s) c.from_residual.result _ p.0 p.1 p.2
    c.requires.can.ready (g.met.V.Volume.settled _ c.requires.sound) (file_served g.met.V.Volume.passes_keeps c.requires.can way.ensures.read).leaves reads (refl, refl)
    (fails_file s (walk s 1 (names_of path)) (λ i old. answered s (Bytes (bytes_from old c.args.off c.args.len))) (ino_in way.result) _ (ap ino_in c.in_err-i.was) (way.ensures.value s reads))

pub returns-in_err-i-clause-ends : goal.returns-in_err-i-clause-ends
returns-in_err-i-clause-ends g c =
    let p = err_from_is_err_and c.from_residual.result c.from_residual.ensures.1 in
    ends_on _ _ c.walk_to_file.result c.from_residual.result _ p.0 c.in_err-i.was p.1 p.2 c.walk_to_file.ensures.read.ends

pub read_at_inode-requires-clause-inode : goal.read_at_inode-requires-clause-inode
read_at_inode-requires-clause-inode g c = subst (λ f. IsInode f c.in_ok-i.i.0 c.in_ok-i.inode) (sym c.walk_to_file.ensures.read.looks.looks.words) c.in_ok-i.ensures.inode

pub read_at_inode-requires-clause-file : goal.read_at_inode-requires-clause-file
read_at_inode-requires-clause-file g c = subst (λ f. (held_of c.args.shape.now f c.in_ok-i.i.0).kind ≡ 2) (sym c.walk_to_file.ensures.read.looks.looks.words) c.in_ok-i.ensures.file

pub returns-in_err-bytes-clause-leaves : goal.returns-in_err-bytes-clause-leaves
returns-in_err-bytes-clause-leaves g c =
    let shape = c.args.shape.now in
    let x = g.V.Blocks.seen c.args.v.now in
    let k = g.V.Volume.kept c.args.v.now in
    let y = g.V.Blocks.seen c.read_at_inode.new.v in
    let j = g.V.Volume.kept c.read_at_inode.new.v in
    let way = c.walk_to_file.ensures in
    let call = c.read_at_inode.ensures in
    let leaves = leaves_then shape x k _ _ y j (file_served g.met.V.Volume.passes_keeps c.requires.can way.read).leaves way.read.looks.looks.words (leaves_read shape _ _ _ _ _ _ _ _ (file_served g.met.V.Volume.passes_keeps c.requires.can way.read).can.ready call.looks call.shape call.named (g.met.V.Volume.passes_keeps _ _ call.passes)) in
    let fail = c.from_residual-in_err-bytes in
    let p = err_from_is_err_and fail.result fail.ensures.1 in
    λ s reads. ends_look SaysBytes shape x k y j s (read_of s c.args.path.now c.args.off c.args.len) (NoneDone s) fail.result _ p.0 p.1 p.2
    c.requires.can.ready (g.met.V.Volume.settled _ c.requires.sound) leaves reads (refl, refl) (fails_read s (read_of s c.args.path.now c.args.off c.args.len) _)

pub returns-in_err-bytes-clause-goes : goal.returns-in_err-bytes-clause-goes
returns-in_err-bytes-clause-goes g c = (g.met.V.Volume.passes_keeps _ _ c.walk_to_file.ensures.read.passed).goes then (g.met.V.Volume.passes_keeps _ _ c.read_at_inode.ensures.passes).goes

pub returns-in_err-bytes-clause-ends : goal.returns-in_err-bytes-clause-ends
returns-in_err-bytes-clause-ends g c =
    let p = err_from_is_err_and c.from_residual-in_err-bytes.result c.from_residual-in_err-bytes.ensures.1 in
    after_well _ _ _ _ _ (well _ _ c.walk_to_file.result _ c.in_ok-i.was c.walk_to_file.ensures.read.ends) (ends_read _ _ c.read_at_inode.result c.from_residual-in_err-bytes.result _ p.0 c.in_err-bytes.was p.1 p.2 c.read_at_inode.ensures.ends)

pub returns-clause-leaves : goal.returns-clause-leaves
returns-clause-leaves g c =
    let shape = c.args.shape.now in
    let x = g.V.Blocks.seen c.args.v.now in
    let k = g.V.Volume.kept c.args.v.now in
    let y = g.V.Blocks.seen c.read_at_inode.new.v in
    let j = g.V.Volume.kept c.read_at_inode.new.v in
    let way = c.walk_to_file.ensures in
    let call = c.read_at_inode.ensures in
    let leaves = leaves_then shape x k _ _ y j (file_served g.met.V.Volume.passes_keeps c.requires.can way.read).leaves way.read.looks.looks.words (leaves_read shape _ _ _ _ _ _ _ _ (file_served g.met.V.Volume.passes_keeps c.requires.can way.read).can.ready call.looks call.shape call.named (g.met.V.Volume.passes_keeps _ _ call.passes)) in
    let path = c.args.path.now in
    let off = c.args.off in
    let len = c.args.len in
    let i = c.in_ok-i.i.0 in
    let bytes = c.in_ok-bytes.bytes in
    let value = subst (λ f. bytes ≡ take len (drop off (file_bytes shape f i))) way.read.looks.looks.words c.in_ok-bytes.ensures.value in
    λ s reads. ends_answered SaysBytes _ shape x k y j s (read_of s path off len) _ (NoneDone s) c.requires.can.ready leaves reads
    (read_answer shape x.words s path off len i _ reads (c.in_ok-i.ensures.value s reads) c.in_ok-i.ensures.file value) refl

pub returns-clause-goes : goal.returns-clause-goes
returns-clause-goes g c = (g.met.V.Volume.passes_keeps _ _ c.walk_to_file.ensures.read.passed).goes then (g.met.V.Volume.passes_keeps _ _ c.read_at_inode.ensures.passes).goes

pub returns-clause-ends : goal.returns-clause-ends
returns-clause-ends g c = ends_ok _ _ _ (after_well _ _ _ _ _ (well _ _ c.walk_to_file.result _ c.in_ok-i.was c.walk_to_file.ensures.read.ends) (well_read _ _ c.read_at_inode.result _ c.in_ok-bytes.was c.read_at_inode.ensures.ends))

pub returns-in_err-i-clause-in_step : goal.returns-in_err-i-clause-in_step
returns-in_err-i-clause-in_step g c = λ on. same_step c.args.shape.now _ _ _ (c.walk_to_file.ensures.read.looks.looks.words) c.walk_to_file.ensures.in_step

pub returns-in_err-bytes-clause-in_step : goal.returns-in_err-bytes-clause-in_step
returns-in_err-bytes-clause-in_step g c = λ on. same_step c.args.shape.now _ _ _ (c.read_at_inode.ensures.looks.words ∙ c.walk_to_file.ensures.read.looks.looks.words) c.walk_to_file.ensures.in_step

pub returns-clause-in_step : goal.returns-clause-in_step
returns-clause-in_step g c = λ on. same_step c.args.shape.now _ _ _ (c.read_at_inode.ensures.looks.words ∙ c.walk_to_file.ensures.read.looks.looks.words) c.walk_to_file.ensures.in_step

pub walk_to_file-requires-clause-can : goal.walk_to_file-requires-clause-can
walk_to_file-requires-clause-can g c = can_read c.requires.sound c.requires.can

pub returns-in_err-i-clause-goes : goal.returns-in_err-i-clause-goes
returns-in_err-i-clause-goes g c = (g.met.V.Volume.passes_keeps _ _ c.walk_to_file.ensures.read.passed).goes

pub read_at_inode-requires-clause-mapped : goal.read_at_inode-requires-clause-mapped
read_at_inode-requires-clause-mapped g c = (file_served g.met.V.Volume.passes_keeps c.requires.can c.walk_to_file.ensures.read).can.ready.order.mapped

pub read_at_inode-requires-clause-named : goal.read_at_inode-requires-clause-named
read_at_inode-requires-clause-named g c = (file_served g.met.V.Volume.passes_keeps c.requires.can c.walk_to_file.ensures.read).can.ready.order.named
