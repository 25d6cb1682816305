use Rattle.request_ends.proofs.Reading.{can_read, file_served}
use Rattle.request_ends.proofs.Common.{◌≡◌, refl, sym, subst, err_from_is_err_and, held_of, names_of, walk_to_dir, answered, names_in, ◌then◌, NoneDone, ◌∙◌}
use Rattle.directories.specs.Rows.{ListsNames}
use Rattle.rio_requests.specs.declared.reply.Reply.TheVariants.{Names as NamesOf}
use Rattle.rio_requests.specs.Answers.{list as list_of}
use Rattle.request_ends.specs.Ends.{SaysNames}
use Rattle.request_ends.proofs.AnsweredAt.{ends_answered, ends_look, fails_read}
use Rattle.file_tree.proofs.LookedAt.{fails_walk}
use Rattle.node_making.proofs.NamesListed.{list_answer}
use Rattle.request_ends.proofs.CallEnds.{after_well, ends_ok, ends_on, ends_read, well, well_read}
use Rattle.file_tree.proofs.MemoSteps.{same_step}
use Rattle.request_ends.proofs.Unchanged.{leaves_read, leaves_then}
use Rattle.node_making.proofs.looking.list.Goals as goal

pub returns-in_err-dir-clause-leaves : goal.returns-in_err-dir-clause-leaves
returns-in_err-dir-clause-leaves g c =
    let path = c.args.path.now in
    let way = c.walk_to_dir in
    let p = err_from_is_err_and c.from_residual.result c.from_residual.ensures.1 in
    λ s reads. ends_look SaysNames c.args.shape.now (g.V.Blocks.seen c.args.v.now) (g.V.Volume.kept c.args.v.now) (g.V.Blocks.seen way.new.v) (g.V.Volume.kept way.new.v) s (list_of s path) (NoneDone s) c.from_residual.result _ p.0 p.1 p.2
    c.requires.can.ready (g.met.V.Volume.settled _ c.requires.sound) (file_served g.met.V.Volume.passes_keeps c.requires.can way.ensures.read).leaves reads (refl, refl)
    (fails_walk s (walk_to_dir s (names_of path)) (λ n. answered s (NamesOf (names_in s n))) way.result _ c.in_err-dir.was (way.ensures.value s reads))

pub returns-in_err-dir-clause-ends : goal.returns-in_err-dir-clause-ends
returns-in_err-dir-clause-ends g c =
    let p = err_from_is_err_and c.from_residual.result c.from_residual.ensures.1 in
    ends_on _ _ c.walk_to_dir.result c.from_residual.result _ p.0 c.in_err-dir.was p.1 p.2 c.walk_to_dir.ensures.read.ends

pub names-requires-clause-dir : goal.names-requires-clause-dir
names-requires-clause-dir g c = subst (λ f. (held_of c.args.shape.now f c.in_ok-dir.dir.0).kind ≡ 1) (sym c.walk_to_dir.ensures.read.looks.looks.words) c.in_ok-dir.ensures.dir

pub returns-in_err-list-clause-leaves : goal.returns-in_err-list-clause-leaves
returns-in_err-list-clause-leaves g c =
    let shape = c.args.shape.now in
    let x = g.V.Blocks.seen c.args.v.now in
    let k = g.V.Volume.kept c.args.v.now in
    let y = g.V.Blocks.seen c.names.new.v in
    let j = g.V.Volume.kept c.names.new.v in
    let way = c.walk_to_dir.ensures in
    let call = c.names.ensures in
    let leaves = leaves_then shape x k _ _ y j (file_served g.met.V.Volume.passes_keeps c.requires.can way.read).leaves way.read.looks.looks.words (leaves_read shape _ _ _ _ _ _ _ _ (file_served g.met.V.Volume.passes_keeps c.requires.can way.read).can.ready call.read.looks.looks call.read.looks.has_shape call.read.looks.named (g.met.V.Volume.passes_keeps _ _ call.read.passed)) in
    let fail = c.from_residual-in_err-list in
    let p = err_from_is_err_and fail.result fail.ensures.1 in
    λ s reads. ends_look SaysNames shape x k y j s (list_of s c.args.path.now) (NoneDone s) fail.result _ p.0 p.1 p.2
    c.requires.can.ready (g.met.V.Volume.settled _ c.requires.sound) leaves reads (refl, refl) (fails_read s (list_of s c.args.path.now) _)

pub returns-in_err-list-clause-goes : goal.returns-in_err-list-clause-goes
returns-in_err-list-clause-goes g c = (g.met.V.Volume.passes_keeps _ _ c.walk_to_dir.ensures.read.passed).goes then (g.met.V.Volume.passes_keeps _ _ c.names.ensures.read.passed).goes

pub returns-in_err-list-clause-ends : goal.returns-in_err-list-clause-ends
returns-in_err-list-clause-ends g c =
    let p = err_from_is_err_and c.from_residual-in_err-list.result c.from_residual-in_err-list.ensures.1 in
    after_well _ _ _ _ _ (well _ _ c.walk_to_dir.result _ c.in_ok-dir.was c.walk_to_dir.ensures.read.ends) (ends_read _ _ c.names.result c.from_residual-in_err-list.result _ p.0 c.in_err-list.was p.1 p.2 c.names.ensures.read.ends)

pub returns-clause-leaves : goal.returns-clause-leaves
returns-clause-leaves g c =
    let shape = c.args.shape.now in
    let x = g.V.Blocks.seen c.args.v.now in
    let k = g.V.Volume.kept c.args.v.now in
    let y = g.V.Blocks.seen c.names.new.v in
    let j = g.V.Volume.kept c.names.new.v in
    let way = c.walk_to_dir.ensures in
    let call = c.names.ensures in
    let leaves = leaves_then shape x k _ _ y j (file_served g.met.V.Volume.passes_keeps c.requires.can way.read).leaves way.read.looks.looks.words (leaves_read shape _ _ _ _ _ _ _ _ (file_served g.met.V.Volume.passes_keeps c.requires.can way.read).can.ready call.read.looks.looks call.read.looks.has_shape call.read.looks.named (g.met.V.Volume.passes_keeps _ _ call.read.passed)) in
    let path = c.args.path.now in
    let dir = c.in_ok-dir.dir.0 in
    let value = subst (λ f. ListsNames (held_of shape f dir) c.in_ok-list.list) way.read.looks.looks.words c.in_ok-list.ensures.value in
    λ s reads. ends_answered SaysNames _ shape x k y j s (list_of s path) _ (NoneDone s) c.requires.can.ready leaves reads
    (list_answer shape x.words s path dir _ reads (c.in_ok-dir.ensures.value s reads) c.in_ok-dir.ensures.dir value) refl

pub returns-clause-goes : goal.returns-clause-goes
returns-clause-goes g c = (g.met.V.Volume.passes_keeps _ _ c.walk_to_dir.ensures.read.passed).goes then (g.met.V.Volume.passes_keeps _ _ c.names.ensures.read.passed).goes

pub returns-clause-ends : goal.returns-clause-ends
returns-clause-ends g c = ends_ok _ _ _ (after_well _ _ _ _ _ (well _ _ c.walk_to_dir.result _ c.in_ok-dir.was c.walk_to_dir.ensures.read.ends) (well_read _ _ c.names.result _ c.in_ok-list.was c.names.ensures.read.ends))

pub returns-in_err-dir-clause-in_step : goal.returns-in_err-dir-clause-in_step
returns-in_err-dir-clause-in_step g c = λ on. same_step c.args.shape.now _ _ _ (c.walk_to_dir.ensures.read.looks.looks.words) c.walk_to_dir.ensures.in_step

pub returns-in_err-list-clause-in_step : goal.returns-in_err-list-clause-in_step
returns-in_err-list-clause-in_step g c = λ on. same_step c.args.shape.now _ _ _ (c.names.ensures.read.looks.looks.words ∙ c.walk_to_dir.ensures.read.looks.looks.words) c.walk_to_dir.ensures.in_step

pub returns-clause-in_step : goal.returns-clause-in_step
returns-clause-in_step g c = λ on. same_step c.args.shape.now _ _ _ (c.names.ensures.read.looks.looks.words ∙ c.walk_to_dir.ensures.read.looks.looks.words) c.walk_to_dir.ensures.in_step

pub walk_to_dir-requires-clause-can : goal.walk_to_dir-requires-clause-can
walk_to_dir-requires-clause-can g c = can_read c.requires.sound c.requires.can

pub returns-in_err-dir-clause-goes : goal.returns-in_err-dir-clause-goes
returns-in_err-dir-clause-goes g c = (g.met.V.Volume.passes_keeps _ _ c.walk_to_dir.ensures.read.passed).goes

pub names-requires-clause-can : goal.names-requires-clause-can
names-requires-clause-can g c = let can = (file_served g.met.V.Volume.passes_keeps c.requires.can c.walk_to_dir.ensures.read).can in record { keeps = c.walk_to_dir.ensures.read.keeps; meets = record { has_shape = can.ready.order.has_shape; mapped = can.ready.order.mapped; named = can.ready.order.named; entries = can.reads.entries } }
