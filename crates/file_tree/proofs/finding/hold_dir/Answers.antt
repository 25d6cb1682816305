use Rattle.rio_base.proofs.Frames.{read_none}
use Rattle.rio_model.proofs.NamedReading.{named_refl}
use Rattle.request_ends.proofs.Reading.{file_value, file_ok, file_on}
use Rattle.request_ends.proofs.Common.{refl, err_from_is_err_and}
use Rattle.file_tree.proofs.LookedAt.{unrefused_on}
use Rattle.file_tree.proofs.MemoSteps.{closed_step, rows_are}
use Rattle.file_tree.proofs.finding.hold_dir.Goals as goal

pub returns-in_err-all-clause-other : goal.returns-in_err-all-clause-other
returns-in_err-all-clause-other g c =
    let p = err_from_is_err_and c.from_residual.result c.from_residual.ensures.1 in
    unrefused_on 0 _ c.put_names.result c.from_residual.result _ p.0 c.in_err-all.was p.1 p.2 c.put_names.ensures.other

pub returns-then-not-all-clause-in_step : goal.returns-then-not-all-clause-in_step
returns-then-not-all-clause-in_step g c = closed_step c.args.shape.now (g.V.Blocks.seen c.args.v.now).words c.args.memo.now _ c.close.ensures refl refl c.requires.in_step

pub returns-clause-in_step : goal.returns-clause-in_step
returns-clause-in_step g c =
    let shape = c.args.shape.now in
    let f = (g.V.Blocks.seen c.args.v.now).words in
    let d = c.args.dir.0 in
    record {
      names = λ s reads. c.hold.ensures s.names (c.requires.in_step.names s reads) (rows_are shape f s d _ reads c.requires.dir (c.in_ok-all.ensures.all c.if-not-all.false));
      full = c.requires.in_step.full;
      path = c.requires.in_step.path;
    }

pub returns-then-has-clause-read : goal.returns-then-has-clause-read
returns-then-has-clause-read g c = file_value _ (read_none (g.met.V.Blocks.passes_refl _) (named_refl c.args.shape.now _ c.requires.can.meets.has_shape c.requires.can.meets.named) c.requires.can.keeps)

pub returns-in_default-clause-read : goal.returns-in_default-clause-read
returns-in_default-clause-read g c = file_value _ (read_none (g.met.V.Blocks.passes_refl _) (named_refl c.args.shape.now _ c.requires.can.meets.has_shape c.requires.can.meets.named) c.requires.can.keeps)

pub returns-in_err-all-clause-read : goal.returns-in_err-all-clause-read
returns-in_err-all-clause-read g c = file_on c.put_names.result c.from_residual.result c.in_err-all.was c.from_residual.ensures.1 c.put_names.ensures.read

pub returns-then-not-all-clause-read : goal.returns-then-not-all-clause-read
returns-then-not-all-clause-read g c = file_value _ (file_ok c.put_names.result _ c.in_ok-all.was c.put_names.ensures.read)

pub returns-clause-read : goal.returns-clause-read
returns-clause-read g c = file_value _ (file_ok c.put_names.result _ c.in_ok-all.was c.put_names.ensures.read)

pub put_names-requires-clause-can : goal.put_names-requires-clause-can
put_names-requires-clause-can g c = c.requires.can
