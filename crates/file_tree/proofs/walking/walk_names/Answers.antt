use Rattle.rio_base.proofs.Frames.{read_none, can_on, read_then}
use Rattle.rio_model.proofs.NamedReading.{named_refl, named_trans}
use Rattle.request_ends.proofs.Reading.{file_value, file_ok, file_on, reads_on}
use Rattle.request_ends.proofs.Failed.{never_some}
use Rattle.request_ends.proofs.Common.{◌<◌, arith, refl, sym, subst, ◌∙◌, err_from_is_err_and, held_of, ReadsAs}
use Rattle.file_tree.proofs.LookedAt.{comes_same}
use Rattle.file_tree.proofs.MemoSteps.{same_step}
use Rattle.file_tree.proofs.FreeFound.{root_held}
use Rattle.file_tree.proofs.WalkedOn.{left_fails, left_next, left_none}
use Rattle.file_tree.proofs.walking.walk_names.Goals as goal

pub loop-at-init : goal.loop-at-init
loop-at-init g c =
    let shape = c.args.shape.now in
    let x = g.V.Blocks.seen c.args.v.now in
    let root = root_held shape x.words c.requires.can.meets.reads.mapped in
    record {
      from = omega arith;
      walked = λ s reads. refl;
      used = omega (arith, root);
      read = read_none (g.met.V.Blocks.passes_refl _) (named_refl c.args.shape.now _ c.requires.can.meets.has_shape c.requires.can.meets.named) c.requires.can.keeps;
      in_step = c.requires.in_step;
    }

pub step-requires-clause-used : goal.step-requires-clause-used
step-requires-clause-used g c = subst (λ f. 0 < (held_of c.args.shape.now f c.loop-at.i.0).kind) (sym c.loop-at.invariant.read.looks.looks.words) c.loop-at.invariant.used

pub returns-in_err-i-clause-value : goal.returns-in_err-i-clause-value
returns-in_err-i-clause-value g c =
    let shape = c.args.shape.now in
    let inv = c.loop-at.invariant in
    let cut = c.name_end-end.ensures in
    let p = err_from_is_err_and c.from_residual.result c.from_residual.ensures.1 in
    λ s reads. comes_same _ _ c.from_residual.result (inv.walked s reads)
    (left_fails s c.args.path.now c.loop-at.i.0 c.loop-at.at c.name_end-end.result c.step.result c.from_residual.result _ p.0 c.loop-at-test.true cut.from cut.lacks cut.ended c.in_err-i.was p.1 p.2
    (c.step.ensures.value s (subst (λ f. ReadsAs shape f s) (sym inv.read.looks.looks.words) reads)))

pub loop-at-preserved : goal.loop-at-preserved
loop-at-preserved g c =
    let shape = c.args.shape.now in
    let x = g.V.Blocks.seen c.args.v.now in
    let inv = c.loop-at.invariant in
    let cut = c.name_end-end.ensures in
    let call = c.step.ensures in
    let now = c.in_ok-i in
    record {
      from = omega arith;
      walked = λ s reads. inv.walked s reads ∙ left_next s c.args.path.now c.loop-at.i.0 now.i.0 c.loop-at.at c.name_end-end.result c.loop-at-test.true cut.from cut.lacks cut.ended (now.ensures.value s (subst (λ f. ReadsAs shape f s) (sym inv.read.looks.looks.words) reads));
      used = subst (λ f. 0 < (held_of shape f now.i.0).kind) inv.read.looks.looks.words now.ensures.used;
      read = read_then g.met.V.Blocks.passes_trans (named_trans c.args.shape.now) c.loop-at.invariant.read (file_ok c.step.result _ c.in_ok-i.was c.step.ensures.read);
      in_step = same_step shape _ _ _ (sym inv.read.looks.looks.words) call.in_step;
    }

pub returns-clause-value : goal.returns-clause-value
returns-clause-value g c = λ s reads. c.loop-at.invariant.walked s reads ∙ left_none s c.args.path.now c.loop-at.i.0 c.loop-at.at (omega (arith, c.loop-at-test.false))

pub step-requires-clause-in_step : goal.step-requires-clause-in_step
step-requires-clause-in_step g c = same_step c.args.shape.now _ _ _ c.loop-at.invariant.read.looks.looks.words c.loop-at.invariant.in_step

pub returns-in_err-i-clause-in_step : goal.returns-in_err-i-clause-in_step
returns-in_err-i-clause-in_step g c = same_step c.args.shape.now _ _ _ (sym c.loop-at.invariant.read.looks.looks.words) c.step.ensures.in_step

pub returns-in_err-i-clause-used : goal.returns-in_err-i-clause-used
returns-in_err-i-clause-used g c = let p = err_from_is_err_and c.from_residual.result c.from_residual.ensures.1 in never_some _ _ p.0 p.1

pub returns-in_err-i-clause-read : goal.returns-in_err-i-clause-read
returns-in_err-i-clause-read g c = read_then g.met.V.Blocks.passes_trans (named_trans c.args.shape.now) c.loop-at.invariant.read (file_on c.step.result c.from_residual.result c.in_err-i.was c.from_residual.ensures.1 c.step.ensures.read)

pub returns-clause-read : goal.returns-clause-read
returns-clause-read g c = file_value _ c.loop-at.invariant.read

pub step-requires-clause-can : goal.step-requires-clause-can
step-requires-clause-can g c = can_on c.loop-at.invariant.read (reads_on c.args.shape.now _ _ c.requires.can.meets)
