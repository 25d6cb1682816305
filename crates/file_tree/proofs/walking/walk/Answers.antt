use Rattle.rio_base.proofs.Frames.{read_none}
use Rattle.rio_model.proofs.NamedReading.{named_refl}
use Rattle.request_ends.proofs.Reading.{file_value, file_ok, file_on}
use Rattle.request_ends.proofs.Failed.{never_some}
use Rattle.request_ends.proofs.Common.{arith, names_of, walk, err_from_is_err_and}
use Rattle.file_tree.proofs.LookedAt.{comes_handed}
use Rattle.file_tree.proofs.FreeFound.{root_held}
use Rattle.file_tree.proofs.WalksHeld.{walked_used}
use Rattle.file_tree.proofs.walking.walk.Goals as goal

pub returns-in_err-i-clause-value : goal.returns-in_err-i-clause-value
returns-in_err-i-clause-value g c =
    let p = err_from_is_err_and c.from_residual.result c.from_residual.ensures.1 in
    λ s reads. comes_handed (walk s 1 (names_of c.args.path.now)) c.walk_names.result c.from_residual.result _ p.0 c.in_err-i.was p.1 p.2 (c.walk_names.ensures.value s reads)

pub returns-in-Some-clause-used : goal.returns-in-Some-clause-used
returns-in-Some-clause-used g c =
    let shape = c.args.shape.now in
    let f = (g.V.Blocks.seen c.args.v.now).words in
    let s = c.requires.can.meets.state in
    let reads = c.requires.can.meets.reads in
    let root = root_held shape f c.requires.can.meets.reads.mapped in
    walked_used shape f s 1 c.in-Some.i.0 (names_of c.args.path.now) reads (omega (arith, root)) (c.in-Some.ensures s (c.requires.in_step.path s reads))

pub returns-clause-in_step : goal.returns-clause-in_step
returns-clause-in_step g c = record {
  names = c.walk_names.ensures.in_step.names;
  full = c.walk_names.ensures.in_step.full;
  path = λ s reads. c.keep.ensures s (c.walk_names.ensures.in_step.path s reads) (c.in_ok-i.ensures.value s reads);
}

pub returns-in-Some-clause-value : goal.returns-in-Some-clause-value
returns-in-Some-clause-value g c = λ s reads. c.in-Some.ensures s (c.requires.in_step.path s reads)

pub returns-in_err-i-clause-used : goal.returns-in_err-i-clause-used
returns-in_err-i-clause-used g c = let p = err_from_is_err_and c.from_residual.result c.from_residual.ensures.1 in never_some _ _ p.0 p.1

pub returns-in_err-i-clause-read : goal.returns-in_err-i-clause-read
returns-in_err-i-clause-read g c = file_on c.walk_names.result c.from_residual.result c.in_err-i.was c.from_residual.ensures.1 c.walk_names.ensures.read

pub returns-in-Some-clause-read : goal.returns-in-Some-clause-read
returns-in-Some-clause-read g c = file_value _ (read_none (g.met.V.Blocks.passes_refl _) (named_refl c.args.shape.now _ c.requires.can.meets.has_shape c.requires.can.meets.named) c.requires.can.keeps)

pub returns-clause-read : goal.returns-clause-read
returns-clause-read g c = file_value _ (file_ok c.walk_names.result _ c.in_ok-i.was c.walk_names.ensures.read)

pub walk_names-requires-clause-can : goal.walk_names-requires-clause-can
walk_names-requires-clause-can g c = c.requires.can
