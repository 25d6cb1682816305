use Rattle.request_ends.proofs.Reading.{can_read, file_served}
use Rattle.request_ends.proofs.Failed.{never_some}
use Rattle.request_ends.proofs.Common.{err_from_is_err_and}
use Rattle.request_ends.proofs.CallEnds.{ends_ok, ends_on, well}
use Rattle.node_making.proofs.RegionFound.{found_on, memory_on}
use Rattle.file_store.proofs.alone.region_of.Goals as goal

pub returns-in_err-i-clause-found : goal.returns-in_err-i-clause-found
returns-in_err-i-clause-found g c =
    let p = err_from_is_err_and c.from_residual.result c.from_residual.ensures.1 in
    λ s reads. found_on s c.args.path.now c.region_at.result c.from_residual.result _ p.0 c.in_err-i.was p.1 p.2 (c.region_at.ensures.found s reads)

pub returns-in_err-i-clause-memory : goal.returns-in_err-i-clause-memory
returns-in_err-i-clause-memory g c =
    let p = err_from_is_err_and c.from_residual.result c.from_residual.ensures.1 in
    memory_on c.region_at.result c.from_residual.result _ p.0 c.in_err-i.was p.1 p.2 c.region_at.ensures.memory

pub returns-in_err-i-clause-ends : goal.returns-in_err-i-clause-ends
returns-in_err-i-clause-ends g c =
    let p = err_from_is_err_and c.from_residual.result c.from_residual.ensures.1 in
    ends_on _ _ c.region_at.result c.from_residual.result _ p.0 c.in_err-i.was p.1 p.2 c.region_at.ensures.read.ends

pub returns-clause-found : goal.returns-clause-found
returns-clause-found g c = λ s reads. c.in_ok-i.ensures.found s reads

pub returns-clause-ends : goal.returns-clause-ends
returns-clause-ends g c = ends_ok _ _ _ (well _ _ c.region_at.result _ c.in_ok-i.was c.region_at.ensures.read.ends)

pub region_at-requires-clause-in_step : goal.region_at-requires-clause-in_step
region_at-requires-clause-in_step g c = c.none-memo.ensures _ _

pub returns-in_err-i-clause-region : goal.returns-in_err-i-clause-region
returns-in_err-i-clause-region g c = let p = err_from_is_err_and c.from_residual.result c.from_residual.ensures.1 in never_some _ _ p.0 p.1

pub returns-in_err-i-clause-ino : goal.returns-in_err-i-clause-ino
returns-in_err-i-clause-ino g c = let p = err_from_is_err_and c.from_residual.result c.from_residual.ensures.1 in never_some _ _ p.0 p.1

pub region_at-requires-clause-can : goal.region_at-requires-clause-can
region_at-requires-clause-can g c = can_read c.requires.sound c.requires.can

pub returns-in_err-i-clause-goes : goal.returns-in_err-i-clause-goes
returns-in_err-i-clause-goes g c = (g.met.V.Volume.passes_keeps _ _ c.region_at.ensures.read.passed).goes

pub returns-in_err-i-clause-words : goal.returns-in_err-i-clause-words
returns-in_err-i-clause-words g c = c.region_at.ensures.read.looks.looks.words

pub returns-in_err-i-clause-can : goal.returns-in_err-i-clause-can
returns-in_err-i-clause-can g c = (file_served g.met.V.Volume.passes_keeps c.requires.can c.region_at.ensures.read).can

pub returns-in_err-i-clause-leaves : goal.returns-in_err-i-clause-leaves
returns-in_err-i-clause-leaves g c = (file_served g.met.V.Volume.passes_keeps c.requires.can c.region_at.ensures.read).leaves

pub returns-clause-goes : goal.returns-clause-goes
returns-clause-goes g c = (g.met.V.Volume.passes_keeps _ _ c.region_at.ensures.read.passed).goes

pub returns-clause-words : goal.returns-clause-words
returns-clause-words g c = c.region_at.ensures.read.looks.looks.words

pub returns-clause-can : goal.returns-clause-can
returns-clause-can g c = (file_served g.met.V.Volume.passes_keeps c.requires.can c.region_at.ensures.read).can

pub returns-clause-leaves : goal.returns-clause-leaves
returns-clause-leaves g c = (file_served g.met.V.Volume.passes_keeps c.requires.can c.region_at.ensures.read).leaves
