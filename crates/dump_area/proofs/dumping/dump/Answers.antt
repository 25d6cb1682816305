use Rattle.std.proofs.Common.{◌∙◌, Err, ap, arith, refl}
use Rattle.std.proofs.lemmas.Result.{err_from_is_err_and}
use Rattle.rio_base.proofs.Exits.{none_ok}
use Rattle.rio_base.proofs.MachineRules.{never}
use Rattle.rio_base.specs.declared.failures.DiskFail.TheVariants.{Stopped}
use Rattle.dump_area.specs.declared.failures.DumpFail.TheVariants.{Fault as DumpFault, Stopped as DumpStopped}
use Rattle.dump_area.proofs.Holding.{front_held, front_only, mixed_keeps, mixed_none, mixed_only, same_then}
use Rattle.dump_area.proofs.StepRuns.{goes_as, goes_told, goes_then}
use Rattle.dump_area.proofs.dumping.dump.Goals as goal

-- ---- block 0 is not shut

pub returns-in_err-shut-clause-never_mixed : goal.returns-in_err-shut-clause-never_mixed
returns-in_err-shut-clause-never_mixed g c = mixed_keeps c.args.words.now (g.D.DumpBlocks.contents c.args.d.now).blocks (g.D.DumpBlocks.contents c.shut.new.d) c.shut.ensures.held

pub returns-in_err-shut-clause-settled : goal.returns-in_err-shut-clause-settled
returns-in_err-shut-clause-settled g c =
    let p = err_from_is_err_and c.from_residual.result c.from_residual.ensures.1 in
    none_ok _ p.0 _ p.1

pub returns-in_err-shut-clause-held : goal.returns-in_err-shut-clause-held
returns-in_err-shut-clause-held g c =
    let p = err_from_is_err_and c.from_residual.result c.from_residual.ensures.1 in
    none_ok _ p.0 _ p.1

pub returns-in_err-shut-clause-zeros : goal.returns-in_err-shut-clause-zeros
returns-in_err-shut-clause-zeros g c =
    let p = err_from_is_err_and c.from_residual.result c.from_residual.ensures.1 in
    none_ok _ p.0 _ p.1

pub returns-in_err-shut-clause-goes : goal.returns-in_err-shut-clause-goes
returns-in_err-shut-clause-goes g c =
    let p = err_from_is_err_and c.from_residual.result c.from_residual.ensures.1 in
    goes_told _ _ _ _ _ _ _ _ _ _ (p.1 ∙ ap Err p.2) (omega arith) (omega arith) c.in_err-shut.ensures.goes

-- ---- the pages are not written

pub put_pages-requires-clause-blocks : goal.put_pages-requires-clause-blocks
put_pages-requires-clause-blocks g c = omega (arith, c.requires.blocks, c.shut.ensures.disk.count)

pub put_pages-requires-clause-shut : goal.put_pages-requires-clause-shut
put_pages-requires-clause-shut g c = record { settled = c.in_ok-shut.ensures.settled 0; shut = c.in_ok-shut.ensures.shut }

pub returns-in_err-put_pages-clause-never_mixed : goal.returns-in_err-put_pages-clause-never_mixed
returns-in_err-put_pages-clause-never_mixed g c = mixed_none c.args.words.now (g.D.DumpBlocks.contents c.args.d.now).blocks (g.D.DumpBlocks.contents c.put_pages.new.d) c.put_pages.ensures.none

pub returns-in_err-put_pages-clause-disk : goal.returns-in_err-put_pages-clause-disk
returns-in_err-put_pages-clause-disk g c = same_then _ _ _ c.shut.ensures.disk c.put_pages.ensures.disk

pub returns-in_err-put_pages-clause-settled : goal.returns-in_err-put_pages-clause-settled
returns-in_err-put_pages-clause-settled g c =
    let p = err_from_is_err_and c.from_residual-in_err-put_pages.result c.from_residual-in_err-put_pages.ensures.1 in
    none_ok _ p.0 _ p.1

pub returns-in_err-put_pages-clause-held : goal.returns-in_err-put_pages-clause-held
returns-in_err-put_pages-clause-held g c =
    let p = err_from_is_err_and c.from_residual-in_err-put_pages.result c.from_residual-in_err-put_pages.ensures.1 in
    none_ok _ p.0 _ p.1

pub returns-in_err-put_pages-clause-zeros : goal.returns-in_err-put_pages-clause-zeros
returns-in_err-put_pages-clause-zeros g c =
    let p = err_from_is_err_and c.from_residual-in_err-put_pages.result c.from_residual-in_err-put_pages.ensures.1 in
    none_ok _ p.0 _ p.1

pub returns-in_err-put_pages-clause-goes : goal.returns-in_err-put_pages-clause-goes
returns-in_err-put_pages-clause-goes g c =
    let p = err_from_is_err_and c.from_residual-in_err-put_pages.result c.from_residual-in_err-put_pages.ensures.1 in
    goes_told _ _ _ _ _ _ _ _ _ _ (p.1 ∙ ap Err p.2) (omega arith) (omega arith) (goes_then _ _ _ _ _ _ _ _ _ _ _ _ _ _ _ _ refl (never _ Stopped) c.in_ok-shut.ensures.goes c.in_err-put_pages.ensures.goes)

-- ---- block 0 is not opened

pub put_front-requires-clause-block : goal.put_front-requires-clause-block
put_front-requires-clause-block g c = omega (arith, c.requires.blocks, c.shut.ensures.disk.count, c.put_pages.ensures.disk.count)

pub returns-in_err-put_front-clause-never_mixed : goal.returns-in_err-put_front-clause-never_mixed
returns-in_err-put_front-clause-never_mixed g c = mixed_only c.args.words.now (g.D.DumpBlocks.contents c.args.d.now).blocks (g.D.DumpBlocks.contents c.put_front.new.d) (front_only _ _ _ c.requires.image c.in_ok-put_pages.ensures.words c.put_front.ensures.others)

pub returns-in_err-put_front-clause-disk : goal.returns-in_err-put_front-clause-disk
returns-in_err-put_front-clause-disk g c = same_then _ _ _ c.shut.ensures.disk (same_then _ _ _ c.put_pages.ensures.disk c.put_front.ensures.others.disk)

pub returns-in_err-put_front-clause-settled : goal.returns-in_err-put_front-clause-settled
returns-in_err-put_front-clause-settled g c =
    let p = err_from_is_err_and c.from_residual-in_err-put_front.result c.from_residual-in_err-put_front.ensures.1 in
    none_ok _ p.0 _ p.1

pub returns-in_err-put_front-clause-held : goal.returns-in_err-put_front-clause-held
returns-in_err-put_front-clause-held g c =
    let p = err_from_is_err_and c.from_residual-in_err-put_front.result c.from_residual-in_err-put_front.ensures.1 in
    none_ok _ p.0 _ p.1

pub returns-in_err-put_front-clause-zeros : goal.returns-in_err-put_front-clause-zeros
returns-in_err-put_front-clause-zeros g c =
    let p = err_from_is_err_and c.from_residual-in_err-put_front.result c.from_residual-in_err-put_front.ensures.1 in
    none_ok _ p.0 _ p.1

pub returns-in_err-put_front-clause-goes : goal.returns-in_err-put_front-clause-goes
returns-in_err-put_front-clause-goes g c =
    let p = err_from_is_err_and c.from_residual-in_err-put_front.result c.from_residual-in_err-put_front.ensures.1 in
    goes_told _ _ _ _ _ _ _ _ _ _ (p.1 ∙ ap Err p.2) (omega arith) (omega arith)
    (goes_then _ _ _ _ _ _ _ _ _ _ _ _ _ _ _ _ refl (never _ Stopped) c.in_ok-shut.ensures.goes (goes_then _ _ _ _ _ _ _ _ _ _ _ _ _ _ _ _ refl (never _ Stopped) c.in_ok-put_pages.ensures.goes c.in_err-put_front.ensures.goes))

-- ---- all is done

pub returns-clause-never_mixed : goal.returns-clause-never_mixed
returns-clause-never_mixed g c = mixed_only c.args.words.now (g.D.DumpBlocks.contents c.args.d.now).blocks (g.D.DumpBlocks.contents c.put_front.new.d) (front_only _ _ _ c.requires.image c.in_ok-put_pages.ensures.words c.put_front.ensures.others)

pub returns-clause-held : goal.returns-clause-held
returns-clause-held g c = front_held _ _ _ c.requires.image (omega (arith, c.requires.blocks, c.shut.ensures.disk.count, c.put_pages.ensures.disk.count)) c.in_ok-put_pages.ensures.words c.put_front.ensures.others c.in_ok-put_front.ensures.first

pub returns-clause-disk : goal.returns-clause-disk
returns-clause-disk g c = same_then _ _ _ c.shut.ensures.disk (same_then _ _ _ c.put_pages.ensures.disk c.put_front.ensures.others.disk)

pub returns-clause-goes : goal.returns-clause-goes
returns-clause-goes g c =
    goes_as _ _ _ _ _ _ _ _ _ _ _ _ _ _ (omega arith) (λ u. (refl, omega arith)) (omega arith) (λ e. absurd (never _ DumpFault e)) (λ e. absurd (never _ DumpStopped e)) (λ e. absurd (never _ Stopped e))
    (goes_then _ _ _ _ _ _ _ _ _ _ _ _ _ _ _ _ refl (never _ Stopped) c.in_ok-shut.ensures.goes (goes_then _ _ _ _ _ _ _ _ _ _ _ _ _ _ _ _ refl (never _ Stopped) c.in_ok-put_pages.ensures.goes c.in_ok-put_front.ensures.goes))
