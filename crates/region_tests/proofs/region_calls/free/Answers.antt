use Rattle.std.specs.Prelude.{IsErrOf}
use Rattle.region_tests.specs.TestRegions.{Sound}
use Rattle.vista_region.specs.declared.failures.TxnFail.TheVariants.{Stopped}
use Rattle.region_tests.proofs.TestTables.{on_ok, still}
use Rattle.region_tests.proofs.region_calls.free.Goals as goal

pub returns-clause-sound : goal.returns-clause-sound
returns-clause-sound g c =
    let call = c.release-answer.ensures in
    let n = g.R.RegionWords.count c.args.r.now in
    let f = g.R.RegionWords.words c.args.r.now in
    let m = g.R.RegionWords.count c.release-answer.new.r in
    let last = g.R.RegionWords.words c.release-answer.new.r in
    on_ok c.done.result (IsErrOf c.release-answer.result Stopped → ⊥) (Sound c.release-answer.new.self 7 m last) (λ runs. still c.args.table.now c.release-answer.new.self 7 n m f last c.requires.sound call.before (call.fits runs)) c.done.ensures
