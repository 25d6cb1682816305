use Rattle.std.specs.Prelude.{IsErrOf}
use Rattle.region_tests.specs.TestRegions.{Sound}
use Rattle.vista_region.specs.declared.failures.TxnFail.TheVariants.{Stopped}
use Rattle.region_tests.proofs.TestTables.{on_ok, commit_sound}
use Rattle.region_tests.proofs.region_calls.commit.Goals as goal

pub returns-clause-sound : goal.returns-clause-sound
returns-clause-sound g c =
    let call = c.commit-answer.ensures in
    let n = g.R.RegionWords.count c.args.r.now in
    let f = g.R.RegionWords.words c.args.r.now in
    let m = g.R.RegionWords.count c.commit-answer.new.r in
    let last = g.R.RegionWords.words c.commit-answer.new.r in
    on_ok c.done.result (IsErrOf c.commit-answer.result Stopped → ⊥) (Sound c.commit-answer.new.self 7 m last) (λ runs. commit_sound c.args.table.now c.commit-answer.new.self 7 n m f last c.commit-answer.result call.ends call.fault call.either c.requires.sound runs (call.fits runs)) c.done.ensures
