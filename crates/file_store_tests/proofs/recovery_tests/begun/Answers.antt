use Rattle.std.proofs.Common.{◌≡◌, arith}
use Rattle.file_store_tests.proofs.Viewed.{begun_fits}
use Rattle.file_store_tests.proofs.recovery_tests.begun.Goals as goal

pub returns-clause-fits : goal.returns-clause-fits
returns-clause-fits g c =
    let head : g.R.RegionWords.words c.args.r.now 3 ≡ 0 = (let value = c.in-Ok.ensures.value in omega (arith, c.if-head-ne0.false, value)) in
    begun_fits _ c.begin.new.self c.args.i.0 _ _ (g.R.RegionWords.words c.args.r.now) (g.R.RegionWords.words c.word.new.self) c.in-Ok-begin.ensures.ok.1 c.word.ensures.stays.count c.word.ensures.words head c.requires.sound
