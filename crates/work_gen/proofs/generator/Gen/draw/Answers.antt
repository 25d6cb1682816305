use Rattle.std.proofs.Common.{rules, ◌≡◌, refl}
use Rattle.work_gen.specs.Draws.{draw}
use Rattle.work_gen.proofs.generator.Gen.draw.Goals as goal

pub returns-clause-drawn : goal.returns-clause-drawn
unfolding draw
returns-clause-drawn c =
    let same : c.args.self.now ≡ c.from.result = search rules in
    rw same refl
