use Rattle.std.proofs.Common.{refl}
use Rattle.machine_tests.proofs.TwoEntries.{layout_of_two, two_at_first}
use Rattle.machine_tests.proofs.shadow_tests.has_two.Goals as goal

pub returns-clause-two : goal.returns-clause-two
returns-clause-two g c = λ e.
    let header = c.if-not-has_header.ensures in
    let tags = c.if-not-has_tags.ensures in
    two_at_first (g.M.Machine.contents c.args.m.now) (g.M.Machine.run c.args.m.now) (header.header refl) (layout_of_two _ _ (header.frames refl) (header.scratch refl) c.requires.words c.requires.scratch) (header.frames refl) (c.if-not-has_rules.ensures refl) c.requires.closed c.requires.blocks (tags.three refl) (tags.four refl) (c.are_only.ensures e)
