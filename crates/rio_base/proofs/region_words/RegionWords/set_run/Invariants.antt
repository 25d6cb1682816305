use Rattle.std.proofs.Common.{◌≡◌}
use Rattle.rio_base.specs.Regions.{put_words}
use Rattle.rio_base.specs.Frames.{Stays}
use Rattle.rio_base.proofs.BlockRuns.{Ran}
use Rattle.rio_base.proofs.region_words.RegionWords.set_run.Given as goal

-- the first i words are stored
abbrev pub invariant-loop-i : goal.invariant-loop-i
invariant-loop-i g l =
    let me = g.Self.RegionWords in
    record {
      words : me.words l.self ≡ put_words (me.words l.initial.self) l.at l.i l.from;
      stays : Stays me.keeps_rest me.ready me.count me.health me.below l.initial.self l.self;
      ran : Ran (me.health l.initial.self) (me.health l.self);
    }
