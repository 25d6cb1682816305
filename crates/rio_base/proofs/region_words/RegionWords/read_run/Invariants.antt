use Rattle.std.proofs.Common.{◌≡◌, length}
use Rattle.rio_base.specs.Regions.{AreWords}
use Rattle.rio_base.specs.Frames.{Stays}
use Rattle.rio_base.proofs.BlockRuns.{Ran}
use Rattle.rio_base.proofs.region_words.RegionWords.read_run.Given as goal

-- the first i words are read
abbrev pub invariant-loop-i : goal.invariant-loop-i
invariant-loop-i g l =
    let me = g.Self.RegionWords in
    record {
      value : AreWords (me.words l.initial.self) l.at l.i l.into;
      len : length l.into ≡ length l.initial.into;
      words : me.words l.self ≡ me.words l.initial.self;
      stays : Stays me.keeps_rest me.ready me.count me.health me.below l.initial.self l.self;
      ran : Ran (me.health l.initial.self) (me.health l.self);
    }
