use Rattle.std.proofs.Common.{◌≡◌, ◌<◌, false, true}
use Rattle.rio_base.specs.Blocks.{CanName}
use Rattle.rio_base.specs.Volume.{CachesStored, Firm, Goes, RunName, SameBut, put_run}
use Rattle.rio_base.proofs.BlockRuns.{Ran}
use Rattle.rio_base.proofs.volume.Volume.store_run.Given as goal

-- the first i words are stored
abbrev pub invariant-loop-i : goal.invariant-loop-i
invariant-loop-i g l =
    let me = g.Self.Blocks in
    let vol = g.Self.Volume in
    record {
      words : (me.seen l.self).words ≡ put_run (me.seen l.initial.self).words l.b.0 l.w l.i l.from;
      name : CanName (me.seen l.self) l.b.0 l.name;
      standing : SameBut l.b.0 (vol.kept l.initial.self).standing (vol.kept l.self).standing;
      firm : Firm (vol.kept l.initial.self) (vol.kept l.self);
      count : (me.seen l.self).count ≡ (me.seen l.initial.self).count;
      caches : CachesStored (me.seen l.initial.self) (me.seen l.self) l.b.0 l.name;
      named : 0 < l.i → (me.seen l.self).cached l.b.0 ≡ true → RunName ((me.seen l.initial.self).cached l.b.0) ((me.seen l.initial.self).names l.b.0) l.name ((me.seen l.self).names l.b.0);
      first : l.i ≡ 0 → me.seen l.self ≡ me.seen l.initial.self;
      idle : (vol.kept l.self).updating ≡ false;
      goes : Goes (me.health l.initial.self) (vol.below l.initial.self) (me.health l.self) (vol.below l.self);
      ran : Ran (me.health l.initial.self) (me.health l.self);
      sound : me.sound l.self;
    }
