use Rattle.std.proofs.Common.{◌≡◌, true}
use Rattle.rio_base.specs.Blocks.{Drops}
use Rattle.rio_base.specs.Volume.{Firm, Goes, SameUpdate, put_run}
use Rattle.rio_base.proofs.BlockRuns.{Ran}
use Rattle.rio_base.proofs.volume.Volume.edit_run.Given as goal

-- the first i words are changed
abbrev pub invariant-loop-i : goal.invariant-loop-i
invariant-loop-i g l =
    let me = g.Self.Blocks in
    let vol = g.Self.Volume in
    record {
      words : (me.seen l.self).words ≡ put_run (me.seen l.initial.self).words l.b.0 l.w l.i l.from;
      update : SameUpdate (vol.kept l.initial.self) (vol.kept l.self);
      in_update : (vol.kept l.self).updating ≡ true;
      standing : (vol.kept l.self).standing ≡ (vol.kept l.initial.self).standing;
      firm : Firm (vol.kept l.initial.self) (vol.kept l.self);
      count : (me.seen l.self).count ≡ (me.seen l.initial.self).count;
      drops : Drops (me.seen l.initial.self) (me.seen l.self);
      goes : Goes (me.health l.initial.self) (vol.below l.initial.self) (me.health l.self) (vol.below l.self);
      ran : Ran (me.health l.initial.self) (me.health l.self);
      sound : me.sound l.self;
    }
