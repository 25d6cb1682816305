use Rattle.std.proofs.Common.{◌≡◌, length}
use Rattle.rio_base.specs.Blocks.{CanName, Caches, IsRun, Looks}
use Rattle.rio_base.proofs.BlockRuns.{Ran}
use Rattle.rio_base.proofs.blocks.Blocks.read_run.Given as goal

-- the first i words are read
abbrev pub invariant-loop-i : goal.invariant-loop-i
invariant-loop-i g l =
    let me = g.Self.Blocks in
    record {
      words : IsRun (me.seen l.initial.self).words l.b.0 l.w l.i l.into;
      len : length l.into ≡ length l.initial.into;
      name : CanName (me.seen l.self) l.b.0 l.name;
      looks : Looks (me.seen l.initial.self) (me.seen l.self);
      caches : Caches (me.seen l.initial.self) (me.seen l.self) l.b.0 l.name;
      passes : me.passes l.initial.self l.self;
      ran : Ran (me.health l.initial.self) (me.health l.self);
      sound : me.sound l.self;
    }
