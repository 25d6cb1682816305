use Rattle.std.proofs.Common.{◌≡◌, ◌≤◌}
use Rattle.rio_base.specs.Volume.{Goes}
use Rattle.rio_model.specs.VolumeReady.{Ready}
use Rattle.region_recovery.proofs.RecoverTurns.{Recovered}
use Rattle.region_recovery.proofs.recovering.recover_regions.Given as goal

-- the first n regions have no undo record any more
abbrev pub invariant-loop-n : goal.invariant-loop-n
invariant-loop-n g l =
    let seen = g.V.Blocks.seen in
    let health = g.V.Blocks.health in
    record {
      walk : Recovered l.fn.view.shape (seen l.fn.view.v).words (seen l.view.v).words l.n l.undone;
      few : l.undone ≤ l.n;
      none : l.n ≡ 0 → l.view.v ≡ l.fn.view.v;
      shape : l.view.shape ≡ l.fn.view.shape;
      ready : Ready l.fn.view.shape (seen l.view.v) (g.V.Volume.kept l.view.v);
      sound : g.V.Blocks.sound l.view.v;
      goes : Goes (health l.fn.view.v) (g.V.Volume.below l.fn.view.v) (health l.view.v) (g.V.Volume.below l.view.v);
      later : (health l.fn.view.v).faults ≤ (health l.view.v).faults;
      running : (health l.view.v).stopped ≡ (health l.fn.view.v).stopped;
    }
