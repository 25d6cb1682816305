use Rattle.std.specs.Prelude.{length, ◌≡◌}
use Rattle.page_restore.proofs.SettleTurns.{Settled}
use Rattle.page_restore.proofs.settling.settle.Given as goal

abbrev pub invariant-loop-k : goal.invariant-loop-k
invariant-loop-k g l = record {
  walk : Settled l.k (g.M.Machine.contents l.initial.m) (g.M.Machine.contents l.m) (g.M.Machine.run l.initial.m) (g.M.Machine.run l.m);
  room : length l.block.items ≡ 512;
}
