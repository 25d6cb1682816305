use Rattle.std.specs.Prelude.{false, length}
use Rattle.std.proofs.Common.{◌≡◌}
use Rattle.cached_pages.specs.Caches.{CacheSound, cache_kept, cache_seen}
use Rattle.machine_tests.specs.Walks.{Walks}
use Rattle.machine_tests.proofs.ahead_tests.go_round.Given as goal

abbrev pub invariant-loop-k : goal.invariant-loop-k
invariant-loop-k g l = record {
  sound : CacheSound (g.M.Machine.contents l.v.machine) (length (g.M.Machine.run l.v.machine).scratch) l.v.tables;
  walks : Walks (cache_seen (g.M.Machine.contents l.v.machine));
  idle : (cache_kept (g.M.Machine.contents l.v.machine) l.v.tables).updating ≡ false;
}
