use Rattle.std.proofs.Common.{refl, ◌∙◌}
use Rattle.test_servers.proofs.FreshMachineMemory.{memory_on}
use Rattle.test_servers.proofs.fresh_machine.fresh_board.Goals as goal

pub returns-clause-memory : goal.returns-clause-memory
returns-clause-memory c = let e = c.in_ok-words.ensures in memory_on _ _ _ _ _ _ _ c.requires e.image e.value e.empty (c.in_ok-mem.ensures.words ∙ c.deref.ensures.value) c.new.ensures.contents refl refl c.new.ensures.run refl refl refl refl refl
