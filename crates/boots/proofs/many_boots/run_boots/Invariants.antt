use Rattle.std.proofs.Common.{◌≡◌, length, take}
use Rattle.block_disk.specs.MemDisks.{state_of}
use Rattle.phys_memory.specs.PhysMem.{words_of}
use Rattle.rio_model.specs.declared.state.State.{State}
use Rattle.boots.specs.Legal.{BootsLead}
use Rattle.boots.specs.Parts.{PartsStand}
use Rattle.boots.proofs.many_boots.run_boots.Given as goal

abbrev pub invariant-loop-plan : goal.invariant-loop-plan
invariant-loop-plan l = record {
  lead : (s : State) → PartsStand (words_of l.fn.parts.memory) (state_of l.fn.parts.disk) l.scratch l.fn.parts.failing s → (t : State) × BootsLead s (take l.plan-index l.plans) l.runs.items t × PartsStand (words_of l.parts.memory) (state_of l.parts.disk) l.scratch l.parts.failing t;
  words : length (words_of l.parts.memory) ≡ length (words_of l.fn.parts.memory);
}
