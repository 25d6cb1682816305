use Rattle.rio_base.specs.Memory.{FrontStored}
use Rattle.rio_base.proofs.mem_words.MemWords.store_run.Given as goal

-- the first i words are stored
abbrev pub invariant-loop-i : goal.invariant-loop-i
invariant-loop-i g l =
    record {
      stored : FrontStored l.at.0 l.i l.from (g.Self.MemWords.words l.initial.self) (g.Self.MemWords.words l.self);
    }
