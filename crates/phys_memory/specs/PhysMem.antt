-- Memory that is one raw block.
use Rattle.std.specs.Prelude.{ℕ, List}
use Rattle.phys_memory.specs.declared.phys_mem.PhysMem.{PhysMem}

-- the words, from word 0 on
abbrev pub words_of : PhysMem → List ℕ
words_of m = m.block.words
