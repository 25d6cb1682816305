-- Memory that is a list of words.
use Rattle.std.specs.Prelude.{ℕ, List}
use Rattle.phys_memory.specs.declared.list_mem.ListMem.{ListMem}

-- the words, from word 0 on
abbrev pub words_of : ListMem → List ℕ
words_of m = m.words.items
