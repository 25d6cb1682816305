-- What a file of words in memory was.
use Rattle.std.specs.Prelude.{ℕ, List, Some, map, Vec}
use Rattle.std.specs.declared.alloc.Global.{Global}
use Rattle.rio_base.specs.Bytes.{bytes_of}
use Rattle.held_memory.specs.WordFiles.{FileBytes}

-- the bytes that it had at each of these moments
abbrev pub seen : List (Vec ℕ Global) → List FileBytes
seen past = map (λ (v : Vec ℕ Global). Some (bytes_of v.items)) past
