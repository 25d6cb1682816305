-- The lines that runs of every command may end with.
use Rattle.std.specs.Prelude.{◌≡◌, ◌≤◌, ◌++◌, ℕ, List, length, take, codes, Option, ◌⊎◌}
use Rattle.rio_base.specs.Streams.{appended}

abbrev pub usage_line : List ℕ
usage_line = codes "usage: rio format, serve, registry, check, drill\n"

abbrev pub memory_line : List ℕ
memory_line = codes "out of memory\n"

-- a file could not be read or replaced
abbrev pub host_fault_line : List ℕ → List ℕ
host_fault_line name = codes "host fault: " ++ (name ++ codes "\n")

-- a line was written whole, or, only where the sink's count rose, a front of it
abbrev pub WritesLine : Type 0 → Option (List ℕ) → List ℕ → Option (List ℕ) → Type 0
WritesLine rose written line written_after = (written_after ≡ appended written line)
    ⊎ (rose × (k : ℕ) × (k ≤ length line) × (written_after ≡ appended written (take k line)))
