-- What is told at the end of a drill.
use Rattle.std.specs.Prelude.{◌≡◌, ◌≤◌, ◌⊎◌, ℕ, List, Option, codes, length, take}
use Rattle.rio_base.specs.Streams.{appended}
use Rattle.boots.specs.declared.transcript.Transcript.{Transcript}
use Rattle.boots.specs.Summaries.{summary}

abbrev pub memory_line : List ℕ
memory_line = codes "out of memory\n"

-- a front of a text was written, which comes only where the sink's count of faults rose
pub record WroteFront (rose : Type 0) (text : List ℕ) (written written_after : Option (List ℕ)) : Type 0 where
  pub cause : rose
  pub count : ℕ
  pub most : count ≤ length text
  pub front : written_after ≡ appended written (take count text)

-- how much of a transcript's summary was written, by the status: all of it, or a front
abbrev pub Tells : (status : ℕ) (rose : Type 0) → Transcript → (written written_after : Option (List ℕ)) → Type 0
Tells status rose t written written_after =
    ((status ≡ 0) × (written_after ≡ appended written (summary t)))
    ⊎ ((status ≡ 9) × WroteFront rose (summary t) written written_after)

-- There was no memory: the line of that was written, or a front of it.
pub record LacksMemory (status : ℕ) (rose : Type 0) (written written_after : Option (List ℕ)) : Type 0 where
  pub status_is : status ≡ 6
  pub line : (written_after ≡ appended written memory_line) ⊎ WroteFront rose memory_line written written_after
