-- What a source has left and what a sink has taken, each known only where it is told.
use Rattle.std.specs.Prelude.{◌≡◌, ℕ, List, [], ◌++◌, Option, Some, None}

-- what was left before: these bytes, and then what is left now
abbrev pub prepended : List ℕ → Option (List ℕ) → Option (List ℕ)
prepended bytes None = None
prepended bytes (Some rest) = Some (bytes ++ rest)

-- what is written now: what was written before, and then these bytes
abbrev pub appended : Option (List ℕ) → List ℕ → Option (List ℕ)
appended None bytes = None
appended (Some front) bytes = Some (front ++ bytes)

-- nothing is left, as far as it is told
abbrev pub IsSpent : Option (List ℕ) → Type 0
IsSpent None = Unit {0}
IsSpent (Some rest) = rest ≡ []
