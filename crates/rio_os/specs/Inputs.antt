-- What an input tells of the bytes that it has left.
use Rattle.std.specs.Prelude.{Bool, true, false, ℕ, List, Option, None}

-- what is known of an input, unless that is a terminal: it can go at any moment, with whatever was typed
abbrev pub told_unless : Bool → Option (List ℕ) → Option (List ℕ)
told_unless true left = None
told_unless false left = left
