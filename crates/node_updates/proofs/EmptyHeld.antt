-- A node that holds nothing but its kind.
use Rattle.request_ends.proofs.Common.{ℕ, Held}

-- a node of this kind without bytes or rows; of kind 0, no node
abbrev pub empty_held : ℕ → Held
empty_held kind = record { kind = kind; size = 0; word = λ y. 0 }
