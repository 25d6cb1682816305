-- Directories that are out of a node's reach.
use Rattle.std.proofs.Common.{◌≡◌, ℕ, List, Ok}
use Rattle.rio_model.specs.declared.state.State.{State}
use Rattle.rio_model.specs.Paths.{walk}

-- ---- what is out of reach

-- a directory is not reached from a node
abbrev pub OutOfReach : State → ℕ → ℕ → Type 0
OutOfReach s i dir = (names : List (List ℕ)) → walk s i names ≡ Ok dir → ⊥
