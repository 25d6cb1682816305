-- A file's bytes written and resized, and what of it a stop or a fault may leave.
use Rattle.std.specs.Prelude.{◌≡◌, ℕ, ◌+◌, ◌-◌, ◌≤◌, ◌⊎◌, ◌++◌, List, [], ◌∷◌, length, take, drop, replicate, min, Some}
use Rattle.std.specs.FinMap.{get}
use Rattle.rio_model.specs.declared.node.Node.TheVariants.{File}
use Rattle.rio_model.specs.declared.state.State.{State}
use Rattle.rio_model.specs.States.{with_node}

-- bytes put over a file at an offset that it reaches
abbrev pub put_at : List ℕ → ℕ → List ℕ → List ℕ
put_at old off bytes = take off old ++ bytes ++ drop (off + length bytes) old

-- bytes written at an offset: zeros up to there where the file is shorter. No bytes change nothing
abbrev pub written : List ℕ → ℕ → List ℕ → List ℕ
written old off [] = old
written old off (b ∷ bytes) = put_at (old ++ replicate (off - length old) 0) off (b ∷ bytes)

-- a file of so many bytes: the first of the old ones, and zeros behind them
abbrev pub resized : List ℕ → ℕ → List ℕ
resized old len = take len old ++ replicate (len - length old) 0

-- the first k bytes of a write are there, all of them over bytes that the file had
pub record IsLead (old : List ℕ) (off : ℕ) (bytes : List ℕ) (k : ℕ) (new : List ℕ) : Type 0 where
  pub most : k ≤ min (length bytes) (length old - off)
  pub is : new ≡ put_at old off (take k bytes)

-- what a write leaves that is stopped: nothing of it, all of it, or a leading part
abbrev pub WritePart : List ℕ → ℕ → List ℕ → List ℕ → Type 0
WritePart old off bytes new = (new ≡ old) ⊎ (new ≡ written old off bytes) ⊎ ((k : ℕ) × IsLead old off bytes k new)

-- and a change of size: nothing, or all of it
abbrev pub ResizePart : List ℕ → ℕ → List ℕ → Type 0
ResizePart old len new = (new ≡ old) ⊎ (new ≡ resized old len)

-- state t is s, but that in file i the first k bytes of a write are there, all of them over bytes that it had
pub record LeadsTo (s : State) (i off : ℕ) (bytes : List ℕ) (k : ℕ) (t : State) : Type 0 where
  pub old : List ℕ
  pub new : List ℕ
  pub file : get s.nodes i ≡ Some (File old)
  pub lead : IsLead old off bytes k new
  pub is : t ≡ with_node s i (File new)
