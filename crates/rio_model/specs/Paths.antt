-- Names and paths, and what stands at a path.
use Rattle.std.specs.Prelude.{◌≢◌, ◌≤◌, ℕ, Bool, true, false, List, [], ◌∷◌, length, All, drop, codes, flat_map, ◌≡◌, ◌⊎◌, Option, Some, None, Result, Ok, Err, if◌then◌else◌}
use Rattle.std.specs.FinMap.{get}
use Rattle.rio_base.specs.Bytes.{pieces}
use Rattle.rio_model.specs.declared.node.Node.{Node}
use Rattle.rio_model.specs.declared.node.Node.TheVariants.{Dir}
use Rattle.rio_model.specs.declared.state.State.{State}
use Rattle.rio_model.specs.Refusals.{refusal}
use Rattle.rio_model.specs.declared.refusal.Refusal.TheVariants.{NotFound, NotADirectory}

-- a byte that may stand in a name: 0x21 to 0x7e, but no slash
pub record IsNameByte (b : ℕ) : Type 0 where
  pub low : 33 ≤ b
  pub high : b ≤ 126
  pub not_slash : b ≢ 47

-- 1 to 56 such bytes, and neither `.` nor `..`
pub record IsName (name : List ℕ) : Type 0 where
  pub some : 1 ≤ length name
  pub few : length name ≤ 56
  pub bytes : All IsNameByte name
  pub not_dot : name ≢ codes "."
  pub not_dots : name ≢ codes ".."

-- names, each with a slash before it
abbrev pub slashed : List (List ℕ) → List ℕ
slashed names = flat_map (λ name. 47 ∷ name) names

-- a text that is these names
pub record AreNames (text : List ℕ) (names : List (List ℕ)) : Type 0 where
  pub is : text ≡ slashed names
  pub each : All IsName names

-- `/`, or 1 to 32 names with a slash before each
abbrev pub IsPath : List ℕ → Type 0
IsPath text = (text ≡ codes "/") ⊎ ((names : List (List ℕ)) × AreNames text names × (1 ≤ length names) × (length names ≤ 32))

-- the names of a path, in order; `/` has none
abbrev pub names_of : List ℕ → List (List ℕ)
names_of path = pieces 47 (drop 1 path)

abbrev pub is_dir : Option Node → Bool
is_dir (Some Dir) = true
is_dir _ = false

-- from a name's inode on, unless the name is missing
abbrev pub from_found : Option ℕ → (ℕ → Result ℕ ℕ) → Result ℕ ℕ
from_found None go = refusal NotFound
from_found (Some i) go = go i

-- the inode at the end of these names, from inode i on, unless a step is through a node that is no directory, or a name is
-- missing. A walk is refused by a number
abbrev pub walk : State → ℕ → List (List ℕ) → Result ℕ ℕ
walk s i [] = Ok i
walk s i (name ∷ names) = if is_dir (get s.nodes i) then from_found (get s.names (i, name)) (λ j. walk s j names) else refusal NotADirectory

-- the end of a walk that must be a directory
abbrev pub as_dir : State → Result ℕ ℕ → Result ℕ ℕ
as_dir s (Ok i) = if is_dir (get s.nodes i) then Ok i else refusal NotADirectory
as_dir s (Err c) = Err c

abbrev pub walk_to_dir : State → List (List ℕ) → Result ℕ ℕ
walk_to_dir s names = as_dir s (walk s 1 names)
