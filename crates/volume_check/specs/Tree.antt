-- The tree of a volume's inodes, by the entries of its directories: how many names each inode has, and which are reached.
use Rattle.std.specs.Prelude.{◌≡◌, ◌≢◌, ℕ, ◌+◌, ◌<◌, ◌≤◌, ◌⊎◌, ◌∷◌, ◌++◌, Bool, true, false, List, [], length, map, slice_index, slice_index_or, slice_set}
use Rattle.rio_base.specs.declared.places.Ino.{Ino}
use Rattle.rio_base.specs.declared.places.VolumeShape.{VolumeShape}
use Rattle.rio_base.specs.Layout.{IsIno}
use Rattle.rio_base.specs.NodeKinds.{dir_kind}
use Rattle.rio_model.specs.declared.state.State.{State}
use Rattle.rio_model.specs.Held.{HasEntry, Held, entry_ino}
use Rattle.rio_model.specs.ReadState.{read_state}
use Rattle.volume_check.specs.declared.name_counts.NameCount.{NameCount}
use Rattle.volume_check.specs.declared.name_counts.NameCount.TheVariants.{No, One, Several}
use Rattle.volume_check.specs.declared.reaching.Reach.{Reach}

-- entry j of directory d names inode i
pub record Names (held : ℕ → Held) (i d j : ℕ) : Type 0 where
  pub entry : HasEntry held d j
  pub ino : entry_ino (held d) j ≡ i

-- the state that inodes hold, if no directory has two equal names
abbrev pub state_of : VolumeShape → (ℕ → Held) → State
state_of shape held = read_state shape 0 0 held

-- ---- how many names an inode has

abbrev pub one_more : NameCount → NameCount
one_more No = One
one_more One = Several
one_more Several = Several

-- so many entries pass a test
abbrev pub CountOf : (ℕ → ℕ → Type 0) → NameCount → Type 0
CountOf at No = (d j : ℕ) → at d j → ⊥
CountOf at One = (d : ℕ) × (j : ℕ) × at d j × ((e k : ℕ) → at e k → (e ≡ d) × (k ≡ j))
CountOf at Several = (d : ℕ) × (j : ℕ) × (e : ℕ) × (k : ℕ) × at d j × at e k × ¬ ((d ≡ e) × (j ≡ k))

-- entry j of directory d names inode i, and it is before entry x of node n
pub record NamesBefore (held : ℕ → Held) (n x i d j : ℕ) : Type 0 where
  pub names : Names held i d j
  pub before : (d < n) ⊎ ((d ≡ n) × (j < x))

-- of the entries before one, as many name each inode
pub record Counted (shape : VolumeShape) (held : ℕ → Held) (n x : ℕ) (counts : List NameCount) : Type 0 where
  pub len : length counts ≡ shape.inodes + 1
  pub each : (i : ℕ) → IsIno shape i → CountOf (NamesBefore held n x i) (slice_index_or counts i No)

-- ---- which inodes are reached

-- these entries lead from the root to an inode, the last one first
abbrev pub Leads : (ℕ → Held) → List (ℕ × ℕ) → ℕ → Type 0
Leads held [] i = i ≡ 1
Leads held (p ∷ path) i = Leads held path p.0 × Names held i p.0 p.1

abbrev pub IsReached : Reach → ℕ → Type 0
IsReached r i = slice_index_or r.reached.items i false ≡ true

abbrev pub dir_numbers : Reach → List ℕ
dir_numbers r = map (λ i. i.0) r.dirs.items

-- an inode was entered, if it was not before
pub record Enters (kind : ℕ) (i : Ino) (old new : Reach) : Type 0 where
  pub again : IsReached old i.0 → new ≡ old
  pub marked : ¬ IsReached old i.0 → new.reached.items ≡ slice_set old.reached.items i.0 true
  pub directory : ¬ IsReached old i.0 → kind ≡ dir_kind → new.dirs.items ≡ old.dirs.items ++ i ∷ []
  pub other : ¬ IsReached old i.0 → kind ≢ 1 → new.dirs.items ≡ old.dirs.items

-- what is reached are inodes that some entries lead to, and the directories among them are listed
pub record Found (shape : VolumeShape) (held : ℕ → Held) (r : Reach) : Type 0 where
  pub len : length r.reached.items ≡ shape.inodes + 1
  pub inos : (i : ℕ) → IsReached r i → IsIno shape i
  pub ways : (i : ℕ) → IsReached r i → (path : List (ℕ × ℕ)) × Leads held path i
  pub listed : (d : ℕ) → IsReached r d → (held d).kind ≡ dir_kind → (k : ℕ) × (k < length (dir_numbers r)) × (slice_index (dir_numbers r) k ≡ d)
  pub dirs : (k : ℕ) → k < length (dir_numbers r) → IsReached r (slice_index (dir_numbers r) k) × ((held (slice_index (dir_numbers r) k)).kind ≡ dir_kind)

-- how many inodes are not reached
abbrev pub unreached : List Bool → ℕ
unreached [] = 0
unreached (true ∷ rest) = unreached rest
unreached (false ∷ rest) = unreached rest + 1

-- what was reached and listed still is, and each directory that is listed anew is reached anew
pub record Grows (old new : Reach) : Type 0 where
  pub reached : (i : ℕ) → IsReached old i → IsReached new i
  pub more : length (dir_numbers old) ≤ length (dir_numbers new)
  pub dirs : (k : ℕ) → k < length (dir_numbers old) → slice_index (dir_numbers new) k ≡ slice_index (dir_numbers old) k
  pub left : length (dir_numbers new) + unreached new.reached.items ≤ length (dir_numbers old) + unreached old.reached.items

-- all inodes that a directory names are reached
abbrev pub AllEntered : (ℕ → Held) → Reach → ℕ → Type 0
AllEntered held r d = (j : ℕ) → HasEntry held d j → IsReached r (entry_ino (held d) j)

-- marks are set where some entries lead from the root, and nowhere else
pub record IsAllReached (shape : VolumeShape) (held : ℕ → Held) (marks : List Bool) : Type 0 where
  pub len : length marks ≡ shape.inodes + 1
  pub ways : (i : ℕ) → slice_index_or marks i false ≡ true → (path : List (ℕ × ℕ)) × Leads held path i
  pub all : (path : List (ℕ × ℕ)) (i : ℕ) → Leads held path i → slice_index_or marks i false ≡ true

-- ---- rule 10 of one inode

-- it is free, or the root and has no name, or it has one name and is reached
abbrev pub InTree : ℕ → ℕ → NameCount → Bool → Type 0
InTree kind i count reached = 0 < kind → ((i ≡ 1) × (count ≡ No)) ⊎ ((i ≢ 1) × (count ≡ One) × (reached ≡ true))
