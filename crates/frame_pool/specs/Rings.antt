-- Frames linked to a ring. What is linked is said of two functions, the frame before and the frame after each.
use Rattle.std.specs.Prelude.{◌≡◌, ◌≢◌, ℕ, ◌+◌, ◌<◌, ◌≤◌, ◌++◌, nat_lt, if◌then◌else◌, List, [], ◌∷◌, length}
use Rattle.std.specs.Coded.{×_prop, Coded-set, coded_ℕ}
use Rattle.frame_pool.specs.declared.frame.Frame.{Frame}
use Rattle.frame_pool.specs.Frames.{block_at, older_at, order_at, pinned_at, younger_at}
use Rattle.frame_pool.specs.Orders.{times}

-- number a, the list and number z are linked in this order
unfoldable pub Chain : (ℕ → ℕ) → (ℕ → ℕ) → ℕ → List ℕ → ℕ → Type 0
Chain older younger a [] z = (younger a ≡ z) × (older z ≡ a)
Chain older younger a (x ∷ xs) z = (younger a ≡ x) × ((older x ≡ a) × Chain older younger x xs z)

pub Chain-prop : (older younger : ℕ → ℕ) (a : ℕ) (xs : List ℕ) (z : ℕ) → IsProp (Chain older younger a xs z)
unfolding Chain
Chain-prop older younger a [] z = ×_prop (Coded-set coded_ℕ _ _) (Coded-set coded_ℕ _ _)
Chain-prop older younger a (x ∷ xs) z = ×_prop (Coded-set coded_ℕ _ _) (×_prop (Coded-set coded_ℕ _ _) (Chain-prop older younger x xs z))

-- n frames are linked to a ring, with number n as the knot
abbrev pub IsRing : List Frame → ℕ → Type 0
IsRing frames n = Chain (older_at frames) (younger_at frames) n (order_at frames n) n

-- each number below n is in the list once, and no other is
abbrev pub HasEachOnce : List ℕ → ℕ → Type 0
HasEachOnce order n = (k : ℕ) → times k order ≡ (if nat_lt k n then 1 else 0)

-- frame b was linked behind frame a
pub record Joins (a b : ℕ) (old_older old_younger new_older new_younger : ℕ → ℕ) : Type 0 where
  pub younger : new_younger a ≡ b
  pub older : new_older b ≡ a
  pub youngers : (k : ℕ) → k ≢ a → new_younger k ≡ old_younger k
  pub olders : (k : ℕ) → k ≢ b → new_older k ≡ old_older k

-- the frames have the same blocks and pins
pub record KeepsFrames (old new : List Frame) : Type 0 where
  pub size : length new ≡ length old
  pub blocks : (k : ℕ) → block_at new k ≡ block_at old k
  pub pins : (k : ℕ) → pinned_at new k ≡ pinned_at old k

-- the frames are linked as they were
pub record KeepsLinks (old new : List Frame) : Type 0 where
  pub size : length new ≡ length old
  pub older : (k : ℕ) → older_at new k ≡ older_at old k
  pub younger : (k : ℕ) → younger_at new k ≡ younger_at old k

-- the frames are linked to a ring in this order, each of the n once
pub record IsRingOf (frames : List Frame) (n : ℕ) (xs : List ℕ) : Type 0 where
  pub order : order_at frames n ≡ xs
  pub ring : IsRing frames n
  pub once : HasEachOnce (order_at frames n) n

-- frame k is out of the ring, in which the others of the n frames are
pub record IsOut (frames : List Frame) (n k : ℕ) (xs : List ℕ) : Type 0 where
  pub ring : Chain (older_at frames) (younger_at frames) n xs n
  pub within : k < n
  pub out : times k xs ≡ 0
  pub knot : times n xs ≡ 0
  pub once_last : HasEachOnce (xs ++ (k ∷ [])) n
  pub once_first : HasEachOnce (k ∷ xs) n
  pub size : length xs + 1 ≡ n
  pub oldest : younger_at frames n ≤ n
  pub youngest : older_at frames n ≤ n
