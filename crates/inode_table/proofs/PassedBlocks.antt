-- Blocks of inodes that are known to be full, passed over.
use Rattle.std.proofs.Common.{◌≡◌, ◌≢◌, ℕ, zero, suc, ◌+◌, ◌-◌, ◌*◌, ◌/◌, ◌<◌, ◌≤◌, ◌⊎◌, List, length, take, drop, set, slice_index, replicate, refl, ap, ◌∙◌, arith, inl, inr, length-drop, get_or-take, get_or-drop, get_or-set_other}
use Rattle.std.specs.Prelude.{Some, None}
use Rattle.std.proofs.lemmas.Bool.{cases_eq, cases_lt, eq-eqb}
use Rattle.std.proofs.lemmas.List.{length-take-le}
use Rattle.memchr.specs.Find.{IsFirstByte, is_byte}
use Rattle.rio_base.specs.declared.places.VolumeShape.{VolumeShape}
use Rattle.rio_base.specs.Blocks.{BlockWords}
use Rattle.rio_base.specs.Layout.{IsIno, inode_kind}
use Rattle.rio_base.specs.Shapes.{IsShape}
use Rattle.inode_table.specs.Inodes.{AreUsed, FindsBelow, FindsFree, KnowsFull, StayUsed}
use Rattle.inode_table.specs.declared.full_blocks.FullBlocks.{FullBlocks}
use Rattle.inode_table.proofs.Used.{found}

-- the inodes before block k are used
pub record UsedBefore (shape : VolumeShape) (f : BlockWords) (k : ℕ) : Type 0 where
  pub each : (i : ℕ) → IsIno shape i → i ≤ 32 * k → 0 < inode_kind f i

pub none_before : (shape : VolumeShape) (f : BlockWords) → UsedBefore shape f 0
none_before shape f = record { each = λ i ino low. (let from = ino.from in absurd (omega (arith, from, low))) }

-- and so are those of further blocks that are known to be full
pub used_past : (shape : VolumeShape) (full : FullBlocks) (f : BlockWords) (a b : ℕ) → KnowsFull shape full f → UsedBefore shape f a → ((k : ℕ) → a ≤ k → k < b → slice_index full.marks k ≢ 0) → UsedBefore shape f b
used_past shape full f a b knows before past = record { each = λ i ino low. each i ino low (cases_lt (32 * a) i) }
  where
    each : (i : ℕ) → IsIno shape i → i ≤ 32 * b → (32 * a < i) ⊎ (i ≤ 32 * a) → 0 < inode_kind f i
    each i ino low (inr less) = before.each i ino less
    each i ino low (inl more) = let from = ino.from in knows.each i ino (past ((i - 1) / 32) (omega (arith, more)) (omega (arith, low, from)))

-- or that were looked at
pub used_more : (shape : VolumeShape) (f : BlockWords) (k : ℕ) → UsedBefore shape f k → AreUsed f (32 * k + 1) 32 → UsedBefore shape f (k + 1)
used_more shape f k before block = record { each = λ i ino low. each i ino low (cases_lt (32 * k) i) }
  where
    each : (i : ℕ) → IsIno shape i → i ≤ 32 * (k + 1) → (32 * k < i) ⊎ (i ≤ 32 * k) → 0 < inode_kind f i
    each i ino low (inr less) = before.each i ino less
    each i ino low (inl more) = block.each i (omega (arith, more)) (omega (arith, low))

-- an inode that is free behind them is the least one
pub found_past : (shape : VolumeShape) (f : BlockWords) (k n : ℕ) → IsShape shape → k < shape.inodes / 32 → UsedBefore shape f k → FindsBelow f (32 * k + 1) 32 (Some n) → FindsFree shape f (Some (record { 0 = 32 * k + 1 + n }))
found_past shape f k n is low before find = found shape f (32 * k + 1) n is (omega arith) (omega arith) (omega (arith, low)) (record { each = λ i from to. before.each i (record { from = from; to = omega (arith, to, low) }) (omega (arith, to)) }) find

-- where there are no more blocks, no inode is free
pub all_past : (shape : VolumeShape) (f : BlockWords) (k : ℕ) → IsShape shape → shape.inodes / 32 ≤ k → UsedBefore shape f k → AreUsed f 1 shape.inodes
all_past shape f k is past before = let whole = is.inode_blocks in record { each = λ i from to. before.each i (record { from = from; to = omega (arith, to) }) (omega (arith, to, whole, past)) }

-- ---- marks

pub marked : (shape : VolumeShape) (old new : FullBlocks) (f : BlockWords) (k : ℕ) → new.marks ≡ set old.marks k 1 → KnowsFull shape old f → AreUsed f (32 * k + 1) 32 → KnowsFull shape new f
marked shape old new f k is knows used = record { each = λ i ino mark. each i ino mark (cases_eq ((i - 1) / 32) k) }
  where
    each : (i : ℕ) → IsIno shape i → slice_index new.marks ((i - 1) / 32) ≢ 0 → ((i - 1) / 32 ≡ k) ⊎ ((i - 1) / 32 ≢ k) → 0 < inode_kind f i
    each i ino mark (inl same) = let from = ino.from in used.each i (omega (arith, same, from)) (omega (arith, same, from))
    each i ino mark (inr other) = knows.each i ino (λ none. mark (ap (λ ms. slice_index ms ((i - 1) / 32)) is ∙ get_or-set_other old.marks k ((i - 1) / 32) 1 0 other ∙ none))

-- inode i is free, and no mark says that its block is full
pub unmarked : (shape : VolumeShape) (old new : FullBlocks) (f g : BlockWords) (i : ℕ) → slice_index new.marks ((i - 1) / 32) ≡ 0 → ((k : ℕ) → k ≢ (i - 1) / 32 → slice_index new.marks k ≡ slice_index old.marks k) → KnowsFull shape old f → StayUsed shape i f g → KnowsFull shape new g
unmarked shape old new f g i none others knows stay = record {
  each = λ j ino mark.
      let apart : (j - 1) / 32 ≢ (i - 1) / 32 = λ e. mark (ap (slice_index new.marks) e ∙ none) in
      stay j ino (λ same. apart (ap (λ n. (n - 1) / 32) same)) (knows.each j ino (λ e. mark (others ((j - 1) / 32) apart ∙ e)));
}

-- no mark is among zeros
pub zeros_at : (n i : ℕ) → slice_index (replicate n 0) i ≡ 0
zeros_at zero i = refl
zeros_at (suc n) zero = refl
zeros_at (suc n) (suc i) = zeros_at n i

-- what a search for the first place without a mark passes over is marked
place_in : (marks : List ℕ) (total from k : ℕ) → length marks ≡ total → from ≤ k → k < total → slice_index (take (total - from) (drop from marks)) (k - from) ≡ slice_index marks k
place_in marks total from k all low within = get_or-take (total - from) (drop from marks) (k - from) 0 (omega (arith, low, within)) ∙ get_or-drop from marks (k - from) 0 ∙ (let at : from + (k - from) ≡ k = omega (arith, low) in ap (slice_index marks) at)

places : (marks : List ℕ) (total from : ℕ) → length marks ≡ total → length (take (total - from) (drop from marks)) ≡ total - from
places marks total from all = length-take-le (total - from) (drop from marks) (omega (arith, length-drop from marks, all))

pub passed_some : (marks : List ℕ) (total from n : ℕ) → length marks ≡ total → IsFirstByte (is_byte 0) (take (total - from) (drop from marks)) (Some n) → (k : ℕ) → from ≤ k → k < from + n → slice_index marks k ≢ 0
passed_some marks total from n all first k low high none =
    let within = first.0.high in
    let long = places marks total from all in
    first.0.before (k - from) (omega arith) (omega (arith, low, high)) (eq-eqb _ _ (place_in marks total from k all low (omega (arith, low, high, within, long)) ∙ none))

pub passed_all : (marks : List ℕ) (total from : ℕ) → length marks ≡ total → IsFirstByte (is_byte 0) (take (total - from) (drop from marks)) None → (k : ℕ) → from ≤ k → k < total → slice_index marks k ≢ 0
passed_all marks total from all first k low high none = first (k - from) (omega arith) (omega (arith, low, high, places marks total from all)) (eq-eqb _ _ (place_in marks total from k all low high ∙ none))
