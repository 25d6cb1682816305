-- The kinds of the 32 inodes of a block, and which of them is the first free one.
use Rattle.std.proofs.Common.{◌≡◌, ◌≢◌, ℕ, ◌+◌, ◌-◌, ◌*◌, ◌%◌, ◌<◌, ◌≤◌, ◌⊎◌, Some, List, slice_index, sym, ap, subst, ◌∙◌, arith, inl, inr}
use Rattle.rio_base.specs.declared.places.VolumeShape.{VolumeShape}
use Rattle.rio_base.specs.Blocks.{BlockWords, IsRun}
use Rattle.rio_base.specs.Layout.{inode_block, inode_place, inode_kind}
use Rattle.rio_base.specs.Shapes.{IsShape}
use Rattle.inode_table.specs.Inodes.{AreUsed, FindsBelow, FindsFree}

-- where the kind of inode first + k stands
pub kind_at : (f : BlockWords) (first k : ℕ) → 1 ≤ first → first % 32 ≡ 1 → k < 32 → inode_kind f (first + k) ≡ f (inode_block first) (16 * k)
kind_at f first k from start few =
    let block : inode_block (first + k) ≡ inode_block first = omega (arith, from, start, few) in
    let place : inode_place (first + k) + 0 ≡ 16 * k = omega (arith, from, start, few) in
    (λ t. f (block t) (place t))

pub used_on : (f : BlockWords) (a b c : ℕ) → AreUsed f a b → AreUsed f (a + b) c → AreUsed f a (b + c)
used_on f a b c h k = record {
  each = λ i low high. elim (cases_low i (a + b)) [
    | inl less ↦ h.each i low less
    | inr more ↦ k.each i more (omega (arith, high))
  ];
}
  where
    cases_low : (x y : ℕ) → (x < y) ⊎ (y ≤ x)
    cases_low x y = grind arith

-- from the words of a page: those before word 16 * k that are kinds are not 0
pub record KindsPass (words : List ℕ) (k : ℕ) : Type 0 where
  pub each : (j : ℕ) → j < k → slice_index words (16 * j) ≢ 0

pub used_page : (f : BlockWords) (words : List ℕ) (first k : ℕ) → 1 ≤ first → first % 32 ≡ 1 → IsRun f (inode_block first) 0 512 words → k ≤ 32 → KindsPass words k → AreUsed f first k
used_page f words first k from start run few h = record {
  each = λ i low high.
      let at : first + (i - first) ≡ i = omega (arith, low) in
      let within : i - first < 32 = omega (arith, high, few, low) in
      let word = run.each (16 * (i - first)) (omega (arith, within)) in
      let zero : 0 + 16 * (i - first) ≡ 16 * (i - first) = omega arith in
      let kind : slice_index words (16 * (i - first)) ≡ inode_kind f i = word ∙ ap (f (inode_block first)) zero ∙ sym (kind_at f first (i - first) from start within) ∙ ap (inode_kind f) at in
      let some = h.each (i - first) (omega (arith, high, low)) in
      omega (arith, kind, some);
}

pub free_page : (f : BlockWords) (words : List ℕ) (first k : ℕ) → 1 ≤ first → first % 32 ≡ 1 → IsRun f (inode_block first) 0 512 words → k < 32 → KindsPass words k → slice_index words (16 * k) ≡ 0 → FindsBelow f first 32 (Some k)
free_page f words first k from start run few h zero =
    let word = run.each (16 * k) (omega (arith, few)) in
    let place : 0 + 16 * k ≡ 16 * k = omega arith in
    (few, kind_at f first k from start few ∙ sym (ap (f (inode_block first)) place) ∙ sym word ∙ zero, used_page f words first k from start run (omega (arith, few)) h)

pub found : (shape : VolumeShape) (f : BlockWords) (first k : ℕ) → IsShape shape → 1 ≤ first → first % 32 ≡ 1 → first ≤ shape.inodes → AreUsed f 1 (first - 1) → FindsBelow f first 32 (Some k) → FindsFree shape f (Some (record { 0 = first + k }))
found shape f first k h from start few before find =
    let within = find.0 in
    let at : 1 + (first - 1) ≡ first = omega (arith, from) in
    let all : (first - 1) + k ≡ first + k - 1 = omega (arith, from) in
    (record { from = omega (arith, from); to = (let whole = h.inode_blocks in omega (arith, whole, start, few, within)) }, find.1, subst (AreUsed f 1) all (used_on f 1 (first - 1) k before (subst (λ x. AreUsed f x k) (sym at) find.2)))

pub passed : (f : BlockWords) (first : ℕ) → 1 ≤ first → AreUsed f 1 (first - 1) → AreUsed f first 32 → AreUsed f 1 (first + 32 - 1)
passed f first from before more =
    let at : 1 + (first - 1) ≡ first = omega (arith, from) in
    let all : (first - 1) + 32 ≡ first + 32 - 1 = omega (arith, from) in
    subst (AreUsed f 1) all (used_on f 1 (first - 1) 32 before (subst (λ x. AreUsed f x 32) (sym at) more))

-- ---- asked for word by word

pub used_none : (f : BlockWords) (first : ℕ) → AreUsed f first 0
used_none f first = record { each = λ i from to. absurd (omega (arith, from, to)) }

pub used_less : (f : BlockWords) (first b c : ℕ) → c ≤ b → AreUsed f first b → AreUsed f first c
used_less f first b c less h = record { each = λ i from to. h.each i from (omega (arith, to, less)) }

-- word 16 * k of the block of inode `first`, as it was seen later
kind_seen : (f h : BlockWords) (b first k v : ℕ) → first % 32 ≡ 1 → k < 32 → b ≡ inode_block first → h ≡ f → v ≡ h b (16 * k) → inode_kind f (first + k) ≡ v
kind_seen f h b first k v start few at same is = kind_at f first k (omega (arith, start)) start few ∙ sym (is ∙ (λ t. same t (at t) (16 * k)))

pub used_word : (f h : BlockWords) (b first k v : ℕ) → first % 32 ≡ 1 → k < 32 → b ≡ inode_block first → h ≡ f → v ≡ h b (16 * k) → v ≢ 0 → AreUsed f first k → AreUsed f first (k + 1)
used_word f h b first k v start few at same is some before =
    let kind = kind_seen f h b first k v start few at same is in
    used_on f first k 1 before (record { each = λ i from to. let last : first + k ≡ i = omega (arith, from, to) in subst (λ x. 0 < inode_kind f x) last (omega (arith, kind, some)) })

pub free_word : (f h : BlockWords) (b first k v : ℕ) → first % 32 ≡ 1 → k < 32 → b ≡ inode_block first → h ≡ f → v ≡ h b (16 * k) → v ≡ 0 → AreUsed f first k → FindsBelow f first 32 (Some k)
free_word f h b first k v start few at same is none before = (few, kind_seen f h b first k v start few at same is ∙ none, before)

-- the words of a page, as it was seen later
pub run_seen : (f h : BlockWords) (b first : ℕ) (words : List ℕ) → b ≡ inode_block first → h ≡ f → IsRun h b 0 512 words → IsRun f (inode_block first) 0 512 words
run_seen f h b first words at same run = record { each = λ i few. run.each i few ∙ (λ t. same t (at t) (0 + i)) }
