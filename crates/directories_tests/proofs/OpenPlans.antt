-- Plans of tests while an update is open: how many blocks it touches, and that a plan lasts.
use Rattle.directories.proofs.Common.{Bool, true, false, ◌≡◌, ℕ, ◌+◌, ◌<◌, ◌≤◌, ◌⊎◌, ◌==◌, cond, List, length, refl, sym, ap, subst, ◌∙◌, arith, inl, inr, slice_index_or, None, Contains, cases_eq, VolumeShape, CachesBy, caches_by_one, caches_by_trans, BlockWords, Caches, Seen, inode_block, HasShape, Firm, Kept, held_of, placed_at, volume_layout, AllNamed, Bears, Firmly, EntryRule, IsMapped, firm_on, IsEdited, Edit}
use Rattle.std.proofs.Common.{◌||◌}
use Rattle.std.proofs.lemmas.List.{get_or_default}
use Rattle.rio_base.specs.Blocks.{CanName, Drops, SamePage}
use Rattle.rio_base.specs.Rules.{true_false}
use Rattle.rio_base.specs.Volume.{Touches, with_block}
use Rattle.rio_model.proofs.WordRules.{itself}
use Rattle.directories.specs.Plans.{InThreeBlocks, MayBeMade, PlansDir}
use Rattle.directories.proofs.MakingOrder.{plan_applies, plan_edits}
use Rattle.directories.specs.Rows.{NamesApart}
use Rattle.directories_tests.specs.TestDirs.{CanMake, CanTouch, DirsOrder, KeepsRows}
use Rattle.directories.specs.declared.changes.DirChange.{DirChange}

-- ---- how many blocks are touched

weight : (ℕ → Bool) → ℕ → ℕ
weight set b = cond (set b) 1 0

-- how many of the three blocks of a plan's edits are touched; one that is two of them counts twice
pub of_three : (edits : List Edit) → InThreeBlocks edits → (ℕ → Bool) → ℕ
of_three edits few set = weight set few.table + weight set few.first + weight set few.second

weight_more : (set : ℕ → Bool) (b c : ℕ) → weight set c ≤ weight (with_block set b) c
unfolding weight
weight_more set b c = by (c == b) (set c)
  where
    by : (p q : Bool) → cond q 1 0 ≤ cond (p || q) 1 0
    by true true = omega arith
    by true false = omega arith
    by false true = omega arith
    by false false = omega arith

weight_new : (set : ℕ → Bool) (b : ℕ) → set b ≡ false → weight set b + 1 ≤ weight (with_block set b) b
unfolding weight
weight_new set b not = by (b == b) (set b) (itself b) not
  where
    by : (p q : Bool) → p ≡ true → q ≡ false → cond q 1 0 + 1 ≤ cond (p || q) 1 0
    by true true e n = absurd (true_false n)
    by true false e n = omega arith
    by false q e n = absurd (true_false (sym e))

-- one touch more
pub touch_counts : (edits : List Edit) (few : InThreeBlocks edits) (k l : Kept) (b base : ℕ) → (b ≡ few.table) ⊎ (b ≡ few.first) ⊎ (b ≡ few.second) → Touches b k l → k.touches ≤ base + of_three edits few k.touched → l.touches ≤ base + of_three edits few l.touched
unfolding of_three
touch_counts edits few k l b base one touch was =
    subst (λ (set : ℕ → Bool). l.touches ≤ base + (weight set few.table + weight set few.first + weight set few.second)) (sym touch.touched)
    (subst (λ n. n ≤ base + (weight now few.table + weight now few.first + weight now few.second)) (sym touch.touches) (by (k.touched b) refl one))
  where
    now : ℕ → Bool
    now = with_block k.touched b

    by : (t : Bool) → k.touched b ≡ t → (b ≡ few.table) ⊎ (b ≡ few.first) ⊎ (b ≡ few.second) → cond t k.touches (k.touches + 1) ≤ base + (weight now few.table + weight now few.first + weight now few.second)
    by true on at = let p = weight_more k.touched b few.table in let q = weight_more k.touched b few.first in let r = weight_more k.touched b few.second in omega (arith, was, p, q, r)
    by false off (inl at) = let p = subst (λ c. weight k.touched c + 1 ≤ weight now c) at (weight_new k.touched b off) in let q = weight_more k.touched b few.first in let r = weight_more k.touched b few.second in omega (arith, was, p, q, r)
    by false off (inr (inl at)) = let p = weight_more k.touched b few.table in let q = subst (λ c. weight k.touched c + 1 ≤ weight now c) at (weight_new k.touched b off) in let r = weight_more k.touched b few.second in omega (arith, was, p, q, r)
    by false off (inr (inr at)) = let p = weight_more k.touched b few.table in let q = weight_more k.touched b few.first in let r = subst (λ c. weight k.touched c + 1 ≤ weight now c) at (weight_new k.touched b off) in omega (arith, was, p, q, r)

pub three_most : (edits : List Edit) (few : InThreeBlocks edits) (set : ℕ → Bool) → of_three edits few set ≤ 3
unfolding of_three weight
three_most edits few set = by (set few.table) (set few.first) (set few.second)
  where
    one : (p : Bool) → cond p 1 0 ≤ 1
    one true = omega arith
    one false = omega arith

    by : (p q r : Bool) → cond p 1 0 + cond q 1 0 + cond r 1 0 ≤ 3
    by p q r = let a = one p in let b = one q in let c = one r in omega (arith, a, b, c)

-- what is touched stays so
pub touch_more : (k l : Kept) (b c : ℕ) → Touches b k l → k.touched c ≡ true → l.touched c ≡ true
touch_more k l b c touch on = ap (λ (set : ℕ → Bool). set c) touch.touched ∙ by (c == b) (k.touched c) on
  where
    by : (p q : Bool) → q ≡ true → (p || q) ≡ true
    by true q e = refl
    by false q e = e

pub touch_here : (k l : Kept) (b : ℕ) → Touches b k l → l.touched b ≡ true
touch_here k l b touch = ap (λ (set : ℕ → Bool). set b) touch.touched ∙ by (b == b) (k.touched b) (itself b)
  where
    by : (p q : Bool) → p ≡ true → (p || q) ≡ true
    by true q e = refl
    by false q e = absurd (true_false (sym e))

-- ---- the blocks of edits, touched one after the other

pub edit_on : (es : List Edit) (t : ℕ) (d : Edit) → t < length es → Contains es (slice_index_or es t d)
edit_on es t d few = (t, few, get_or_default es t (slice_index_or es t d) d few)

pub touch_place : (es : List Edit) (t n : ℕ) (d : Edit) (x : Seen) → t < length es → ((e : Edit) → Contains es e → e.block.0 < n) → x.count ≡ n → (slice_index_or es t d).block.0 < x.count
touch_place es t n d x few to is = subst (λ (m : ℕ). (slice_index_or es t d).block.0 < m) (sym is) (to _ (edit_on es t d few))

pub touched_next : (es : List Edit) (t : ℕ) (d : Edit) (k l : Kept) → t < length es → ((q : ℕ) (e : Edit) → q < t → k.touched (slice_index_or es q e).block.0 ≡ true) → Touches (slice_index_or es t d).block.0 k l → (q : ℕ) (e : Edit) → q < t + 1 → l.touched (slice_index_or es q e).block.0 ≡ true
touched_next es t d k l few was touch q e low = elim (cases_eq q t) [
  | inl here ↦ ap (λ x. l.touched (slice_index_or es x e).block.0) here ∙ ap (λ (x : Edit). l.touched x.block.0) (get_or_default es t e d few) ∙ touch_here k l (slice_index_or es t d).block.0 touch
  | inr away ↦ touch_more k l (slice_index_or es t d).block.0 (slice_index_or es q e).block.0 touch (was q e (omega (arith, low, away)))
]

-- a block that was cached without a name, or newly as one of the edits, may be asked for without one
pub touch_named : (shape : VolumeShape) (es : List Edit) (y z : Seen) (e : Edit) → CanTouch shape y es → CachesBy (λ b name. IsEdited es b × (name ≡ None)) y z → Contains es e → CanName z e.block.0 None
touch_named shape es y z e can caches on = record { in_range = tt; agrees = λ cached. subst (λ name. SamePage name None) (sym (none (caches.each e.block.0 cached))) tt }
  where
    none : ((y.cached e.block.0 ≡ true) × (z.names e.block.0 ≡ y.names e.block.0)) ⊎ (IsEdited es e.block.0 × (z.names e.block.0 ≡ None)) → z.names e.block.0 ≡ None
    none (inl kept) = kept.1 ∙ can.unnamed e on kept.0
    none (inr new) = new.1

-- the blocks of a plan may be touched, and still after others of its update
pub can_touch : (shape : VolumeShape) (y : Seen) (j : Kept) (c : DirChange) → CanMake shape y j c → CanTouch shape y c.edits
can_touch shape y j c can =
    let applies = plan_applies shape can.old y j c.dir.0 KeepsRows c can.plan in
    record {
      from = applies.from;
      to = applies.to;
      unnamed = λ e on cached. (let at = plan_edits shape can.old y j c.dir.0 KeepsRows c can.plan e.block.0 (e, on, refl) in subst (λ b. y.names b ≡ None) at.2 (can.plan.unnamed at.0 at.1 (subst (λ b. y.cached b ≡ true) (sym at.2) cached)));
    }

pub touch_still : (shape : VolumeShape) (d : ℕ) (es : List Edit) (x y z : Seen) → CanTouch shape x es → Caches x y 1 None → Caches y z (inode_block d) None → CanTouch shape z es
touch_still shape d es x y z can first second = record {
  from = can.from;
  to = can.to;
  unnamed = λ e on cached. none e on ((caches_by_trans (λ b name. name ≡ None) x y z (caches_by_one (λ b name. name ≡ None) x y 1 None first refl) (caches_by_one (λ b name. name ≡ None) y z (inode_block d) None second refl)).each e.block.0 cached);
}
  where
    none : (e : Edit) → Contains es e → ((x.cached e.block.0 ≡ true) × (z.names e.block.0 ≡ x.names e.block.0)) ⊎ (z.names e.block.0 ≡ None) → z.names e.block.0 ≡ None
    none e on (inl kept) = kept.1 ∙ can.unnamed e on kept.0
    none e on (inr new) = new

-- ---- a call that changes no word

pub order_passed : (shape : VolumeShape) (y : Seen) (j : Kept) (z : Seen) (k : Kept) → DirsOrder shape y j → z.words ≡ y.words → HasShape shape z → Drops y z → Firm j k → DirsOrder shape z k
order_passed shape y j z k h words has_shape drops firm = record {
  order = record {
    has_shape = has_shape;
    mapped = subst (IsMapped shape) (sym words) h.order.mapped;
    named = subst (λ (f : BlockWords). AllNamed (volume_layout shape f) z) (sym words) (record { each = λ i ino s has on. (let was = drops.kept _ on in subst (λ name. Bears i (placed_at y.words i) s name) (sym was.1) (h.order.named.each i ino s has was.0)) });
    firm = subst (λ (f : BlockWords). Firmly (volume_layout shape f) k) (sym words) (firm_on _ j k h.order.firm firm);
  };
  entries = subst (λ (f : BlockWords). EntryRule (held_of shape f)) (sym words) h.entries;
  dirs = λ i at. subst (λ (f : BlockWords). (held_of shape f i).kind ≡ 1) (sym words) (h.dirs i at);
  apart = λ i at. subst (λ (f : BlockWords). NamesApart (held_of shape f i)) (sym words) (h.apart i at);
}

pub firm_false : (k j : Kept) (b : ℕ) → Firm k j → k.loose b ≡ false → j.loose b ≡ false
firm_false k j b firm was = by (j.loose b) refl
  where
    by : (t : Bool) → j.loose b ≡ t → j.loose b ≡ false
    by true e = absurd (true_false (sym (firm.loose b e) ∙ was))
    by false e = e

pub can_passed : (shape : VolumeShape) (y : Seen) (j : Kept) (z : Seen) (k : Kept) (c : DirChange) → CanMake shape y j c → z.words ≡ y.words → Drops y z → Firm j k → CanMake shape z k c
can_passed shape y j z k c can words drops firm = record {
  old = can.old;
  ino = can.ino;
  plan = record { dir = p.dir; node = p.node; holds = p.holds; turns = p.turns; from = p.from; takes = p.takes; made = λ g same. p.made g (λ s has w. same s has w ∙ ap (λ (f : BlockWords). f (p.node.block s) w) words); was_dir = p.was_dir; is_dir = p.is_dir; does = p.does; words = p.words; few = p.few; firm = λ s has. firm_false j k (p.node.block s) firm (p.firm s has); unnamed = λ s has on. (let was = drops.kept _ on in was.1 ∙ p.unnamed s has was.0) };
  still = ap (λ (f : BlockWords). held_of shape f c.dir.0) words ∙ can.still;
  may = subst (λ (f : BlockWords). MayBeMade shape (placed_at can.old c.dir.0) p.node c.dir.0 f f) (sym words) can.may;
}
  where
    p : PlansDir shape can.old y j c.dir.0 KeepsRows c
    p = can.plan
