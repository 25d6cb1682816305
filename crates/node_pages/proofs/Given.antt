-- The node of an inode for which a change is prepared: the one that lies there, or a new one without blocks.
use Rattle.node_pages.proofs.Common.{◌≡◌, ℕ, ◌<◌, ◌≤◌, sym, subst, ◌∙◌, arith, inl, inr, slice_index, BlockWords, VolumeShape, IsIno, few_tables, Slot, AtPage, AtTable, Placed, HasSlot, placed_at, lies_self, table_of, largest_size, pages, IsNumbered, Inode}
use Rattle.rio_model.specs.Placed.{Within}
use Rattle.rio_model.proofs.PlacedRules.{direct_of}
use Rattle.node_pages.specs.Changes.{PlansFor, given_node}

pub record Given (f : BlockWords) (i : ℕ) (given : Inode) : Type 0 where
  pub used : 0 < given.kind
  pub on : (s : Slot) → HasSlot (placed_at f i) s → HasSlot (given_node f i given) s
  pub back : (s : Slot) → HasSlot (given_node f i given) s → HasSlot (placed_at f i) s
  pub direct : (p : ℕ) → p < 24 → HasSlot (given_node f i given) (AtPage p) → slice_index given.direct p ≡ (placed_at f i).block (AtPage p)
  pub indirect : (k : ℕ) → HasSlot (given_node f i given) (AtTable k) → given.indirect ≡ (placed_at f i).block (AtTable k)

has_as : (n m : Placed) (s : Slot) → n.kind ≡ m.kind → n.size ≡ m.size → HasSlot n s → HasSlot m s
has_as n m s kind size has = record { used = subst (λ (k : ℕ). 0 < k) kind has.used; within = subst (λ (z : ℕ). Within z s) size has.within }

empty_has : (n : Placed) (s : Slot) → n.size ≡ 0 → HasSlot n s → ⊥
empty_has n (AtPage p) none has = let within : p < pages n.size = has.within in omega (arith, within, none)
empty_has n (AtTable k) none has = let many = (few_tables n.size k has.within).1 in omega (arith, many, none)

pub given_of : (f : BlockWords) (i : ℕ) (given : Inode) → PlansFor f i given → Given f i given
given_of f i given (inl (own, used)) = record {
  used = used;
  on = λ s has. has_as (placed_at f i) (given_node f i given) s (sym own.kind) (sym own.size) has;
  back = back;
  direct = λ p few has. own.direct p few ∙ direct_of f i (placed_at f i) p (lies_self f i) few (back (AtPage p) has);
  indirect = λ k has. own.indirect ∙ table_of f i (placed_at f i) k (lies_self f i) (back (AtTable k) has);
}
  where
    back : (s : Slot) → HasSlot (given_node f i given) s → HasSlot (placed_at f i) s
    back s has = has_as (given_node f i given) (placed_at f i) s own.kind own.size has
given_of f i given (inr (free, none, least, most)) = record {
  used = least;
  on = λ s has. absurd (let used = has.used in omega (arith, used, free));
  back = λ s has. absurd (empty_has _ s none has);
  direct = λ p few has. absurd (empty_has _ (AtPage p) none has);
  indirect = λ k has. absurd (empty_has _ (AtTable k) none has);
}

pub given_most : (shape : VolumeShape) (f : BlockWords) (i : ℕ) (given : Inode) → IsNumbered shape f → IsIno shape i → PlansFor f i given → given.size ≤ largest_size
given_most shape f i given h ino (inl (own, used)) = subst (λ (z : ℕ). z ≤ largest_size) (sym own.size) (h.sizes.each i ino (subst (λ (k : ℕ). 0 < k) own.kind used)).most
given_most shape f i given h ino (inr (free, none, least, most)) = omega (arith, none)

-- a page that an inode numbers
pub direct_page : (f : BlockWords) (i : ℕ) (given : Inode) → PlansFor f i given → (p b : ℕ) → p < 24 → p < pages given.size → b ≡ slice_index given.direct p → b ≡ (placed_at f i).block (AtPage p)
direct_page f i given h p b few within is = let all = given_of f i given h in is ∙ all.direct p few (record { used = all.used; within = within })
