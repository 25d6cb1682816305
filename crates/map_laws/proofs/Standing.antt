-- What stands in words is the one tree that they say, and stays where other nodes change.
use Rattle.std.proofs.Common.{◌≡◌, ◌≢◌, ℕ, zero, suc, ◌+◌, ◌*◌, ◌/◌, ◌%◌, ◌<◌, ◌≤◌, cond, eqb, Some, refl, sym, ap, ap₂, ◌∙◌, inl, inr, arith}
use Rattle.std.proofs.lemmas.Bool.{eq-eqb, ne_eqb, lt-ltb, le-ltb, cases_order}
use Rattle.map_laws.specs.Trees.{Tree, Leaf, Node, height, looked_up, place_at, times}
use Rattle.map_laws.specs.Words.{place, IsNode, Stands, tree_at, Keeps}

node_word : (a i : ℕ) → a % 64 ≡ 0 → a / 8 ≤ i → i < a / 8 + 8 → i / 8 * 64 ≡ a
node_word a i u g h = omega arith

times_self : (n a : ℕ) (l : Tree) (p : ℕ × ℕ) (r : Tree) → times a (Node n a l p r) ≡ suc (times a l + times a r)
times_self n a l p r = rw (eq-eqb a a refl) (omega arith)

same_node : (n a : ℕ) (l x : Tree) (p q : ℕ × ℕ) (r y : Tree) (m : ℕ) → n ≡ m → l ≡ x → p.0 ≡ q.0 → p.1 ≡ q.1 → r ≡ y → Node n a l p r ≡ Node m a x q y
same_node n a l x p q r y m e f g h i =
    let j : p ≡ q = ap₂ (λ u v. (u, v)) g h in
    cc

-- the words say the tree that stands in them
pub tree_stands : (m : ℕ) (f : ℕ → ℕ) (t : Tree) → Stands f t → height t ≤ m → tree_at m f (place t) ≡ t
unfolding tree_at
tree_stands zero f Leaf s h = refl
tree_stands (suc m) f Leaf s h = refl
tree_stands zero f (Node n a l p r) s h = absurd (omega arith)
tree_stands (suc m) f (Node n a l p r) s h =
    rw (ne_eqb a 0 (omega (arith, s.0.there)))
    (same_node (f (a / 8 + 4)) a (tree_at m f (f (a / 8 + 2))) l (f (a / 8), f (a / 8 + 1)) p (tree_at m f (f (a / 8 + 3))) r n s.0.has_level
    (ap (tree_at m f) s.0.has_left ∙ tree_stands m f l s.1 (omega arith)) s.0.has_key s.0.has_value (ap (tree_at m f) s.0.has_right ∙ tree_stands m f r s.2 (omega arith)))

stays_node : (f g : ℕ → ℕ) (n a left : ℕ) (p : ℕ × ℕ) (right : ℕ) → ((i : ℕ) → a / 8 ≤ i → i < a / 8 + 8 → g i ≡ f i) → IsNode f n a left p right → IsNode g n a left p right
stays_node f g n a left p right e s = record {
  unit = s.unit;
  there = s.there;
  has_key = e (a / 8) (omega arith) (omega arith) ∙ s.has_key;
  has_value = e (a / 8 + 1) (omega arith) (omega arith) ∙ s.has_value;
  has_left = e (a / 8 + 2) (omega arith) (omega arith) ∙ s.has_left;
  has_right = e (a / 8 + 3) (omega arith) (omega arith) ∙ s.has_right;
  has_level = e (a / 8 + 4) (omega arith) (omega arith) ∙ s.has_level;
}

-- a tree stands as before where none of its blocks is owned
pub stays : (own f g : ℕ → ℕ) (t : Tree) → ((a : ℕ) → 1 ≤ times a t → own a ≡ 0) → Keeps own f g → Stands f t → Stands g t
stays own f g Leaf off e s = tt
stays own f g (Node n a l p r) off e s = (
  stays_node f g n a (place l) p (place r) (λ i h k. e i (rw (node_word a i s.0.unit h k) (off a (omega (arith, times_self n a l p r))))) s.0,
  stays own f g l (λ b h. off b (omega (arith, h))) e s.1,
  stays own f g r (λ b h. off b (omega (arith, h))) e s.2,
)

-- a name has one tree
pub one_tree : (f : ℕ → ℕ) (t u : Tree) → Stands f t → Stands f u → place t ≡ place u → t ≡ u
one_tree f t u h g e =
    sym (tree_stands (height t + height u) f t h (omega arith)) ∙ ap (tree_at (height t + height u) f) e ∙ tree_stands (height t + height u) f u g (omega arith)

-- a byte offset that a node can be named by
pub record IsName (a : ℕ) : Type 0 where
  pub unit : a % 64 ≡ 0
  pub there : 0 < a

-- what stands on one side or the other
named_in_side : (f : ℕ → ℕ) (a b : ℕ) (l r : Tree) → (1 ≤ times a l → IsName a) → (1 ≤ times a r → IsName a) → b ≢ a → 1 ≤ cond (eqb b a) 1 0 + (times a l + times a r) → IsName a
named_in_side f a b l r left right ne h =
    let some : 1 ≤ 0 + (times a l + times a r) = rw (ne_eqb b a ne) at h in
    elim (cases_order (times a l) 0) [ inl none ↦ right (omega arith) | inr other ↦ left (omega arith) ]

pub named : (f : ℕ → ℕ) (a : ℕ) (t : Tree) → Stands f t → 1 ≤ times a t → IsName a
named f a Leaf s h = absurd (omega arith)
named f a (Node n b l p r) s h =
    elim (cases_order b a) [
      | inl same ↦ record { unit = rw (sym same) s.0.unit; there = omega (arith, s.0.there) }
      | inr other ↦ named_in_side f a b l r (named f a l s.1) (named f a r s.2) (omega arith) h
    ]

some_same : (u v : ℕ) → Some u ≡ Some v → u ≡ v
some_same u v e = cc

-- the node of a key has the key and its value
pub node_of_key : (f : ℕ → ℕ) (k v : ℕ) (t : Tree) → Stands f t → looked_up k t ≡ Some v → (f (place_at k t / 8) ≡ k) × (f (place_at k t / 8 + 1) ≡ v)
node_of_key f k v Leaf s e = absurd (cc)
node_of_key f k v (Node n a l p r) s e =
    elim (cases_order k p.0) [
      | inl same ↦ rw (le-ltb k p.0 (omega arith), le-ltb p.0 k (omega arith))
          (s.0.has_key ∙ sym same, s.0.has_value ∙ some_same p.1 v (rw (le-ltb k p.0 (omega arith), le-ltb p.0 k (omega arith)) at e))
      | inr (inl less) ↦ rw (lt-ltb k p.0 less) (node_of_key f k v l s.1 (rw (lt-ltb k p.0 less) at e))
      | inr (inr more) ↦ rw (le-ltb k p.0 (omega arith), lt-ltb p.0 k more) (node_of_key f k v r s.2 (rw (le-ltb k p.0 (omega arith), lt-ltb p.0 k more) at e))
    ]
