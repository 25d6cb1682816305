-- What makes the levels right after one side of a tree has lost a level.
use Rattle.std.proofs.Common.{◌≡◌, ◌≢◌, ◌⊎◌, ℕ, suc, ◌<◌, ◌≤◌, min, refl, sym, ap, subst, ◌∙◌, inl, inr, ⊎_elim, arith}
use Rattle.std.proofs.lemmas.Bool.{lt-ltb, eq-eqb, ne_eqb, cases_order}
use Rattle.map_laws.specs.Trees.{Tree, Leaf, Node, level, right, LevelsOk}
use Rattle.map_laws.specs.Changes.{skew, split, at_right, lowered_to, lowered, turned, settled}
use Rattle.map_laws.proofs.Depths.{right-le}
use Rattle.map_laws.proofs.Turned.{if_same, skew_ok, split_ok, settled_ok}

-- the levels are right after a removal from a tree on level n with a right child on level j, and the root is one level lower; or it is on its old
-- level, with a right child no higher than before
pub record Shrunk (n j : ℕ) (u : Tree) : Type 0 where
  pub ok : LevelsOk u
  pub top : (suc (level u) ≡ n) ⊎ ((level u ≡ n) × (level (right u) ≤ j))

-- what is right already stays
as_is : (n j : ℕ) (t : Tree) → LevelsOk t → level t ≡ n → level (right t) ≤ j → Shrunk n j (settled t)
as_is n j t h e f = rw (settled_ok t h) (record { ok = h; top = inr (e, f) })

skew_same : (n a m b : ℕ) (x y r : Tree) (p q : ℕ × ℕ) → m ≡ n → skew (Node n a (Node m b x q y) p r) ≡ Node m b x q (Node n a y p r)
skew_same n a m b x y r p q e = rw (eq-eqb m n e)

skew_other : (n a : ℕ) (l r : Tree) (p : ℕ × ℕ) → level l ≢ n → skew (Node n a l p r) ≡ Node n a l p r
skew_other n a l r p e = rw (ne_eqb (level l) n e)

split_same : (n a m b : ℕ) (l x y : Tree) (p q : ℕ × ℕ) → level y ≡ n → split (Node n a l p (Node m b x q y)) ≡ Node (suc m) b (Node n a l p x) q y
split_same n a m b l x y p q e = rw (eq-eqb (level y) n e)

split_other : (n a : ℕ) (l r : Tree) (p : ℕ × ℕ) → level (right r) ≢ n → split (Node n a l p r) ≡ Node n a l p r
split_other n a l r p e = rw (ne_eqb (level (right r)) n e)

level-skew : (t : Tree) → level (skew t) ≡ level t
level-skew Leaf = refl
level-skew (Node n a Leaf p r) = if_same (λ z. level z ≡ n) 0 n (Node n a Leaf p r) (Node n a Leaf p r) (λ _. refl) (λ _. refl)
level-skew (Node n a (Node m b x q y) p r) = if_same (λ z. level z ≡ n) m n (Node m b x q (Node n a y p r)) (Node n a (Node m b x q y) p r) (λ e. e) (λ _. refl)

-- the left side is two levels below the root, and the right child one: at most one turn to the left
turned_near : (n m a b : ℕ) (u x y : Tree) (p q : ℕ × ℕ) → n ≡ suc m → m ≡ suc (level u) → LevelsOk u → LevelsOk (Node m b x q y) → Shrunk n m (turned (Node m a u p (Node m b x q y)))
turned_near n m a b u x y p q e f hu h =
    let t : Tree = Node m a u p (Node m b x q y) in
    let e₁ : skew t ≡ t = skew_other m a u (Node m b x q y) p (omega arith) in
    let e₂ : at_right skew t ≡ t = ap (λ z. Node m a u p z) (skew_ok (Node m b x q y) h) in
    let e₃ : at_right (at_right skew) t ≡ t = ap (λ z. Node m a u p (Node m b x q z)) (skew_ok y h.5) in
    let steps : turned t ≡ at_right split (split t) =
    ap (λ z. at_right split (split (at_right (at_right skew) (at_right skew z)))) e₁ ∙ ap (λ z. at_right split (split (at_right (at_right skew) z))) e₂ ∙ ap (λ z. at_right split (split z)) e₃ in
    subst (Shrunk n m) (sym steps)
    (if_same (λ z. Shrunk n m (at_right split z)) (level y) m (Node (suc m) b (Node m a u p x) q y) t
    (λ i. subst (λ z. Shrunk n m (Node (suc m) b (Node m a u p x) q z)) (sym (split_ok y h.5)) (record { ok = grind arith; top = grind arith }))
    (λ i. subst (λ z. Shrunk n m (Node m a u p z)) (sym (split_ok (Node m b x q y) h)) (record { ok = grind arith; top = grind arith })))

-- what is right of a turned node: a tree on level m or one above it, with nothing beside its root there
record Beside (m : ℕ) (w : Tree) : Type 0 where
  ok : LevelsOk w
  most : level w ≤ suc m
  least : m ≤ level w
  below : level (right w) ≤ m

-- a root on level m with a right child on it, and a left side on it or one below
split_beside : (m b : ℕ) (x y : Tree) (q : ℕ × ℕ) → m ≡ suc (level x) → LevelsOk x → LevelsOk y → level y ≡ m → Beside m (split (Node m b x q y))
split_beside m b x Leaf q e hx hy f = absurd (omega arith)
split_beside m b x (Node k c s w z) q e hx hy f =
    if_same (Beside m) (level z) m (Node (suc k) c (Node m b x q s) w z) (Node m b x q (Node k c s w z))
    (λ i. record { ok = grind arith; most = grind arith; least = grind arith; below = grind arith })
    (λ i. record { ok = grind arith; most = grind arith; least = grind arith; below = grind arith })

beside : (m b : ℕ) (x y : Tree) (q : ℕ × ℕ) → LevelsOk x → LevelsOk y → level y ≡ m → level x ≤ m → m ≤ suc (level x) → level (right x) < m → Beside m (split (skew (Node m b x q y)))
beside m b Leaf y q hx hy e f g h = rw (ne_eqb 0 m (omega arith)) (split_beside m b Leaf y q (omega arith) hx hy e)
beside m b (Node k c s w z) y q hx hy e f g h =
    if_same (λ v. Beside m (split v)) k m (Node k c s w (Node m b z q y)) (Node m b (Node k c s w z) q y)
    (λ i. rw (eq-eqb (level y) k (omega arith)) (record { ok = grind arith; most = grind arith; least = grind arith; below = grind arith }))
    (λ i. split_beside m b (Node k c s w z) y q (omega arith) hx hy e)

-- the left side is two levels below the root, and the right child on the root's level: it goes down with the root, and its left child comes up
turned_far : (n m j k a b c : ℕ) (u s z y : Tree) (p q w : ℕ × ℕ) → n ≡ suc m → m ≡ suc (level u) → LevelsOk u → j ≡ n → k ≡ m → LevelsOk (Node j b (Node k c s w z) q y) → level y ≤ m
    → Shrunk n j (turned (Node m a u p (Node m b (Node k c s w z) q y)))
turned_far n m j k a b c u s z y p q w e f hu i o h low =
    let t : Tree = Node m a u p (Node m b (Node k c s w z) q y) in
    let v : Tree = skew (Node m b z q y) in
    let e₁ : skew t ≡ t = skew_other m a u (Node m b (Node k c s w z) q y) p (omega arith) in
    let e₂ : at_right skew t ≡ Node m a u p (Node k c s w (Node m b z q y)) = ap (λ z'. Node m a u p z') (skew_same m b k c s z y q w o) in
    let e₃ : split (Node m a u p (Node k c s w v)) ≡ Node (suc k) c (Node m a u p s) w v = split_same m a k c u s v p w (level-skew (Node m b z q y)) in
    let steps : turned t ≡ Node (suc k) c (Node m a u p s) w (split v) =
    ap (λ z'. at_right split (split (at_right (at_right skew) (at_right skew z')))) e₁ ∙ ap (λ z'. at_right split (split (at_right (at_right skew) z'))) e₂ ∙ ap (at_right split) e₃ in
    subst (Shrunk n j) (sym steps) (far_ok n m j k a c u s z (split v) p w e f hu i o h.4 (beside m b z y q h.4.5 h.5 (omega arith) (omega arith) (omega arith) (omega arith)))
  where
    far_ok : (n m j k a c : ℕ) (u s z v : Tree) (p w : ℕ × ℕ) → n ≡ suc m → m ≡ suc (level u) → LevelsOk u → j ≡ n → k ≡ m → LevelsOk (Node k c s w z) → Beside m v → Shrunk n j (Node (suc k) c (Node m a u p s) w v)
    far_ok n m j k a c u s z v p w e f hu i o h g = record { ok = grind arith; top = inr (omega arith) }

-- the new level of the root
lowered_left : (n m a j b : ℕ) (u x y : Tree) (p q : ℕ × ℕ) → n ≡ suc m → m ≡ suc (level u) → m ≤ j → lowered (Node n a u p (Node j b x q y)) ≡ Node m a u p (Node m b x q y)
lowered_left n m a j b u x y p q e f g =
    let i : suc (min (level u) j) ≡ m = omega arith in
    let k : min m j ≡ m = omega arith in
    rw (lt-ltb (suc (min (level u) j)) n (omega arith), i, k)

lowered_to_small : (m : ℕ) (t : Tree) → level t ≤ m → lowered_to m t ≡ t
lowered_to_small m Leaf h = refl
lowered_to_small m (Node n a l p r) h =
    let e : min m n ≡ n = omega arith in
    rw e

lowered_right : (n m a : ℕ) (l u : Tree) (p : ℕ × ℕ) → n ≡ suc m → m ≡ suc (level u) → level l ≡ m → lowered (Node n a l p u) ≡ Node m a l p u
lowered_right n m a l u p e f g =
    let i : suc (min (level l) (level u)) ≡ m = omega arith in
    rw (lt-ltb (suc (min (level l) (level u))) n (omega arith), i, lowered_to_small m u (omega arith))

-- a greater bound for the right child
shrunk_up : (n m j : ℕ) (t : Tree) → m ≤ j → Shrunk n m t → Shrunk n j t
shrunk_up n m j t h g = record { ok = g.ok; top = ⊎_elim (λ e. inl e) (λ e. inr (omega arith)) g.top }

-- the left side has lost a level
settled_left_low : (n a j b : ℕ) (u x y l : Tree) (p q : ℕ × ℕ) → LevelsOk (Node n a l p (Node j b x q y)) → LevelsOk u → suc (level u) ≡ level l → Shrunk n j (settled (Node n a u p (Node j b x q y)))
settled_left_low n a j b u Leaf y l p q h hu e =
    let m : ℕ = level l in
    subst (λ z. Shrunk n j (turned z)) (sym (lowered_left n m a j b u Leaf y p q (omega arith) (omega arith) (omega arith)))
    (shrunk_up n m j _ (omega arith) (turned_near n m a b u Leaf y p q (omega arith) (omega arith) hu (grind arith)))
settled_left_low n a j b u (Node k c s w z) y l p q h hu e =
    let m : ℕ = level l in
    subst (λ z'. Shrunk n j (turned z')) (sym (lowered_left n m a j b u (Node k c s w z) y p q (omega arith) (omega arith) (omega arith)))
    (elim (cases_order j n) [
      | inl same ↦ turned_far n m j k a b c u s z y p q w (omega arith) (omega arith) hu same (omega arith) h.5 (omega arith)
      | inr (inl less) ↦ shrunk_up n m j _ (omega arith) (turned_near n m a b u (Node k c s w z) y p q (omega arith) (omega arith) hu (grind arith))
      | inr (inr more) ↦ absurd (omega arith)
    ])

pub settled_left : (n a : ℕ) (l u : Tree) (p : ℕ × ℕ) (r : Tree) → LevelsOk (Node n a l p r) → Shrunk (level l) (level (right l)) u → Shrunk n (level r) (settled (Node n a u p r))
settled_left n a l u p Leaf h g = elim g.top [ inl e ↦ absurd (omega arith) | inr e ↦ as_is n 0 (Node n a u p Leaf) (grind (arith, g.ok)) refl (omega arith) ]
settled_left n a l u p (Node j b x q y) h g =
    elim g.top [ inl e ↦ settled_left_low n a j b u x y l p q h g.ok e | inr e ↦ as_is n j (Node n a u p (Node j b x q y)) (grind (arith, g.ok)) refl (omega arith) ]

-- the right side has lost a level, and the left child is on the root's new one
right_flat : (n m a k c : ℕ) (u s z : Tree) (p w : ℕ × ℕ) → n ≡ suc m → m ≡ suc (level u) → LevelsOk u → k ≡ m → LevelsOk (Node k c s w z) → level z ≢ m → Shrunk n m (turned (Node m a (Node k c s w z) p u))
right_flat n m a k c u s z p w e f hu o h ne =
    let v : Tree = Node m a z p u in
    let t : Tree = Node k c s w v in
    let e₁ : skew (Node m a (Node k c s w z) p u) ≡ t = skew_same m a k c s z u p w o in
    let e₂ : at_right skew t ≡ t = ap (λ z'. Node k c s w z') (skew_other m a z u p ne) in
    let e₃ : at_right (at_right skew) t ≡ t = ap (λ z'. Node k c s w (Node m a z p z')) (skew_ok u hu) in
    let e₄ : split t ≡ t = split_other k c s v w (omega arith) in
    let e₅ : at_right split t ≡ t = ap (λ z'. Node k c s w z') (split_other m a z u p (omega (arith, right-le u hu))) in
    let steps : turned (Node m a (Node k c s w z) p u) ≡ t =
    ap (λ z'. at_right split (split (at_right (at_right skew) (at_right skew z')))) e₁ ∙ ap (λ z'. at_right split (split (at_right (at_right skew) z'))) e₂ ∙ ap (λ z'. at_right split (split z')) e₃
    ∙ ap (at_right split) e₄ ∙ e₅ in
    subst (Shrunk n m) (sym steps) (flat_ok n m a k c u s z p w e f hu o h ne (right-le u hu))
  where
    flat_ok : (n m a k c : ℕ) (u s z : Tree) (p w : ℕ × ℕ) → n ≡ suc m → m ≡ suc (level u) → LevelsOk u → k ≡ m → LevelsOk (Node k c s w z) → level z ≢ m → level (right u) ≤ level u → Shrunk n m (Node k c s w (Node m a z p u))
    flat_ok n m a k c u s z p w e f hu o h ne i = record { ok = grind arith; top = inl (omega arith) }

right_high : (n m a k c g d : ℕ) (u s z₁ z₂ : Tree) (p w v : ℕ × ℕ) → n ≡ suc m → m ≡ suc (level u) → LevelsOk u → k ≡ m → g ≡ m → LevelsOk (Node k c s w (Node g d z₁ v z₂)) → Shrunk n m (turned (Node m a (Node k c s w (Node g d z₁ v z₂)) p u))
right_high n m a k c g d u s z₁ z₂ p w v e f hu o i h =
    let t₁ : Tree = Node k c s w (Node m a (Node g d z₁ v z₂) p u) in
    let t₂ : Tree = Node k c s w (Node g d z₁ v (Node m a z₂ p u)) in
    let t₃ : Tree = Node (suc g) d (Node k c s w z₁) v (Node m a z₂ p u) in
    let e₁ : skew (Node m a (Node k c s w (Node g d z₁ v z₂)) p u) ≡ t₁ = skew_same m a k c s (Node g d z₁ v z₂) u p w o in
    let e₂ : at_right skew t₁ ≡ t₂ = ap (λ z'. Node k c s w z') (skew_same m a g d z₁ z₂ u p v i) in
    let e₃ : at_right (at_right skew) t₂ ≡ t₂ = ap (λ z'. Node k c s w (Node g d z₁ v z')) (skew_other m a z₂ u p (omega arith)) in
    let e₄ : split t₂ ≡ t₃ = split_same k c g d s z₁ (Node m a z₂ p u) w v (omega arith) in
    let e₅ : at_right split t₃ ≡ t₃ = ap (λ z'. Node (suc g) d (Node k c s w z₁) v z') (split_other m a z₂ u p (omega (arith, right-le u hu))) in
    let steps : turned (Node m a (Node k c s w (Node g d z₁ v z₂)) p u) ≡ t₃ =
    ap (λ z'. at_right split (split (at_right (at_right skew) (at_right skew z')))) e₁ ∙ ap (λ z'. at_right split (split (at_right (at_right skew) z'))) e₂ ∙ ap (λ z'. at_right split (split z')) e₃
    ∙ ap (at_right split) e₄ ∙ e₅ in
    subst (Shrunk n m) (sym steps) (high_ok n m a k c g d u s z₁ z₂ p w v e f hu o i h (right-le u hu))
  where
    high_ok : (n m a k c g d : ℕ) (u s z₁ z₂ : Tree) (p w v : ℕ × ℕ) → n ≡ suc m → m ≡ suc (level u) → LevelsOk u → k ≡ m → g ≡ m → LevelsOk (Node k c s w (Node g d z₁ v z₂)) → level (right u) ≤ level u → Shrunk n m (Node (suc g) d (Node k c s w z₁) v (Node m a z₂ p u))
    high_ok n m a k c g d u s z₁ z₂ p w v e f hu o i h j = record { ok = grind arith; top = inr (omega arith) }

settled_right_low : (n a k c : ℕ) (u s z r : Tree) (p w : ℕ × ℕ) → LevelsOk (Node n a (Node k c s w z) p r) → LevelsOk u → suc (level u) ≡ level r → level r ≡ k → Shrunk n (level r) (settled (Node n a (Node k c s w z) p u))
settled_right_low n a k c u s Leaf r p w h hu e f =
    let m : ℕ = level r in
    subst (λ z'. Shrunk n m (turned z')) (sym (lowered_right n m a (Node k c s w Leaf) u p (omega arith) (omega arith) (omega arith)))
    (right_flat n m a k c u s Leaf p w (omega arith) (omega arith) hu (omega arith) h.4 (omega arith))
settled_right_low n a k c u s (Node g d z₁ v z₂) r p w h hu e f =
    let m : ℕ = level r in
    subst (λ z'. Shrunk n m (turned z')) (sym (lowered_right n m a (Node k c s w (Node g d z₁ v z₂)) u p (omega arith) (omega arith) (omega arith)))
    (elim (cases_order g m) [
      | inl same ↦ right_high n m a k c g d u s z₁ z₂ p w v (omega arith) (omega arith) hu (omega arith) same h.4
      | inr other ↦ right_flat n m a k c u s (Node g d z₁ v z₂) p w (omega arith) (omega arith) hu (omega arith) h.4 (omega arith)
    ])

pub settled_right : (n a : ℕ) (l : Tree) (p : ℕ × ℕ) (r u : Tree) → LevelsOk (Node n a l p r) → Shrunk (level r) (level (right r)) u → Shrunk n (level r) (settled (Node n a l p u))
settled_right n a Leaf p r u h g =
    elim g.top [
      | inl e ↦ as_is n (level r) (Node n a Leaf p u) (grind (arith, g.ok, right-le u g.ok)) refl (omega arith)
      | inr e ↦ as_is n (level r) (Node n a Leaf p u) (grind (arith, g.ok, right-le u g.ok)) refl (omega arith)
    ]
settled_right n a (Node k c s w z) p r u h g =
    elim g.top [
      | inl e ↦ elim (cases_order (level r) k) [
        | inl same ↦ settled_right_low n a k c u s z r p w h g.ok e same
        | inr other ↦ as_is n (level r) (Node n a (Node k c s w z) p u) (grind (arith, g.ok, right-le u g.ok)) refl (omega arith)
      ]
      | inr e ↦ as_is n (level r) (Node n a (Node k c s w z) p u) (grind (arith, g.ok)) refl (omega arith)
    ]
