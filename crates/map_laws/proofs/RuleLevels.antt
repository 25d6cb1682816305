-- The rules of levels one by one say what LevelsOk says.
use Rattle.std.proofs.Common.{◌≡◌, ℕ, suc, ◌<◌, ◌≤◌, ◌⊎◌, true, false, refl, inl, inr, ⊎_elim, arith}
use Rattle.std.proofs.lemmas.Bool.{cases_order}
use Rattle.map_laws.specs.Trees.{Tree, Leaf, Node, level, right, LevelsOk}
use Rattle.map_laws.specs.Levels.{is_node, KeepsRules, RulesOk}

either : (t : Tree) → (is_node t ≡ true) ⊎ (is_node t ≡ false)
either Leaf = inr refl
either (Node n a l p r) = inl refl

not_both : (t : Tree) → is_node t ≡ true → is_node t ≡ false → ⊥
not_both Leaf e f = cc
not_both (Node n a l p r) e f = cc

level_none : (t : Tree) → is_node t ≡ false → level t ≡ 0
level_none Leaf e = refl
level_none (Node n a l p r) e = absurd (cc)

level_some : (t : Tree) → LevelsOk t → is_node t ≡ true → 0 < level t
level_some Leaf h e = absurd (cc)
level_some (Node n a l p r) h e = omega arith

some_level : (t : Tree) → 0 < level t → is_node t ≡ true
some_level Leaf h = absurd (omega arith)
some_level (Node n a l p r) h = refl

-- without one of its children a node is on level 1 at most
without_left : (n : ℕ) (l r : Tree) → KeepsRules n l r → is_node l ≡ false → n ≤ 1
without_left n l r k none = elim (cases_order n 1) [ inl same ↦ omega arith | inr (inl less) ↦ omega arith | inr (inr more) ↦ absurd (not_both l (k.two_children more).0 none) ]

without_right : (n : ℕ) (l r : Tree) → KeepsRules n l r → is_node r ≡ false → n ≤ 1
without_right n l r k none = elim (cases_order n 1) [ inl same ↦ omega arith | inr (inl less) ↦ omega arith | inr (inr more) ↦ absurd (not_both r (k.two_children more).1 none) ]

above_zero : (n : ℕ) (l r : Tree) → KeepsRules n l r → LevelsOk r → is_node l ≡ false → 0 < n
above_zero n l r k hr none =
    ⊎_elim (λ some. ⊎_elim (λ e. omega (arith, level_some r hr some)) (λ e. omega arith) (k.right_child some)) (λ also. omega (arith, k.childless none also)) (either r)

left_level : (n : ℕ) (l r : Tree) → KeepsRules n l r → LevelsOk r → n ≡ suc (level l)
left_level n l r k hr =
    ⊎_elim (λ some. omega (arith, k.left_child some)) (λ none. omega (arith, level_none l none, without_left n l r k none, above_zero n l r k hr none)) (either l)

right_most : (n : ℕ) (l r : Tree) → KeepsRules n l r → level r ≤ n
right_most n l r k = ⊎_elim (λ some. ⊎_elim (λ e. omega arith) (λ e. omega arith) (k.right_child some)) (λ none. omega (arith, level_none r none)) (either r)

right_least : (n : ℕ) (l r : Tree) → KeepsRules n l r → n ≤ suc (level r)
right_least n l r k = ⊎_elim (λ some. ⊎_elim (λ e. omega arith) (λ e. omega arith) (k.right_child some)) (λ none. omega (arith, without_right n l r k none)) (either r)

far_level : (n : ℕ) (l r : Tree) → KeepsRules n l r → 0 < n → level (right r) < n
far_level n l r k some = ⊎_elim (λ far. k.right_grandchild far) (λ none. omega (arith, some, level_none (right r) none)) (either (right r))

pub levels_by_rules : (t : Tree) → RulesOk t → LevelsOk t
levels_by_rules Leaf h = tt
levels_by_rules (Node n a l p r) h =
    let hl : LevelsOk l = levels_by_rules l h.1 in
    let hr : LevelsOk r = levels_by_rules r h.2 in
    let e : n ≡ suc (level l) = left_level n l r h.0 hr in
    (e, right_most n l r h.0, right_least n l r h.0, far_level n l r h.0 (omega arith), hl, hr)

pub rules_by_levels : (t : Tree) → LevelsOk t → RulesOk t
rules_by_levels Leaf h = tt
rules_by_levels (Node n a l p r) h = (
  record {
    childless = λ e f. omega (arith, level_none l e);
    left_child = λ e. omega arith;
    right_child = λ e. elim (cases_order (level r) n) [ inl same ↦ inl same | inr other ↦ inr (omega arith) ];
    right_grandchild = λ e. h.3;
    two_children = λ e. (some_level l (omega arith), some_level r (omega arith));
  },
  rules_by_levels l h.4,
  rules_by_levels r h.5,
)
