-- A map in words and blocks has one list and one depth, and stays one when a pair is put or taken.
use Rattle.std.proofs.Common.{◌≡◌, ◌≢◌, ℕ, suc, ◌+◌, ◌*◌, ◌/◌, ◌%◌, ◌^◌, ◌<◌, ◌≤◌, cond, eqb, List, [], length, Some, None, Option, refl, sym, ap, ◌∙◌, subst, inl, inr, arith}
use Rattle.std.proofs.lemmas.Bool.{eq-eqb, ne_eqb, cases_order}
use Rattle.rio_model.specs.Heap.{block_size}
use Rattle.map_laws.specs.Lists.{KeysRise}
use Rattle.map_laws.specs.Trees.{Tree, Leaf, pairs, size, level, looked_up, place_at, times}
use Rattle.map_laws.specs.Changes.{inserted, removed}
use Rattle.map_laws.specs.Words.{Stands, tree_at, tree_of, Keeps}
use Rattle.map_laws.specs.Maps.{AreNodeBlocks, HasPairs, IsMap, IsRootBlock, NowStands, OneMore}
use Rattle.map_laws.proofs.Depths.{full, height_most, length-pairs}
use Rattle.map_laws.proofs.Inserted.{levels-inserted, rise-inserted}
use Rattle.map_laws.proofs.Removed.{levels-removed, rise-removed}
use Rattle.map_laws.proofs.Sizes.{size-inserted, size-inserted_there, size-removed}
use Rattle.map_laws.proofs.Standing.{named, one_tree, stays, tree_stands}
use Rattle.map_laws.proofs.Times.{times-inserted, times-inserted_there, times-removed}

-- ---- what the words and blocks say

pub tree_of_map : (f : ℕ → ℕ) (blocks : List (ℕ × ℕ)) (t : Tree) → IsMap f blocks t → f 2 < 2 ^ 64 → tree_of f ≡ t
tree_of_map f blocks t h s = ap (tree_at 128 f) h.root_block.names ∙ tree_stands 128 f t h.nodes (height_most t h.levels (omega (arith, h.root_block.counts)))

map_has_block : (f : ℕ → ℕ) (blocks : List (ℕ × ℕ)) (t : Tree) → IsMap f blocks t → blocks ≢ []
map_has_block f blocks t h e = none (ap (λ z. block_size z 0) (sym e) ∙ h.root_block.one_unit)
  where
    none : block_size [] 0 ≡ Some 1 → ⊥
    none z = cc

same_map : (f : ℕ → ℕ) (blocks : List (ℕ × ℕ)) (t u : Tree) → IsMap f blocks t → IsMap f blocks u → t ≡ u
same_map f blocks t u h g = one_tree f t u h.nodes g.nodes (sym h.root_block.names ∙ g.root_block.names)

pub one_list : (f : ℕ → ℕ) (blocks l m : List (ℕ × ℕ)) (d e : ℕ) → HasPairs f blocks l d → HasPairs f blocks m e → (l ≡ m) × (d ≡ e)
one_list f blocks l m d e (inl h) (inl g) = (h.1 ∙ sym g.1, h.2 ∙ sym g.2)
one_list f blocks l m d e (inl h) (inr g) = absurd (map_has_block f blocks g.0 g.1 h.0)
one_list f blocks l m d e (inr h) (inl g) = absurd (map_has_block f blocks h.0 h.1 g.0)
one_list f blocks l m d e (inr h) (inr g) =
    let same : h.0 ≡ g.0 = same_map f blocks h.0 g.0 h.1 g.1 in
    (h.2 ∙ ap pairs same ∙ sym g.2, h.3 ∙ ap level same ∙ sym g.3)

pub keys_of_map : (f : ℕ → ℕ) (blocks l : List (ℕ × ℕ)) (d : ℕ) → HasPairs f blocks l d → KeysRise l
keys_of_map f blocks l d (inl h) = subst KeysRise (sym h.1) tt
keys_of_map f blocks l d (inr h) = subst KeysRise (sym h.2) h.1.keys

pub depth_of_map : (f : ℕ → ℕ) (blocks l : List (ℕ × ℕ)) (d : ℕ) → HasPairs f blocks l d → 2 ^ d ≤ length l + 1
depth_of_map f blocks l d (inl h) = deep l d h.1 h.2
  where
    deep : (l : List (ℕ × ℕ)) (d : ℕ) → l ≡ [] → d ≡ 0 → 2 ^ d ≤ length l + 1
    deep l d e g = rw (e, g) (omega arith)
depth_of_map f blocks l d (inr h) = deep h.0 l d h.2 h.3 (full h.0 h.1.levels)
  where
    deep : (t : Tree) (l : List (ℕ × ℕ)) (d : ℕ) → l ≡ pairs t → d ≡ level t → 2 ^ level t ≤ suc (size t) → 2 ^ d ≤ length l + 1
    deep t l d e g h = rw (e, g) (omega (arith, h, length-pairs t))

-- ---- changes

-- the blocks of a tree without a node are the root block alone
pub map_made : (g : ℕ → ℕ) (blocks : List (ℕ × ℕ)) → IsRootBlock g blocks 0 0 → ((u n : ℕ) → block_size blocks u ≡ Some n → u ≡ 0) → IsMap g blocks Leaf
map_made g blocks root alone = record {
  root_block = root;
  nodes = tt;
  blocks_are = record { different = λ a. omega arith; one_unit = λ a h. absurd (omega arith); no_others = λ u n e ne. absurd (ne (alone u n e)) };
  levels = tt;
  keys = tt;
}

size_here : (former blocks : List (ℕ × ℕ)) (u x : ℕ) → OneMore former u blocks → u ≡ x → block_size blocks x ≡ Some 1
size_here former blocks u x more e = more.1 x ∙ rw (eq-eqb u x e) refl

size_beside : (former blocks : List (ℕ × ℕ)) (u x : ℕ) → OneMore former u blocks → u ≢ x → block_size blocks x ≡ block_size former x
size_beside former blocks u x more ne = more.1 x ∙ rw (ne_eqb u x ne) refl

-- a block that is not there names no node
no_node : (former : List (ℕ × ℕ)) (t : Tree) (u : ℕ) → AreNodeBlocks former t → block_size former u ≡ None → times (64 * u) t ≡ 0
no_node former t u h none =
    elim (cases_order (times (64 * u) t) 0) [
      | inl same ↦ same
      | inr other ↦ absurd (no_size (block_size former u) none (ap (block_size former) (unit u) ∙ h.one_unit (64 * u) (omega arith)))
    ]
  where
    unit : (u : ℕ) → u ≡ 64 * u / 64
    unit u = omega arith

    no_size : (o : Option ℕ) → o ≡ None → o ≡ Some 1 → ⊥
    no_size o e f = cc

root_stays : (f g : ℕ → ℕ) (former blocks : List (ℕ × ℕ)) (was is n m : ℕ) → IsRootBlock f former was n → block_size blocks 0 ≡ block_size former 0 → g 0 ≡ f 0 → g 1 ≡ is → g 2 ≡ m → IsRootBlock g blocks is m
root_stays f g former blocks was is n m h size magic names counts = record { one_unit = size ∙ h.one_unit; magic = magic ∙ h.magic; names = names; counts = counts }

-- 1 for the place that is meant, 0 for each other
abbrev single : ℕ → ℕ → ℕ
single c a = cond (eqb c a) 1 0

single_here : (c a : ℕ) → c ≡ a → single c a ≡ 1
single_here c a e = rw (eq-eqb c a e) refl

single_beside : (c a : ℕ) → c ≢ a → single c a ≡ 0
single_beside c a ne = rw (ne_eqb c a ne) refl

-- ---- a new key

-- a node has come, at a block that was not there
one_node_more : (former blocks : List (ℕ × ℕ)) (u : ℕ) (t t' : Tree) → AreNodeBlocks former t → 0 < u → OneMore former u blocks → ((a : ℕ) → times a t' ≡ single (64 * u) a + times a t) → AreNodeBlocks blocks t'
one_node_more former blocks u t t' h some more e =
    let none : times (64 * u) t ≡ 0 = no_node former t u h more.0 in
    record {
      different = λ a. elim (cases_order (64 * u) a) [
        | inl same ↦ omega (arith, e a, single_here (64 * u) a same, subst (λ z. times z t ≡ 0) same none)
        | inr other ↦ omega (arith, e a, single_beside (64 * u) a (omega arith), h.different a)
      ];
      one_unit = λ a k. elim (cases_order u (a / 64)) [
        | inl same ↦ size_here former blocks u (a / 64) more same
        | inr other ↦ size_beside former blocks u (a / 64) more (omega arith) ∙ h.one_unit a (omega (arith, k, e a, single_beside (64 * u) a (λ z. unit_apart u a (omega arith) z)))
      ];
      no_others = λ x n i ne. elim (cases_order u x) [
        | inl same ↦ omega (arith, e (64 * x), single_here (64 * u) (64 * x) (omega arith), subst (λ z. times (64 * z) t ≡ 0) same none)
        | inr other ↦ omega (arith, e (64 * x), single_beside (64 * u) (64 * x) (omega arith), h.no_others x n (sym (size_beside former blocks u x more (omega arith)) ∙ i) ne)
      ];
    }
  where
    unit_apart : (u a : ℕ) → u ≢ a / 64 → 64 * u ≡ a → ⊥
    unit_apart u a ne e = ne (omega arith)

pub map_inserted : (f g : ℕ → ℕ) (former blocks : List (ℕ × ℕ)) (u k v : ℕ) (t : Tree) → IsMap f former t → looked_up k t ≡ None → 0 < u → OneMore former u blocks → NowStands f g (inserted (64 * u) k v t) → g 2 ≡ suc (f 2)
    → IsMap g blocks (inserted (64 * u) k v t)
map_inserted f g former blocks u k v t h none some more s two = record {
  root_block = root_stays f g former blocks _ _ _ _ h.root_block (size_beside former blocks u 0 more (omega arith)) s.magic s.names (two ∙ ap suc h.root_block.counts ∙ sym (size-inserted (64 * u) k v t none));
  nodes = s.nodes;
  blocks_are = one_node_more former blocks u t (inserted (64 * u) k v t) h.blocks_are some more (λ a. times-inserted a (64 * u) k v t none);
  levels = levels-inserted (64 * u) k v t h.levels;
  keys = rise-inserted (64 * u) k v t h.keys;
}

-- ---- a new value

same_nodes : (blocks : List (ℕ × ℕ)) (t t' : Tree) → AreNodeBlocks blocks t → ((a : ℕ) → times a t' ≡ times a t) → AreNodeBlocks blocks t'
same_nodes blocks t t' h e = record {
  different = λ a. omega (arith, e a, h.different a);
  one_unit = λ a k. h.one_unit a (omega (arith, e a, k));
  no_others = λ u n i ne. omega (arith, e (64 * u), h.no_others u n i ne);
}

pub map_replaced : (f g : ℕ → ℕ) (blocks : List (ℕ × ℕ)) (c k v w : ℕ) (t : Tree) → IsMap f blocks t → looked_up k t ≡ Some w → NowStands f g (inserted c k v t) → g 2 ≡ f 2 → IsMap g blocks (inserted c k v t)
map_replaced f g blocks c k v w t h there s two = record {
  root_block = root_stays f g blocks blocks _ _ _ _ h.root_block refl s.magic s.names (two ∙ h.root_block.counts ∙ sym (size-inserted_there c k v w t there));
  nodes = s.nodes;
  blocks_are = same_nodes blocks t (inserted c k v t) h.blocks_are (λ a. times-inserted_there a c k v w t there);
  levels = levels-inserted c k v t h.levels;
  keys = rise-inserted c k v t h.keys;
}

-- ---- a key that goes

-- a node has gone, and its block with it
one_node_less : (f : ℕ → ℕ) (former blocks : List (ℕ × ℕ)) (u : ℕ) (t t' : Tree) → Stands f t → AreNodeBlocks former t → OneMore blocks u former → ((a : ℕ) → single (64 * u) a + times a t' ≡ times a t) → AreNodeBlocks blocks t'
one_node_less f former blocks u t t' s h more e = record {
  different = λ a. omega (arith, e a, h.different a);
  one_unit = λ a k. elim (cases_order u (a / 64)) [
    | inl same ↦ let name : 64 * u ≡ a = unit_of u a same (named f a t s (omega (arith, e a, k))).unit in absurd (omega (arith, e a, k, single_here (64 * u) a name, h.different a))
    | inr other ↦ sym (size_beside blocks former u (a / 64) more (omega arith)) ∙ h.one_unit a (omega (arith, e a, k))
  ];
  no_others = λ x n i ne. elim (cases_order u x) [
    | inl same ↦ absurd (no_block (block_size blocks x) n (ap (block_size blocks) (sym same) ∙ more.0) i)
    | inr other ↦ omega (arith, e (64 * x), single_beside (64 * u) (64 * x) (omega arith), h.no_others x n (size_beside blocks former u x more (omega arith) ∙ i) ne)
  ];
}
  where
    unit_of : (u a : ℕ) → u ≡ a / 64 → a % 64 ≡ 0 → 64 * u ≡ a
    unit_of u a e g = omega arith

    no_block : (o : Option ℕ) (n : ℕ) → o ≡ None → o ≡ Some n → ⊥
    no_block o n e g = cc

-- the key's node is not named 0
above_zero : (f : ℕ → ℕ) (u : ℕ) (t t' : Tree) → Stands f t → ((a : ℕ) → single (64 * u) a + times a t' ≡ times a t) → 0 < u
above_zero f u t t' s e = omega (arith, (named f (64 * u) t s (omega (arith, e (64 * u), single_here (64 * u) (64 * u) refl))).there)

pub map_removed : (f g : ℕ → ℕ) (former blocks : List (ℕ × ℕ)) (u k v : ℕ) (t : Tree) → IsMap f former t → looked_up k t ≡ Some v → place_at k t ≡ 64 * u → OneMore blocks u former → NowStands f g (removed k t) → suc (g 2) ≡ f 2
    → IsMap g blocks (removed k t)
map_removed f g former blocks u k v t h there at more s two =
    let e : (a : ℕ) → single (64 * u) a + times a (removed k t) ≡ times a t = λ a. subst (λ z. single z a + times a (removed k t) ≡ times a t) at (times-removed a k v t h.levels there) in
    record {
      root_block = root_stays f g former blocks _ _ _ _ h.root_block (sym (size_beside blocks former u 0 more (omega (arith, above_zero f u t (removed k t) h.nodes e)))) s.magic s.names
          (omega (arith, two, h.root_block.counts, size-removed k v t h.levels there));
      nodes = s.nodes;
      blocks_are = one_node_less f former blocks u t (removed k t) h.nodes h.blocks_are more e;
      levels = levels-removed k t h.levels;
      keys = rise-removed k t h.levels h.keys;
    }

-- ---- other changes

-- neither the root block nor a node is owned
pub map_stays : (own f g : ℕ → ℕ) (blocks : List (ℕ × ℕ)) (t : Tree) → own 0 ≡ 0 → ((a : ℕ) → 1 ≤ times a t → own a ≡ 0) → Keeps own f g → IsMap f blocks t → IsMap g blocks t
map_stays own f g blocks t none off e h = record {
  root_block = root_stays f g blocks blocks _ _ _ _ h.root_block refl (e 0 none) (e 1 none ∙ h.root_block.names) (e 2 none ∙ h.root_block.counts);
  nodes = stays own f g t off e h.nodes;
  blocks_are = h.blocks_are;
  levels = h.levels;
  keys = h.keys;
}
