-- The map that the words and the blocks of a region are. Its blocks are given by first unit and units; a unit is 64 bytes.
use Rattle.std.specs.Prelude.{◌≡◌, ◌≢◌, ℕ, ◌*◌, ◌/◌, ◌≤◌, ◌⊎◌, cond, nat_eq, List, [], Some, None, codes}
use Rattle.rio_base.specs.Image.{text_word}
use Rattle.rio_model.specs.Heap.{block_size}
use Rattle.map_laws.specs.Lists.{KeysRise}
use Rattle.map_laws.specs.Trees.{Tree, pairs, size, level, LevelsOk, times}
use Rattle.map_laws.specs.Words.{place, Stands}

-- the word whose bytes are the text RIOMAPV1
abbrev pub map_magic : ℕ
map_magic = text_word (codes "RIOMAPV1")

-- the root block is there, of one unit at unit 0: it names the root node and says how many pairs there are
pub record IsRootBlock (words : ℕ → ℕ) (blocks : List (ℕ × ℕ)) (root number : ℕ) : Type 0 where
  pub one_unit : block_size blocks 0 ≡ Some 1
  pub magic : words 0 ≡ map_magic
  pub names : words 1 ≡ root
  pub counts : words 2 ≡ number

-- the nodes are different blocks of one unit, and there are no blocks else but the root block
pub record AreNodeBlocks (blocks : List (ℕ × ℕ)) (t : Tree) : Type 0 where
  pub different : (a : ℕ) → times a t ≤ 1
  pub one_unit : (a : ℕ) → 1 ≤ times a t → block_size blocks (a / 64) ≡ Some 1
  pub no_others : (u n : ℕ) → block_size blocks u ≡ Some n → u ≢ 0 → times (64 * u) t ≡ 1

-- the words and blocks are a map with this tree
pub record IsMap (words : ℕ → ℕ) (blocks : List (ℕ × ℕ)) (t : Tree) : Type 0 where
  pub root_block : IsRootBlock words blocks (place t) (size t)
  pub nodes : Stands words t
  pub blocks_are : AreNodeBlocks blocks t
  pub levels : LevelsOk t
  pub keys : KeysRise (pairs t)

-- the words and blocks are a map with these pairs, of this depth: there are no blocks at all and no pairs, or there is such a tree
abbrev pub HasPairs : (ℕ → ℕ) → List (ℕ × ℕ) → List (ℕ × ℕ) → ℕ → Type 0
HasPairs words blocks list depth = ((blocks ≡ []) × (list ≡ []) × (depth ≡ 0)) ⊎ ((t : Tree) × IsMap words blocks t × (list ≡ pairs t) × (depth ≡ level t))

-- the blocks are the former ones and one of one unit at unit u
abbrev pub OneMore : List (ℕ × ℕ) → ℕ → List (ℕ × ℕ) → Type 0
OneMore former u blocks = (block_size former u ≡ None) × ((x : ℕ) → block_size blocks x ≡ cond (nat_eq u x) (Some 1) (block_size former x))

-- after a change the magic is as before, the root block names the root of this tree, and the tree stands in the words
pub record NowStands (f g : ℕ → ℕ) (t : Tree) : Type 0 where
  pub magic : g 0 ≡ f 0
  pub names : g 1 ≡ place t
  pub nodes : Stands g t
