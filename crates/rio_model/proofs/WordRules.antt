-- Words stored outside an update: a word within a node changes that word of it and nothing else; past its size and in a
-- free block nothing. So it is of any change that differs in pages of one node, or in free blocks, alone.
use Rattle.rio_model.proofs.Common.{◌≡◌, ◌≢◌, ℕ, zero, suc, ◌+◌, ◌*◌, ◌/◌, ◌%◌, ◌<◌, ◌≤◌, ◌==◌, ◌&&◌, ◌⊎◌, Bool, true, false, cond, List, ◌∷◌, map, refl, sym, ap, subst, ◌∙◌, arith, inl, inr, nat_lt, bit_at, range_with_len, cases_eq, nat_tests, VolumeShape, used_bit, BlockWords, IsIno, put}
use Rattle.rio_base.specs.Volume.{put_run, SameBut}
use Rattle.rio_model.specs.Held.{Held, held, held_of, word_in, byte_of, byte_in, held_bytes, held_ino}
use Rattle.rio_model.proofs.HeldRules.{with_word, same_held, counts_of, counts_below, page_counts, held_agree, held_at, held_by}
use Rattle.rio_model.proofs.LowestBlocks.{bits_agree, lowest_same}
use Rattle.rio_model.proofs.NodeChanges.{IsAt}
use Rattle.rio_model.specs.NodeChanges.{SetsFile}
use Rattle.rio_model.specs.Placed.{Slot, AtPage, AtTable, Placed, HasSlot, placed_at, Layout, volume_layout, Owns, IsFree, Agrees, AgreesBeside}
use Rattle.rio_model.proofs.PlacedRules.{Lays, page_page, table_page, lies_agree, lays_self, layout_refl, bits_low, reserved_same, marks_same, inode_low, mapped_by}
use Rattle.rio_model.specs.VolumeRules.{SuperblockRule, bitmap_bits, IsLaid, IsMapped}

-- ---- one word of a block

pub differs : (j i : ℕ) → j ≢ i → (j == i) ≡ false
differs j i away = grind (arith, nat_tests, away)

pub itself : (i : ℕ) → (i == i) ≡ true
itself i = grind (arith, nat_tests)

pub put_other : (f : BlockWords) (b w v c x : ℕ) → c ≢ b → put f b w v c x ≡ f c x
put_other f b w v c x away = ap (λ t. cond (t && (x == w)) v (f c x)) (differs c b away)

pub put_beside : (f : BlockWords) (b w v c x : ℕ) → x ≢ w → put f b w v c x ≡ f c x
put_beside f b w v c x away = by_case (c == b)
  where
    by_case : (t : Bool) → cond (t && (x == w)) v (f c x) ≡ f c x
    by_case true = ap (λ u. cond u v (f c x)) (differs x w away)
    by_case false = refl

pub put_here : (f : BlockWords) (b w v : ℕ) → put f b w v b w ≡ v
put_here f b w v = ap (λ t. cond (t && (w == w)) v (f b w)) (itself b) ∙ ap (λ t. cond t v (f b w)) (itself w)

pub put_same_but : (f : BlockWords) (b w v : ℕ) → SameBut b f (put f b w v)
put_same_but f b w v = record { others = λ c x away. put_other f b w v c x away }

pub run_same_but : (f : BlockWords) (b w n : ℕ) (words : List ℕ) → SameBut b f (put_run f b w n words)
run_same_but f b w n words = record { others = λ c x away. by c x (differs c b away) }
  where
    by : (c x : ℕ) → (c == b) ≡ false → put_run f b w n words c x ≡ f c x
    by c x e = grind (arith, nat_tests)

-- ---- a block of which nothing counts, or which is a page of one node

pub free_agrees : (l : Layout) (f g : BlockWords) (b : ℕ) → IsFree l b → SameBut b f g → Agrees l f g
free_agrees l f g b free same = record {
  low = λ c x low. same.others c x (λ e. let from = free.from in omega (arith, low, from, e));
  owned = λ i s own x. same.others _ x (λ e. free.free (record { node = i; slot = s; owns = own; is = e }));
}

pub put_free : (l : Layout) (f : BlockWords) (b w v : ℕ) → IsFree l b → Agrees l f (put f b w v)
put_free l f b w v free = free_agrees l f _ b free (put_same_but f b w v)

pub beside_refl : (l : Layout) (i : ℕ) (f : BlockWords) → AgreesBeside l i f f
beside_refl l i f = record { low = λ b w few. refl; tables = λ t has w. refl; others = λ j s away own w. refl }

pub beside_trans : (l : Layout) (i : ℕ) (f g h : BlockWords) → AgreesBeside l i f g → AgreesBeside l i g h → AgreesBeside l i f h
beside_trans l i f g h a b = record {
  low = λ c w few. b.low c w few ∙ a.low c w few;
  tables = λ t has w. b.tables t has w ∙ a.tables t has w;
  others = λ j s away own w. b.others j s away own w ∙ a.others j s away own w;
}

pub beside_agrees : (l : Layout) (i : ℕ) (f g : BlockWords) → IsIno l.shape i → Agrees l f g → AgreesBeside l i f g
beside_agrees l i f g ino a = record {
  low = a.low;
  tables = λ t has w. a.owned i (AtTable t) (record { ino = ino; slot = has }) w;
  others = λ j s away own w. a.owned j s own w;
}

pub beside_free : (l : Layout) (i : ℕ) (f g : BlockWords) (b : ℕ) → IsIno l.shape i → IsFree l b → SameBut b f g → AgreesBeside l i f g
beside_free l i f g b ino free same = beside_agrees l i f g ino (free_agrees l f g b free same)

pub beside_page : (l : Layout) (i p : ℕ) (f g : BlockWords) → IsLaid l → Owns l i (AtPage p) → SameBut ((l.node i).block (AtPage p)) f g → AgreesBeside l i f g
beside_page l i p f g h own same = record {
  low = λ c x few. same.others c x (λ e. let from = (h.numbers.each i own.ino (AtPage p) own.slot).0 in omega (arith, few, from, e));
  tables = λ t has x. same.others _ x (λ e. table_page t p ((h.once.each i i (AtTable t) (AtPage p) (record { ino = own.ino; slot = has }) own e).1));
  others = λ j s away oj x. same.others _ x (λ e. away ((h.once.each j i s (AtPage p) oj own e).0));
}

-- ---- what stays where pages of node i, and free blocks, alone differ: the layout, the rules, and every other node

pub lays_beside : (l : Layout) (i : ℕ) (f g : BlockWords) → IsLaid l → Lays l f → AgreesBeside l i f g → Lays l g
lays_beside l i f g h k a = record { each = λ j ino. lies_agree f g j (l.node j) (k.each j ino) (λ w few. a.low _ _ (inode_low l.shape j h.shape_fits ino)) (tables j ino) }
  where
    tables : (j : ℕ) → IsIno l.shape j → (t : ℕ) → HasSlot (l.node j) (AtTable t) → (w : ℕ) → g ((l.node j).block (AtTable t)) w ≡ f ((l.node j).block (AtTable t)) w
    tables j ino t has w = elim (cases_eq j i) [
      | inl same ↦ ap (λ x. g ((l.node x).block (AtTable t)) w) same ∙ a.tables t (subst (λ x. HasSlot (l.node x) (AtTable t)) same has) w ∙ sym (ap (λ x. f ((l.node x).block (AtTable t)) w) same)
      | inr away ↦ a.others j (AtTable t) away (record { ino = ino; slot = has }) w
    ]

pub bits_beside : (l : Layout) (i : ℕ) (f g : BlockWords) → AgreesBeside l i f g → (b : ℕ) → b < bitmap_bits l.shape → used_bit l.shape g b ≡ used_bit l.shape f b
bits_beside l i f g a b within = ap (λ w. bit_at w (b % 64)) (a.low _ _ (bits_low l.shape b within))

pub mapped_beside : (shape : VolumeShape) (i : ℕ) (f g : BlockWords) → IsMapped shape f → AgreesBeside (volume_layout shape f) i f g → IsMapped shape g
mapped_beside shape i f g h a =
    let l = volume_layout shape f in
    mapped_by l g top (reserved_same shape f g h.superblock.sizes (bits_beside l i f g a) h.reserved_marked) h.laid (lays_beside l i f g h.laid (lays_self shape f) a) (marks_same l l f g (layout_refl l) h.laid (bits_beside l i f g a) h.marks)
  where
    word : (w : ℕ) → g 0 w ≡ f 0 w
    word w = a.low 0 w (omega arith)

    top : SuperblockRule shape g
    top = record { sizes = h.superblock.sizes; words = record { magic = word 0 ∙ h.superblock.words.magic; version = word 1 ∙ h.superblock.words.version; blocks = word 2 ∙ h.superblock.words.blocks; inodes = word 3 ∙ h.superblock.words.inodes } }

pub held_beside : (shape : VolumeShape) (i : ℕ) (f g : BlockWords) → IsMapped shape f → AgreesBeside (volume_layout shape f) i f g → (j : ℕ) → j ≢ i → held_of shape g j ≡ held_of shape f j
held_beside shape i f g h a j away =
    let l = volume_layout shape f in
    held_by l g (lays_beside l i f g h.laid (lays_self shape f) a) j ∙ held_at shape j _ _ _ refl (λ ino. held_agree f g (l.node j) (λ p has w. a.others j (AtPage p) away (record { ino = ino; slot = has }) w))

-- and node i holds what the new words are at its old blocks
pub held_at_old : (shape : VolumeShape) (i : ℕ) (f g : BlockWords) → IsMapped shape f → IsIno shape i → AgreesBeside (volume_layout shape f) i f g → held_of shape g i ≡ held g (placed_at f i)
held_at_old shape i f g h ino a =
    let l = volume_layout shape f in
    held_by l g (lays_beside l i f g h.laid (lays_self shape f) a) i ∙ held_ino l g i ino

-- ---- what a node holds, word by word

pub held_word : (f : BlockWords) (n : Placed) (y : ℕ) → 0 < n.kind → 8 * y < n.size → (held f n).word y ≡ f (n.block (AtPage (y / 512))) (y % 512)
held_word f n y used within = ap (λ t. cond t (f (n.block (AtPage (y / 512))) (y % 512)) 0) (counts_of n.kind n.size y used within)

-- two slots with a block are one
one_node : (l : Layout) (i y b w j : ℕ) (t : Slot) → IsLaid l → IsAt l i y b w → Owns l j t → (l.node j).block t ≡ b → (j ≡ i) × (t ≡ AtPage (y / 512))
one_node l i y b w j t h at own same = h.once.each j i t (AtPage (y / 512)) own at.page (same ∙ sym at.block)

-- a word put in a page changes that word of it alone, of all words in pages that count
pub put_word_there : (l : Layout) (f : BlockWords) (i y b w v j z : ℕ) → IsLaid l → IsAt l i y b w → Owns l j (AtPage (z / 512)) → (j ≢ i) ⊎ (z ≢ y) → put f b w v ((l.node j).block (AtPage (z / 512))) (z % 512) ≡ f ((l.node j).block (AtPage (z / 512))) (z % 512)
put_word_there l f i y b w v j z h at own away = elim (cases_eq ((l.node j).block (AtPage (z / 512))) b) [
  | inr other ↦ put_other f b w v _ _ other
  | inl same ↦ elim (cases_eq (z % 512) w) [
    | inr beside ↦ put_beside f b w v _ _ beside
    | inl here ↦ absurd (both same here)
  ]
]
  where
    both : (l.node j).block (AtPage (z / 512)) ≡ b → z % 512 ≡ w → ⊥
    both same here = let one = one_node l i y b w j (AtPage (z / 512)) h at own same in elim away [
      | inl other ↦ other one.0
      | inr beside ↦ beside (let page = page_page _ _ one.1 in let word = at.word in omega (arith, page, here, word))
    ]

pub held_put : (l : Layout) (f : BlockWords) (i y b w v : ℕ) → IsLaid l → IsAt l i y b w → 8 * y < (l.node i).size → held (put f b w v) (l.node i) ≡ with_word (held f (l.node i)) y v
held_put l f i y b w v h at within = same_held _ _ refl refl (λ z. elim (cases_eq z y) [
  | inl same ↦ ap (λ t. cond t ((put f b w v) ((l.node i).block (AtPage (z / 512))) (z % 512)) 0) (counts z same) ∙ here z same ∙ sym (ap (λ t. cond t v (word_in f (l.node i) z)) (ap (λ x. x == y) same ∙ itself y))
  | inr away ↦ other z _ refl away ∙ sym (ap (λ t. cond t v (word_in f (l.node i) z)) (differs z y away))
])
  where
    counts : (z : ℕ) → z ≡ y → (nat_lt 0 (l.node i).kind && nat_lt (8 * z) (l.node i).size) ≡ true
    counts z same = counts_of _ _ z at.page.slot.used (subst (λ x. 8 * x < (l.node i).size) (sym same) within)

    here : (z : ℕ) → z ≡ y → put f b w v ((l.node i).block (AtPage (z / 512))) (z % 512) ≡ v
    here z same = ap (λ x. put f b w v ((l.node i).block (AtPage (x / 512))) (x % 512)) same ∙ ap (λ c. put f b w v c (y % 512)) at.block ∙ ap (put f b w v b) at.word ∙ put_here f b w v

    other : (z : ℕ) (t : Bool) → (nat_lt 0 (l.node i).kind && nat_lt (8 * z) (l.node i).size) ≡ t → z ≢ y → cond t (put f b w v ((l.node i).block (AtPage (z / 512))) (z % 512)) 0 ≡ cond t (f ((l.node i).block (AtPage (z / 512))) (z % 512)) 0
    other z false e away = refl
    other z true e away = put_word_there l f i y b w v i z h at (record { ino = at.page.ino; slot = page_counts _ z e }) (inr away)

-- past the size nothing differs
pub held_past : (l : Layout) (f : BlockWords) (i y b w v : ℕ) → IsLaid l → IsAt l i y b w → (l.node i).size ≤ 8 * y → held (put f b w v) (l.node i) ≡ held f (l.node i)
held_past l f i y b w v h at past = same_held _ _ refl refl (λ z. by_case z _ refl)
  where
    by_case : (z : ℕ) (t : Bool) → (nat_lt 0 (l.node i).kind && nat_lt (8 * z) (l.node i).size) ≡ t → cond t (put f b w v ((l.node i).block (AtPage (z / 512))) (z % 512)) 0 ≡ cond t (f ((l.node i).block (AtPage (z / 512))) (z % 512)) 0
    by_case z false e = refl
    by_case z true e = put_word_there l f i y b w v i z h at (record { ino = at.page.ino; slot = page_counts _ z e }) (inr (λ same. let less : 8 * z < (l.node i).size = counts_below (l.node i).kind (l.node i).size z e in omega (arith, less, past, same)))

-- no other node differs
pub held_others : (l : Layout) (f : BlockWords) (i y b w v j : ℕ) → IsLaid l → IsAt l i y b w → IsIno l.shape j → j ≢ i → held (put f b w v) (l.node j) ≡ held f (l.node j)
held_others l f i y b w v j h at ino away = held_agree f (put f b w v) (l.node j) (λ p has x. put_other f b w v _ x (λ same. away (one_node l i y b w j (AtPage p) h at (record { ino = ino; slot = has }) same).0))

-- the rules 1 to 7 stay
pub put_beside_node : (l : Layout) (f : BlockWords) (i y b w v : ℕ) → IsLaid l → IsAt l i y b w → AgreesBeside l i f (put f b w v)
put_beside_node l f i y b w v h at = beside_page l i (y / 512) f _ h at.page (subst (λ c. SameBut c f (put f b w v)) (sym at.block) (put_same_but f b w v))

pub mapped_put : (shape : VolumeShape) (f : BlockWords) (i y b w v : ℕ) → IsMapped shape f → IsAt (volume_layout shape f) i y b w → IsMapped shape (put f b w v)
mapped_put shape f i y b w v h at = mapped_beside shape i f _ h (put_beside_node _ f i y b w v h.laid at)

-- ---- bytes

pub same_map : (f g : ℕ → ℕ) (n a : ℕ) → ((x : ℕ) → a ≤ x → x < a + n → f x ≡ g x) → map f (range_with_len a n) ≡ map g (range_with_len a n)
same_map f g zero a e = refl
same_map f g (suc n) a e = ap (λ y. y ∷ map f (range_with_len (a + 1) n)) (e a (omega arith) (omega arith)) ∙ ap (λ ys. g a ∷ ys) (same_map f g n (a + 1) (λ x low high. e x (omega (arith, low)) (omega (arith, high))))

-- a word may hold bytes below the size and bytes past it: where the former stay, the node's bytes do
pub bytes_tail : (h : Held) (y v : ℕ) → ((t : ℕ) → t < 8 → 8 * y + t < h.size → byte_of v t ≡ byte_of (h.word y) t) → held_bytes (with_word h y v) ≡ held_bytes h
bytes_tail h y v same = same_map (byte_in (with_word h y v).word) (byte_in h.word) h.size 0 (λ x low high. elim (cases_eq (x / 8) y) [
  | inl here ↦
      let place : 8 * y + x % 8 ≡ x = omega (arith, here) in
      ap (λ t. byte_of (cond t v (h.word (x / 8))) (x % 8)) (ap (λ z. z == y) here ∙ itself y) ∙ same (x % 8) (omega arith) (omega (arith, place, high)) ∙ ap (λ z. byte_of (h.word z) (x % 8)) (sym here)
  | inr away ↦ ap (λ t. byte_of (cond t v (h.word (x / 8))) (x % 8)) (differs (x / 8) y away)
])

-- ---- a file of which pages, and free blocks, alone differ

pub file_beside : (shape : VolumeShape) (f g : BlockWords) (i : ℕ) → IsMapped shape f → IsIno shape i → (placed_at f i).kind ≡ 2 → AgreesBeside (volume_layout shape f) i f g → SetsFile shape f g i (held_bytes (held g (placed_at f i)))
file_beside shape f g i h ino kind a =
    let own = held_at_old shape i f g h ino a in
    record {
      mapped = mapped_beside shape i f g h a;
      kind = ap (λ (k : Held). k.kind) own ∙ kind;
      own = ap held_bytes own;
      others = held_beside shape i f g h a;
      lowest = lowest_same shape f g (bits_agree shape f g h.laid.shape_fits a.low);
    }
