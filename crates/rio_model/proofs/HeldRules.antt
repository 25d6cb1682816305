-- Laws of what inodes hold: it depends on the layout and on the blocks in use alone.
use Rattle.rio_model.proofs.Common.{nat_lt, if◌then◌else◌, VolumeShape, BlockWords, ◌≡◌, ℕ, ◌+◌, ◌*◌, ◌/◌, ◌%◌, ◌<◌, ◌≤◌, ◌&&◌, Bool, true, false, cond, refl, sym, ap, ◌∙◌, arith, nat_tests, IsIno}
use Rattle.std.specs.Prelude.{◌≡◌, ℕ, ◌+◌, ◌*◌, ◌/◌, ◌%◌, ◌<◌, ◌&&◌, ◌==◌, nat_le}
use Rattle.rio_model.specs.Placed.{AtPage, Placed, Layout, HasSlot, Agrees, SamePlaced}
use Rattle.rio_model.specs.Held.{Held, held, nothing, held_in, held_of}
use Rattle.rio_model.proofs.PlacedRules.{Lays, SameLayout, lays_same}

-- with one word another
abbrev pub with_word : Held → ℕ → ℕ → Held
with_word h y v = record h { word = λ z. if z == y then v else h.word z }

pub same_held : (h k : Held) → h.kind ≡ k.kind → h.size ≡ k.size → ((y : ℕ) → h.word y ≡ k.word y) → h ≡ k
same_held h k kind size word = λ i. record { kind = kind i; size = size i; word = λ y. word y i }

pub same_all : (h k : ℕ → Held) → ((i : ℕ) → h i ≡ k i) → h ≡ k
same_all h k e = λ i j. e j i

-- a word counts where the node is used and the size reaches it
pub counts_of : (k s y : ℕ) → 0 < k → 8 * y < s → (nat_lt 0 k && nat_lt (8 * y) s) ≡ true
counts_of k s y p q = grind (arith, nat_tests, p, q)

pub counts_used : (k s y : ℕ) → (nat_lt 0 k && nat_lt (8 * y) s) ≡ true → 0 < k
counts_used k s y t = grind (arith, nat_tests)

pub counts_below : (k s y : ℕ) → (nat_lt 0 k && nat_lt (8 * y) s) ≡ true → 8 * y < s
counts_below k s y t = grind (arith, nat_tests)

-- and then lies in a page that counts
pub page_counts : (n : Placed) (y : ℕ) → (nat_lt 0 n.kind && nat_lt (8 * y) n.size) ≡ true → HasSlot n (AtPage (y / 512))
page_counts n y e = record { used = counts_used n.kind n.size y e; within = within_of n.size (counts_below n.kind n.size y e) }
  where
    within_of : (s : ℕ) → 8 * y < s → y / 512 < (s + 4095) / 4096
    within_of s less = omega (arith, less)

word_agree : (f g : BlockWords) (n : Placed) (y : ℕ) (b : Bool) → (nat_lt 0 n.kind && nat_lt (8 * y) n.size) ≡ b → ((p : ℕ) → HasSlot n (AtPage p) → (w : ℕ) → g (n.block (AtPage p)) w ≡ f (n.block (AtPage p)) w) → cond b (g (n.block (AtPage (y / 512))) (y % 512)) 0 ≡ cond b (f (n.block (AtPage (y / 512))) (y % 512)) 0
word_agree f g n y true e same = same (y / 512) (page_counts n y e) (y % 512)
word_agree f g n y false e same = refl

-- blocks that agree on the pages of a node hold the same of it
pub held_agree : (f g : BlockWords) (n : Placed) → ((p : ℕ) → HasSlot n (AtPage p) → (w : ℕ) → g (n.block (AtPage p)) w ≡ f (n.block (AtPage p)) w) → held g n ≡ held f n
held_agree f g n same = same_held _ _ refl refl (λ y. word_agree f g n y _ refl same)

word_same : (f : BlockWords) (n m : Placed) (y : ℕ) (b : Bool) → (nat_lt 0 n.kind && nat_lt (8 * y) n.size) ≡ b → SamePlaced n m → cond b (f (m.block (AtPage (y / 512))) (y % 512)) 0 ≡ cond b (f (n.block (AtPage (y / 512))) (y % 512)) 0
word_same f n m y true e same = ap (λ b. f b (y % 512)) (same.blocks (AtPage (y / 512)) (page_counts n y e))
word_same f n m y false e same = refl

test_same : (n m : Placed) (y : ℕ) → SamePlaced n m → (nat_lt 0 m.kind && nat_lt (8 * y) m.size) ≡ (nat_lt 0 n.kind && nat_lt (8 * y) n.size)
test_same n m y e = ap (λ k. nat_lt 0 k && nat_lt (8 * y) m.size) e.kind ∙ by_case _ refl
  where
    by_case : (b : Bool) → nat_lt 0 n.kind ≡ b → (nat_lt 0 n.kind && nat_lt (8 * y) m.size) ≡ (nat_lt 0 n.kind && nat_lt (8 * y) n.size)
    by_case true is = let used : 0 < n.kind = grind (arith, nat_tests) in ap (λ s. nat_lt 0 n.kind && nat_lt (8 * y) s) (e.size used)
    by_case false is = ap (λ b. b && nat_lt (8 * y) m.size) is ∙ sym (ap (λ b. b && nat_lt (8 * y) n.size) is)

size_same : (n m : Placed) (b : Bool) → nat_lt 0 n.kind ≡ b → SamePlaced n m → cond b m.size 0 ≡ cond b n.size 0
size_same n m true is e = let used : 0 < n.kind = grind (arith, nat_tests) in e.size used
size_same n m false is e = refl

-- two descriptions of one node hold the same
pub held_same : (f : BlockWords) (n m : Placed) → SamePlaced n m → held f m ≡ held f n
held_same f n m e = same_held _ _ e.kind (ap (λ k. cond (nat_lt 0 k) m.size 0) e.kind ∙ size_same n m _ refl e) (λ y. ap (λ b. cond b (f (m.block (AtPage (y / 512))) (y % 512)) 0) (test_same n m y e) ∙ word_same f n m y _ refl e)

-- of an inode number, by whether it is one
pub held_at : (shape : VolumeShape) (i : ℕ) (b : Bool) (h k : Held) → (nat_le 1 i && nat_le i shape.inodes) ≡ b → (IsIno shape i → h ≡ k) → cond b h nothing ≡ cond b k nothing
held_at shape i true h k is same = same (record { from = from_of _ _ is; to = to_of _ _ is })
  where
    from_of : (j n : ℕ) → (nat_le 1 j && nat_le j n) ≡ true → 1 ≤ j
    from_of j n t = grind (arith, nat_tests)

    to_of : (j n : ℕ) → (nat_le 1 j && nat_le j n) ≡ true → j ≤ n
    to_of j n t = grind (arith, nat_tests)
held_at shape i false h k is same = refl

pub held_layout : (l m : Layout) (f : BlockWords) → SameLayout l m → (i : ℕ) → held_in m f i ≡ held_in l f i
held_layout l m f e i = ap (λ (sh : VolumeShape). cond (nat_le 1 i && nat_le i sh.inodes) (held f (m.node i)) nothing) e.shape ∙ held_at l.shape i _ _ _ refl (λ ino. held_same f _ _ (e.each i ino))

-- blocks that say a layout hold what they hold by it
pub held_by : (l : Layout) (f : BlockWords) → Lays l f → (i : ℕ) → held_of l.shape f i ≡ held_in l f i
held_by l f lays i = held_layout l _ f (lays_same l f lays) i

pub held_in_agree : (l : Layout) (f g : BlockWords) → Agrees l f g → (i : ℕ) → held_in l g i ≡ held_in l f i
held_in_agree l f g a i = held_at l.shape i _ _ _ refl (λ ino. held_agree f g (l.node i) (λ p has w. a.owned i (AtPage p) (record { ino = ino; slot = has }) w))
