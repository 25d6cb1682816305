-- What the exits of a change of size leave of a file.
use Rattle.file_pages.proofs.Common.{◌≡◌, ℕ, ◌-◌, ◌/◌, ◌%◌, ◌<◌, ◌≤◌, ◌++◌, true, cond, List, length, map, replicate, take, sym, ap, subst, ◌∙◌, arith, inl, inr, nat_lt, range_with_len, cases_eq, nat_tests, append-nil, length-map-range_with_len, take-map-range_with_len, VolumeShape, BlockWords, Seen, IsIno, reserved, Kept, Settled, resized, Held, byte_in, held, held_bytes, held_of, word_in, held_ino, lays_replaced, node_here, node_there, Change, SetsFile, Slot, AtPage, Placed, HasSlot, placed_at, Layout, volume_layout, Owned, Owns, IsFree, Agrees, with_placed, lays_same, lays_self, owned_back, pages, LeavesInUse, Ready, IsMapped, same_map}
use Rattle.rio_model.specs.Held.{byte_of}
use Rattle.rio_model.proofs.HeldRules.{counts_of}
use Rattle.rio_model.proofs.LowestBlocks.{bits_agree, lowest_on, lowest_same}
use Rattle.rio_model.specs.NodeChanges.{Without}
use Rattle.rio_model.proofs.PlacedRules.{mapped_agree}
use Rattle.rio_model.proofs.VolumeReadRules.{held_of_agree}
use Rattle.file_pages.specs.Files.{SetsBoth, StopsAs, file_bytes}
use Rattle.node_pages.proofs.OrderRules.{stands_left, stands_ready_left}

-- ---- words that agree with those of before on all blocks in use

pub sets_same : (shape : VolumeShape) (f g : BlockWords) (i : ℕ) → IsMapped shape f → (held_of shape f i).kind ≡ 2 → Agrees (volume_layout shape f) f g → SetsFile shape f g i (file_bytes shape f i)
sets_same shape f g i h kind a =
    let same = held_of_agree shape f g h a in
    record {
      mapped = mapped_agree shape f g h a;
      kind = ap (λ (k : ℕ → Held). (k i).kind) same ∙ kind;
      own = ap (λ (k : ℕ → Held). held_bytes (k i)) same;
      others = λ j away. ap (λ (k : ℕ → Held). k j) same;
      lowest = lowest_same shape f g (bits_agree shape f g h.laid.shape_fits a.low);
    }

-- and with those of a file that is set already
pub sets_on : (shape : VolumeShape) (f g k : BlockWords) (i : ℕ) (bytes : List ℕ) → SetsFile shape f g i bytes → Agrees (volume_layout shape g) g k → SetsFile shape f k i bytes
sets_on shape f g k i bytes h a =
    let same = held_of_agree shape g k h.mapped a in
    record {
      mapped = mapped_agree shape g k h.mapped a;
      kind = ap (λ (d : ℕ → Held). (d i).kind) same ∙ h.kind;
      own = ap (λ (d : ℕ → Held). held_bytes (d i)) same ∙ h.own;
      others = λ j away. ap (λ (d : ℕ → Held). d j) same ∙ h.others j away;
      lowest = lowest_on shape f g k h.lowest (bits_agree shape g k h.mapped.laid.shape_fits a.low);
    }

-- ---- a call that only prepared

pub both_left : (shape : VolumeShape) (x : Seen) (k : Kept) (y : Seen) (j : Kept) (i : ℕ) → Ready shape x k → Settled x k → (held_of shape x.words i).kind ≡ 2 → LeavesInUse (volume_layout shape x.words) x k y j → SetsBoth shape x.words y j i (file_bytes shape x.words i)
both_left shape x k y j i h settled kind m = record {
  reads = sets_same shape x.words y.words i h.order.mapped kind m.words;
  stands = sets_same shape x.words j.standing i h.order.mapped kind (stands_left shape x k y j h settled m);
}

pub stops_left : (shape : VolumeShape) (x : Seen) (k : Kept) (y : Seen) (j : Kept) (i : ℕ) (part : List ℕ → Type 0) → Ready shape x k → Settled x k → (held_of shape x.words i).kind ≡ 2 → LeavesInUse (volume_layout shape x.words) x k y j → part (file_bytes shape x.words i) → StopsAs shape x.words y j i part
stops_left shape x k y j i part h settled kind m is = record {
  bytes = file_bytes shape x.words i;
  is = is;
  stands = sets_same shape x.words j.standing i h.order.mapped kind (stands_left shape x k y j h settled m);
  ready = stands_ready_left shape x k y j h settled m;
}

-- the same of a file that was set before it
pub both_on : (shape : VolumeShape) (f : BlockWords) (x : Seen) (k : Kept) (y : Seen) (j : Kept) (i : ℕ) (bytes : List ℕ) → Ready shape x k → Settled x k → SetsFile shape f x.words i bytes → LeavesInUse (volume_layout shape x.words) x k y j → SetsBoth shape f y j i bytes
both_on shape f x k y j i bytes h settled set m = record {
  reads = sets_on shape f x.words y.words i bytes set m.words;
  stands = sets_on shape f x.words j.standing i bytes set (stands_left shape x k y j h settled m);
}

pub stops_on : (shape : VolumeShape) (f : BlockWords) (x : Seen) (k : Kept) (y : Seen) (j : Kept) (i : ℕ) (bytes : List ℕ) (part : List ℕ → Type 0) → Ready shape x k → Settled x k → SetsFile shape f x.words i bytes → LeavesInUse (volume_layout shape x.words) x k y j → part bytes → StopsAs shape f y j i part
stops_on shape f x k y j i bytes part h settled set m is = record {
  bytes = bytes;
  is = is;
  stands = sets_on shape f x.words j.standing i bytes set (stands_left shape x k y j h settled m);
  ready = stands_ready_left shape x k y j h settled m;
}

-- ---- blocks that a node has lost are free

pub lost_free : (shape : VolumeShape) (f k : BlockWords) (i : ℕ) (m : Placed) (s : Slot) (b : ℕ) → IsMapped shape f → Change (volume_layout shape f) f k i m → HasSlot (placed_at f i) s → (placed_at f i).block s ≡ b → Without m b → IsFree (volume_layout shape k) b
lost_free shape f k i m s b h change has at gone = record {
  from = subst (λ x. reserved shape ≤ x) at (h.laid.numbers.each i own.ino s own.slot).0;
  to = subst (λ (x : ℕ). x < shape.blocks) at (h.laid.numbers.each i own.ino s own.slot).1;
  free = λ o. by (owned_back (with_placed l i m) (volume_layout shape k) b (lays_same (with_placed l i m) k (lays_replaced l f k i m h.laid (lays_self shape f) change)) o);
}
  where
    l : Layout
    l = volume_layout shape f

    own : Owns l i s
    own = record { ino = change.ino; slot = has }

    by : Owned (with_placed l i m) b → ⊥
    by o = elim (cases_eq o.node i) [
      | inl same ↦ gone o.slot (subst (λ (n : Placed). HasSlot n o.slot) (ap (with_placed l i m).node same ∙ node_here l i m) o.owns.slot) (sym (ap (λ (n : Placed). n.block o.slot) (ap (with_placed l i m).node same ∙ node_here l i m)) ∙ o.is)
      | inr away ↦ away (h.laid.once.each o.node i o.slot s (record { ino = o.owns.ino; slot = subst (λ (n : Placed). HasSlot n o.slot) (node_there l i m o.node away) o.owns.slot }) own (sym (ap (λ (n : Placed). n.block o.slot) (node_there l i m o.node away)) ∙ o.is ∙ sym at)).0
    ]

-- ---- the bytes of a node that was shrunk

sized : (f : BlockWords) (n : Placed) → 0 < n.kind → (held f n).size ≡ n.size
sized f n used = ap (λ t. cond t n.size 0) (less_true 0 n.kind used)
  where
    less_true : (a b : ℕ) → a < b → nat_lt a b ≡ true
    less_true a b h = grind (arith, nat_tests, h)

pub bytes_sized : (f : BlockWords) (n : Placed) → 0 < n.kind → held_bytes (held f n) ≡ map (byte_in (word_in f n)) (range_with_len 0 n.size)
bytes_sized f n used = ap (λ s. map (byte_in (word_in f n)) (range_with_len 0 s)) (sized f n used)

pub file_node : (shape : VolumeShape) (f : BlockWords) (i : ℕ) → IsIno shape i → file_bytes shape f i ≡ held_bytes (held f (placed_at f i))
file_node shape f i ino = ap held_bytes (held_ino (volume_layout shape f) f i ino)

-- a byte within both sizes
pub byte_same : (f : BlockWords) (n m : Placed) (x : ℕ) → 0 < n.kind → 0 < m.kind → x < m.size → x < n.size → m.block (AtPage (x / 8 / 512)) ≡ n.block (AtPage (x / 8 / 512)) → byte_in (word_in f m) x ≡ byte_in (word_in f n) x
byte_same f n m x used_n used_m in_m in_n same =
    ap (λ w. byte_of w (x % 8)) (ap (λ t. cond t (f (m.block (AtPage (x / 8 / 512))) (x / 8 % 512)) 0) (counts_of m.kind m.size (x / 8) used_m (omega (arith, in_m))) ∙ ap (λ b. f b (x / 8 % 512)) same ∙ sym (ap (λ t. cond t (f (n.block (AtPage (x / 8 / 512))) (x / 8 % 512)) 0) (counts_of n.kind n.size (x / 8) used_n (omega (arith, in_n)))))

pub shrunk_bytes : (f : BlockWords) (n m : Placed) (len : ℕ) → 0 < n.kind → 0 < m.kind → m.size ≡ len → len ≤ n.size → ((p : ℕ) → p < pages len → m.block (AtPage p) ≡ n.block (AtPage p)) → held_bytes (held f m) ≡ resized (held_bytes (held f n)) len
shrunk_bytes f n m len used_n used_m size less same =
    bytes_sized f m used_m ∙ ap (λ s. map (byte_in (word_in f m)) (range_with_len 0 s)) size
    ∙ same_map (byte_in (word_in f m)) (byte_in (word_in f n)) len 0 (λ x low high. byte_same f n m x used_n used_m (omega (arith, high, size)) (omega (arith, high, less)) (same (x / 8 / 512) (omega (arith, high))))
    ∙ sym (take-map-range_with_len (byte_in (word_in f n)) 0 n.size len less)
    ∙ ap (take len) (sym (bytes_sized f n used_n))
    ∙ sym (append-nil (take len (held_bytes (held f n))))
    ∙ ap (λ k. take len (held_bytes (held f n)) ++ replicate k 0) (sym none)
  where
    none : len - length (held_bytes (held f n)) ≡ 0
    none = let long : length (held_bytes (held f n)) ≡ n.size = ap length (bytes_sized f n used_n) ∙ length-map-range_with_len (byte_in (word_in f n)) 0 n.size in omega (arith, long, less)
