-- A file's growth: prepared, with its last page cleared, and the bytes that it makes.
use Rattle.file_pages.proofs.Common.{◌≡◌, ℕ, zero, suc, ◌+◌, ◌-◌, ◌/◌, ◌%◌, ◌<◌, ◌≤◌, ◌⊎◌, ◌++◌, true, List, ◌∷◌, length, map, replicate, take, refl, sym, ap, subst, ◌∙◌, arith, inl, inr, slice_index, None, Contains, range_with_len, cases_lt, take_all, length-map-range_with_len, VolumeShape, BlockWords, Seen, IsIno, reserved, Kept, Settled, numbers, Inode, IsInode, IsNew, page_new, page_old, same_old, sourced, resized, byte_in, held, held_bytes, word_in, Takes, Slot, AtPage, AtTable, Placed, HasSlot, placed_at, Layout, volume_layout, Owns, IsFree, AgreesBeside, SameLayout, has_same, lays_same, lays_self, owned_back, pages, Bears, LeavesInUse, Ready, beside_agrees, beside_trans, lays_beside, same_map}
use Rattle.rio_model.specs.Held.{byte_of}
use Rattle.rio_model.proofs.HeldRules.{held_agree, held_same}
use Rattle.rio_model.specs.NodeChanges.{AreLowest}
use Rattle.rio_model.proofs.PlacedRules.{lays_agree}
use Rattle.rio_model.proofs.WordRules.{held_word}
use Rattle.node_pages.specs.Changes.{Grows, given_node, planned_node}
use Rattle.file_pages.specs.Files.{file_bytes}
use Rattle.file_pages.specs.PageBytes.{block_byte}
use Rattle.file_pages.specs.Preparing.{Prepared}
use Rattle.file_pages.specs.Storing.{NamedAs, StoresPages, TailCleared}
use Rattle.node_pages.specs.declared.changes.SizeChange.{SizeChange}
use Rattle.node_pages.proofs.Given.{Given, given_of}
use Rattle.file_pages.proofs.Left.{byte_same, bytes_sized, file_node}
use Rattle.node_pages.proofs.Listed.{listed}
use Rattle.file_pages.proofs.Prepared.{edited_table}
use Rattle.node_pages.proofs.Staged.{not_true}
use Rattle.file_pages.proofs.Stored.{bears_as}
use Rattle.file_pages.proofs.Tails.{zero_byte}

-- ---- from one layout to the same one as other words say it

pub beside_back : (shape : VolumeShape) (a b f g : BlockWords) (i : ℕ) → IsIno shape i → SameLayout (volume_layout shape a) (volume_layout shape b) → AgreesBeside (volume_layout shape b) i f g → AgreesBeside (volume_layout shape a) i f g
beside_back shape a b f g i ino same h = record {
  low = h.low;
  tables = λ t has w. back i ino (AtTable t) has w (h.tables t (on i ino (AtTable t) has) w);
  others = λ j s away own w. back j own.ino s own.slot w (h.others j s away (record { ino = own.ino; slot = on j own.ino s own.slot }) w);
}
  where
    on : (j : ℕ) → IsIno shape j → (s : Slot) → HasSlot (placed_at a j) s → HasSlot (placed_at b j) s
    on j jno s has = has_same (placed_at a j) (placed_at b j) s (same.each j jno) has

    back : (j : ℕ) → (jno : IsIno shape j) → (s : Slot) → HasSlot (placed_at a j) s → (w : ℕ) → g ((placed_at b j).block s) w ≡ f ((placed_at b j).block s) w → g ((placed_at a j).block s) w ≡ f ((placed_at a j).block s) w
    back j jno s has w e = let at = (same.each j jno).blocks s has in ap (λ c. g c w) (sym at) ∙ e ∙ ap (λ c. f c w) at

free_on : (l m : Layout) (b : ℕ) → m.shape ≡ l.shape → SameLayout l m → IsFree l b → IsFree m b
free_on l m b shape same h = record {
  from = subst (λ s. reserved s ≤ b) (sym shape) h.from;
  to = subst (λ (s : VolumeShape). b < s.blocks) (sym shape) h.to;
  free = λ o. h.free (owned_back l m b same o);
}

pub layout_left : (shape : VolumeShape) (x : Seen) (k : Kept) (y : Seen) (j : Kept) → Ready shape x k → LeavesInUse (volume_layout shape x.words) x k y j → SameLayout (volume_layout shape x.words) (volume_layout shape y.words)
layout_left shape x k y j h a = lays_same (volume_layout shape x.words) y.words (lays_agree (volume_layout shape x.words) x.words y.words h.order.mapped.laid.shape_fits (lays_self shape x.words) a.words)

-- ---- the growth is prepared

pub grow_prepared : (shape : VolumeShape) (x : Seen) (k : Kept) (y : Seen) (j : Kept) (z : Seen) (l : Kept) (i : ℕ) (given : Inode) (len : ℕ) (taken : List ℕ) (c : SizeChange) → IsIno shape i → Ready shape x k → Settled z l → IsInode x.words i given → given.kind ≡ 2 → given.size ≤ len → LeavesInUse (volume_layout shape x.words) x k y j → Grows shape x.words y j i given len taken c → AreLowest shape x.words (numbers c.taken) → TailCleared y.words z i given.size len → StoresPages shape y j z l i → Prepared shape x.words z l i (planned_node x.words i given len c) c
grow_prepared shape x k y j z l i given len taken c ino h settled own kind grows leaves g lowest cleared stores = record {
  ino = ino;
  mapped = h.order.mapped;
  was_file = was_file;
  ready = stores.ready;
  settled = settled;
  beside = beside;
  turns = g.turns;
  file = kind;
  from = λ s has. elim (source s has) [ inl old ↦ inl (s, at.back s old, sym (kept s old)) | inr new ↦ inr (new_free s new.0 new.1) ];
  tables = g.tables;
  named = λ s has on. elim (source s has) [ inl old ↦ old_named s has old on | inr new ↦ new_named s has new.0 new.1 on ];
  firm = λ s has. elim (source s has) [
    | inl old ↦ not_true (l.loose (m.block s)) (j.loose (m.block s)) (stores.firm.loose (m.block s)) (ap j.loose (kept s old) ∙ leaves.firm.owned i s (record { ino = ino; slot = at.back s old }))
    | inr new ↦ not_true (l.loose (m.block s)) (j.loose (m.block s)) (stores.firm.loose (m.block s)) (g.staged.firm (m.block s) (new_in s new.0 new.1))
  ];
  old_tables = λ b on. edit_table b (edited_table m c.edits b g.tables on);
  lowest = lowest;
}
  where
    n : Placed
    n = given_node x.words i given

    m : Placed
    m = planned_node x.words i given len c

    f : Layout
    f = volume_layout shape x.words

    at : Given x.words i given
    at = given_of x.words i given (inl (own, omega (arith, kind)))

    was_file : (placed_at x.words i).kind ≡ 2
    was_file = sym own.kind ∙ kind

    takes : Takes f n len (numbers c.taken)
    takes = subst (Takes f n len) (sym g.taken) g.takes

    same : SameLayout f (volume_layout shape y.words)
    same = layout_left shape x k y j h leaves

    beside : AgreesBeside f i x.words z.words
    beside = beside_trans f i x.words y.words z.words (beside_agrees f i x.words y.words ino leaves.words) (beside_back shape x.words y.words y.words z.words i ino same stores.beside)

    last : SameLayout f (volume_layout shape z.words)
    last = lays_same f z.words (lays_beside f i x.words z.words h.order.mapped.laid (lays_self shape x.words) beside)

    source : (s : Slot) → HasSlot m s → HasSlot n s ⊎ ((q : ℕ) × IsNew n len (numbers c.taken) s q)
    source s has = sourced f n len (numbers c.taken) s takes has

    kept : (s : Slot) → HasSlot n s → m.block s ≡ (placed_at x.words i).block s
    kept s old = same_old n len (numbers c.taken) s old

    in_y : (s : Slot) → HasSlot n s → (placed_at y.words i).block s ≡ m.block s
    in_y s old = (same.each i ino).blocks s (at.back s old) ∙ sym (kept s old)

    has_y : (s : Slot) → HasSlot n s → HasSlot (placed_at y.words i) s
    has_y s old = has_same (placed_at x.words i) (placed_at y.words i) s (same.each i ino) (at.back s old)

    new_free : (s : Slot) (q : ℕ) → IsNew n len (numbers c.taken) s q → IsFree f (m.block s)
    new_free s q new = subst (IsFree f) (sym new.is) (takes.free q new.within)

    new_in : (s : Slot) (q : ℕ) → IsNew n len (numbers c.taken) s q → Contains taken (m.block s)
    new_in s q new = subst (λ bs. Contains bs (m.block s)) g.taken (subst (Contains (numbers c.taken)) (sym new.is) (listed (numbers c.taken) q new.within))

    old_named : (s : Slot) → HasSlot m s → HasSlot n s → z.cached (m.block s) ≡ true → Bears i m s (z.names (m.block s))
    old_named (AtTable t) has old on = subst (λ b. z.names b ≡ None) (in_y (AtTable t) old) (stores.named (AtTable t) (has_y (AtTable t) old) (subst (λ b. z.cached b ≡ true) (sym (in_y (AtTable t) old)) on))
    old_named (AtPage p) has old on = bears_as i m p _ kind (subst (λ b. NamedAs i len p (z.names b)) (in_y (AtPage p) old) (cleared.named p old.within (subst (λ b. z.cached b ≡ true) (sym (in_y (AtPage p) old)) on)))

    new_named : (s : Slot) → HasSlot m s → (q : ℕ) → IsNew n len (numbers c.taken) s q → z.cached (m.block s) ≡ true → Bears i m s (z.names (m.block s))
    new_named s has q new on = let was = stores.free_named (m.block s) (free_on f (volume_layout shape y.words) (m.block s) refl same (new_free s q new)) on in subst (Bears i m s) (sym was.1) (g.staged.named s has (new_in s q new) was.0)

    edit_table : (b : ℕ) → ((t : ℕ) × HasSlot m (AtTable t) × (m.block (AtTable t) ≡ b)) → IsFree (volume_layout shape z.words) b ⊎ ((t : ℕ) × Owns (volume_layout shape z.words) i (AtTable t) × ((placed_at z.words i).block (AtTable t) ≡ b))
    edit_table b (t, has, is) = elim (source (AtTable t) has) [
      | inl old ↦ inr (t, record { ino = ino; slot = has_same (placed_at x.words i) (placed_at z.words i) (AtTable t) (last.each i ino) (at.back (AtTable t) old) }, (last.each i ino).blocks (AtTable t) (at.back (AtTable t) old) ∙ sym (kept (AtTable t) old) ∙ is)
      | inr new ↦ inl (subst (IsFree (volume_layout shape z.words)) is (free_on f (volume_layout shape z.words) (m.block (AtTable t)) refl last (new_free (AtTable t) new.0 new.1)))
    ]

-- ---- the bytes that it makes

pub split_map : (F : ℕ → ℕ) (n k a : ℕ) → map F (range_with_len a k) ++ map F (range_with_len (a + k) n) ≡ map F (range_with_len a (k + n))
split_map F n zero a = let at : a + 0 ≡ a = omega arith in let same : n ≡ 0 + n = omega arith in (λ e. map F (range_with_len (at e) (same e)))
split_map F n (suc k) a =
    let at : a + suc k ≡ (a + 1) + k = omega arith in
    let same : suc (k + n) ≡ suc k + n = omega arith in
    ap (λ b. F a ∷ (map F (range_with_len (a + 1) k) ++ map F (range_with_len b n))) at ∙ ap (λ xs. F a ∷ xs) (split_map F n k (a + 1)) ∙ ap (λ q. map F (range_with_len a q)) same

zero_map : (F : ℕ → ℕ) (n a : ℕ) → ((x : ℕ) → a ≤ x → x < a + n → F x ≡ 0) → map F (range_with_len a n) ≡ replicate n 0
zero_map F zero a none = refl
zero_map F (suc n) a none = ap (λ y. y ∷ map F (range_with_len (a + 1) n)) (none a (omega arith) (omega arith)) ∙ ap (λ ys. 0 ∷ ys) (zero_map F n (a + 1) (λ x low high. none x (omega (arith, low)) (omega (arith, high))))

pub byte_at_block : (f : BlockWords) (n : Placed) (x : ℕ) → 0 < n.kind → x < n.size → byte_in (word_in f n) x ≡ block_byte f (n.block (AtPage (x / 4096))) (x % 4096)
byte_at_block f n x used within = ap (λ w. byte_of w (x % 8)) (held_word f n (x / 8) used (omega (arith, within))) ∙ (λ q. byte_of (f (n.block (AtPage (page x q))) (word x q)) (rest x q))
  where
    page : (x : ℕ) → x / 8 / 512 ≡ x / 4096
    page x = omega arith

    word : (x : ℕ) → x / 8 % 512 ≡ x % 4096 / 8
    word x = omega arith

    rest : (x : ℕ) → x % 8 ≡ x % 4096 % 8
    rest x = omega arith

pub grown_bytes : (f : BlockWords) (n m : Placed) (len : ℕ) → 0 < n.kind → 0 < m.kind → m.size ≡ len → n.size ≤ len → ((p : ℕ) → p < pages n.size → m.block (AtPage p) ≡ n.block (AtPage p)) → ((x : ℕ) → n.size ≤ x → x < len → block_byte f (m.block (AtPage (x / 4096))) (x % 4096) ≡ 0) → held_bytes (held f m) ≡ resized (held_bytes (held f n)) len
grown_bytes f n m len used_n used_m size grows same zeros =
    bytes_sized f m used_m ∙ ap (λ s. map F (range_with_len 0 s)) (size ∙ whole)
    ∙ sym (split_map F (len - n.size) n.size 0)
    ∙ ap (λ ys. map F (range_with_len 0 n.size) ++ ys) (zero_map F (len - n.size) (0 + n.size) (λ x low high. byte_at_block f m x used_m (omega (arith, high, size, grows)) ∙ zeros x (omega (arith, low)) (omega (arith, high, grows))))
    ∙ ap (λ xs. xs ++ replicate (len - n.size) 0) (same_map F (byte_in (word_in f n)) n.size 0 (λ x low high. byte_same f n m x used_n used_m (omega (arith, high, size, grows)) (omega (arith, high)) (same (x / 8 / 512) (omega (arith, high)))) ∙ sym (bytes_sized f n used_n) ∙ sym (take_all len (held_bytes (held f n)) (omega (arith, long, grows))))
    ∙ ap (λ q. take len (held_bytes (held f n)) ++ replicate (len - q) 0) (sym long)
  where
    F : ℕ → ℕ
    F = byte_in (word_in f m)

    whole : len ≡ n.size + (len - n.size)
    whole = omega (arith, grows)

    long : length (held_bytes (held f n)) ≡ n.size
    long = ap length (bytes_sized f n used_n) ∙ length-map-range_with_len (byte_in (word_in f n)) 0 n.size

-- its old bytes, with its last page cleared
pub grow_old : (shape : VolumeShape) (x : Seen) (k : Kept) (y : Seen) (j : Kept) (g : BlockWords) (i : ℕ) → IsIno shape i → Ready shape x k → LeavesInUse (volume_layout shape x.words) x k y j → held_bytes (held g (placed_at y.words i)) ≡ held_bytes (held y.words (placed_at y.words i)) → held_bytes (held g (placed_at x.words i)) ≡ file_bytes shape x.words i
grow_old shape x k y j g i ino h leaves same =
    let placed = (layout_left shape x k y j h leaves).each i ino in
    ap held_bytes (sym (held_same g (placed_at x.words i) (placed_at y.words i) placed)) ∙ same ∙ ap held_bytes (held_same y.words (placed_at x.words i) (placed_at y.words i) placed ∙ held_agree x.words y.words (placed_at x.words i) (λ p has w. leaves.words.owned i (AtPage p) (record { ino = ino; slot = has }) w)) ∙ sym (file_node shape x.words i ino)

-- and its new ones
pub grow_new : (shape : VolumeShape) (x : Seen) (k : Kept) (y : Seen) (j : Kept) (z : Seen) (l : Kept) (i : ℕ) (given : Inode) (len : ℕ) (taken : List ℕ) (c : SizeChange) → IsIno shape i → Ready shape x k → IsInode x.words i given → given.kind ≡ 2 → given.size ≤ len → LeavesInUse (volume_layout shape x.words) x k y j → Grows shape x.words y j i given len taken c → TailCleared y.words z i given.size len → StoresPages shape y j z l i → held_bytes (held z.words (placed_at y.words i)) ≡ held_bytes (held y.words (placed_at y.words i)) → held_bytes (held z.words (planned_node x.words i given len c)) ≡ resized (file_bytes shape x.words i) len
grow_new shape x k y j z l i given len taken c ino h own kind grows leaves g cleared stores bytes =
    grown_bytes z.words (placed_at x.words i) m len (omega (arith, was_file)) (omega (arith, kind)) refl (omega (arith, size, grows)) (λ p few. page_old n len p (numbers c.taken) (omega (arith, few, size))) (λ q past within. by q (omega (arith, past, size)) within (cases_lt (q / 4096) (pages given.size)))
    ∙ ap (λ old. resized old len) (grow_old shape x k y j z.words i ino h leaves bytes)
  where
    n : Placed
    n = given_node x.words i given

    m : Placed
    m = planned_node x.words i given len c

    f : Layout
    f = volume_layout shape x.words

    was_file : (placed_at x.words i).kind ≡ 2
    was_file = sym own.kind ∙ kind

    size : (placed_at x.words i).size ≡ given.size
    size = sym own.size

    takes : Takes f n len (numbers c.taken)
    takes = subst (Takes f n len) (sym g.taken) g.takes

    same : SameLayout f (volume_layout shape y.words)
    same = layout_left shape x k y j h leaves

    old_slot : (p : ℕ) → p < pages given.size → HasSlot (placed_at x.words i) (AtPage p)
    old_slot p few = record { used = omega (arith, was_file); within = omega (arith, few, size) }

    zero_word : (b w : ℕ) (q : ℕ) → q < length (numbers c.taken) → slice_index (numbers c.taken) q ≡ b → z.words b w ≡ 0
    zero_word b w q few is =
        let free : IsFree f b = subst (IsFree f) is (takes.free q few) in
        stores.free_words b w (free_on f (volume_layout shape y.words) b refl same free) ∙ g.staged.zeros b w (subst (λ bs. Contains bs b) g.taken (subst (Contains (numbers c.taken)) is (listed (numbers c.taken) q few)))

    by : (x : ℕ) → given.size ≤ x → x < len → ((x / 4096 < pages given.size) ⊎ (pages given.size ≤ x / 4096)) → block_byte z.words (m.block (AtPage (x / 4096))) (x % 4096) ≡ 0
    by x past within (inl old) = ap (λ b. block_byte z.words b (x % 4096)) (page_old n len (x / 4096) (numbers c.taken) old ∙ sym ((same.each i ino).blocks (AtPage (x / 4096)) (old_slot (x / 4096) old))) ∙ cleared.zeros x past old
    by x past within (inr new) = ap (λ w. byte_of w (x % 4096 % 8)) (zero_word (m.block (AtPage (x / 4096))) (x % 4096 / 8) (x / 4096 - pages given.size) (let count = takes.count in omega (arith, new, within, count)) (sym (page_new n len (x / 4096) (numbers c.taken) new))) ∙ zero_byte (x % 4096 % 8)
