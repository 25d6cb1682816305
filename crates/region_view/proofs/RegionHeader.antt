-- The header of a region, read: what is asked of its block, and what the volume is afterwards.
use Rattle.region_view.proofs.Common.{◌≡◌, ◌≢◌, ℕ, ◌+◌, ◌*◌, ◌<◌, ◌≤◌, ◌⊎◌, true, Option, cond, sym, ap, subst, ◌∙◌, arith, inl, inr, cases_eq, nat_tests, length-map-range_with_len, nat_lt, range_with_len, PageName, VolumeShape, BlockWords, Caches, CanName, Looks, SamePage, Seen, IsIno, HasShape, reserved, Held, held_of, counts_of, held_ino, State, Slot, AtPage, HasSlot, Layout, Owns, Placed, placed_at, volume_layout, data_pages, ReadsAs, region_in, AllNamed, Bears, NamesPage, IsMapped}
use Rattle.std.proofs.Common.{None, Some}
use Rattle.std.specs.Prelude.{length, map}
use Rattle.rio_base.proofs.BlockRules.{shape_beside}
use Rattle.rio_model.specs.Undo.{before, data_from}
use Rattle.region_view.proofs.UsedInodes.{kind_held, used_ino}

-- the size of an inode that is used
pub used_size : (shape : VolumeShape) (f : BlockWords) (i : ℕ) → IsIno shape i → 0 < (placed_at f i).kind → (held_of shape f i).size ≡ (placed_at f i).size
used_size shape f i ino used =
    let test : nat_lt 0 (placed_at f i).kind ≡ true = grind (arith, nat_tests, used) in
    ap (λ (h : Held). h.size) (held_ino (volume_layout shape f) f i ino) ∙ ap (λ b. cond b (placed_at f i).size 0) test

-- a region has a page 0
pub record HasHeader (shape : VolumeShape) (f : BlockWords) (i : ℕ) : Type 0 where
  pub ino : IsIno shape i
  pub kind : (placed_at f i).kind ≡ 3
  pub size : 16384 ≤ (placed_at f i).size
  pub page : HasSlot (placed_at f i) (AtPage 0)

pub has_header : (shape : VolumeShape) (f : BlockWords) (i : ℕ) → IsMapped shape f → (held_of shape f i).kind ≡ 3 → HasHeader shape f i
has_header shape f i mapped region =
    let ino : IsIno shape i = used_ino shape f i (subst (λ n. 0 < n) (sym region) (omega arith)) in
    let kind : (placed_at f i).kind ≡ 3 = sym (kind_held shape f i ino) ∙ region in
    let used : 0 < (placed_at f i).kind = omega (arith, kind) in
    let size : 16384 ≤ (placed_at f i).size = (mapped.laid.sizes.each i ino used).region_pages kind in
    record { ino = ino; kind = kind; size = size; page = record { used = used; within = omega (arith, size) } }

pub header_owned : (shape : VolumeShape) (f : BlockWords) (i : ℕ) → HasHeader shape f i → Owns (volume_layout shape f) i (AtPage 0)
header_owned shape f i h = record { ino = h.ino; slot = h.page }

-- its block is one of the volume's
pub header_block : (shape : VolumeShape) (f : BlockWords) (y : Seen) (i b : ℕ) → IsMapped shape f → HasHeader shape f i → HasShape shape y → b ≡ (placed_at f i).block (AtPage 0) → b < y.count
header_block shape f y i b mapped h has_shape at = subst (λ n. b < n) (sym has_shape.count) (subst (λ c. c < shape.blocks) (sym at) (mapped.laid.numbers.each i (header_owned shape f i h).ino (AtPage 0) (header_owned shape f i h).slot).1)

-- the name that it is read under
abbrev pub IsHeaderName : ℕ → PageName → Type 0
IsHeaderName i name = (name.file.0 ≡ i) × (name.index ≡ 0) × (name.size ≡ 4096)

header_names : (i size : ℕ) (name : PageName) → IsHeaderName i name → NamesPage i size 0 name
header_names i size name is = record { file = is.0; index = is.1; size_from = (let wide = is.2 in omega (arith, wide)) }

same_name : (i : ℕ) (n : Placed) (own : Option PageName) (name : PageName) → n.kind ≡ 3 → IsHeaderName i name → Bears i n (AtPage 0) own → SamePage own (Some name)
same_name i n None name kind is bears = absurd (omega (arith, kind, bears))
same_name i n (Some own) name kind is bears = (ap (λ (m : ℕ). record { 0 = m }) (bears.1.file ∙ sym is.0), bears.1.index ∙ sym is.1)

pub header_name : (shape : VolumeShape) (f : BlockWords) (y : Seen) (i b : ℕ) (name : PageName) → IsMapped shape f → HasHeader shape f i → AllNamed (volume_layout shape f) y → b ≡ (placed_at f i).block (AtPage 0) → IsHeaderName i name → CanName y b (Some name)
header_name shape f y i b name mapped h named at is = record {
  in_range = (let from = h.ino.from in let to = h.ino.to in let most = mapped.laid.shape_fits.inodes_to in let file = is.0 in let index = is.1 in let size = is.2 in record {
    file_from = omega (arith, from, file);
    file_to = omega (arith, to, most, file);
    index = omega (arith, index);
    size = omega (arith, size);
  });
  agrees = λ on. subst (λ c. SamePage (y.names c) (Some name)) (sym at) (same_name i (placed_at f i) _ name h.kind is (named.each i h.ino (AtPage 0) h.page (subst (λ c. y.cached c ≡ true) at on)));
}

-- ---- after it was read

-- all names stay right
pub header_named : (shape : VolumeShape) (f : BlockWords) (y z : Seen) (i b : ℕ) (name : PageName) → IsMapped shape f → HasHeader shape f i → AllNamed (volume_layout shape f) y → b ≡ (placed_at f i).block (AtPage 0) → IsHeaderName i name → Caches y z b (Some name) → AllNamed (volume_layout shape f) z
header_named shape f y z i b name mapped h named at is caches = record { each = λ j ino s has on. by j ino s has on (cases_eq ((l.node j).block s) b) }
  where
    l : Layout
    l = volume_layout shape f

    kept : (j : ℕ) → IsIno shape j → (s : Slot) → HasSlot (l.node j) s → (y.cached ((l.node j).block s) ≡ true) × (z.names ((l.node j).block s) ≡ y.names ((l.node j).block s)) → Bears j (l.node j) s (z.names ((l.node j).block s))
    kept j ino s has was = subst (Bears j (l.node j) s) (sym was.1) (named.each j ino s has was.0)

    own : Bears i (l.node i) (AtPage 0) (Some name)
    own = ((λ dir. (let kind = h.kind in omega (arith, kind, dir))), header_names i (placed_at f i).size name is)

    here : (j : ℕ) → IsIno shape j → (s : Slot) → HasSlot (l.node j) s → (l.node j).block s ≡ b → ((y.cached b ≡ true) × (z.names b ≡ y.names b)) ⊎ (z.names b ≡ Some name) → Bears j (l.node j) s (z.names ((l.node j).block s))
    here j ino s has same (inl was) = kept j ino s has (subst (λ c. (y.cached c ≡ true) × (z.names c ≡ y.names c)) (sym same) was)
    here j ino s has same (inr new) =
        let one = mapped.laid.once.each i j (AtPage 0) s (header_owned shape f i h) (record { ino = ino; slot = has }) (sym at ∙ sym same) in
        subst (Bears j (l.node j) s) (sym (ap z.names same ∙ new)) (subst (λ u. Bears j (l.node j) u (Some name)) one.1 (subst (λ n. Bears n (l.node n) (AtPage 0) (Some name)) one.0 own))

    by : (j : ℕ) → IsIno shape j → (s : Slot) → HasSlot (l.node j) s → z.cached ((l.node j).block s) ≡ true → (((l.node j).block s ≡ b) ⊎ ((l.node j).block s ≢ b)) → Bears j (l.node j) s (z.names ((l.node j).block s))
    by j ino s has on (inl same) = here j ino s has same (caches.named (subst (λ c. z.cached c ≡ true) same on))
    by j ino s has on (inr away) = kept j ino s has (caches.others _ away on)

pub header_shape : (shape : VolumeShape) (f : BlockWords) (y z : Seen) (i b : ℕ) (name : PageName) → IsMapped shape f → HasHeader shape f i → HasShape shape y → b ≡ (placed_at f i).block (AtPage 0) → Looks y z → Caches y z b (Some name) → HasShape shape z
header_shape shape f y z i b name mapped h has_shape at looks caches = shape_beside shape y z b (Some name) has_shape looks.count (subst (λ c. reserved shape ≤ c) (sym at) (mapped.laid.numbers.each i (header_owned shape f i h).ino (AtPage 0) (header_owned shape f i h).slot).0) caches

-- ---- its words

pub header_word : (shape : VolumeShape) (f : BlockWords) (i b : ℕ) → HasHeader shape f i → b ≡ (placed_at f i).block (AtPage 0) → f b 2 ≡ (held_of shape f i).word 2
header_word shape f i b h at =
    let used : 0 < (placed_at f i).kind = h.page.used in
    let size = h.size in
    let counts = counts_of (placed_at f i).kind (placed_at f i).size 2 used (omega (arith, size)) in
    ap (λ c. f c 2) at ∙ sym (ap (λ (k : Held). k.word 2) (held_ino (volume_layout shape f) f i h.ino) ∙ ap (λ t. cond t (f ((placed_at f i).block (AtPage 0)) 2) 0) counts)

-- the data pages are within its size
pub header_small : (shape : VolumeShape) (f : BlockWords) (s : State) (i : ℕ) → ReadsAs shape f s → HasHeader shape f i → (held_of shape f i).kind ≡ 3 → 4096 * (held_of shape f i).word 2 ≤ 4292608
header_small shape f s i reads h region =
    let k = held_of shape f i in
    let words = (reads.regions.each i region).region.size in
    let size = used_size shape f i h.ino h.page.used in
    let most = (reads.mapped.laid.sizes.each i h.ino h.page.used).most in
    omega (arith, words, size, most)

-- they are as many as the state says
pub pages_read : (word : ℕ → ℕ) → data_pages (region_in word) ≡ word 2
pages_read word =
    let many : length (map (λ q. before word (data_from word + q)) (range_with_len 0 (512 * word 2))) ≡ 512 * word 2 = length-map-range_with_len (λ q. before word (data_from word + q)) 0 (512 * word 2) in
    omega (arith, many)
