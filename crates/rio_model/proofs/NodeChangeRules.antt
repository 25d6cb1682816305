-- A change of one node leaves a volume that keeps its rules, in which every other node holds what it held.
use Rattle.rio_model.proofs.Common.{◌≡◌, ◌≢◌, ℕ, ◌+◌, ◌-◌, ◌*◌, ◌/◌, ◌%◌, ◌<◌, ◌≤◌, ◌⊎◌, cond, refl, sym, ap, subst, ◌∙◌, arith, inl, inr, cases_eq, nat_tests, VolumeShape, used_bit, BlockWords, inode_block, inode_word, IsIno, reserved}
use Rattle.rio_base.specs.Layout.{inode_place}
use Rattle.rio_model.specs.Held.{held, held_ino, held_of}
use Rattle.rio_model.proofs.HeldRules.{held_agree, held_at, held_by}
use Rattle.rio_model.specs.NodeChanges.{Without, Available, Change}
use Rattle.rio_model.specs.Placed.{Slot, AtPage, AtTable, Placed, HasSlot, Lies, Layout, volume_layout, Owns}
use Rattle.rio_model.proofs.PlacedRules.{Lays, with_placed, lies_agree, lays_self, node_fits, laid_by_nodes, inode_low, inode_no_bitmap, superblock_no_bitmap, above_no_bitmap, has_bit, reserved_below, mapped_by, root_ino}
use Rattle.rio_model.specs.VolumeRules.{SuperblockRule, ReservedRule, MarkRule, IsLaid, IsMapped, NodeFits}
use Rattle.rio_model.proofs.WordRules.{differs, itself}

-- ---- the layout with one node changed

pub node_here : (l : Layout) (i : ℕ) (m : Placed) → (with_placed l i m).node i ≡ m
node_here l i m = ap (λ b. cond b m (l.node i)) (itself i)

pub node_there : (l : Layout) (i : ℕ) (m : Placed) (j : ℕ) → j ≢ i → (with_placed l i m).node j ≡ l.node j
node_there l i m j away = ap (λ b. cond b m (l.node j)) (differs j i away)

owns_there : (l : Layout) (i : ℕ) (m : Placed) (j : ℕ) (s : Slot) → j ≢ i → Owns (with_placed l i m) j s → Owns l j s
owns_there l i m j s away h = record { ino = h.ino; slot = subst (λ (n : Placed). HasSlot n s) (node_there l i m j away) h.slot }

has_here : (l : Layout) (i : ℕ) (m : Placed) (j : ℕ) (s : Slot) → j ≡ i → Owns (with_placed l i m) j s → HasSlot m s
has_here l i m j s same h = subst (λ (n : Placed). HasSlot n s) (ap (with_placed l i m).node same ∙ node_here l i m) h.slot

block_here : (l : Layout) (i : ℕ) (m : Placed) (j : ℕ) (s : Slot) → j ≡ i → ((with_placed l i m).node j).block s ≡ m.block s
block_here l i m j s same = ap (λ (n : Placed). n.block s) (ap (with_placed l i m).node same ∙ node_here l i m)

block_there : (l : Layout) (i : ℕ) (m : Placed) (j : ℕ) (s : Slot) → j ≢ i → ((with_placed l i m).node j).block s ≡ (l.node j).block s
block_there l i m j s away = ap (λ (n : Placed). n.block s) (node_there l i m j away)

-- ---- blocks of other nodes

without_old : (l : Layout) (i j : ℕ) (s : Slot) → IsLaid l → IsIno l.shape i → j ≢ i → Owns l j s → Without (l.node i) ((l.node j).block s)
without_old l i j s h ino away own = λ t has same. away (sym (h.once.each i j t s (record { ino = ino; slot = has }) own same).0)

not_others : (l : Layout) (i j : ℕ) (s : Slot) (b : ℕ) → IsLaid l → IsIno l.shape i → j ≢ i → Owns l j s → Available l i b → b ≢ (l.node j).block s
not_others l i j s b h ino away own (inl mine) = λ same. away (sym (h.once.each i j mine.0 s (record { ino = ino; slot = mine.1 }) own (mine.2 ∙ same)).0)
not_others l i j s b h ino away own (inr none) = λ same. none.free (record { node = j; slot = s; owns = own; is = sym same })

without_new : (l : Layout) (f g : BlockWords) (i j : ℕ) (m : Placed) (s : Slot) → IsLaid l → Change l f g i m → j ≢ i → Owns l j s → Without m ((l.node j).block s)
without_new l f g i j m s h c away own = λ t has. not_others l i j s _ h c.ino away own (c.from t has)

without_low : (shape : VolumeShape) (n : Placed) (b : ℕ) → NodeFits shape n → b < reserved shape → Without n b
without_low shape n b h low = λ s has same. let from = h.from s has in omega (arith, from, low, same)

without_past : (shape : VolumeShape) (n : Placed) (b : ℕ) → NodeFits shape n → shape.blocks ≤ b → Without n b
without_past shape n b fits past = λ s has same. let to = fits.to s has in omega (arith, to, past, same)

other_block : (l : Layout) (f g : BlockWords) (i j : ℕ) (m : Placed) (s : Slot) → IsLaid l → Change l f g i m → j ≢ i → Owns l j s → (w : ℕ) → g ((l.node j).block s) w ≡ f ((l.node j).block s) w
other_block l f g i j m s h c away own w =
    let from = (h.numbers.each j own.ino s own.slot).0 in
    let low = inode_low l.shape i h.shape_fits c.ino in
    c.does.elsewhere _ w (above_no_bitmap l.shape _ from) (λ same. omega (arith, from, low, same)) (without_old l i j s h c.ino away own) (without_new l f g i j m s h c away own)

-- ---- words of other inodes

cases_le : (a b : ℕ) → (a ≤ b) ⊎ (b < a)
cases_le a b = grind (arith, nat_tests)

places_apart : (i j : ℕ) (w : ℕ) → 1 ≤ i → 1 ≤ j → j ≢ i → (j - 1) / 32 ≡ (i - 1) / 32 → w < 16 → (16 * ((j - 1) % 32) + w < 16 * ((i - 1) % 32)) ⊎ (16 * ((i - 1) % 32) + 16 ≤ 16 * ((j - 1) % 32) + w)
places_apart i j w pi pj away same few = elim (cases_le ((i - 1) % 32) ((j - 1) % 32)) [
  | inl up ↦ inr (omega (arith, up))
  | inr down ↦ inl (omega (arith, down))
]

other_inode : (l : Layout) (f g : BlockWords) (i j : ℕ) (m : Placed) → IsLaid l → Change l f g i m → IsIno l.shape j → j ≢ i → (w : ℕ) → w < 16 → inode_word g j w ≡ inode_word f j w
other_inode l f g i j m h c ino away w few = elim (cases_eq (inode_block j) (inode_block i)) [
  | inl same ↦
      let apart : (inode_place j + w < inode_place i) ⊎ (inode_place i + 16 ≤ inode_place j + w) = places_apart i j w c.ino.from ino.from away (omega (arith, same)) few in
      ap (λ b. g b (inode_place j + w)) same ∙ c.does.beside _ apart ∙ sym (ap (λ b. f b (inode_place j + w)) same)
  | inr other ↦
      let low = inode_low l.shape j h.shape_fits ino in
      c.does.elsewhere _ _ (inode_no_bitmap l.shape j h.shape_fits ino) other (without_low _ _ _ (node_fits l i h c.ino) low) (without_low _ _ _ c.fits low)
]

-- ---- the layout

pub lays_replaced : (l : Layout) (f g : BlockWords) (i : ℕ) (m : Placed) → IsLaid l → Lays l f → Change l f g i m → Lays (with_placed l i m) g
lays_replaced l f g i m h k c = record {
  each = λ j ino. elim (cases_eq j i) [
    | inl same ↦ subst (λ (n : Placed). Lies g j n) (sym (ap (with_placed l i m).node same ∙ node_here l i m)) (subst (λ x. Lies g x m) (sym same) c.does.lies)
    | inr away ↦ subst (λ (n : Placed). Lies g j n) (sym (node_there l i m j away)) (lies_agree f g j (l.node j) (k.each j ino) (other_inode l f g i j m h c ino away) (λ t has. other_block l f g i j m (AtTable t) h c away (record { ino = ino; slot = has })))
  ];
}

pub laid_replaced : (l : Layout) (f g : BlockWords) (i : ℕ) (m : Placed) → IsLaid l → Change l f g i m → IsLaid (with_placed l i m)
laid_replaced l f g i m h c = laid_by_nodes (with_placed l i m) h.shape_fits
    (elim (cases_eq 1 i) [
      | inl same ↦ ap (λ (n : Placed). n.kind) (ap (with_placed l i m).node same ∙ node_here l i m) ∙ c.root (sym same)
      | inr away ↦ ap (λ (n : Placed). n.kind) (node_there l i m 1 away) ∙ (h.kinds.each 1 (root_ino l.shape h.shape_fits)).1 refl
    ])
    (λ j ino. elim (cases_eq j i) [
      | inl same ↦ subst (λ (n : Placed). NodeFits l.shape n) (sym (ap (with_placed l i m).node same ∙ node_here l i m)) c.fits
      | inr away ↦ subst (λ (n : Placed). NodeFits l.shape n) (sym (node_there l i m j away)) (node_fits l j h ino)
    ])
    (λ a b s t oa ob same. elim (cases_eq a i) [
      | inl ai ↦ elim (cases_eq b i) [
        | inl bi ↦ ai ∙ sym bi
        | inr away ↦ absurd (without_new l f g i b m t h c away (owns_there l i m b t away ob) s (has_here l i m a s ai oa) (sym (block_here l i m a s ai) ∙ same ∙ block_there l i m b t away))
      ]
      | inr away ↦ elim (cases_eq b i) [
        | inl bi ↦ absurd (without_new l f g i a m s h c away (owns_there l i m a s away oa) t (has_here l i m b t bi ob) (sym (block_here l i m b t bi) ∙ sym same ∙ block_there l i m a s away))
        | inr other ↦ (h.once.each a b s t (owns_there l i m a s away oa) (owns_there l i m b t other ob) (sym (block_there l i m a s away) ∙ same ∙ block_there l i m b t other)).0
      ]
    ])

-- ---- the bitmap

pub marks_replaced : (l : Layout) (f g : BlockWords) (i : ℕ) (m : Placed) → IsLaid l → Change l f g i m → MarkRule l f → MarkRule (with_placed l i m) g
marks_replaced l f g i m h c k = record {
  counts = λ b own. elim (cases_eq own.node i) [
    | inl same ↦ sym (ap bit (sym (block_here l i m own.node own.slot same) ∙ own.is)) ∙ here_marked own.slot (has_here l i m own.node own.slot same own.owns)
    | inr away ↦
        let was = owns_there l i m own.node own.slot away own.owns in
        let at = sym (block_there l i m own.node own.slot away) ∙ own.is in
        sym (ap bit at) ∙ c.bits.others _ (has_bit l.shape _ h.shape_fits (h.numbers.each own.node was.ino own.slot was.slot).1) (without_old l i own.node own.slot h c.ino away was) (without_new l f g i own.node m own.slot h c away was) ∙ k.counts _ (record { node = own.node; slot = own.slot; owns = was; is = refl })
  ];
  free = λ b none. elim (cases_eq (bit b) 0) [
    | inl zero ↦ zero
    | inr marked ↦
        let new : Without m b = λ s has at. none.free (record { node = i; slot = s; owns = record { ino = c.ino; slot = subst (λ (n : Placed). HasSlot n s) (sym (node_here l i m)) has }; is = ap (λ (n : Placed). n.block s) (node_here l i m) ∙ at }) in
        let old : Without (l.node i) b = λ s has at. marked (sym (ap bit at) ∙ c.bits.lost s has (λ t on same. new t on (same ∙ at))) in
        c.bits.others b (has_bit l.shape b h.shape_fits none.to) old new ∙ k.free b (record {
          from = none.from;
          to = none.to;
          free = λ own. elim (cases_eq own.node i) [
            | inl same ↦ old own.slot (subst (λ x. HasSlot (l.node x) own.slot) same own.owns.slot) (sym (ap (λ x. (l.node x).block own.slot) same) ∙ own.is)
            | inr away ↦ none.free (record { node = own.node; slot = own.slot; owns = record { ino = own.owns.ino; slot = subst (λ (n : Placed). HasSlot n own.slot) (sym (node_there l i m own.node away)) own.owns.slot }; is = block_there l i m own.node own.slot away ∙ own.is })
          ];
        })
  ];
}
  where
    bit : ℕ → ℕ
    bit = used_bit l.shape g

    here_marked : (s : Slot) → HasSlot m s → bit (m.block s) ≡ 1
    here_marked s has = elim (c.from s has) [
      | inl mine ↦ ap bit (sym mine.2) ∙ c.bits.kept mine.0 s mine.1 has mine.2 ∙ k.counts _ (record { node = i; slot = mine.0; owns = record { ino = c.ino; slot = mine.1 }; is = refl })
      | inr none ↦ c.bits.gained s has (λ t old same. none.free (record { node = i; slot = t; owns = record { ino = c.ino; slot = old }; is = same }))
    ]

pub reserved_replaced : (l : Layout) (f g : BlockWords) (i : ℕ) (m : Placed) → IsLaid l → Change l f g i m → ReservedRule l.shape f → ReservedRule l.shape g
reserved_replaced l f g i m h c k = record {
  marked = λ b low. c.bits.others b (has_bit l.shape b h.shape_fits (let most = reserved_below l.shape h.shape_fits in omega (arith, low, most))) (without_low _ _ _ (node_fits l i h c.ino) low) (without_low _ _ _ c.fits low) ∙ k.marked b low;
  past = λ b past within. c.bits.others b within (without_past l.shape (l.node i) b (node_fits l i h c.ino) past) (without_past l.shape m b c.fits past) ∙ k.past b past within;
}

superblock_replaced : (l : Layout) (f g : BlockWords) (i : ℕ) (m : Placed) → IsLaid l → Change l f g i m → SuperblockRule l.shape f → SuperblockRule l.shape g
superblock_replaced l f g i m h c k = record { sizes = k.sizes; words = record { magic = word 0 ∙ k.words.magic; version = word 1 ∙ k.words.version; blocks = word 2 ∙ k.words.blocks; inodes = word 3 ∙ k.words.inodes } }
  where
    word : (w : ℕ) → g 0 w ≡ f 0 w
    word w = c.does.elsewhere 0 w (superblock_no_bitmap l.shape) (λ e. omega (arith, e)) (without_low _ _ _ (node_fits l i h c.ino) (omega arith)) (without_low _ _ _ c.fits (omega arith))

-- ---- the rules, and what the inodes hold

pub mapped_replaced : (shape : VolumeShape) (f g : BlockWords) (i : ℕ) (m : Placed) → IsMapped shape f → Change (volume_layout shape f) f g i m → IsMapped shape g
mapped_replaced shape f g i m h c =
    let l = volume_layout shape f in
    mapped_by (with_placed l i m) g (superblock_replaced l f g i m h.laid c h.superblock) (reserved_replaced l f g i m h.laid c h.reserved_marked) (laid_replaced l f g i m h.laid c) (lays_replaced l f g i m h.laid (lays_self shape f) c) (marks_replaced l f g i m h.laid c h.marks)

-- every other node holds what it held
pub held_there : (shape : VolumeShape) (f g : BlockWords) (i : ℕ) (m : Placed) → IsMapped shape f → Change (volume_layout shape f) f g i m → (j : ℕ) → j ≢ i → held_of shape g j ≡ held_of shape f j
held_there shape f g i m h c j away =
    let l = volume_layout shape f in
    held_by (with_placed l i m) g (lays_replaced l f g i m h.laid (lays_self shape f) c) j
    ∙ held_at shape j _ _ _ refl (λ ino. ap (held g) (node_there l i m j away) ∙ held_agree f g (l.node j) (λ p has. other_block l f g i j m (AtPage p) h.laid c away (record { ino = ino; slot = has })))

-- and node i what the words say of it as it is now
pub held_here : (shape : VolumeShape) (f g : BlockWords) (i : ℕ) (m : Placed) → IsMapped shape f → Change (volume_layout shape f) f g i m → held_of shape g i ≡ held g m
held_here shape f g i m h c =
    let l = volume_layout shape f in
    held_by (with_placed l i m) g (lays_replaced l f g i m h.laid (lays_self shape f) c) i ∙ held_ino (with_placed l i m) g i c.ino ∙ ap (held g) (node_here l i m)
