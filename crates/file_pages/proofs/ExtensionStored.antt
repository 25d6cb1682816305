-- Bytes stored in pages of a file as it will be leave its growth prepared.
use Rattle.file_pages.proofs.Common.{◌≡◌, ℕ, ◌+◌, ◌<◌, ◌≤◌, ◌⊎◌, true, false, length, refl, sym, subst, ◌∙◌, arith, inl, inr, Option, slice_index, Contains, cases_lt, get_or-map-range_with_len, length-map-range_with_len, PageName, VolumeShape, BlockWords, Seen, IsIno, reserved, Firm, Kept, Settled, Slot, AtPage, AtTable, Placed, HasSlot, placed_at, Layout, volume_layout, Owns, IsFree, AgreesBeside, SameLayout, has_same, lays_same, lays_self, page_page, table_page, pages, Bears, beside_trans, lays_beside, mapped_beside}
use Rattle.node_pages.specs.Changes.{Apart}
use Rattle.node_pages.specs.LookingUp.{page_blocks}
use Rattle.node_pages.proofs.OrderRules.{firm_layout, firm_on, ready_order}
use Rattle.rio_model.proofs.NamedRules.{named_layout}
use Rattle.file_pages.specs.Preparing.{Prepared}
use Rattle.file_pages.specs.Spans.{SpanNamed}
use Rattle.node_pages.specs.Staging.{Beside}
use Rattle.file_pages.specs.Storing.{NamedAs}
use Rattle.node_pages.specs.declared.changes.SizeChange.{SizeChange}
use Rattle.file_pages.proofs.Extended.{beside_back}
use Rattle.file_pages.proofs.Extension.{free_left}
use Rattle.node_pages.proofs.Listed.{place_of}
use Rattle.node_pages.proofs.Staged.{kept_outside, not_true}
use Rattle.file_pages.proofs.Stored.{as_bears, bears_as}

-- ---- a run of pages by their places

pub span_at : (n : Placed) (first count t : ℕ) → t < count → slice_index (page_blocks n first count) t ≡ n.block (AtPage (first + t))
span_at n first count t few = get_or-map-range_with_len (λ p. n.block (AtPage p)) first count t (first + t) 0 few refl

pub span_long : (n : Placed) (first count : ℕ) → length (page_blocks n first count) ≡ count
span_long n first count = length-map-range_with_len (λ p. n.block (AtPage p)) first count

-- a block of the run is that of a page
pub span_page : (n : Placed) (first count b : ℕ) → Contains (page_blocks n first count) b → (t : ℕ) × (t < count) × (n.block (AtPage (first + t)) ≡ b)
span_page n first count b on =
    let at = place_of (page_blocks n first count) b on in
    let few : at.0 < count = (let less = at.1 in let long = span_long n first count in omega (arith, less, long)) in
    (at.0, few, sym (span_at n first count at.0 few) ∙ at.2)

-- the pages of file i as it will be are those that it has, and free blocks
pub record GrownFrom (shape : VolumeShape) (f : BlockWords) (i : ℕ) (m : Placed) : Type 0 where
  pub grows : (placed_at f i).size ≤ m.size
  pub old : (p : ℕ) → p < pages (placed_at f i).size → m.block (AtPage p) ≡ (placed_at f i).block (AtPage p)
  pub new : (p : ℕ) → pages (placed_at f i).size ≤ p → p < pages m.size → IsFree (volume_layout shape f) (m.block (AtPage p))

-- ---- what a store may be called with

pub span_within : (shape : VolumeShape) (f : BlockWords) (z : Seen) (l : Kept) (i : ℕ) (m : Placed) (c : SizeChange) (first count : ℕ) → Prepared shape f z l i m c → first + count ≤ pages m.size → (t : ℕ) → t < length (page_blocks m first count) → slice_index (page_blocks m first count) t < z.count
span_within shape f z l i m c first count h most t few =
    let less : t < count = (let long = span_long m first count in omega (arith, few, long)) in
    let to = h.turns.new_fits.to (AtPage (first + t)) (record { used = (let kind = h.file in omega (arith, kind)); within = omega (arith, less, most) }) in
    let is = span_at m first count t less in
    let all = h.ready.order.has_shape.count in
    omega (arith, to, is, all)

pub span_apart : (shape : VolumeShape) (f : BlockWords) (z : Seen) (l : Kept) (i : ℕ) (m : Placed) (c : SizeChange) (first count : ℕ) → Prepared shape f z l i m c → first + count ≤ pages m.size → Apart (page_blocks m first count)
span_apart shape f z l i m c first count h most = λ s t few_s few_t same.
    let long = span_long m first count in
    let in_s : s < count = omega (arith, few_s, long) in
    let in_t : t < count = omega (arith, few_t, long) in
    let one = page_page _ _ (h.turns.new_fits.apart (AtPage (first + s)) (AtPage (first + t)) (has s in_s) (has t in_t) (sym (span_at m first count s in_s) ∙ same ∙ span_at m first count t in_t)) in
    omega (arith, one)
  where
    has : (t : ℕ) → t < count → HasSlot m (AtPage (first + t))
    has t less = record { used = (let kind = h.file in omega (arith, kind)); within = omega (arith, less, most) }

pub span_named : (shape : VolumeShape) (f : BlockWords) (z : Seen) (l : Kept) (i : ℕ) (m : Placed) (c : SizeChange) (first count : ℕ) → Prepared shape f z l i m c → first + count ≤ pages m.size → SpanNamed (page_blocks m first count) first i m.size z
span_named shape f z l i m c first count h most = record {
  each = λ t few on.
      let less : t < count = (let long = span_long m first count in omega (arith, few, long)) in
      let at = span_at m first count t less in
      subst (λ b. NamedAs i m.size (first + t) (z.names b)) (sym at) (as_bears i m (first + t) (z.names (m.block (AtPage (first + t)))) h.file (h.named (AtPage (first + t)) (record { used = (let kind = h.file in omega (arith, kind)); within = omega (arith, less, most) }) (subst (λ b. z.cached b ≡ true) at on)));
}

-- ---- and what it leaves

narrower : (i less size p : ℕ) (name : Option PageName) → less ≤ size → NamedAs i size p name → NamedAs i less p name
narrower i less size p name small (own, is, h) = (own, is, (let wide = h.size_from in record { file = h.file; index = h.index; size_from = omega (arith, wide, small) }))

pub prepared_stored : (shape : VolumeShape) (f : BlockWords) (z : Seen) (l : Kept) (w : Seen) (k : Kept) (i : ℕ) (m : Placed) (c : SizeChange) (first count : ℕ) → Prepared shape f z l i m c → GrownFrom shape f i m → first + count ≤ pages m.size → Beside (Contains (page_blocks m first count)) z l w k → SpanNamed (page_blocks m first count) first i m.size w → Firm l k → k.updating ≡ false → Settled w k → Prepared shape f w k i m c
prepared_stored shape f z l w k i m c first count h from most stored names firm idle settled = record {
  ino = h.ino;
  mapped = h.mapped;
  was_file = h.was_file;
  ready = ready_order shape w k (record {
    has_shape = record {
      sizes = h.ready.order.has_shape.sizes;
      count = stored.count ∙ h.ready.order.has_shape.count;
      unnamed = λ b low on. let was = kept_outside inside z l w k b stored (low_out b low) on in was.1 ∙ h.ready.order.has_shape.unnamed b low was.0;
    };
    mapped = mapped_beside shape i z.words w.words h.ready.order.mapped beside;
    named = named_layout lz w.words w after (record { each = λ n ino s has on. by_name n ino s has on (stored.caches.each _ on) });
    firm = firm_layout lz w.words k after (firm_on lz l k h.ready.order.firm firm);
  }) idle;
  settled = settled;
  beside = beside_trans (volume_layout shape f) i f z.words w.words h.beside (beside_back shape f z.words z.words w.words i h.ino same beside);
  turns = h.turns;
  file = h.file;
  from = h.from;
  tables = h.tables;
  named = λ s has on. own_name s has on (stored.caches.each _ on);
  firm = λ s has. not_true (k.loose (m.block s)) (l.loose (m.block s)) (firm.loose (m.block s)) (h.firm s has);
  old_tables = λ b on. elim (h.old_tables b on) [
    | inl free ↦ inl (free_left shape z.words w.words b after free)
    | inr (t, own, is) ↦ inr (t, record { ino = own.ino; slot = has_same (placed_at z.words i) (placed_at w.words i) (AtTable t) (after.each i own.ino) own.slot }, (after.each i own.ino).blocks (AtTable t) own.slot ∙ is)
  ];
  lowest = h.lowest;
}
  where
    inside : ℕ → Type 0
    inside = Contains (page_blocks m first count)

    lz : Layout
    lz = volume_layout shape z.words

    same : SameLayout (volume_layout shape f) lz
    same = lays_same (volume_layout shape f) z.words (lays_beside (volume_layout shape f) i f z.words h.mapped.laid (lays_self shape f) h.beside)

    used : 0 < (placed_at f i).kind
    used = let kind = h.was_file in omega (arith, kind)

    has_page : (t : ℕ) → t < count → HasSlot m (AtPage (first + t))
    has_page t less = record { used = (let kind = h.file in omega (arith, kind)); within = omega (arith, less, most) }

    -- a page of the run is one of the file's, or free
    source : (b : ℕ) → inside b → ((p : ℕ) × Owns lz i (AtPage p) × ((lz.node i).block (AtPage p) ≡ b) × ((w.cached b ≡ true) → NamedAs i (lz.node i).size p (w.names b))) ⊎ IsFree lz b
    source b on = by (span_page m first count b on)
      where
        name : (t : ℕ) → t < count → (b : ℕ) → m.block (AtPage (first + t)) ≡ b → w.cached b ≡ true → NamedAs i m.size (first + t) (w.names b)
        name t less b is cached = let at = span_at m first count t less ∙ is in subst (λ d. NamedAs i m.size (first + t) (w.names d)) at (names.each t (let long = span_long m first count in omega (arith, less, long)) (subst (λ d. w.cached d ≡ true) (sym at) cached))

        by : (t : ℕ) × (t < count) × (m.block (AtPage (first + t)) ≡ b) → ((p : ℕ) × Owns lz i (AtPage p) × ((lz.node i).block (AtPage p) ≡ b) × ((w.cached b ≡ true) → NamedAs i (lz.node i).size p (w.names b))) ⊎ IsFree lz b
        by (t, less, is) = elim (cases_lt (first + t) (pages (placed_at f i).size)) [
          | inl under ↦ (
              let has : HasSlot (placed_at f i) (AtPage (first + t)) = record { used = used; within = under } in
              inl (first + t, record { ino = h.ino; slot = has_same (placed_at f i) (placed_at z.words i) (AtPage (first + t)) (same.each i h.ino) has }, (same.each i h.ino).blocks (AtPage (first + t)) has ∙ sym (from.old (first + t) under) ∙ is, λ cached. narrower i (lz.node i).size m.size (first + t) (w.names b) (let size = (same.each i h.ino).size used in let grows = from.grows in omega (arith, size, grows)) (name t less b is cached))
              )
          | inr past ↦ inr (subst (IsFree lz) is (free_left shape f z.words (m.block (AtPage (first + t))) same (from.new (first + t) past (has_page t less).within)))
        ]

    low_out : (b : ℕ) → b < reserved shape → inside b → ⊥
    low_out b low on = let at = span_page m first count b on in let up = h.turns.new_fits.from (AtPage (first + at.0)) (has_page at.0 at.1) in let is = at.2 in omega (arith, up, is, low)

    own_out : (n : ℕ) (s : Slot) → Owns lz n s → ((p : ℕ) → n ≡ i → s ≡ AtPage p → ⊥) → inside ((lz.node n).block s) → ⊥
    own_out n s own away on = elim (source _ on) [
      | inl (p, mine, is, named) ↦ (let one = h.ready.order.mapped.laid.once.each n i s (AtPage p) own mine (sym is) in away p one.0 one.1)
      | inr free ↦ free.free (record { node = n; slot = s; owns = own; is = refl })
    ]

    beside : AgreesBeside lz i z.words w.words
    beside = record {
      low = λ b v low. stored.words.others b v (low_out b low);
      tables = λ t has v. stored.words.others _ v (own_out i (AtTable t) (record { ino = h.ino; slot = has }) (λ p e is. table_page t p is));
      others = λ n s away own v. stored.words.others _ v (own_out n s own (λ p e is. away e));
    }

    after : SameLayout lz (volume_layout shape w.words)
    after = lays_same lz w.words (lays_beside lz i z.words w.words h.ready.order.mapped.laid (lays_self shape z.words) beside)

    kind_z : (lz.node i).kind ≡ 2
    kind_z = (same.each i h.ino).kind ∙ h.was_file

    by_name : (n : ℕ) (ino : IsIno shape n) (s : Slot) (has : HasSlot (lz.node n) s) → w.cached ((lz.node n).block s) ≡ true → ((z.cached ((lz.node n).block s) ≡ true) × (w.names ((lz.node n).block s) ≡ z.names ((lz.node n).block s))) ⊎ inside ((lz.node n).block s) → Bears n (lz.node n) s (w.names ((lz.node n).block s))
    by_name n ino s has on (inl was) = subst (Bears n (lz.node n) s) (sym was.1) (h.ready.order.named.each n ino s has was.0)
    by_name n ino s has on (inr in_run) = elim (source _ in_run) [
      | inl (p, mine, is, named) ↦ (
          let one = h.ready.order.mapped.laid.once.each i n (AtPage p) s mine (record { ino = ino; slot = has }) is in
          let bears : Bears i (lz.node i) (AtPage p) (w.names ((lz.node n).block s)) = bears_as i (lz.node i) p _ kind_z (named on) in
          subst (λ t. Bears n (lz.node n) t (w.names ((lz.node n).block s))) one.1 (subst (λ q. Bears q (lz.node q) (AtPage p) (w.names ((lz.node n).block s))) one.0 bears)
          )
      | inr free ↦ absurd (free.free (record { node = n; slot = s; owns = record { ino = ino; slot = has }; is = refl }))
    ]

    own_name : (s : Slot) → HasSlot m s → w.cached (m.block s) ≡ true → ((z.cached (m.block s) ≡ true) × (w.names (m.block s) ≡ z.names (m.block s))) ⊎ inside (m.block s) → Bears i m s (w.names (m.block s))
    own_name s has on (inl was) = subst (Bears i m s) (sym was.1) (h.named s has was.0)
    own_name s has on (inr in_run) =
        let at = span_page m first count (m.block s) in_run in
        let one = h.turns.new_fits.apart (AtPage (first + at.0)) s (has_page at.0 at.1) has at.2 in
        let here = span_at m first count at.0 at.1 ∙ at.2 in
        let named : NamedAs i m.size (first + at.0) (w.names (m.block s)) = subst (λ d. NamedAs i m.size (first + at.0) (w.names d)) here (names.each at.0 (let less = at.1 in let long = span_long m first count in omega (arith, less, long)) (subst (λ d. w.cached d ≡ true) (sym here) on)) in
        subst (λ t. Bears i m t (w.names (m.block s))) one (bears_as i m (first + at.0) _ h.file named)
