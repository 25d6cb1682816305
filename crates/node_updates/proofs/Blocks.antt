-- All blocks of a node, as the list of them has them; and single changes that fit.
use Rattle.request_ends.proofs.Common.{◌≡◌, ◌≢◌, ℕ, ◌+◌, ◌<◌, List, [], map, sym, subst, ◌∙◌, arith, inl, inr, Contains, range_with_len, get_or-map-range_with_len, length-map-range_with_len, Block, VolumeShape, BlockWords, Seen, IsIno, Kept, numbers, Held, Available, Slot, AtPage, AtTable, Placed, HasSlot, IsFree, Owned, placed_at, volume_layout, SamePlaced, has_same, pages, IsMapped, node_blocks, IsEdited}
use Rattle.directories.specs.declared.changes.DirChange.{DirChange}
use Rattle.std.proofs.lemmas.List.Elements.{Contains-append_cases, Contains-append_left, Contains-append_right}
use Rattle.rio_model.proofs.PlacedRules.{has_back}
use Rattle.rio_model.specs.Sizes.{tables}
use Rattle.node_pages.specs.LookingUp.{page_blocks}
use Rattle.node_updates.specs.Changes.{IsGone, IsMade, of_dir}
use Rattle.node_updates.specs.declared.changes.NodeChange.{NodeChange}
use Rattle.node_updates.proofs.Fitting.{Fits}
use Rattle.node_updates.proofs.Stood.{Stood, stood_touched}

listed : (f : ℕ → ℕ) (count p : ℕ) → p < count → Contains (map f (range_with_len 0 count)) (f p)
listed f count p few = (p, (let many = length-map-range_with_len f 0 count in omega (arith, few, many)), get_or-map-range_with_len f 0 count p p (f p) few (let z : 0 + p ≡ p = omega arith in z))

place : (f : ℕ → ℕ) (count b : ℕ) → Contains (map f (range_with_len 0 count)) b → (p : ℕ) × (p < count) × (f p ≡ b)
place f count b (t, few, at) =
    let many = length-map-range_with_len f 0 count in
    let within : t < count = omega (arith, few, many) in
    (t, within, sym (get_or-map-range_with_len f 0 count t t b within (let z : 0 + t ≡ t = omega arith in z)) ∙ at)

pub blocks_all : (n : Placed) (s : Slot) → HasSlot n s → Contains (node_blocks n) (n.block s)
blocks_all n (AtPage p) has = Contains-append_left _ _ _ (listed (λ q. n.block (AtPage q)) (pages n.size) p has.within)
blocks_all n (AtTable k) has = Contains-append_right _ _ _ (listed (λ q. n.block (AtTable q)) (tables n.size) k has.within)

pub blocks_own : (n : Placed) (b : ℕ) → 0 < n.kind → Contains (node_blocks n) b → (s : Slot) × HasSlot n s × (n.block s ≡ b)
blocks_own n b used on = elim (Contains-append_cases (page_blocks n 0 (pages n.size)) (map (λ k. n.block (AtTable k)) (range_with_len 0 (tables n.size))) b on) [
  | inl page ↦ (let at = place (λ q. n.block (AtPage q)) (pages n.size) b page in (AtPage at.0, record { used = used; within = at.1 }, at.2))
  | inr table ↦ (let at = place (λ q. n.block (AtTable q)) (tables n.size) b table in (AtTable at.0, record { used = used; within = at.1 }, at.2))
]

-- blocks listed over some blocks are still all the node's where it lies as it did
pub still_all : (n m : Placed) (blocks : List Block) → numbers blocks ≡ node_blocks n → SamePlaced n m → (s : Slot) → HasSlot m s → Contains (numbers blocks) (m.block s)
still_all n m blocks is e s has =
    let was = has_back n m s e has in
    subst (λ bs. Contains bs (m.block s)) (sym is) (subst (Contains (node_blocks n)) (sym (e.blocks s was)) (blocks_all n s was))

pub still_own : (n m : Placed) (blocks : List Block) → numbers blocks ≡ node_blocks n → SamePlaced n m → 0 < n.kind → (b : ℕ) → Contains (numbers blocks) b → (s : Slot) × HasSlot m s × (m.block s ≡ b)
still_own n m blocks is e used b on =
    let at = blocks_own n b used (subst (λ bs. Contains bs b) is on) in
    (at.0, has_same n m at.0 e at.1, e.blocks at.0 at.1 ∙ at.2)

-- ---- single changes

no_edit : (b : ℕ) → IsEdited [] b → ⊥
no_edit b (e, (t, few, at), is) = omega (arith, few)

none_in : (b : ℕ) → Contains (numbers []) b → ⊥
none_in b (t, few, at) = omega (arith, few)

pub made_fits : (shape : VolumeShape) (y : BlockWords) (i kind : ℕ) (c : NodeChange) → IsIno shape i → IsMade i kind c → Fits shape y c
made_fits shape y i kind c ino made = record {
  ino = subst (IsIno shape) (sym made.ino) ino;
  touched = λ b on. absurd (no_edit b (subst (λ es. IsEdited es b) made.edits on));
  takes = λ b on. absurd (none_in b (subst (λ bs. Contains (numbers bs) b) made.taken on));
  frees = λ b on. absurd (none_in b (subst (λ bs. Contains (numbers bs) b) made.freed on));
}

pub gone_fits : (shape : VolumeShape) (y : BlockWords) (i : ℕ) (blocks : List Block) (c : NodeChange) → IsIno shape i → IsGone i blocks c → 0 < (placed_at y i).kind → numbers blocks ≡ node_blocks (placed_at y i) → Fits shape y c
gone_fits shape y i blocks c ino gone used is = record {
  ino = subst (IsIno shape) (sym gone.ino) ino;
  touched = λ b on. absurd (no_edit b (subst (λ es. IsEdited es b) gone.edits on));
  takes = λ b on. absurd (none_in b (subst (λ bs. Contains (numbers bs) b) gone.taken on));
  frees = λ b on. (let at = blocks_own (placed_at y i) b used (subst (λ bs. Contains bs b) is (subst (λ bs. Contains (numbers bs) b) gone.freed on)) in record { node = i; slot = at.0; owns = record { ino = ino; slot = at.1 }; is = at.2 });
}

pub stood_fits : (shape : VolumeShape) (x y : Seen) (j : Kept) (d : ℕ) (becomes : Held → Held → Type 0) (c : DirChange) → IsMapped shape y.words → IsIno shape d → Stood shape x y j d becomes c → Fits shape y.words (of_dir c)
stood_fits shape x y j d becomes c mapped ino h = record {
  ino = subst (IsIno shape) (sym h.plan.dir) ino;
  touched = stood_touched shape x y j d becomes c h mapped ino;
  takes = λ b on. takes b (h.plan.turns.taken b on);
  frees = λ b on. frees b (h.plan.turns.freed b on);
}
  where
    takes : (b : ℕ) → ((s : Slot) × HasSlot h.plan.node s × (h.plan.node.block s ≡ b)) × ((t : Slot) → HasSlot (placed_at h.was d) t → (placed_at h.was d).block t ≢ b) → IsFree (volume_layout shape y.words) b
    takes b ((s, has, at), away) = by (h.may.from s has)
      where
        by : Available (volume_layout shape y.words) d (h.plan.node.block s) → IsFree (volume_layout shape y.words) b
        by (inl (u, own, e)) = absurd (let was = has_back (placed_at h.was d) (placed_at y.words d) u h.may.lies own in away u was (sym (h.may.lies.blocks u was) ∙ e ∙ at))
        by (inr free) = subst (IsFree (volume_layout shape y.words)) at free

    frees : (b : ℕ) → ((s : Slot) × HasSlot (placed_at h.was d) s × ((placed_at h.was d).block s ≡ b)) × ((t : Slot) → HasSlot h.plan.node t → h.plan.node.block t ≢ b) → Owned (volume_layout shape y.words) b
    frees b ((s, has, at), away) = record { node = d; slot = s; owns = record { ino = ino; slot = has_same (placed_at h.was d) (placed_at y.words d) s h.may.lies has }; is = h.may.lies.blocks s has ∙ at }
