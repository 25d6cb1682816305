-- What a pool always keeps, where frames are used, bound, unbound and pinned.
use Rattle.std.specs.Prelude.{◌≡◌, ◌≢◌, ℕ, ◌+◌, ◌<◌, ◌≤◌, false, List, length, slice_index, slice_index_or, slice_set, Option, Some, None, is_none, refl}
use Rattle.std.proofs.Common.{◌∙◌, ap, sym, subst, ⊎_elim, arith}
use Rattle.std.proofs.lemmas.Bool.{cases_eq, cases_lt}
use Rattle.std.proofs.lemmas.List.{get_or-set_other, get_or-set_same, get_or_past, get_or_read}
use Rattle.std.specs.Option.{option_map}
use Rattle.rio_base.specs.declared.places.Block.{Block}
use Rattle.frame_pool.specs.declared.frame.Frame.{Frame}
use Rattle.frame_pool.specs.declared.frame_pool.FramePool.{FramePool}
use Rattle.frame_pool.specs.Frames.{blank, block_at, free_at, older_at, order_at, pinned_at, walk, younger_at}
use Rattle.frame_pool.specs.Orders.{StandFirst, freed_first, used_last}
use Rattle.frame_pool.specs.Rings.{Chain, HasEachOnce, IsRing, IsRingOf, KeepsFrames, KeepsLinks}
use Rattle.frame_pool.proofs.Standing.{stand_first, stand_last, stand_same}

-- the facts that a pool of n frames keeps
pub record Holds (n : ℕ) (table : List ℕ) (frames : List Frame) : Type 0 where
  pub size : length frames ≡ n + 1
  pub ring : IsRing frames n
  pub once : HasEachOnce (order_at frames n) n
  pub free_first : StandFirst (free_at frames) (order_at frames n)
  pub free_unpinned : (k : ℕ) → block_at frames k ≡ None → pinned_at frames k ≡ false
  pub tabled : (b : ℕ) → slice_index table b ≤ n
  pub found : (b k : ℕ) → slice_index table b ≡ k + 1 → block_at frames k ≡ Some b
  pub placed : (b k : ℕ) → block_at frames k ≡ Some b → slice_index table b ≡ k + 1

pub holds : (p : FramePool) → Holds p.count p.table.items p.frames.items
holds p = record { size = p.size; ring = p.ring; once = p.once; free_first = p.free_first; free_unpinned = p.free_unpinned; tabled = p.tabled; found = p.found; placed = p.placed }

-- ---- a frame that was read
pub read_here : (p : FramePool) (k : ℕ) (f : Frame) → k ≤ p.count → f ≡ slice_index_or p.frames.items k f → f ≡ slice_index_or p.frames.items k blank
read_here p k f within is = get_or_read p.frames.items k f (omega (arith, within, p.size)) is blank

pub bound_block : (p : FramePool) (k : ℕ) (f : Frame) (b : Block) → k < p.count → f ≡ slice_index_or p.frames.items k f → f.block ≡ Some b → block_at p.frames.items k ≡ Some b.0
bound_block p k f b within is has = ap (λ (g : Frame). option_map (λ c. c.0) g.block) (sym (read_here p k f (omega (arith, within)) is)) ∙ ap (option_map (λ (c : Block). c.0)) has

pub in_table : (n k b : ℕ) (table : List ℕ) (frames : List Frame) → Holds n table frames → block_at frames k ≡ Some b → b < length table
in_table n k b table frames h bound = ⊎_elim (λ less. less) (λ past. absurd (omega (arith, h.placed b k bound, get_or_past table b 0 past))) (cases_lt b (length table))

-- ---- frames that are linked as others
pub order_same : (old new : List Frame) (n : ℕ) → KeepsLinks old new → order_at new n ≡ order_at old n
order_same old new n keeps = ap (λ y. walk y n (y n)) (λ i k. keeps.younger k i)

pub ring_same : (old new : List Frame) (n : ℕ) → KeepsLinks old new → IsRing old n → IsRing new n
ring_same old new n keeps ring = subst (λ o. Chain o (younger_at new) n (order_at new n) n) (λ i k. sym (keeps.older k) i)
    (subst (λ y. Chain (older_at old) y n (walk y n (y n)) n) (λ i k. sym (keeps.younger k) i) ring)

pub once_same : (old new : List Frame) (n : ℕ) → KeepsLinks old new → HasEachOnce (order_at old n) n → HasEachOnce (order_at new n) n
once_same old new n keeps once = subst (λ l. HasEachOnce l n) (sym (order_same old new n keeps)) once

bound_not_free : (o : Option ℕ) → o ≢ None → is_none o ≡ false
bound_not_free None ne = absurd (ne refl)
bound_not_free (Some b) ne = refl

same_some : (c b : ℕ) → Some c ≡ Some b → c ≡ b
same_some c b e = cc

pub none_some : (c : ℕ) → None ≡ Some c → ⊥
none_some c e = cc

-- ---- frame k was used
pub holds_used : (n k : ℕ) (table : List ℕ) (old new : List Frame) → Holds n table old → block_at old k ≢ None → IsRingOf new n (used_last k (order_at old n)) → KeepsFrames old new → Holds n table new
holds_used n k table old new h bound r keeps = record {
  size = keeps.size ∙ h.size;
  ring = r.ring;
  once = r.once;
  free_first = subst (StandFirst (free_at new)) (sym r.order) (stand_last (free_at old) (free_at new) k (order_at old n) h.free_first (λ j ne. ap is_none (keeps.blocks j)) (ap is_none (keeps.blocks k) ∙ bound_not_free (block_at old k) bound));
  free_unpinned = λ j e. keeps.pins j ∙ h.free_unpinned j (sym (keeps.blocks j) ∙ e);
  tabled = h.tabled;
  found = λ b j e. keeps.blocks j ∙ h.found b j e;
  placed = λ b j e. h.placed b j (sym (keeps.blocks j) ∙ e);
}

-- ---- frame k was pinned or let go
pub holds_pin : (n k : ℕ) (table : List ℕ) (old new : List Frame) → Holds n table old → ((j : ℕ) → block_at new j ≡ block_at old j) → ((j : ℕ) → j ≢ k → pinned_at new j ≡ pinned_at old j) → (block_at old k ≡ None → pinned_at new k ≡ false) → KeepsLinks old new → Holds n table new
holds_pin n k table old new h blocks pins free links = record {
  size = links.size ∙ h.size;
  ring = ring_same old new n links h.ring;
  once = once_same old new n links h.once;
  free_first = subst (StandFirst (free_at new)) (sym (order_same old new n links)) (stand_same (free_at old) (free_at new) (order_at old n) h.free_first (λ j. ap is_none (blocks j)));
  free_unpinned = λ j e. ⊎_elim
      (λ same. ap (pinned_at new) same ∙ free (ap (block_at old) (sym same) ∙ sym (blocks j) ∙ e))
      (λ ne. pins j ne ∙ h.free_unpinned j (sym (blocks j) ∙ e))
      (cases_eq j k);
  tabled = h.tabled;
  found = λ b j e. blocks j ∙ h.found b j e;
  placed = λ b j e. h.placed b j (sym (blocks j) ∙ e);
}

-- ---- frame k, which was free, has block b now
pub record Gets (k b : ℕ) (old new : List Frame) : Type 0 where
  pub size : length new ≡ length old
  pub block : block_at new k ≡ Some b
  pub others : (j : ℕ) → j ≢ k → block_at new j ≡ block_at old j
  pub pins : (j : ℕ) → pinned_at new j ≡ pinned_at old j

module _ (n k b : ℕ) (table : List ℕ) (old new : List Frame) (h : Holds n table old) (within : k < n) (there : b < length table) (free : block_at old k ≡ None) (unbound : (j : ℕ) → j < n → block_at old j ≢ Some b) (gets : Gets k b old new) where
  set_here : slice_index (slice_set table b (k + 1)) b ≡ k + 1
  set_here = get_or-set_same table b (k + 1) 0 there

  set_off : (c : ℕ) → c ≢ b → slice_index (slice_set table b (k + 1)) c ≡ slice_index table c
  set_off c ne = get_or-set_other table b c (k + 1) 0 ne

  found_bound : (c j : ℕ) → slice_index (slice_set table b (k + 1)) c ≡ j + 1 → block_at new j ≡ Some c
  found_bound c j e = ⊎_elim
      (λ same.
      let is : j ≡ k = omega (arith, e, ap (slice_index (slice_set table b (k + 1))) same, set_here) in
      ap (block_at new) is ∙ gets.block ∙ ap Some (sym same))
      (λ ne.
      let old_block : block_at old j ≡ Some c = h.found c j (sym (set_off c ne) ∙ e) in
      gets.others j (λ is. cc) ∙ old_block)
      (cases_eq c b)

  placed_bound : (c j : ℕ) → block_at new j ≡ Some c → slice_index (slice_set table b (k + 1)) c ≡ j + 1
  placed_bound c j e = ⊎_elim
      (λ is.
      let all : Some b ≡ Some c = sym gets.block ∙ ap (block_at new) (sym is) ∙ e in
      let same : b ≡ c = cc in
      ap (slice_index (slice_set table b (k + 1))) (sym same) ∙ set_here ∙ ap (λ i. i + 1) (sym is))
      (λ ne.
      let old_block : block_at old j ≡ Some c = sym (gets.others j ne) ∙ e in
      let place : slice_index table c ≡ j + 1 = h.placed c j old_block in
      set_off c (λ d. unbound j (omega (arith, place, h.tabled c)) (old_block ∙ ap Some d)) ∙ place)
      (cases_eq j k)

  tabled_bound : (c : ℕ) → slice_index (slice_set table b (k + 1)) c ≤ n
  tabled_bound c = ⊎_elim
      (λ same. omega (arith, ap (slice_index (slice_set table b (k + 1))) same, set_here, within))
      (λ ne. omega (arith, set_off c ne, h.tabled c))
      (cases_eq c b)

  pub holds_bound : IsRingOf new n (used_last k (order_at old n)) → Holds n (slice_set table b (k + 1)) new
  holds_bound r = record {
    size = gets.size ∙ h.size;
    ring = r.ring;
    once = r.once;
    free_first = subst (StandFirst (free_at new)) (sym r.order) (stand_last (free_at old) (free_at new) k (order_at old n) h.free_first (λ j ne. ap is_none (gets.others j ne)) (ap is_none gets.block));
    free_unpinned = λ j e. gets.pins j ∙ ⊎_elim (λ is. absurd cc) (λ ne. h.free_unpinned j (sym (gets.others j ne) ∙ e)) (cases_eq j k);
    tabled = tabled_bound;
    found = found_bound;
    placed = placed_bound;
  }

-- ---- frame k, which had block b, has none
pub record Loses (k : ℕ) (old new : List Frame) : Type 0 where
  pub size : length new ≡ length old
  pub block : block_at new k ≡ None
  pub others : (j : ℕ) → j ≢ k → block_at new j ≡ block_at old j
  pub pins : (j : ℕ) → pinned_at new j ≡ pinned_at old j

module _ (n k b : ℕ) (table : List ℕ) (old new : List Frame) (h : Holds n table old) (bound : block_at old k ≡ Some b) (unpinned : pinned_at old k ≡ false) (loses : Loses k old new) where
  place_here : slice_index table b ≡ k + 1
  place_here = h.placed b k bound

  there : b < length table
  there = in_table n k b table old h bound

  found_unbound : (c j : ℕ) → slice_index (slice_set table b 0) c ≡ j + 1 → block_at new j ≡ Some c
  found_unbound c j e = ⊎_elim
      (λ same. absurd (omega (arith, e, ap (slice_index (slice_set table b 0)) same, get_or-set_same table b 0 0 there)))
      (λ ne.
      let place : slice_index table c ≡ j + 1 = sym (get_or-set_other table b c 0 0 ne) ∙ e in
      let old_block : block_at old j ≡ Some c = h.found c j place in
      gets_off j c ne old_block)
      (cases_eq c b)
    where
      gets_off : (j c : ℕ) → c ≢ b → block_at old j ≡ Some c → block_at new j ≡ Some c
      gets_off j c ne e = loses.others j (λ is. absurd (ne (same_some c b (sym e ∙ ap (block_at old) is ∙ bound)))) ∙ e

  placed_unbound : (c j : ℕ) → block_at new j ≡ Some c → slice_index (slice_set table b 0) c ≡ j + 1
  placed_unbound c j e = ⊎_elim
      (λ is. absurd (none_some c (sym loses.block ∙ ap (block_at new) (sym is) ∙ e)))
      (λ ne.
      let place : slice_index table c ≡ j + 1 = h.placed c j (sym (loses.others j ne) ∙ e) in
      get_or-set_other table b c 0 0 (λ same. absurd (omega (arith, place, place_here, ap (slice_index table) same, ne))) ∙ place)
      (cases_eq j k)

  tabled_unbound : (c : ℕ) → slice_index (slice_set table b 0) c ≤ n
  tabled_unbound c = ⊎_elim
      (λ same. omega (arith, ap (slice_index (slice_set table b 0)) same, get_or-set_same table b 0 0 there))
      (λ ne. omega (arith, get_or-set_other table b c 0 0 ne, h.tabled c))
      (cases_eq c b)

  pub holds_unbound : IsRingOf new n (freed_first k (order_at old n)) → Holds n (slice_set table b 0) new
  holds_unbound r = record {
    size = loses.size ∙ h.size;
    ring = r.ring;
    once = r.once;
    free_first = subst (StandFirst (free_at new)) (sym r.order) (stand_first (free_at old) (free_at new) k (order_at old n) h.free_first (λ j ne. ap is_none (loses.others j ne)) (ap is_none loses.block));
    free_unpinned = λ j e. ⊎_elim (λ is. loses.pins j ∙ ap (pinned_at old) is ∙ unpinned) (λ ne. loses.pins j ∙ h.free_unpinned j (sym (loses.others j ne) ∙ e)) (cases_eq j k);
    tabled = tabled_unbound;
    found = found_unbound;
    placed = placed_unbound;
  }
