-- Blocks that changes free, which are dropped from the cache: they are all that some node had, and none has any more.
use Rattle.request_ends.proofs.Common.{◌≡◌, ◌≢◌, ℕ, suc, ◌+◌, ◌<◌, ◌≤◌, ◌⊎◌, false, List, [], ◌∷◌, length, map, refl, sym, ap, subst, ◌∙◌, arith, inl, inr, slice_index_or, Result, Ok, Contains, cases_eq, VolFail, Block, VolumeShape, used_bit, SameOutside, BlockWords, Drops, Seen, reserved, Kept, numbers, Agrees, IsFree, Owned, volume_layout, SameLayout, lays_agree, lays_same, lays_self, owned_below, owned_on, Applied, IsMapped, bitmap_bits, Forgets}
use Rattle.std.proofs.lemmas.List.{get_or_default}
use Rattle.rio_model.proofs.PlacedRules.{has_bit}
use Rattle.node_pages.specs.Staging.{Uncached}
use Rattle.node_pages.proofs.Staged.{not_true}
use Rattle.node_updates.specs.Changes.{AllApplied, IsFreed, change_update}
use Rattle.node_updates.specs.Committing.{Commits}
use Rattle.node_updates.specs.declared.changes.NodeChange.{NodeChange}
use Rattle.rio_model.proofs.LowestBlocks.{decided}
use Rattle.node_updates.proofs.Fitting.{AllFit, freed_above, freed_out}
use Rattle.node_updates.proofs.Reached.{Prepared, mapped_now}
use Rattle.node_updates.proofs.Requested.{Committed, OrdersAll, prepared}

-- ---- change by change

pub uncached_on : (inside : ℕ → Type 0) (x y : Seen) → Drops x y → Uncached inside x → Uncached inside y
uncached_on inside x y drops h = λ b on. not_true (y.cached b) (x.cached b) (λ now. (drops.kept b now).0) (h b on)

-- no block is cached that one of the first n changes frees
pub record ForgottenTo (y : Seen) (cs : List NodeChange) (n : ℕ) : Type 0 where
  pub each : (c : NodeChange) (t : ℕ) → t < n → t < length cs → slice_index_or cs t c ≡ c → Uncached (Contains (numbers c.freed)) y

pub forgotten_none : (y : Seen) (cs : List NodeChange) → ForgottenTo y cs 0
forgotten_none y cs = record { each = λ c t h. absurd (omega (arith, h)) }

pub forgotten_next : (x y : Seen) (cs : List NodeChange) (n : ℕ) (c : NodeChange) (bs : List Block) → n < length cs → c ≡ slice_index_or cs n c → bs ≡ c.freed → ForgottenTo x cs n → Drops x y → Uncached (Contains (numbers bs)) y → ForgottenTo y cs (n + 1)
forgotten_next x y cs n c bs few is freed h drops now = record { each = λ d t below within at. by d t below within at (cases_eq t n) }
  where
    by : (d : NodeChange) (t : ℕ) → t < n + 1 → t < length cs → slice_index_or cs t d ≡ d → (t ≡ n) ⊎ (t ≢ n) → Uncached (Contains (numbers d.freed)) y
    by d t below within at (inr ne) = uncached_on (Contains (numbers d.freed)) x y drops (h.each d t (omega (arith, below, ne)) within at)
    by d t below within at (inl e) =
        let same : c ≡ d = is ∙ get_or_default cs n c d few ∙ ap (λ m. slice_index_or cs m d) (sym e) ∙ at in
        subst (λ (a : NodeChange). Uncached (Contains (numbers a.freed)) y) same (subst (λ (b : List Block). Uncached (Contains (numbers b)) y) freed now)

pub forgotten_every : (y : Seen) (cs : List NodeChange) (n : ℕ) → length cs ≤ n → ForgottenTo y cs n → (b : ℕ) → IsFreed cs b → y.cached b ≡ false
forgotten_every y cs n end h b (c, (t, few, at), on) = h.each c t (omega (arith, end, few)) few at b on

-- ---- what all changes free

freed_further : (c : NodeChange) (cs : List NodeChange) (b : ℕ) → IsFreed cs b → IsFreed (c ∷ cs) b
freed_further c cs b (d, (t, few, at), on) = (d, (suc t, omega (arith, few), at), on)

still_marked : (shape : VolumeShape) (f h : BlockWords) (c : NodeChange) (b : ℕ) → Applied shape (change_update c) f h → b < bitmap_bits shape → (Contains (numbers c.freed) b → ⊥) → used_bit shape f b ≡ 1 → used_bit shape h b ≡ 1
still_marked shape f h c b a below kept was = by (decided (numbers c.taken) b)
  where
    by : Contains (numbers c.taken) b ⊎ (Contains (numbers c.taken) b → ⊥) → used_bit shape h b ≡ 1
    by (inl on) = a.taken b on
    by (inr none) = a.others b below none kept ∙ was

-- a block that is marked before, and not after, is one that a change frees
unmarked_freed : (shape : VolumeShape) (f g : BlockWords) (cs : List NodeChange) (b : ℕ) → AllApplied shape (map change_update cs) f g → b < bitmap_bits shape → used_bit shape f b ≡ 1 → used_bit shape g b ≡ 0 → IsFreed cs b
unmarked_freed shape f g [] b is below was now = absurd (let same = ap (λ (w : BlockWords). used_bit shape w b) is in omega (arith, same, was, now))
unmarked_freed shape f g (c ∷ cs) b (h, a, rest) below was now = by (decided (numbers c.freed) b) (λ bit. unmarked_freed shape h g cs b rest below bit now)
  where
    by : Contains (numbers c.freed) b ⊎ (Contains (numbers c.freed) b → ⊥) → (used_bit shape h b ≡ 1 → IsFreed cs b) → IsFreed (c ∷ cs) b
    by (inl on) _ = (c, (0, omega arith, refl), on)
    by (inr kept) later = freed_further c cs b (later (still_marked shape f h c b a below kept was))

same_agrees : (shape : VolumeShape) (f g : BlockWords) → IsMapped shape f → Agrees (volume_layout shape f) f g → SameLayout (volume_layout shape f) (volume_layout shape g)
same_agrees shape f g mapped agrees = lays_same (volume_layout shape f) g (lays_agree (volume_layout shape f) f g mapped.laid.shape_fits (lays_self shape f) agrees)

-- changes of blocks y make blocks g, and both keep the rules of a volume; nodes lie over f as over y, and over w as over g.
-- Where no block is cached that a change frees, none is that lost its node
pub forgets_applied : (shape : VolumeShape) (f y g : BlockWords) (w : Seen) (cs : List NodeChange) → IsMapped shape y → IsMapped shape g → SameLayout (volume_layout shape f) (volume_layout shape y) → AllApplied shape (map change_update cs) y g → SameLayout (volume_layout shape g) (volume_layout shape w.words) → Uncached (IsFreed cs) w → Forgets (volume_layout shape f) (volume_layout shape w.words) w
forgets_applied shape f y g w cs before after first applied last gone = λ b lost. gone b (freed b lost.0 lost.1)
  where
    freed : (b : ℕ) → Owned (volume_layout shape f) b → (Owned (volume_layout shape w.words) b → ⊥) → IsFreed cs b
    freed b had none =
        let own : Owned (volume_layout shape y) b = owned_on (volume_layout shape f) (volume_layout shape y) b first had in
        let from : reserved shape ≤ b = subst (λ x. reserved shape ≤ x) own.is (before.laid.numbers.each own.node own.owns.ino own.slot own.owns.slot).0 in
        let to : b < shape.blocks = owned_below (volume_layout shape y) b before.laid.numbers own in
        let free : IsFree (volume_layout shape g) b = record { from = from; to = to; free = λ o. none (owned_on (volume_layout shape g) (volume_layout shape w.words) b last o) } in
        unmarked_freed shape y g cs b applied (has_bit shape b before.laid.shape_fits to) (before.marks.counts b own) (after.marks.free b free)

-- ---- a request of one update

-- what reads otherwise once freed blocks are dropped is in use by no node
agrees_dropped : (shape : VolumeShape) (y g w : BlockWords) (cs : List NodeChange) → IsMapped shape y → IsMapped shape g → AllFit shape y cs → AllApplied shape (map change_update cs) y g → SameOutside (IsFreed cs) g w → Agrees (volume_layout shape g) g w
agrees_dropped shape y g w cs before after fits applied same = record {
  low = λ b x low. same.others b x (λ freed. (let above = freed_above shape y cs before fits b freed in omega (arith, above, low)));
  owned = λ i s own x. same.others _ x (λ freed. freed_out shape y g cs before after fits applied _ freed (record { node = i; slot = s; owns = own; is = refl }));
}

-- its changes are made. `items` is the list of them that the call was given that makes them
pub forgets_committed : (shape : VolumeShape) (x : Seen) (k : Kept) (y : Seen) (j : Kept) (z : Seen) (l : Kept) (items changes : List NodeChange) (r : Result (Unit {0}) VolFail) (u : Unit {0}) → r ≡ Ok u → items ≡ changes → Committed shape x k y j z l changes r → OrdersAll shape x k y j z changes → Uncached (IsFreed items) z → Forgets (volume_layout shape x.words) (volume_layout shape z.words) z
forgets_committed shape x k y j z l items changes r u re is h orders gone = by (subst (λ (v : Result (Unit {0}) VolFail). Commits shape changes y j z l v) re h.commits)
  where
    by : Commits {T = Unit {0}} shape changes y j z l (Ok u) → Forgets (volume_layout shape x.words) (volume_layout shape z.words) z
    by ((m, same), idle) =
        let pre : Prepared shape x k y j z changes = prepared shape x k y j z changes h.request h.touched in
        let before : IsMapped shape y.words = mapped_now shape x k y j z changes pre in
        let after : IsMapped shape m.made = (orders pre m.made m.applied).mapped in
        forgets_applied shape x.words y.words m.made z changes before after
        (same_agrees shape x.words y.words h.request.ready.order.mapped h.request.leaves.words) m.applied
        (same_agrees shape m.made z.words after (agrees_dropped shape y.words m.made z.words changes before after pre.fits m.applied same))
        (subst (λ (cs : List NodeChange). Uncached (IsFreed cs) z) is gone)
