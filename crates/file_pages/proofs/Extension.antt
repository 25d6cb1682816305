-- What is prepared for a write past a file's end, carried over the calls that prepare it.
use Rattle.file_pages.proofs.Common.{◌≡◌, ℕ, ◌-◌, ◌<◌, ◌≤◌, ◌⊎◌, ◌++◌, List, sym, ap, subst, ◌∙◌, arith, inl, inr, max, cases_lt, VolumeShape, BlockWords, Seen, Kept, Inode, grown, AtPage, Placed, volume_layout, IsFree, SameLayout, owned_back, pages, same_map}
use Rattle.std.specs.Prelude.{min}
use Rattle.rio_model.specs.NodeChanges.{AreLowest}
use Rattle.node_pages.specs.Changes.{Grows, given_node}
use Rattle.file_pages.specs.Extending.{Extends}
use Rattle.node_pages.specs.LookingUp.{page_blocks}
use Rattle.node_pages.specs.declared.changes.SizeChange.{SizeChange}
use Rattle.node_pages.proofs.Listed.{blocks_joined}

-- a free block is free still
pub free_left : (shape : VolumeShape) (f g : BlockWords) (b : ℕ) → SameLayout (volume_layout shape f) (volume_layout shape g) → IsFree (volume_layout shape f) b → IsFree (volume_layout shape g) b
free_left shape f g b same h = record { from = h.from; to = h.to; free = λ o. h.free (owned_back (volume_layout shape f) (volume_layout shape g) b same o) }

-- ---- the growth, and the blocks of pages that were looked up

pub extends_made : (shape : VolumeShape) (f : BlockWords) (z : Seen) (l : Kept) (i : ℕ) (given : Inode) (len first : ℕ) (taken : List ℕ) (c : SizeChange) (blocks : List ℕ) → Grows shape f z l i given len taken c → AreLowest shape f taken → blocks ≡ page_blocks (grown (given_node f i given) len taken) first (pages len - first) → Extends shape f z l i given len first c blocks
extends_made shape f z l i given len first taken c blocks g lowest is = record {
  grows = subst (λ bs. Grows shape f z l i given len bs c) (sym g.taken) g;
  span = is ∙ ap (λ bs. page_blocks (grown (given_node f i given) len bs) first (pages len - first)) (sym g.taken);
  lowest = (lowest.0, g.taken ∙ lowest.1);
}

-- ---- the blocks of a run of pages: the ones that a node had, and behind them those that it takes

pub span_joined : (n m : Placed) (first have low high end : ℕ) → low ≡ min first have → high ≡ max first have → first ≤ end → have ≤ end → ((p : ℕ) → p < have → n.block (AtPage p) ≡ m.block (AtPage p)) → page_blocks m low (have - low) ++ page_blocks n high (end - high) ≡ page_blocks n first (end - first)
span_joined n m first have low high end is_low is_high order past same = by (cases_lt first have)
  where
    by : ((first < have) ⊎ (have ≤ first)) → page_blocks m low (have - low) ++ page_blocks n high (end - high) ≡ page_blocks n first (end - first)
    by (inl under) =
        let at : low ≡ first = omega (arith, is_low, under) in
        let behind : high ≡ have = omega (arith, is_high, under) in
        ap (λ a. page_blocks m a (have - a) ++ page_blocks n high (end - high)) at
        ∙ ap (λ b. page_blocks m first (have - first) ++ page_blocks n b (end - b)) behind
        ∙ ap (λ xs. xs ++ page_blocks n have (end - have)) (same_map (λ p. m.block (AtPage p)) (λ p. n.block (AtPage p)) (have - first) first (λ p from to. sym (same p (omega (arith, to, under)))))
        ∙ blocks_joined n first have end (omega (arith, under)) past
    by (inr from) =
        let none : have - low ≡ 0 = omega (arith, is_low, from) in
        let behind : high ≡ first = omega (arith, is_high, from) in
        ap (λ q. page_blocks m low q ++ page_blocks n high (end - high)) none ∙ ap (λ b. page_blocks n b (end - b)) behind
