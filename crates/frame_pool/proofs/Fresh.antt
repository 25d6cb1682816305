-- A pool of free frames.
use Rattle.std.specs.Prelude.{◌≡◌, ℕ, zero, suc, ◌+◌, Bool, true, false, List, [], ◌∷◌, length, replicate, slice_index_or, None, is_none, refl}
use Rattle.std.specs.List.{range_with_len}
use Rattle.std.specs.Option.{option_map}
use Rattle.std.proofs.Common.{◌∙◌, ap, sym, arith}
use Rattle.frame_pool.specs.declared.frame.Frame.{Frame}
use Rattle.frame_pool.specs.Frames.{blank, block_at, free_at, order_at, pinned_at}
use Rattle.frame_pool.specs.Orders.{StandFirst}
use Rattle.frame_pool.specs.Rings.{IsRingOf, KeepsFrames}
use Rattle.frame_pool.proofs.Holding.{Holds, none_some}

pub each_same : {A : Type 0} (n k : ℕ) (x : A) → slice_index_or (replicate n x) k x ≡ x
each_same zero k x = refl
each_same (suc n) zero x = refl
each_same (suc n) (suc k) x = each_same n k x

stand_all : (t : ℕ → Bool) (xs : List ℕ) → ((k : ℕ) → t k ≡ true) → StandFirst t xs
stand_all t [] all = refl
stand_all t (x ∷ xs) all = rw (all x) (ap (λ l. x ∷ l) (stand_all t xs all))

pub record AreFree (frames : List Frame) : Type 0 where
  pub blocks : (k : ℕ) → block_at frames k ≡ None
  pub pins : (k : ℕ) → pinned_at frames k ≡ false

pub free_frames : (n : ℕ) (old new : List Frame) → old ≡ replicate n blank → KeepsFrames old new → AreFree new
free_frames n old new is keeps = record {
  blocks = λ k. keeps.blocks k ∙ ap (λ fs. block_at fs k) is ∙ ap (λ (f : Frame). option_map (λ b. b.0) f.block) (each_same n k blank);
  pins = λ k. keeps.pins k ∙ ap (λ fs. pinned_at fs k) is ∙ ap (λ (f : Frame). f.pinned) (each_same n k blank);
}

pub holds_new : (n blocks : ℕ) (frames : List Frame) → length frames ≡ n + 1 → IsRingOf frames n (range_with_len 0 n) → AreFree frames → Holds n (replicate blocks 0) frames
holds_new n blocks frames size r free = record {
  size = size;
  ring = r.ring;
  once = r.once;
  free_first = stand_all (free_at frames) (order_at frames n) (λ k. ap is_none (free.blocks k));
  free_unpinned = λ k e. free.pins k;
  tabled = λ b. omega (arith, each_same {A = ℕ} blocks b 0);
  found = λ b k e. absurd (omega (arith, e, each_same {A = ℕ} blocks b 0));
  placed = λ b k e. absurd (none_some b (sym (free.blocks k) ∙ e));
}
