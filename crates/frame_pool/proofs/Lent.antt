-- The frames of a pool, where they were lent to calls that changed them.
use Rattle.std.proofs.Common.{◌≡◌, ◌∙◌, ℕ, Bool, List, Option, Vec, length, ap, sym}
use Rattle.std.proofs.lemmas.List.{with_items_is}
use Rattle.std.specs.Vec.{with_items}
use Rattle.frame_pool.specs.declared.frame.Frame.{Frame}
use Rattle.frame_pool.specs.Frames.{block_at, order_at, pinned_at}
use Rattle.frame_pool.specs.Rings.{KeepsFrames}

module _ {Z : Type 0} (frames : Vec Frame Z) (lent new : List Frame) (read : lent ≡ frames.items) (size : length new ≡ length lent) where
  pub given_back : (with_items frames new).items ≡ new
  given_back = with_items_is frames new (size ∙ ap length read ∙ sym frames.ok.0)

  pub back_order : (n : ℕ) (order : List ℕ) → order_at new n ≡ order → order_at (with_items frames new).items n ≡ order
  back_order n order is = ap (λ fs. order_at fs n) given_back ∙ is

  -- what frame k has now
  pub back_block : (k : ℕ) (has : Option ℕ) → block_at new k ≡ has → block_at (with_items frames new).items k ≡ has
  back_block k has is = ap (λ fs. block_at fs k) given_back ∙ is

  pub back_pin : (k : ℕ) (has : Bool) → pinned_at new k ≡ has → pinned_at (with_items frames new).items k ≡ has
  back_pin k has is = ap (λ fs. pinned_at fs k) given_back ∙ is

  -- what frame j has as before
  pub same_block : (j : ℕ) → block_at new j ≡ block_at lent j → block_at (with_items frames new).items j ≡ block_at frames.items j
  same_block j is = back_block j (block_at frames.items j) (is ∙ ap (λ fs. block_at fs j) read)

  pub same_pin : (j : ℕ) → pinned_at new j ≡ pinned_at lent j → pinned_at (with_items frames new).items j ≡ pinned_at frames.items j
  same_pin j is = back_pin j (pinned_at frames.items j) (is ∙ ap (λ fs. pinned_at fs j) read)

-- blocks and pins that two calls kept
pub keeps_then : (a b c : List Frame) → KeepsFrames a b → KeepsFrames b c → KeepsFrames a c
keeps_then a b c first second = record { size = second.size ∙ first.size; blocks = λ k. second.blocks k ∙ first.blocks k; pins = λ k. second.pins k ∙ first.pins k }
