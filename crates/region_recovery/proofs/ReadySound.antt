-- Memory and disk are sound where a volume that they tell is ready.
use Rattle.std.specs.Prelude.{◌≡◌, ◌⊎◌, ℕ, zero, suc, ◌<◌, ◌≤◌, ◌%◌, ◌/◌, Bool, true, false, List, [], ◌∷◌, length}
use Rattle.std.specs.Int.{bit_at}
use Rattle.std.proofs.Common.{◌∙◌, ap, arith, inl, inr, subst, sym}
use Rattle.std.proofs.lemmas.Bool.{cases_Bool, cases_lt}
use Rattle.rio_base.specs.declared.places.VolumeShape.{VolumeShape}
use Rattle.rio_base.specs.Bitmap.{bitmap_block, used_bit}
use Rattle.rio_base.specs.Blocks.{Seen}
use Rattle.rio_base.specs.Disks.{is_pending}
use Rattle.rio_base.specs.Machine.{Contents}
use Rattle.rio_base.specs.Rules.{true_false}
use Rattle.rio_base.specs.Shapes.{reserved}
use Rattle.rio_base.specs.Volume.{Kept, Settled}
use Rattle.rio_model.specs.Cover.{StandsAs, is_loose, stands}
use Rattle.rio_model.specs.Placed.{Owned, volume_layout}
use Rattle.rio_model.specs.Standing.{Sound}
use Rattle.rio_model.specs.VolumeReady.{Ready}
use Rattle.rio_model.proofs.CoverStands.{sound_of}
use Rattle.rio_model.proofs.PlacedRules.{bits_low, has_bit}
use Rattle.rio_model.proofs.StandingStates.{AreWhole, as_reads}

-- a mark that is set is one of the list
marked_within : (marks : List Bool) (b : ℕ) → is_pending marks b ≡ true → b < length marks
marked_within [] b e = absurd (true_false (sym e))
marked_within (m ∷ marks) zero e = omega arith
marked_within (m ∷ marks) (suc b) e = let less = marked_within marks b e in omega (arith, less)

-- no block is loose that the volume says is none, and no update is open
pub sound_ready : (c : Contents) (n : ℕ) (shape : VolumeShape) (x : Seen) (k : Kept) → length c.pending ≡ length c.disk → AreWhole c → StandsAs c n k.standing k.loose → ((b : ℕ) → is_loose c b ≡ true → k.loose b ≡ true) → x.count ≡ length c.disk → Settled x k → Ready shape x k → Sound c shape
sound_ready c n shape x k marks whole h tells count settled ready = sound_of c n shape h.coherent bits used
  where
    -- what the volume does not call loose is told
    firm : (b : ℕ) → k.loose b ≡ false → is_loose c b ≡ false
    firm b e = by (cases_Bool (is_loose c b))
      where
        by : (is_loose c b ≡ true) ⊎ (is_loose c b ≡ false) → is_loose c b ≡ false
        by (inl loose) = absurd (true_false (sym (tells b loose) ∙ e))
        by (inr is) = is

    within : (b : ℕ) → is_pending c.pending b ≡ true → b < shape.blocks
    within b pending = let few = marked_within c.pending b pending in omega (arith, few, marks, count, ready.order.has_shape.count)

    low : (b : ℕ) → is_pending c.pending b ≡ true → bitmap_block shape b < reserved shape
    low b pending = bits_low shape b (has_bit shape b ready.order.has_shape.sizes (within b pending))

    bits : (b : ℕ) → is_pending c.pending b ≡ true → is_loose c (bitmap_block shape b) ≡ false
    bits b pending = firm (bitmap_block shape b) (ready.order.firm.low _ (low b pending))

    -- the bitmap reads as it stands
    same_bit : (b : ℕ) → is_pending c.pending b ≡ true → used_bit shape (stands c) b ≡ used_bit shape x.words b
    same_bit b pending =
        let loose = ready.order.firm.low _ (low b pending) in
        ap (λ word. bit_at word (b % 64)) (h.blocks c.disk (as_reads c whole) (bitmap_block shape b) loose (b % 32768 / 64) ∙ (settled.idle ready.idle).stands (bitmap_block shape b) loose (b % 32768 / 64))

    used : (b : ℕ) → is_pending c.pending b ≡ true → used_bit shape (stands c) b ≡ 1 → is_loose c b ≡ false
    used b pending marked = by (cases_Bool (is_loose c b)) (cases_lt b (reserved shape))
      where
        not_owned : is_loose c b ≡ true → Owned (volume_layout shape x.words) b → ⊥
        not_owned loose own = true_false (sym (tells b loose) ∙ subst (λ y. k.loose y ≡ false) own.is (ready.order.firm.owned own.node own.slot own.owns))

        by : (is_loose c b ≡ true) ⊎ (is_loose c b ≡ false) → (b < reserved shape) ⊎ (reserved shape ≤ b) → is_loose c b ≡ false
        by (inr is) place = is
        by (inl loose) (inl less) = firm b (ready.order.firm.low b less)
        by (inl loose) (inr past) = absurd (
            let free = ready.order.mapped.marks.free b (record { from = past; to = within b pending; free = not_owned loose }) in
            omega (arith, free, sym (same_bit b pending) ∙ marked)
            )
