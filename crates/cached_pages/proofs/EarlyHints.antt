-- That the block of a slot has it as its hint.
use Rattle.cached_pages.proofs.Common.{◌≡◌, ◌≢◌, ◌<◌, ◌≤◌, ◌⊎◌, ◌∙◌, ℕ, List, Some, ap, arith, cases_eq, inl, inr, length, length-set, slice_index, slice_index_or, slice_set, sym}
use Rattle.std.proofs.Common.{get_or-set_other, get_or-set_same}
use Rattle.std.proofs.lemmas.Grind.{get_or_default_zero}
use Rattle.cached_pages.specs.declared.slots.Early.{Early}
use Rattle.cached_pages.specs.declared.slots.Early.TheVariants.{Free, Written}
use Rattle.cached_pages.specs.declared.slots.EarlyWrites.{EarlyWrites}
use Rattle.cached_pages.specs.EarlyBlocks.{slot_at}
use Rattle.cached_pages.specs.EarlySlots.{HaveHints, owner_of}
use Rattle.cached_pages.proofs.EarlyStates.{free_of_none, past_free, some_is}

-- slot s is of no block, or of the same
pub hints_kept : (s : ℕ) (x : Early) (slots : List Early) (hints : List ℕ) → s < length slots → ((b : ℕ) → owner_of x ≡ Some b → owner_of (slice_index_or slots s Free) ≡ Some b) → HaveHints slots hints → HaveHints (slice_set slots s x) hints
hints_kept s x slots hints less was h t b owner = from (cases_eq t s)
  where
    from : (t ≡ s) ⊎ (t ≢ s) → (b < length hints) × (slice_index hints b ≡ t)
    from (inl q) =
        let here : owner_of x ≡ Some b = sym (ap (λ i. owner_of (slice_index_or (slice_set slots s x) i Free)) q ∙ ap owner_of (get_or-set_same slots s x Free less)) ∙ owner in
        h t b (ap (λ i. owner_of (slice_index_or slots i Free)) q ∙ was b here)
    from (inr ne) = h t b (sym (ap owner_of (get_or-set_other slots s t x Free ne)) ∙ owner)

-- slot s is of block c, which no slot was of, and so is its hint
pub hints_put : (s c : ℕ) (slots : List Early) (hints : List ℕ) → s < length slots → c < length hints → ((t : ℕ) → owner_of (slice_index_or slots t Free) ≢ Some c) → HaveHints slots hints → HaveHints (slice_set slots s (Written (record { 0 = c }))) (slice_set hints c s)
hints_put s c slots hints less room off h t b owner = from (cases_eq t s)
  where
    here : t ≡ s → c ≡ b
    here q = some_is b c (sym (ap (λ i. owner_of (slice_index_or (slice_set slots s (Written (record { 0 = c }))) i Free)) q ∙ ap owner_of (get_or-set_same slots s (Written (record { 0 = c })) Free less)) ∙ owner)

    there : t ≢ s → owner_of (slice_index_or slots t Free) ≡ Some b
    there ne = sym (ap owner_of (get_or-set_other slots s t (Written (record { 0 = c })) Free ne)) ∙ owner

    other : t ≢ s → b ≢ c
    other ne e = off t (there ne ∙ ap Some e)

    from : (t ≡ s) ⊎ (t ≢ s) → (b < length (slice_set hints c s)) × (slice_index (slice_set hints c s) b ≡ t)
    from (inl q) = (omega (arith, here q, room, length-set hints c s), ap (λ i. slice_index (slice_set hints c s) i) (sym (here q)) ∙ get_or-set_same hints c s 0 room ∙ sym q)
    from (inr ne) = (omega (arith, (h t b (there ne)).0, length-set hints c s), get_or-set_other hints c b s 0 (other ne) ∙ (h t b (there ne)).1)

-- a block without a hint has no slot
pub unhinted : (e : EarlyWrites) (b : ℕ) → length e.hints.items ≤ b → (s : ℕ) → owner_of (slot_at e s) ≢ Some b
unhinted e b past s owner = let there = (e.hinted s b owner).0 in absurd (omega (arith, there, past))

-- nor has one whose hint, as it is read, is past the last slot
pub hinted_past : (e : EarlyWrites) (b r : ℕ) → b < length e.hints.items → r ≡ slice_index_or e.hints.items b r → length e.slots ≤ r → (s : ℕ) → owner_of (slot_at e s) ≢ Some b
hinted_past e b r within is past s owner =
    let here : r ≡ s = is ∙ get_or_default_zero e.hints.items b r within ∙ (e.hinted s b owner).1 in
    free_of_none e s b (past_free e s (omega (arith, here, past))) owner
