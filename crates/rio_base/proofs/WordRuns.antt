-- One more word of a run is stored.
use Rattle.std.specs.Prelude.{◌≡◌, ◌≢◌, ℕ, ◌+◌, ◌*◌, ◌/◌, ◌%◌, ◌<◌, ◌≤◌, ◌⊎◌, List, length, slice_index, slice_set, refl}
use Rattle.std.proofs.Common.{◌∙◌, sym, subst, inl, inr, arith, get_or-set_other, get_or-set_same}
use Rattle.std.proofs.lemmas.Bool.{cases_eq}
use Rattle.std.proofs.lemmas.List.{length-set}
use Rattle.rio_base.specs.Memory.{FrontStored}

pub front_none : (at : ℕ) (from words : List ℕ) → FrontStored at 0 from words words
front_none at from words = record { count = refl; front = λ i less. absurd (omega (arith, less)); below = λ i less. refl; above = λ i more. refl }

pub front_next : (at i v : ℕ) (from old mid : List ℕ) → at + i < length old → v ≡ slice_index from i → FrontStored at i from old mid → FrontStored at (i + 1) from old (slice_set mid (at + i) v)
front_next at i v from old mid room value h = record {
  count = length-set mid (at + i) v ∙ h.count;
  front = λ j less. front j less (cases_eq j i);
  below = λ j less. get_or-set_other mid (at + i) j v 0 (omega (arith, less)) ∙ h.below j less;
  above = λ j more. get_or-set_other mid (at + i) j v 0 (omega (arith, more)) ∙ h.above j (omega (arith, more));
}
  where
    within : at + i < length mid
    within = subst (λ n. at + i < n) (sym h.count) room

    front : (j : ℕ) → j < i + 1 → (j ≡ i) ⊎ (j ≢ i) → slice_index (slice_set mid (at + i) v) (at + j) ≡ slice_index from j
    front j less (inl e) = subst (λ n. slice_index (slice_set mid (at + i) v) (at + n) ≡ slice_index from n) (sym e) (get_or-set_same mid (at + i) v 0 within ∙ value)
    front j less (inr n) = get_or-set_other mid (at + i) (at + j) v 0 (omega (arith, n)) ∙ h.front j (omega (arith, less, n))

-- a word of a run is within its page
pub run_within : (at i n size : ℕ) → at % 512 + n ≤ 512 → i < n → 512 * (at / 512) + 512 ≤ size → at + i < size
run_within at i n size fits less room = omega (arith, fits, less, room)
