-- Words of scratch that are copied while an armed store may fall on them.
use Rattle.std.proofs.Common.{◌≡◌, ◌≢◌, ℕ, ◌+◌, ◌-◌, ◌*◌, ◌≤◌, ◌<◌, ◌⊎◌, false, List, length, take, drop, slice_index, Option, Some, None, refl, sym, ◌∙◌, ap, subst, inl, inr, arith, length-drop}
use Rattle.std.proofs.lemmas.Bool.{cases_lt}
use Rattle.std.proofs.lemmas.List.{get_or-take, get_or-drop}
use Rattle.rio_base.specs.Machine.{Advances, CopiedScratch, FellBy, FromScratch, Running, Steps}
use Rattle.rio_base.specs.Memory.{FrontStored}
use Rattle.rio_base.specs.Rules.{none_some, true_false}
use Rattle.board.specs.declared.guard.Guard.{Guard}
use Rattle.board.specs.Boards.{protected_count, running_of, scratch_of}

-- no store falls behind the one of n steps that follows k of them, where none falls behind the first of the others
pub falls_first : (k n : ℕ) (old mid : Running) → Steps old mid → Advances k old mid → (0 < mid.armed_left → n ≤ mid.armed_left) → (x : ℕ) → old.armed ≡ Some x → k < old.armed_left → k + n ≤ old.armed_left
falls_first k n old mid s a first x e later = from s.armed
  where
    fell : FellBy k x old mid → ⊥
    fell (inl w) = omega (arith, later, w.0)
    fell (inr w) = omega (arith, later, w.0)

    from : (mid.armed ≡ old.armed) ⊎ (mid.armed ≡ None) → k + n ≤ old.armed_left
    from (inl same) =
        let left : mid.armed_left + k ≡ old.armed_left = (a.waits x (same ∙ e)).0 in
        omega (arith, left, first (omega (arith, left, later)))
    from (inr none) = absurd (fell (a.fell x e none))

-- a word of scratch after m steps, where no store falls between step i + 1 and the last of them
scratch_word : (old new : Running) (at i m : ℕ) → old.protected ≤ at → at - old.protected < length old.scratch → i < m → ((x : ℕ) → old.armed ≡ Some x → i < old.armed_left → m ≤ old.armed_left) → Steps old new → Advances m old new → new.stopped ≡ false → FromScratch (slice_index new.scratch (at - old.protected)) at i old
scratch_word old new at i m past less within late h k runs = record {
  stored = λ e fell. h.stored (at - old.protected) less (e ∙ ap Some place) (gone e fell h.armed);
  kept = kept;
}
  where
    place : at ≡ old.protected + (at - old.protected)
    place = omega (arith, past)

    gone : old.armed ≡ Some at → old.armed_left ≤ i → (new.armed ≡ old.armed) ⊎ (new.armed ≡ None) → new.armed ≡ None
    gone e fell (inl same) =
        let left : new.armed_left + m ≡ old.armed_left = (k.waits at (same ∙ e)).0 in
        absurd (omega (arith, fell, within, left))
    gone e fell (inr none) = none

    spared : old.armed ≢ Some at → slice_index new.scratch (at - old.protected) ≡ slice_index old.scratch (at - old.protected)
    spared other = h.unarmed (at - old.protected) (subst (λ n. old.armed ≢ Some n) place other)

    early : (x : ℕ) → old.armed ≡ Some x → i < old.armed_left → FellBy m x old new → ⊥
    early x e later (inl w) = omega (arith, w.0, late x e later)
    early x e later (inr w) = true_false (sym w.1 ∙ runs)

    fallen : i < old.armed_left → new.armed ≡ None → (o : Option ℕ) → old.armed ≡ o → slice_index new.scratch (at - old.protected) ≡ slice_index old.scratch (at - old.protected)
    fallen later none None e = spared (none_some at old.armed e)
    fallen later none (Some x) e = absurd (early x e later (k.fell x e none))

    waits : i < old.armed_left → (new.armed ≡ old.armed) ⊎ (new.armed ≡ None) → slice_index new.scratch (at - old.protected) ≡ slice_index old.scratch (at - old.protected)
    waits later (inl same) = ap (λ (ws : List ℕ). slice_index ws (at - old.protected)) (h.unfallen same)
    waits later (inr none) = fallen later none old.armed refl

    kept : (old.armed ≢ Some at) ⊎ (i < old.armed_left) → slice_index new.scratch (at - old.protected) ≡ slice_index old.scratch (at - old.protected)
    kept (inl other) = spared other
    kept (inr later) = waits later h.armed

-- the words of a run that n steps copy from words of scratch, behind k steps
pub run_scratch : (words first : List ℕ) (pages pages_first from k n i : ℕ) (g first_guard : Guard) → i < n → Steps (running_of first pages_first first_guard) (running_of words pages g) → Advances (k + n) (running_of first pages_first first_guard) (running_of words pages g) → g.stopped ≡ false → ((x : ℕ) → (running_of first pages_first first_guard).armed ≡ Some x → k < (running_of first pages_first first_guard).armed_left → k + n ≤ (running_of first pages_first first_guard).armed_left) → protected_count first pages_first ≤ from → from + n ≤ length first → FromScratch (slice_index (take n (drop from words)) i) (from + i) (k + i) (running_of first pages_first first_guard)
run_scratch words first pages pages_first from k n i g first_guard less steps advances runs late past fits =
    subst (λ w. FromScratch w (from + i) (k + i) (running_of first pages_first first_guard)) (sym read)
    (scratch_word (running_of first pages_first first_guard) (running_of words pages g) (from + i) (k + i) (k + n) (omega (arith, past)) (omega (arith, past, fits, less, length-drop (protected_count first pages_first) first)) (omega (arith, less)) (λ x e later. late x e (omega (arith, later))) steps advances runs)
  where
    size : protected_count words pages ≡ protected_count first pages_first
    size = steps.protected

    place : from + i ≡ protected_count words pages + (from + i - protected_count first pages_first)
    place = omega (arith, past, size)

    read : slice_index (take n (drop from words)) i ≡ slice_index (scratch_of words pages) (from + i - protected_count first pages_first)
    read = get_or-take n (drop from words) i 0 less ∙ get_or-drop from words i 0 ∙ ap (slice_index words) place ∙ sym (get_or-drop (protected_count words pages) words (from + i - protected_count first pages_first) 0)

pub scratch_none : (from to : ℕ) (old : Running) (words : List ℕ) → CopiedScratch from to 0 old words
scratch_none from to old words = record { front = λ past i less. absurd (omega (arith, less)) }

-- a part of a page of scratch, behind the front that is copied
pub scratch_more : (from to k n : ℕ) (run mid new : List ℕ) (old : Running) → FrontStored (512 * to + k) n run mid new → (old.protected ≤ 512 * from → (i : ℕ) → i < n → FromScratch (slice_index run i) (512 * from + k + i) (k + i) old) → CopiedScratch from to k old mid → CopiedScratch from to (k + n) old new
scratch_more from to k n run mid new old i value h = record { front = λ past j less. front past j less (cases_lt j k) }
  where
    front : old.protected ≤ 512 * from → (j : ℕ) → j < k + n → (j < k) ⊎ (k ≤ j) → FromScratch (slice_index new (512 * to + j)) (512 * from + j) j old
    front past j less (inl small) = subst (λ w. FromScratch w (512 * from + j) j old) (sym (i.below (512 * to + j) (omega (arith, small)))) (h.front past j small)
    front past j less (inr behind) =
        let within : j - k < n = omega (arith, less, behind) in
        let place : 512 * to + k + (j - k) ≡ 512 * to + j = omega (arith, behind) in
        let source : 512 * from + k + (j - k) ≡ 512 * from + j = omega (arith, behind) in
        let step : k + (j - k) ≡ j = omega (arith, behind) in
        let stored : slice_index run (j - k) ≡ slice_index new (512 * to + j) = sym (i.front (j - k) within) ∙ ap (slice_index new) place in
        subst (λ w. FromScratch w (512 * from + j) j old) stored
        (subst (λ at. FromScratch (slice_index run (j - k)) at j old) source (subst (λ s. FromScratch (slice_index run (j - k)) (512 * from + k + (j - k)) s old) step (value past (j - k) within)))
