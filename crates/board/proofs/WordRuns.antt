-- Words that are stored in a row.
use Rattle.std.proofs.Common.{◌≡◌, ◌≢◌, ℕ, ◌+◌, ◌-◌, ◌*◌, ◌++◌, ◌≤◌, ◌<◌, ◌⊎◌, List, length, take, drop, slice_index, refl, sym, ◌∙◌, ap, subst, inl, inr, arith, length-append, length-drop}
use Rattle.std.proofs.lemmas.Bool.{cases_lt}
use Rattle.std.proofs.lemmas.Grind.{same_number_lists}
use Rattle.std.proofs.lemmas.List.{get_or_append_left, get_or-append_right, get_or-take, get_or-drop, get_or_past, length-take-le}
use Rattle.rio_base.specs.Machine.{Copied}
use Rattle.rio_base.specs.Memory.{FrontStored, copied_words}
use Rattle.board.specs.declared.guard.Guard.{Guard}
use Rattle.board.specs.Boards.{protected_count, protected_of, running_of, scratch_of}
use Rattle.board.specs.BoardLaws.{count_protected}

-- a part of a run, behind the front that is stored
pub front_more : (at k n : ℕ) (from old mid new : List ℕ) → FrontStored at k from old mid → FrontStored (at + k) n (take n (drop k from)) mid new → FrontStored at (k + n) from old new
front_more at k n from old mid new h i = record {
  count = i.count ∙ h.count;
  front = λ j less. front j less (cases_lt j k);
  below = λ j less. i.below j (omega (arith, less)) ∙ h.below j less;
  above = λ j more. i.above j (omega (arith, more)) ∙ h.above j (omega (arith, more));
}
  where
    front : (j : ℕ) → j < k + n → (j < k) ⊎ (k ≤ j) → slice_index new (at + j) ≡ slice_index from j
    front j less (inl before) = i.below (at + j) (omega (arith, before)) ∙ h.front j before
    front j less (inr behind) =
        let within : j - k < n = omega (arith, less, behind) in
        ap (slice_index new) (omega (arith, behind)) ∙ i.front (j - k) within ∙ get_or-take n (drop k from) (j - k) 0 within ∙ get_or-drop k from (j - k) 0 ∙ ap (slice_index from) (omega (arith, behind))

-- the part of a run, as a slice of it reads
pub run_part : (at k n : ℕ) (from words now : List ℕ) → k + n ≤ length from → FrontStored at (length (take (k + n - k) (drop k from))) (take (k + n - k) (drop k from)) words now → FrontStored at n (take n (drop k from)) words now
run_part at k n from words now fits h =
    let same : k + n - k ≡ n = omega arith in
    let size : length (take n (drop k from)) ≡ n = length-take-le n (drop k from) (omega (arith, fits, length-drop k from)) in
    subst (λ m. FrontStored at m (take n (drop k from)) words now) size (subst (λ m. FrontStored at (length (take m (drop k from))) (take m (drop k from)) words now) same h)

-- words that are copied are stored as a run
pub copied_front : (words : List ℕ) (from to n : ℕ) → from + n ≤ length words → to + n ≤ length words → FrontStored to n (take n (drop from words)) words (copied_words words from to n)
copied_front words from to n fits room = record {
  count = omega (arith, length-append (take to words) (run ++ drop (to + n) words), length-append run (drop (to + n) words), front_size, run_size, length-drop (to + n) words);
  front = λ i less. get_or-append_right (take to words) (run ++ drop (to + n) words) to (to + i) 0 front_size (omega arith) ∙ ap (slice_index (run ++ drop (to + n) words)) (omega arith) ∙ get_or_append_left run (drop (to + n) words) 0 i (omega (arith, less, run_size));
  below = λ i less. get_or_append_left (take to words) (run ++ drop (to + n) words) 0 i (omega (arith, less, front_size)) ∙ get_or-take to words i 0 less;
  above = λ i more. get_or-append_right (take to words) (run ++ drop (to + n) words) to i 0 front_size (omega (arith, more)) ∙ get_or-append_right run (drop (to + n) words) n (i - to) 0 run_size (omega (arith, more)) ∙ get_or-drop (to + n) words (i - to - n) 0 ∙ ap (slice_index words) (omega (arith, more));
}
  where
    run : List ℕ
    run = take n (drop from words)

    front_size : length (take to words) ≡ to
    front_size = length-take-le to words (omega (arith, room))

    run_size : length (take n (drop from words)) ≡ n
    run_size = length-take-le n (drop from words) (omega (arith, fits, length-drop from words))

-- ---- protected words and scratch

-- a run of protected words, told of these alone
pub protected_front : (at n pages : ℕ) (from words now : List ℕ) → FrontStored at n from words now → at + n ≤ protected_count words pages → FrontStored at n from (protected_of words pages) (protected_of now pages)
protected_front at n pages from words now h fits = record {
  count = omega (arith, h.count, count_protected words pages, count_protected now pages);
  front = λ i less. get_or-take (protected_count now pages) now (at + i) 0 (omega (arith, h.count, fits, less)) ∙ h.front i less;
  below = λ i less. get_or-take (protected_count now pages) now i 0 (omega (arith, h.count, fits, less)) ∙ h.below i less ∙ sym (get_or-take (protected_count words pages) words i 0 (omega (arith, fits, less)));
  above = λ i more. above i more (cases_lt i (protected_count words pages));
}
  where
    above : (i : ℕ) → at + n ≤ i → (i < protected_count words pages) ⊎ (protected_count words pages ≤ i) → slice_index (protected_of now pages) i ≡ slice_index (protected_of words pages) i
    above i more (inl less) = get_or-take (protected_count now pages) now i 0 (omega (arith, h.count, less)) ∙ h.above i more ∙ sym (get_or-take (protected_count words pages) words i 0 less)
    above i more (inr past) = get_or_past (protected_of now pages) i 0 (omega (arith, h.count, past, count_protected now pages)) ∙ sym (get_or_past (protected_of words pages) i 0 (omega (arith, past, count_protected words pages)))

scratch_front : (at n pages : ℕ) (from words now : List ℕ) → FrontStored at n from words now → at + n ≤ protected_count words pages → scratch_of now pages ≡ scratch_of words pages
scratch_front at n pages from words now h fits = rw h.count (same_number_lists _ _ (omega (arith, length-drop (protected_count words pages) now, length-drop (protected_count words pages) words, h.count)) (λ i less. get_or-drop (protected_count words pages) now i 0 ∙ h.above (protected_count words pages + i) (omega (arith, fits)) ∙ sym (get_or-drop (protected_count words pages) words i 0)))

-- it doesn't change how the board runs
pub running_front : (at n pages : ℕ) (from words now : List ℕ) (g : Guard) → FrontStored at n from words now → at + n ≤ protected_count words pages → running_of now pages g ≡ running_of words pages g
running_front at n pages from words now g h fits = rw (scratch_front at n pages from words now h fits, h.count) refl

-- a word of page `from` is as before
source_word : (from to k i : ℕ) (old mid : List ℕ) → from ≢ to → k ≤ 512 → i < 512 → Copied from to k old mid → (from < to) ⊎ (to ≤ from) → slice_index mid (512 * from + i) ≡ slice_index old (512 * from + i)
source_word from to k i old mid two small less h (inl before) = h.below (512 * from + i) (omega (arith, before, less))
source_word from to k i old mid two small less h (inr behind) = h.above (512 * from + i) (omega (arith, behind, two, small))

-- a part of a page, behind the front that is copied
pub copied_more : (from to k n : ℕ) (run old mid new : List ℕ) → from ≢ to → k + n ≤ 512 → Copied from to k old mid → FrontStored (512 * to + k) n run mid new → (512 * from < length old → (i : ℕ) → i < n → slice_index run i ≡ slice_index mid (512 * from + k + i)) → Copied from to (k + n) old new
copied_more from to k n run old mid new two small h i value = record {
  count = i.count ∙ h.count;
  front = λ known j less. front known j less (cases_lt j k);
  below = λ j less. i.below j (omega (arith, less)) ∙ h.below j less;
  above = λ j more. i.above j (omega (arith, more)) ∙ h.above j (omega (arith, more));
}
  where
    front : 512 * from < length old → (j : ℕ) → j < k + n → (j < k) ⊎ (k ≤ j) → slice_index new (512 * to + j) ≡ slice_index old (512 * from + j)
    front known j less (inl before) = i.below (512 * to + j) (omega (arith, before)) ∙ h.front known j before
    front known j less (inr behind) =
        let within : j - k < n = omega (arith, less, behind) in
        ap (slice_index new) (omega (arith, behind)) ∙ i.front (j - k) within ∙ value known (j - k) within ∙ ap (slice_index mid) (omega (arith, behind)) ∙ source_word from to k j old mid two (omega (arith, small)) (omega (arith, less, small)) h (cases_lt from to)

-- the words of a run that is copied from protected words
pub run_value : (words : List ℕ) (pages from n i : ℕ) → i < n → from + n ≤ protected_count words pages → slice_index (take n (drop from words)) i ≡ slice_index (protected_of words pages) (from + i)
run_value words pages from n i less fits = get_or-take n (drop from words) i 0 less ∙ get_or-drop from words i 0 ∙ sym (get_or-take (protected_count words pages) words (from + i) 0 (omega (arith, less, fits)))
