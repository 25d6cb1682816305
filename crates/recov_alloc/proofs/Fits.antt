-- The lowest gap, by runs of free and of used units.
use Rattle.std.proofs.Common.{◌≡◌, ◌≢◌, ℕ, ◌+◌, ◌-◌, ◌*◌, ◌/◌, ◌%◌, ◌<◌, ◌≤◌, ◌⊎◌, inl, inr, refl, sym, ap, subst, ◌∙◌, arith, List, ◌^◌, bit_and}
use Rattle.std.specs.Prelude.{slice_index}
use Rattle.std.specs.Int.{bit_at}
use Rattle.std.proofs.lemmas.Nat.Bits.{bit_at-lt, bit_at_and, bit_at_ones}
use Rattle.rio_base.specs.Regions.{AreWords}
use Rattle.rio_model.specs.Heap.{used, starts}
use Rattle.undo_list.specs.Bits.{IsOnes, IsZeros}
use Rattle.recov_alloc.specs.Scans.{AllFull, Before, FoundBy}

-- ---- units of a word

pub used_bit : (l : ℕ → ℕ) (word page y : ℕ) → word ≡ l (2 * page) → 64 * page ≤ y → y < 64 * page + 64 → used l y ≡ bit_at word (y - 64 * page)
unfolding used
used_bit l word page y is low high =
    let at : y / 64 ≡ page = omega arith in
    let bit : y % 64 ≡ y - 64 * page = omega arith in
    ap (λ j. bit_at (l (2 * j)) (y % 64)) at ∙ ap (λ b. bit_at (l (2 * page)) b) bit ∙ ap (λ w. bit_at w (y - 64 * page)) (sym is)

pub starts_bit : (l : ℕ → ℕ) (word page y : ℕ) → word ≡ l (2 * page + 1) → 64 * page ≤ y → y < 64 * page + 64 → starts l y ≡ bit_at word (y - 64 * page)
unfolding starts
starts_bit l word page y is low high =
    let at : y / 64 ≡ page = omega arith in
    let bit : y % 64 ≡ y - 64 * page = omega arith in
    ap (λ j. bit_at (l (2 * j + 1)) (y % 64)) at ∙ ap (λ b. bit_at (l (2 * page + 1)) b) bit ∙ ap (λ w. bit_at w (y - 64 * page)) (sym is)

zeros_free : (l : ℕ → ℕ) (word page bit n : ℕ) → word ≡ l (2 * page) → IsZeros word bit n → (y : ℕ) → 64 * page + bit ≤ y → y < 64 * page + bit + n → used l y ≡ 0
zeros_free l word page bit n is z y low high = used_bit l word page y is (omega arith) (omega (arith, z.within)) ∙ z.each (y - 64 * page) (omega arith) (omega arith)

ones_used : (l : ℕ → ℕ) (word page bit n : ℕ) → word ≡ l (2 * page) → IsOnes word bit n → (y : ℕ) → 64 * page + bit ≤ y → y < 64 * page + bit + n → used l y ≢ 0
ones_used l word page bit n is o y low high = λ e. let one = used_bit l word page y is (omega arith) (omega (arith, o.within)) ∙ o.each (y - 64 * page) (omega arith) (omega arith) in omega (arith, one, e)

-- ---- runs of units behind what was seen

-- a run of free units completes the gap
gap_found : (l : ℕ → ℕ) (n x k j y : ℕ) → Before l n x k → n - k ≤ j → x + j ≤ y → ((z : ℕ) → x ≤ z → z < x + j → used l z ≡ 0) → FoundBy l n y (x - k)
gap_found l n x k j y b whole later free = record {
  within = omega (arith, b.within, b.small);
  free = λ z low high. at z low high (grind arith);
  lowest = λ s below f. lower s below f (grind arith);
}
  where
    at : (z : ℕ) → x - k ≤ z → z < x - k + n → (z < x) ⊎ (x ≤ z) → used l z ≡ 0
    at z low high (inl before) = b.free z (omega (arith, b.within)) before
    at z low high (inr behind) = free z behind (omega (arith, b.within, b.small))

    lower : (s : ℕ) → s < x - k → ((z : ℕ) → s ≤ z → z < s + n → used l z ≡ 0) → (s + n ≤ x) ⊎ (x < s + n) → ⊥
    lower s below f (inl fits) = b.none s fits f
    lower s below f (inr past) = b.edge (omega (arith, b.within)) (f (x - k - 1) (omega (arith, b.within)) (omega (arith, b.within)))

-- a run of free units that is too short
free_on : (l : ℕ → ℕ) (n x k j : ℕ) → Before l n x k → j < n - k → ((z : ℕ) → x ≤ z → z < x + j → used l z ≡ 0) → Before l n (x + j) (k + j)
free_on l n x k j b short free = record {
  small = omega (arith, b.small);
  within = omega (arith, b.within);
  free = λ z low high. at z low high (grind arith);
  edge = λ h. let place : x + j - (k + j) - 1 ≡ x - k - 1 = omega arith in subst (λ z. used l z ≢ 0) (sym place) (b.edge (omega arith));
  none = λ s fits f. lower s fits f (grind arith);
}
  where
    at : (z : ℕ) → x + j ≤ z + (k + j) → z < x + j → (z < x) ⊎ (x ≤ z) → used l z ≡ 0
    at z low high (inl before) = b.free z (omega arith) before
    at z low high (inr behind) = free z behind high

    lower : (s : ℕ) → s + n ≤ x + j → ((z : ℕ) → s ≤ z → z < s + n → used l z ≡ 0) → (s + n ≤ x) ⊎ (x < s + n) → ⊥
    lower s fits f (inl before) = b.none s before f
    lower s fits f (inr past) = b.edge (omega (arith, b.within, b.small)) (f (x - k - 1) (omega (arith, b.within, b.small)) (omega (arith, b.within, b.small)))

-- a run of used units
used_on : (l : ℕ → ℕ) (n x k j : ℕ) → Before l n x k → 1 ≤ j → ((z : ℕ) → x ≤ z → z < x + j → used l z ≢ 0) → Before l n (x + j) 0
used_on l n x k j b some full = record {
  small = omega (arith, b.small);
  within = omega arith;
  free = λ z low high. absurd (omega arith);
  edge = λ h. full (x + j - 0 - 1) (omega arith) (omega arith);
  none = λ s fits f. lower s fits f (grind arith);
}
  where
    lower : (s : ℕ) → s + n ≤ x + j → ((z : ℕ) → s ≤ z → z < s + n → used l z ≡ 0) → (s + n ≤ x) ⊎ (x < s + n) → ⊥
    lower s fits f (inl before) = b.none s before f
    lower s fits f (inr past) = full (s + n - 1) (omega (arith, b.small)) (omega (arith, b.small)) (f (s + n - 1) (omega (arith, b.small)) (omega (arith, b.small)))

-- ---- in one word

pub found_in : (l : ℕ → ℕ) (word page units bit run n : ℕ) → word ≡ l (2 * page) → Before l units (64 * page + bit) run → IsZeros word bit n → units - run ≤ n → FoundBy l units (64 * (page + 1)) (64 * page + bit - run)
found_in l word page units bit run n is b z whole = gap_found l units (64 * page + bit) run n (64 * (page + 1)) b whole (omega (arith, z.within)) (zeros_free l word page bit n is z)

pub ends_free : (l : ℕ → ℕ) (word page units bit run n : ℕ) → word ≡ l (2 * page) → Before l units (64 * page + bit) run → IsZeros word bit n → n < units - run → bit + n ≡ 64 → Before l units (64 * (page + 1)) (run + n)
ends_free l word page units bit run n is b z short last = subst (λ x. Before l units x (run + n)) (omega (arith, last)) (free_on l units (64 * page + bit) run n b short (zeros_free l word page bit n is z))

pub hops : (l : ℕ → ℕ) (word page units bit run n m : ℕ) → word ≡ l (2 * page) → Before l units (64 * page + bit) run → IsZeros word bit n → n < units - run → IsOnes word (bit + n) m → 1 ≤ m → Before l units (64 * page + (bit + (n + m))) 0
hops l word page units bit run n m is b z short o some =
    let free = free_on l units (64 * page + bit) run n b short (zeros_free l word page bit n is z) in
    let full = used_on l units (64 * page + bit + n) (run + n) m free some (λ y low high. ones_used l word page (bit + n) m is o y (omega (arith, low)) (omega (arith, high))) in
    subst (λ x. Before l units x 0) (omega arith) full

-- a bit that is 1 begins a run of them
pub some_ones : (word bit n m : ℕ) → IsZeros word bit n → bit + n ≢ 64 → IsOnes word (bit + n) m → 1 ≤ m
some_ones word bit n m z inner o = by (grind arith)
  where
    inside : bit + n < 64
    inside = omega (arith, z.within, inner)

    by : (m ≡ 0) ⊎ (1 ≤ m) → 1 ≤ m
    by (inr h) = h
    by (inl e) =
        let none : bit_at word (bit + n + m) ≡ 0 = o.end (omega (arith, e, inside)) in
        let place : bit + n + m ≡ bit + n = omega (arith, e) in
        absurd (omega (arith, z.end inside, sym (ap (bit_at word) place) ∙ none))

-- ---- full pages

pub word_full : (word : ℕ) → word ≡ 2 ^ 64 - 1 → (u : ℕ) → u < 64 → bit_at word u ≡ 1
word_full word all u small = ap (λ w. bit_at w u) all ∙ bit_at_ones 64 u small

-- each bit of four words whose bits are all 1 together
four_full : (a b c d u : ℕ) → bit_at (bit_and (bit_and (bit_and a b) c) d) u ≡ 1 → (bit_at a u ≡ 1) × (bit_at b u ≡ 1) × (bit_at c u ≡ 1) × (bit_at d u ≡ 1)
four_full a b c d u one =
    let last = bit_at_and (bit_and (bit_and a b) c) d u in
    let third = bit_at_and (bit_and a b) c u in
    let two = bit_at_and a b u in
    (omega (arith, one, last, third, two, bit_at-lt a u), omega (arith, one, last, third, two, bit_at-lt b u), omega (arith, one, last, third, bit_at-lt c u), omega (arith, one, last, bit_at-lt d u))

both_full : (a b u : ℕ) → bit_at (bit_and a b) u ≡ 1 → (bit_at a u ≡ 1) × (bit_at b u ≡ 1)
both_full a b u one = (omega (arith, one, bit_at_and a b u, bit_at-lt a u), omega (arith, one, bit_at_and a b u, bit_at-lt b u))

pub none_full : (words : List ℕ) (from : ℕ) → AllFull words from from
none_full words from = record { each = λ i u low high small. absurd (omega (arith, low, high)) }

pub full_more : (words : List ℕ) (from page : ℕ) → AllFull words from page → ((u : ℕ) → u < 64 → bit_at (slice_index words (2 * page)) u ≡ 1) → AllFull words from (page + 1)
full_more words from page full ones = record { each = λ i u low high small. by i u low small (grind arith) }
  where
    by : (i u : ℕ) → from ≤ i → u < 64 → (i < page) ⊎ (i ≡ page) → bit_at (slice_index words (2 * i)) u ≡ 1
    by i u low small (inl h) = full.each i u low h small
    by i u low small (inr e) = ap (λ k. bit_at (slice_index words (2 * k)) u) e ∙ ones u small

four_more : (words : List ℕ) (from page i j k m : ℕ) → AllFull words from page → i ≡ 2 * page → j ≡ 2 * page + 2 → k ≡ 2 * page + 4 → m ≡ 2 * page + 6 → ((u : ℕ) → u < 64 → bit_at (bit_and (bit_and (bit_and (slice_index words i) (slice_index words j)) (slice_index words k)) (slice_index words m)) u ≡ 1) → AllFull words from (page + 4)
four_more words from page i j k m full first second third fourth all =
    let one : AllFull words from (page + 1) = full_more words from page full (λ u small. moved (2 * page) i u (sym first) (bits u small).0) in
    let two : AllFull words from (page + 1 + 1) = full_more words from (page + 1) one (λ u small. moved (2 * (page + 1)) j u (omega (arith, second)) (bits u small).1) in
    let three : AllFull words from (page + 1 + 1 + 1) = full_more words from (page + 1 + 1) two (λ u small. moved (2 * (page + 1 + 1)) k u (omega (arith, third)) (bits u small).2) in
    let four : AllFull words from (page + 1 + 1 + 1 + 1) = full_more words from (page + 1 + 1 + 1) three (λ u small. moved (2 * (page + 1 + 1 + 1)) m u (omega (arith, fourth)) (bits u small).3) in
    subst (λ p. AllFull words from p) (omega arith) four
  where
    bits : (u : ℕ) → u < 64 → (bit_at (slice_index words i) u ≡ 1) × (bit_at (slice_index words j) u ≡ 1) × (bit_at (slice_index words k) u ≡ 1) × (bit_at (slice_index words m) u ≡ 1)
    bits u small = four_full (slice_index words i) (slice_index words j) (slice_index words k) (slice_index words m) u (all u small)

    moved : (p q u : ℕ) → p ≡ q → bit_at (slice_index words q) u ≡ 1 → bit_at (slice_index words p) u ≡ 1
    moved p q u same one = ap (λ x. bit_at (slice_index words x) u) same ∙ one

pub eight_more : (words : List ℕ) (from page : ℕ) → AllFull words from page → bit_and (bit_and (bit_and (bit_and (slice_index words (2 * page)) (slice_index words (2 * page + 2))) (slice_index words (2 * page + 4))) (slice_index words (2 * page + 6))) (bit_and (bit_and (bit_and (slice_index words (2 * page + 8)) (slice_index words (2 * page + 10))) (slice_index words (2 * page + 12))) (slice_index words (2 * page + 14))) ≡ 2 ^ 64 - 1 → AllFull words from (page + 8)
eight_more words from page full all = by _ _ refl refl all
  where
    by : (low high : ℕ) → low ≡ bit_and (bit_and (bit_and (slice_index words (2 * page)) (slice_index words (2 * page + 2))) (slice_index words (2 * page + 4))) (slice_index words (2 * page + 6)) → high ≡ bit_and (bit_and (bit_and (slice_index words (2 * page + 8)) (slice_index words (2 * page + 10))) (slice_index words (2 * page + 12))) (slice_index words (2 * page + 14)) → bit_and low high ≡ 2 ^ 64 - 1 → AllFull words from (page + 8)
    by low high low_is high_is ones =
        let four : AllFull words from (page + 4) = four_more words from page (2 * page) (2 * page + 2) (2 * page + 4) (2 * page + 6) full refl refl refl refl (λ u small. ap (λ w. bit_at w u) (sym low_is) ∙ (both_full low high u (word_full (bit_and low high) ones u small)).0) in
        let eight : AllFull words from (page + 4 + 4) = four_more words from (page + 4) (2 * page + 8) (2 * page + 10) (2 * page + 12) (2 * page + 14) four (omega arith) (omega arith) (omega arith) (omega arith) (λ u small. ap (λ w. bit_at w u) (sym high_is) ∙ (both_full low high u (word_full (bit_and low high) ones u small)).1) in
        subst (λ p. AllFull words from p) (omega arith) eight

pub word_in : (f : ℕ → ℕ) (words : List ℕ) (page count i : ℕ) → AreWords f (2 * page) (2 * count) words → i < count → slice_index words (2 * i) ≡ f (2 * (page + i))
word_in f words page count i h small = h.each (2 * i) (omega arith) ∙ ap f (omega arith)

-- full pages in front of a page: free units from before them do not reach it
pub full_behind : (l : ℕ → ℕ) (words : List ℕ) (page count units i next run left : ℕ) → AreWords l (2 * page) (2 * count) words → AllFull words i next → next ≤ count → (next - i ≡ 0 → left ≡ run) → (1 ≤ next - i → left ≡ 0) → Before l units (64 * (page + i)) run → i ≤ next → Before l units (64 * (page + next)) left
full_behind l words page count units i next run left are full most none some b order = by (grind arith)
  where
    at : (z j : ℕ) → i ≤ j → j < next → 64 * (page + j) ≤ z → z < 64 * (page + j) + 64 → used l z ≢ 0
    at z j low high from to = λ e. let one : used l z ≡ 1 = used_bit l (slice_index words (2 * j)) (page + j) z (word_in l words page count j are (omega (arith, high, most))) from to ∙ full.each j (z - 64 * (page + j)) low high (omega (arith, from, to)) in omega (arith, one, e)

    each : (z : ℕ) → 64 * (page + i) ≤ z → z < 64 * (page + i) + 64 * (next - i) → used l z ≢ 0
    each z low high = at z (z / 64 - page) (omega (arith, low)) (omega (arith, low, high)) (omega (arith, low)) (omega (arith, low))

    by : (i ≡ next) ⊎ (i < next) → Before l units (64 * (page + next)) left
    by (inl e) = subst (λ k. Before l units (64 * (page + next)) k) (sym (none (omega (arith, e)))) (subst (λ k. Before l units (64 * (page + k)) run) e b)
    by (inr more) = subst (λ k. Before l units (64 * (page + next)) k) (sym (some (omega (arith, more)))) (subst (λ x. Before l units x 0) (omega (arith, more)) (used_on l units (64 * (page + i)) run (64 * (next - i)) b (omega (arith, more)) each))

pub found_later : (l : ℕ → ℕ) (n x y t : ℕ) → x ≤ y → FoundBy l n x t → FoundBy l n y t
found_later l n x y t later f = record { within = omega (arith, f.within, later); free = f.free; lowest = f.lowest }
