-- Laws of a heap map: where it is of blocks alone, by the words of its data pages.
use Rattle.std.proofs.Common.{◌≡◌, ℕ, zero, suc, ◌+◌, ◌-◌, ◌*◌, ◌/◌, ◌%◌, ◌^◌, ◌<◌, ◌≤◌, ◌⊎◌, inl, inr, List, length, drop, slice_index, sym, ap, ◌∙◌, arith, refl, length-drop}
use Rattle.std.specs.Int.{bit_at}
use Rattle.std.proofs.lemmas.List.{get_or-drop}
use Rattle.std.proofs.lemmas.Nat.Bits.{bit_at-zero, same_from_bits_below}
use Rattle.rio_model.specs.Heap.{OfBlocks, starts, used}
use Rattle.rio_model.specs.Undo.{map_pages}
use Rattle.volume_check.specs.RegionWords.{PagesGoOn, used_before}

-- ---- one unit

used_at : (l : ℕ → ℕ) (t j u : ℕ) → t ≡ 64 * j + u → u < 64 → used l t ≡ bit_at (l (2 * j)) u
unfolding used
used_at l t j u is small =
    let page : t / 64 ≡ j = omega (arith, is, small) in
    let bit : t % 64 ≡ u = omega (arith, is, small) in
    ap (λ x. bit_at (l (2 * x)) (t % 64)) page ∙ ap (bit_at (l (2 * j))) bit

starts_at : (l : ℕ → ℕ) (t j u : ℕ) → t ≡ 64 * j + u → u < 64 → starts l t ≡ bit_at (l (2 * j + 1)) u
unfolding starts
starts_at l t j u is small =
    let page : t / 64 ≡ j = omega (arith, is, small) in
    let bit : t % 64 ≡ u = omega (arith, is, small) in
    ap (λ x. bit_at (l (2 * x + 1)) (t % 64)) page ∙ ap (bit_at (l (2 * j + 1))) bit

-- the last unit of page n is the one before page n + 1
pub before_next : (l : ℕ → ℕ) (n : ℕ) → l (2 * n) < 2 ^ 64 → l (2 * n) / 2 ^ 63 ≡ used_before l (n + 1)
before_next l n fits =
    let next : suc n ≡ n + 1 = omega arith in
    let bit : l (2 * n) / 2 ^ 63 ≡ l (2 * n) / 2 ^ 63 % 2 = omega (arith, fits) in
    bit ∙ ap (used_before l) next

cases_top : (t : ℕ) → (t % 64 ≡ 63) ⊎ (suc (t % 64) < 64)
cases_top t = by (t % 64) (omega arith)
  where
    by : (u : ℕ) → u < 64 → (u ≡ 63) ⊎ (suc u < 64)
    by u h = grind arith

-- ---- a map whose pages go on blocks alone, and that has no bit behind them

pub of_blocks : (l : ℕ → ℕ) (n : ℕ) → PagesGoOn l n → ((q : ℕ) → 2 * n ≤ q → q < 512 * map_pages n → l q ≡ 0) → OfBlocks l n
of_blocks l n h empty = record {
  used_start = λ t small s. used_at l t (t / 64) (t % 64) (omega arith) (omega arith) ∙ (h (t / 64) (omega (arith, small))).on_used (t % 64) (omega arith) (sym (starts_at l t (t / 64) (t % 64) (omega arith) (omega arith)) ∙ s);
  first = λ some one. starts_at l 0 0 0 refl (omega arith) ∙ (h 0 some).first (sym (used_at l 0 0 0 refl (omega arith)) ∙ one) refl;
  after = λ t small none one. next t small none one (cases_top t);
  past = λ t low high. (
    used_at l t (t / 64) (t % 64) (omega arith) (omega arith) ∙ no_bit (2 * (t / 64)) (t % 64) (omega (arith, low)) (omega (arith, high)),
    starts_at l t (t / 64) (t % 64) (omega arith) (omega arith) ∙ no_bit (2 * (t / 64) + 1) (t % 64) (omega (arith, low)) (omega (arith, high)),
  );
}
  where
    no_bit : (q u : ℕ) → 2 * n ≤ q → q < 512 * map_pages n → bit_at (l q) u ≡ 0
    no_bit q u low high = ap (λ x. bit_at x u) (empty q low high) ∙ bit_at-zero u

    next : (t : ℕ) → suc t < 64 * n → used l t ≡ 0 → used l (suc t) ≡ 1 → (t % 64 ≡ 63) ⊎ (suc (t % 64) < 64) → starts l (suc t) ≡ 1
    next t small none one (inl top) =
        let behind : suc t ≡ 64 * suc (t / 64) + 0 = omega (arith, top) in
        let here : used l t ≡ bit_at (l (2 * (t / 64))) 63 = used_at l t (t / 64) 63 (omega (arith, top)) (omega arith) in
        starts_at l (suc t) (suc (t / 64)) 0 behind (omega arith) ∙ (h (suc (t / 64)) (omega (arith, small, behind))).first (sym (used_at l (suc t) (suc (t / 64)) 0 behind (omega arith)) ∙ one) (sym here ∙ none)
    next t small none one (inr in_page) =
        let behind : suc t ≡ 64 * (t / 64) + suc (t % 64) = omega arith in
        starts_at l (suc t) (t / 64) (suc (t % 64)) behind in_page ∙ (h (t / 64) (omega (arith, small))).after (t % 64) in_page (sym (used_at l (suc t) (t / 64) (suc (t % 64)) behind in_page) ∙ one) (sym (used_at l t (t / 64) (t % 64) (omega arith) (omega arith)) ∙ none)

-- ---- and the other way round

pub pages_of_blocks : (l : ℕ → ℕ) (n : ℕ) → OfBlocks l n → PagesGoOn l n
pages_of_blocks l n h j small = record {
  on_used = λ u in_page s. sym (used_at l (64 * j + u) j u refl in_page) ∙ h.used_start (64 * j + u) (omega (arith, small, in_page)) (starts_at l (64 * j + u) j u refl in_page ∙ s);
  first = λ one none. start j small one none;
  after = λ u in_page one none.
      let next : suc (64 * j + u) ≡ 64 * j + suc u = omega arith in
      sym (starts_at l (suc (64 * j + u)) j (suc u) next in_page) ∙ h.after (64 * j + u) (omega (arith, small, in_page)) (used_at l (64 * j + u) j u refl (omega (arith, in_page)) ∙ none) (used_at l (suc (64 * j + u)) j (suc u) next in_page ∙ one);
}
  where
    start : (j : ℕ) → j < n → bit_at (l (2 * j)) 0 ≡ 1 → used_before l j ≡ 0 → bit_at (l (2 * j + 1)) 0 ≡ 1
    start zero small one none = sym (starts_at l 0 0 0 refl (omega arith)) ∙ h.first small (used_at l 0 0 0 refl (omega arith) ∙ one)
    start (suc j) small one none =
        let at : suc (64 * j + 63) ≡ 64 * suc j + 0 = omega arith in
        sym (starts_at l (suc (64 * j + 63)) (suc j) 0 at (omega arith)) ∙ h.after (64 * j + 63) (omega (arith, small)) (used_at l (64 * j + 63) j 63 refl (omega arith) ∙ none) (used_at l (suc (64 * j + 63)) (suc j) 0 at (omega arith) ∙ one)

cases_even : (q : ℕ) → (q ≡ 2 * (q / 2)) ⊎ (q ≡ 2 * (q / 2) + 1)
cases_even q = by (q % 2) (omega arith) (omega arith)
  where
    by : (r : ℕ) → r < 2 → q ≡ 2 * (q / 2) + r → (q ≡ 2 * (q / 2)) ⊎ (q ≡ 2 * (q / 2) + 1)
    by r less is = grind arith

pub empty_of_blocks : (l : ℕ → ℕ) (n q : ℕ) → l q < 2 ^ 64 → OfBlocks l n → 2 * n ≤ q → q < 512 * map_pages n → l q ≡ 0
empty_of_blocks l n q fits h low high = same_from_bits_below 64 (l q) 0 fits (omega arith) (λ u in_page. bit u in_page (cases_even q) ∙ sym (bit_at-zero u))
  where
    bit : (u : ℕ) → u < 64 → (q ≡ 2 * (q / 2)) ⊎ (q ≡ 2 * (q / 2) + 1) → bit_at (l q) u ≡ 0
    bit u in_page (inl is) = ap (λ x. bit_at (l x) u) is ∙ sym (used_at l (64 * (q / 2) + u) (q / 2) u refl in_page) ∙ (h.past (64 * (q / 2) + u) (omega (arith, low, is, in_page)) (omega (arith, high, is, in_page))).0
    bit u in_page (inr is) = ap (λ x. bit_at (l x) u) is ∙ sym (starts_at l (64 * (q / 2) + u) (q / 2) u refl in_page) ∙ (h.past (64 * (q / 2) + u) (omega (arith, low, is, in_page)) (omega (arith, high, is, in_page))).1

-- ---- words that are the same over the map

pub of_blocks_on : (l m : ℕ → ℕ) (n : ℕ) → ((q : ℕ) → q < 512 * map_pages n → m q ≡ l q) → OfBlocks l n → OfBlocks m n
of_blocks_on l m n same h = record {
  used_start = λ t small s. uses t (omega (arith, small)) ∙ h.used_start t small (sym (start t (omega (arith, small))) ∙ s);
  first = λ some one. start 0 (omega (arith, some)) ∙ h.first some (sym (uses 0 (omega (arith, some))) ∙ one);
  after = λ t small none one. start (suc t) (omega (arith, small)) ∙ h.after t small (sym (uses t (omega (arith, small))) ∙ none) (sym (uses (suc t) (omega (arith, small))) ∙ one);
  past = λ t low high. let at = h.past t low high in (uses t high ∙ at.0, start t high ∙ at.1);
}
  where
    uses : (t : ℕ) → t < 64 * (256 * map_pages n) → used m t ≡ used l t
    uses t small = used_at m t (t / 64) (t % 64) (omega arith) (omega arith) ∙ ap (λ x. bit_at x (t % 64)) (same (2 * (t / 64)) (omega (arith, small))) ∙ sym (used_at l t (t / 64) (t % 64) (omega arith) (omega arith))

    start : (t : ℕ) → t < 64 * (256 * map_pages n) → starts m t ≡ starts l t
    start t small = starts_at m t (t / 64) (t % 64) (omega arith) (omega arith) ∙ ap (λ x. bit_at x (t % 64)) (same (2 * (t / 64) + 1) (omega (arith, small))) ∙ sym (starts_at l t (t / 64) (t % 64) (omega arith) (omega arith))

-- ---- the words of the map themselves

pub rest_empty : (map : List ℕ) (n : ℕ) → ((q : ℕ) → q < length (drop n map) → slice_index (drop n map) q ≡ 0) → (q : ℕ) → n ≤ q → q < length map → slice_index map q ≡ 0
rest_empty map n h q low high =
    let at : n + (q - n) ≡ q = omega (arith, low) in
    let long = length-drop n map in
    ap (slice_index map) (sym at) ∙ sym (get_or-drop n map (q - n) 0) ∙ h (q - n) (omega (arith, low, high, long))

pub empty_rest : (map : List ℕ) (n : ℕ) → ((q : ℕ) → n ≤ q → q < length map → slice_index map q ≡ 0) → (q : ℕ) → q < length (drop n map) → slice_index (drop n map) q ≡ 0
empty_rest map n h q small = let long = length-drop n map in get_or-drop n map q 0 ∙ h (n + q) (omega arith) (omega (arith, small, long))

pub map_of_blocks : (map : List ℕ) (n : ℕ) → length map ≡ 512 * map_pages n → PagesGoOn (slice_index map) n → ((q : ℕ) → q < length (drop (2 * n) map) → slice_index (drop (2 * n) map) q ≡ 0) → OfBlocks (slice_index map) n
map_of_blocks map n long pages empty = of_blocks (slice_index map) n pages (λ q low high. rest_empty map (2 * n) empty q low (omega (arith, high, long)))

pub blocks_rest : (map : List ℕ) (n : ℕ) → length map ≡ 512 * map_pages n → ((q : ℕ) → slice_index map q < 2 ^ 64) → OfBlocks (slice_index map) n → (q : ℕ) → q < length (drop (2 * n) map) → slice_index (drop (2 * n) map) q ≡ 0
blocks_rest map n long fits h = empty_rest map (2 * n) (λ q low high. empty_of_blocks (slice_index map) n q (fits q) h low (omega (arith, high, long)))
