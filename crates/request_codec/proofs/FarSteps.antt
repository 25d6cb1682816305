-- A byte looked for step by step.
use Rattle.std.proofs.Common.{◌≡◌, ℕ, ◌+◌, ◌-◌, ◌<◌, ◌≤◌, ◌==◌, min, leb, Bool, true, false, not, List, map, length, get_or, slice_index, Option, Some, None, MatchOption, refl, sym, ap, subst, ◌∙◌, inl, inr, arith}
use Rattle.std.specs.Int.{w64, trailing_zeros}
use Rattle.std.specs.List.{prefix_len}
use Rattle.std.proofs.lemmas.Bool.{cases_lt, leb-false}
use Rattle.std.proofs.lemmas.Bool.Decides.{nat_tests}
use Rattle.std.proofs.lemmas.List.{take_all}
use Rattle.std.proofs.lemmas.Simd.{get_or-chunk, length-chunk, none_from_empty_mask, trailing_mask_l, run_in_chunk_fails, run_in_chunk_stops, run_in_chunk_le}
use lib.Lanes.{chunk, mask_l}
use Rattle.memchr.specs.Find.{IsFirst, NoneBefore, Nowhere, Passes, is_byte}
use Rattle.request_codec.specs.Fronts.{AreLeast}
use Rattle.request_codec.proofs.NearEnds.{none_set, not_both}

-- ---- one step

-- no bit is set: none of them is such a byte
pub none_marked : (a i n : ℕ) (bytes : List ℕ) → i + n ≤ length bytes → mask_l (map (is_byte a) (chunk i n bytes)) ≡ 0 → Nowhere (Passes (is_byte a) bytes) i (i + n)
none_marked a i n bytes room none k from below passes = not_both _ (none_from_empty_mask (is_byte a) bytes i n 0 room none k from below) passes

-- the lowest bit that is set tells the first
pub first_marked : (a i n : ℕ) (bytes : List ℕ) (r : ℕ) → n ≤ 64 → i + n ≤ length bytes → 0 < mask_l (map (is_byte a) (chunk i n bytes)) → r ≡ trailing_zeros w64 (mask_l (map (is_byte a) (chunk i n bytes)))
    → NoneBefore (Passes (is_byte a) bytes) i (i + n) (i + r) × Passes (is_byte a) bytes (i + r)
first_marked a i n bytes r few room some is =
    let p : ℕ → Bool = is_byte a in
    let size : length (chunk i n bytes) ≡ n = length-chunk i n bytes room in
    let counted : r ≡ prefix_len (λ x. not (p x)) (chunk i n bytes) = is ∙ trailing_mask_l p 64 (chunk i n bytes) (omega (arith, size, few)) some in
    let most : r ≤ n = run_in_chunk_le p bytes i n r 0 room counted in
    let inside : r < n = elim (cases_lt r n) [
      | inl below ↦ below
      | inr past ↦ let none : mask_l (map p (chunk i n bytes)) ≡ 0 = none_set p (chunk i n bytes) (sym counted ∙ omega (arith, past, most, size)) in absurd (omega (arith, none, some))
    ] in (
      record {
        low = omega arith;
        high = omega (arith, inside);
        before = λ k from to passes. not_both _ (run_in_chunk_fails p bytes i n r 0 room counted k from to) passes;
      },
      run_in_chunk_stops p bytes i n r 0 room counted inside,
    )

-- ---- step by step

joined : (P : ℕ → Type 0) (i at j : ℕ) → i ≤ at → Nowhere P 0 at → Nowhere P i j → Nowhere P 0 j
joined P i at j le first next k from below = elim (cases_lt k at) [ inl early ↦ first k from early | inr late ↦ next k (omega (arith, le, late)) below ]

-- a step that begins where nothing was found before, or earlier
pub step_on : (P : ℕ → Type 0) (i at j m n : ℕ) (r : Option ℕ) → i ≤ at → j ≡ m → m ≤ n → Nowhere P 0 at → IsFirst P i j r → MatchOption r (Nowhere P 0 m) (λ k. NoneBefore P 0 n k × P k)
step_on P i at j m n None le same fits first step = λ k from below. joined P i at j le first step k from (omega (arith, same, below))
step_on P i at j m n (Some k) le same fits first step =
    let here = step.0 in
    let high = here.high in (
      record {
        low = omega arith;
        high = omega (arith, high, same, fits);
        before = λ l from below. joined P i at k le first here.before l from below;
      },
      step.1,
    )

-- the first step of all, where something is found in it
pub found_first : (P : ℕ → Type 0) (j n k : ℕ) → j ≤ n → NoneBefore P 0 j k × P k → NoneBefore P 0 n k × P k
found_first P j n k fits step = step_on P 0 0 j j n (Some k) (omega arith) refl fits (λ l from below. absurd (omega (arith, below))) step

pub none_on : (P : ℕ → Type 0) (i j : ℕ) → Nowhere P 0 i → Nowhere P i j → Nowhere P 0 j
none_on P i j first step = joined P i i j (omega arith) first step

-- ---- runs of larger bytes

-- 32 bytes as they stand
chunk_least : (bytes : List ℕ) (i : ℕ) → i + 32 ≤ length bytes → AreLeast (chunk i 32 bytes) bytes i 32
chunk_least bytes i room = record {
  lanes = length-chunk i 32 bytes room;
  each = λ k from below.
      let lane : k - i < 32 = omega (arith, from, below) in
      let place : i + (k - i) ≡ k = omega (arith, from) in
      let same : get_or (chunk i 32 bytes) (k - i) 0 ≡ get_or bytes k 0 = get_or-chunk i 32 bytes (k - i) 0 lane ∙ ap (λ m. get_or bytes m 0) place in
      (k - i, lane, omega (arith, same));
}

-- the lesser of two in each lane
pub both_least : (xs ys zs bytes : List ℕ) (i m q n p : ℕ) → AreLeast xs bytes i m → AreLeast ys bytes q n → q ≡ i + m → p ≡ m + n → length zs ≡ 32 → ((j : ℕ) → j < 32 → slice_index zs j ≡ min (slice_index xs j) (slice_index ys j)) → AreLeast zs bytes i p
both_least xs ys zs bytes i m q n p h k next whole long lane = record {
  lanes = long;
  each = λ l from below. elim (cases_lt l (i + m)) [
    | inl early ↦
        let at = h.each l from early in
        (at.0, at.1, omega (arith, at.2, lane at.0 at.1))
    | inr late ↦
        let at = k.each l (omega (arith, late, next)) (omega (arith, next, whole, below)) in
        (at.0, at.1, omega (arith, at.2, lane at.0 at.1))
  ];
}

pub two_least : (bytes zs : List ℕ) (i : ℕ) → i + 64 ≤ length bytes → length zs ≡ 32 → ((j : ℕ) → j < 32 → slice_index zs j ≡ min (slice_index (chunk i 32 bytes) j) (slice_index (chunk (i + 32) 32 bytes) j)) → AreLeast zs bytes i 64
two_least bytes zs i room long lane = both_least (chunk i 32 bytes) (chunk (i + 32) 32 bytes) zs bytes i 32 (i + 32) 32 64 (chunk_least bytes i (omega (arith, room))) (chunk_least bytes (i + 32) (omega (arith, room))) refl refl long lane

-- no bit is set: no lane passes
pub unmarked : (p : ℕ → Bool) (xs : List ℕ) → mask_l (map p xs) ≡ 0 → (j : ℕ) → j < length xs → p (get_or xs j 0) ≡ false
unmarked p xs none j below =
    let n : ℕ = length xs in
    let whole : chunk 0 n xs ≡ xs = take_all n xs (omega arith) in
    none_from_empty_mask p xs 0 n 0 (omega arith) (ap (λ ys. mask_l (map p ys)) whole ∙ none) j (omega arith) (omega (arith, below))

-- no lane is as small as the byte
pub all_larger : (a : ℕ) (least : List ℕ) → length least ≡ 32 → mask_l (map (λ x. leb x a) least) ≡ 0 → (j : ℕ) → j < 32 → a < slice_index least j
all_larger a least long none j below = leb-false (get_or least j 0) a (unmarked (λ x. leb x a) least none j (omega (arith, long, below)))

not_equal : (a x : ℕ) → a < x → (x == a) ≡ true → ⊥
not_equal a x larger same = let equal : x ≡ a = grind (arith, nat_tests) in omega (arith, equal, larger)

pub run_passed : (a : ℕ) (bytes least : List ℕ) (i n m : ℕ) → AreLeast least bytes i n → ((j : ℕ) → j < 32 → a < slice_index least j) → m ≡ i + n → Nowhere (Passes (is_byte a) bytes) 0 i → Nowhere (Passes (is_byte a) bytes) 0 m
run_passed a bytes least i n m h larger is first =
    let here : Nowhere (Passes (is_byte a) bytes) i (i + n) = λ k from below passes.
    let at = h.each k from below in
    not_equal a (slice_index bytes k) (omega (arith, at.2, larger at.0 at.1)) passes in
    subst (λ j. Nowhere (Passes (is_byte a) bytes) 0 j) (sym is) (none_on (Passes (is_byte a) bytes) i (i + n) first here)
