-- A byte found by one comparison of vectors.
use Rattle.std.proofs.Common.{◌≡◌, ◌≢◌, ℕ, suc, ◌+◌, ◌*◌, ◌<◌, ◌≤◌, Bool, true, false, not, List, [], ◌∷◌, map, length, get_or, take, refl, sym, subst, ◌∙◌, inl, inr, arith}
use Rattle.std.specs.Int.{w64, trailing_zeros}
use Rattle.std.specs.List.{prefix_len}
use Rattle.std.proofs.lemmas.Bool.{cases_lt}
use Rattle.std.proofs.lemmas.Simd.{length-chunk, trailing_mask_l, run_in_chunk_fails, run_in_chunk_stops, run_in_chunk_le}
use lib.Lanes.{mask_l}
use mathlib.Core.Bool.{cond}
use Rattle.memchr.specs.Find.{NoneBefore, Passes, is_byte}

-- the lowest bit is not set, and neither are the others
clear : (b : Bool) (n len m : ℕ) → cond (not b) (1 + n) 0 ≡ suc len → (n ≡ len → m ≡ 0) → cond b 1 0 + 2 * m ≡ 0
clear true n len m h rest = absurd (omega (arith, h))
clear false n len m h rest = let none : m ≡ 0 = rest (omega (arith, h)) in omega (arith, none)

-- where no element passes, no bit is set
pub none_set : (p : ℕ → Bool) (xs : List ℕ) → prefix_len (λ x. not (p x)) xs ≡ length xs → mask_l (map p xs) ≡ 0
none_set p [] h = refl
none_set p (x ∷ xs) h = clear (p x) (prefix_len (λ y. not (p y)) xs) (length xs) (mask_l (map p xs)) h (none_set p xs)

pub not_both : (b : Bool) → b ≡ false → b ≡ true → ⊥
not_both true f t = absurd (cc (f))
not_both false f t = absurd (cc (t))

pub first_end : (a n : ℕ) (bytes : List ℕ) (r : ℕ) → n ≤ 64 → n ≤ length bytes → 0 < mask_l (map (is_byte a) (take n bytes)) → r ≡ trailing_zeros w64 (mask_l (map (is_byte a) (take n bytes))) → NoneBefore (Passes (is_byte a) bytes) 0 (length bytes) r × Passes (is_byte a) bytes r
first_end a n bytes r few long some is =
    let p : ℕ → Bool = is_byte a in
    let room : 0 + n ≤ length bytes = omega (arith, long) in
    let size : length (take n bytes) ≡ n = length-chunk 0 n bytes room in
    let counted : r ≡ prefix_len (λ x. not (p x)) (take n bytes) = is ∙ trailing_mask_l p 64 (take n bytes) (omega (arith, size, few)) some in
    let most : r ≤ n = run_in_chunk_le p bytes 0 n r 0 room counted in
    let same : 0 + r ≡ r = omega arith in
    let inside : r < n = elim (cases_lt r n) [
      | inl below ↦ below
      | inr past ↦ let none : mask_l (map p (take n bytes)) ≡ 0 = none_set p (take n bytes) (sym counted ∙ omega (arith, past, most, size)) in absurd (omega (arith, none, some))
    ] in (
      record {
        low = omega arith;
        high = omega (arith, inside, long);
        before = λ k from to passes. not_both _ (run_in_chunk_fails p bytes 0 n r 0 room counted k from (omega (arith, to))) passes;
      },
      subst (λ j. p (get_or bytes j 0) ≡ true) same (run_in_chunk_stops p bytes 0 n r 0 room counted inside),
    )

pub positive : (m n : ℕ) → m ≡ n → m ≢ 0 → 0 < n
positive m n same some = elim (cases_lt 0 n) [ inl there ↦ there | inr none ↦ absurd (some (same ∙ omega (arith, none))) ]
