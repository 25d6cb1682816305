-- The first bytes of names as numbers: how they are made, and what they tell of the order of names.
use Rattle.std.proofs.Common.{◌≡◌, ℕ, zero, suc, ◌+◌, ◌-◌, ◌*◌, ◌%◌, ◌^◌, ◌<◌, ◌≤◌, List, [], ◌∷◌, length, take, refl, sym, ap, ◌∙◌, arith, bit_and, slice_index}
use Rattle.std.specs.Cmp.Lexicographic.{slice_cmp}
use Rattle.std.specs.Ordering.{nat_cmp, ordering_then}
use Rattle.std.specs.declared.cmp.Ordering.{Ordering}
use Rattle.std.specs.declared.cmp.Ordering.TheVariants.{Less}
use Rattle.std.proofs.lemmas.Cmp.{by_ranked, ranked}
use Rattle.std.proofs.lemmas.List.{get_or_past, length-take}
use Rattle.std.proofs.lemmas.Nat.{and_mask, mod-mul-add, mul-le, pow-add}
use Rattle.std.proofs.Math.Nat.{pow-le-pow_right}
use Rattle.byteorder.specs.Endian.{big_from, big_number}
use Rattle.byteorder.specs.Numbers.{big_from-cons, big_from-lt, big_from-take}

abbrev pub AreBytes : List ℕ → Type 0
AreBytes xs = (k : ℕ) → slice_index xs k < 256

-- ---- numbers of bytes in two parts

-- past the end there is nothing
past_end : (i n : ℕ) (xs : List ℕ) → length xs ≤ i → big_from i n xs ≡ 0
past_end i zero xs past = refl
past_end i (suc n) xs past =
    let rest = past_end (suc i) n xs (omega (arith, past)) in
    ap (λ (a : ℕ). a * 256 ^ n + big_from (suc i) n xs) (get_or_past xs i 0 past) ∙ omega (arith, rest)

regrouped : (x a b r l : ℕ) → x * (a * b) + (r * b + l) ≡ (x * a + r) * b + l
regrouped x a b r l = omega arith

-- the first a bytes, and b behind them
two_parts : (i a b n : ℕ) (xs : List ℕ) → n ≡ a + b → big_from i n xs ≡ big_from i a xs * 256 ^ b + big_from (i + a) b xs
two_parts i zero b n xs e =
    let same : n ≡ b = omega (arith, e) in
    let at : i ≡ i + 0 = omega arith in
    (λ q. big_from (at q) (same q) xs) ∙ omega arith
two_parts i (suc a) b zero xs e = absurd (omega (arith, e))
two_parts i (suc a) b (suc n) xs e =
    let split : n ≡ a + b = omega (arith, e) in
    let at : suc i + a ≡ i + suc a = omega arith in
    let power : 256 ^ n ≡ 256 ^ a * 256 ^ b = ap (λ (m : ℕ). 256 ^ m) split ∙ pow-add 256 a b in
    (λ q. slice_index xs i * power q + two_parts (suc i) a b n xs split q)
    ∙ regrouped (slice_index xs i) (256 ^ a) (256 ^ b) (big_from (suc i) a xs) (big_from (suc i + a) b xs)
    ∙ ap (λ (j : ℕ). (slice_index xs i * 256 ^ a + big_from (suc i) a xs) * 256 ^ b + big_from j b xs) at

-- one byte more
pub front_more : (k : ℕ) (xs : List ℕ) → big_from 0 (k + 1) xs ≡ 256 * big_from 0 k xs + slice_index xs k
front_more k xs =
    let one : big_from (0 + k) 1 xs ≡ slice_index xs k = (let at : 0 + k ≡ k = omega arith in ap (λ (j : ℕ). big_from j 1 xs) at) ∙ omega arith in
    two_parts 0 k 1 (k + 1) xs refl ∙ omega (arith, one)

-- and it fits
pub front_fits : (k : ℕ) (xs : List ℕ) → AreBytes xs → k < 8 → 256 * big_from 0 k xs + slice_index xs k < 2 ^ 64
front_fits k xs bytes low =
    let more = front_more k xs in
    let small = big_from-lt 0 (k + 1) xs bytes in
    let most : 256 ^ (k + 1) ≤ 256 ^ 8 = pow-le-pow_right {n = 256} (omega arith) {i = k + 1} {j = 8} (omega (arith, low)) in
    omega (arith, more, small, most)

-- ---- the front of a name in a line

two_power : (b : ℕ) → 2 ^ (8 * b) ≡ 256 ^ b
two_power zero = refl
two_power (suc b) =
    let more : 8 * suc b ≡ 8 + 8 * b = omega arith in
    let next : suc b ≡ 1 + b = omega arith in
    ap (λ (m : ℕ). 2 ^ m) more ∙ pow-add 2 8 (8 * b) ∙ ap (λ (p : ℕ). 256 * p) (two_power b) ∙ sym (ap (λ (m : ℕ). 256 ^ m) next ∙ pow-add 256 1 b)

left_over : (n m h p l t : ℕ) → m ≡ l → n ≡ h * p + l → t ≡ h * p → n - m ≡ t
left_over n m h p l t low whole cut = omega (arith, low, whole, cut)

-- the bytes behind the first `len` are cleared
pub front_cut : (line : List ℕ) (n len ones : ℕ) → AreBytes line → len < 8 → n ≡ big_number 8 line → ones ≡ 2 ^ (64 - 8 * len) - 1 → n - bit_and n ones ≡ big_number 8 (take len line)
front_cut line n len ones bytes few is all = left_over n (bit_and n ones) (big_from 0 len line) (256 ^ behind) (big_from (0 + len) behind line) (big_number 8 (take len line)) low whole cut
  where
    behind : ℕ
    behind = 8 - len

    parts : 8 ≡ len + behind
    parts = omega (arith, few)

    power : 2 ^ (64 - 8 * len) ≡ 256 ^ behind
    power = (let many : 64 - 8 * len ≡ 8 * behind = omega (arith, few) in ap (λ (m : ℕ). 2 ^ m) many) ∙ two_power behind

    whole : n ≡ big_from 0 len line * 256 ^ behind + big_from (0 + len) behind line
    whole = is ∙ two_parts 0 len behind 8 line parts

    low : bit_and n ones ≡ big_from (0 + len) behind line
    low = ap (bit_and n) all ∙ and_mask n (64 - 8 * len) ∙ (λ q. whole q % power q) ∙ mod-mul-add (big_from 0 len line) (256 ^ behind) (big_from (0 + len) behind line) (big_from-lt (0 + len) behind line bytes)

    none : big_from (0 + len) behind (take len line) ≡ 0
    none = past_end (0 + len) behind (take len line) (let long = length-take len line in omega (arith, long))

    cut : big_number 8 (take len line) ≡ big_from 0 len line * 256 ^ behind
    cut = two_parts 0 len behind 8 (take len line) parts ∙ (λ q. big_from-take 0 len len line (omega arith) q * 256 ^ behind + none q) ∙ omega arith

-- of a name of eight bytes and more nothing is
pub front_whole : (line : List ℕ) (n len : ℕ) → 8 ≤ len → n ≡ big_number 8 line → n ≡ big_number 8 (take len line)
front_whole line n len many is = is ∙ sym (big_from-take 0 8 len line (omega (arith, many)))

-- ---- the order of names

by_first : (n x y : ℕ) (xs ys : List ℕ) → AreBytes ys → (big_from 0 n xs < big_from 0 n ys → slice_cmp nat_cmp xs ys ≡ Less) → x * 256 ^ n + big_from 0 n xs < y * 256 ^ n + big_from 0 n ys → slice_cmp nat_cmp (x ∷ xs) (y ∷ ys) ≡ Less
by_first n x y xs ys bytes rest less =
    by_ranked (x < y) (x ≡ y) (y < x) (nat_cmp x y) (ranked x y (nat_cmp x y) refl)
    (λ told low. ap (λ (o : Ordering). ordering_then o (slice_cmp nat_cmp xs ys)) told)
    (λ told same. ap (λ (o : Ordering). ordering_then o (slice_cmp nat_cmp xs ys)) told ∙ rest (let heads = ap (λ (z : ℕ). z * 256 ^ n) same in omega (arith, less, heads)))
    (λ told high. absurd (let more = mul-le (y + 1) (256 ^ n) x (256 ^ n) (omega (arith, high)) (omega arith) in let small = big_from-lt 0 n ys bytes in omega (arith, less, more, small)))

-- a name whose front is less comes first
pub front_before : (n : ℕ) (xs ys : List ℕ) → AreBytes xs → AreBytes ys → big_from 0 n xs < big_from 0 n ys → slice_cmp nat_cmp xs ys ≡ Less
front_before zero xs ys p q less = absurd (omega (arith, less))
front_before (suc n) [] [] p q less = absurd (omega (arith, less))
front_before (suc n) [] (y ∷ ys) p q less = refl
front_before (suc n) (x ∷ xs) [] p q less = absurd (let none = past_end 0 (suc n) [] (omega arith) in omega (arith, less, none))
front_before (suc n) (x ∷ xs) (y ∷ ys) p q less =
    let one : big_from 1 n (x ∷ xs) ≡ big_from 0 n xs = big_from-cons 0 n x xs in
    let other : big_from 1 n (y ∷ ys) ≡ big_from 0 n ys = big_from-cons 0 n y ys in
    let told : x * 256 ^ n + big_from 1 n (x ∷ xs) < y * 256 ^ n + big_from 1 n (y ∷ ys) = less in
    by_first n x y xs ys (λ k. q (suc k)) (front_before n xs ys (λ k. p (suc k)) (λ k. q (suc k))) (omega (arith, told, one, other))
