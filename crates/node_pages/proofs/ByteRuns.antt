-- Bytes of words in a list, and bytes over others.
use Rattle.node_pages.proofs.Common.{◌≡◌, ℕ, zero, suc, ◌+◌, ◌-◌, ◌*◌, ◌/◌, ◌%◌, ◌<◌, ◌≤◌, ◌&&◌, ◌⊎◌, true, false, cond, List, [], ◌∷◌, ◌++◌, length, take, drop, refl, sym, ap, ◌∙◌, arith, inl, inr, length-drop, nat_le, nat_lt, cases_lt, nat_tests, length-take-le, get_or-take, get_or-drop, map, slice_index, range_with_len}
use Rattle.std.proofs.Common.{slice_index}
use Rattle.std.specs.Prelude.{if◌then◌else◌}
use Rattle.std.proofs.lemmas.List.{get_or_append_left, get_or-append_right}
use Rattle.std.proofs.lemmas.List.Edits.{paste_all}
use Rattle.std.proofs.lemmas.Slice.{put_mid-paste}
use borrow.Rule.Slice.PartMut.{put_mid}
use Rattle.byteorder.specs.Endian.{little_bytes}
use Rattle.rio_base.specs.Bytes.{bytes_of}
use Rattle.rio_base.proofs.Bytes.{length-bytes_of}
use Rattle.rio_model.specs.Held.{byte_of}
use Rattle.node_pages.specs.WordBytes.{over, list_byte}
use Rattle.std.proofs.lemmas.List.FromFn.{fill_by_all}

-- ---- byte by byte

byte_first : (w t : ℕ) (rest : List ℕ) → t < 8 → slice_index (little_bytes 8 w ++ rest) t ≡ byte_of w t
unfolding byte_of
byte_first w zero rest few = refl
byte_first w (suc zero) rest few = refl
byte_first w (suc (suc zero)) rest few = refl
byte_first w (suc (suc (suc zero))) rest few = refl
byte_first w (suc (suc (suc (suc zero)))) rest few = refl
byte_first w (suc (suc (suc (suc (suc zero))))) rest few = refl
byte_first w (suc (suc (suc (suc (suc (suc zero)))))) rest few = refl
byte_first w (suc (suc (suc (suc (suc (suc (suc zero))))))) rest few = refl
byte_first w (suc (suc (suc (suc (suc (suc (suc (suc t)))))))) rest few = absurd (omega (arith, few))

-- byte t of the j-th word
pub byte_at : (words : List ℕ) (j t : ℕ) → j < length words → t < 8 → slice_index (bytes_of words) (8 * j + t) ≡ byte_of (slice_index words j) t
byte_at [] j t few small = absurd (omega (arith, few))
byte_at (w ∷ words) zero t few small = ap (slice_index (little_bytes 8 w ++ bytes_of words)) (let e : 8 * 0 + t ≡ t = omega arith in e) ∙ byte_first w t (bytes_of words) small
byte_at (w ∷ words) (suc j) t few small =
    let e : 8 * suc j + t ≡ suc (suc (suc (suc (suc (suc (suc (suc (8 * j + t)))))))) = omega arith in
    ap (slice_index (little_bytes 8 w ++ bytes_of words)) e ∙ byte_at words j t (omega (arith, few)) small

-- ---- a line of bytes with others over it

pub get_paste : (k y : ℕ) (xs ys : List ℕ) → k ≤ length xs → slice_index (take k xs ++ ys) y ≡ (if nat_lt y k then slice_index xs y else slice_index ys (y - k))
get_paste k y xs ys h = elim (cases_lt y k) [
  | inl below ↦
      let test : nat_lt y k ≡ true = grind (arith, nat_tests, below) in
      let l = length-take-le k xs h in
      get_or_append_left (take k xs) ys 0 y (omega (arith, l, below)) ∙ get_or-take k xs y 0 below ∙ sym (ap (λ t. cond t (slice_index xs y) (slice_index ys (y - k))) test)
  | inr above ↦
      let test : nat_lt y k ≡ false = grind (arith, nat_tests, above) in
      get_or-append_right (take k xs) ys k y 0 (length-take-le k xs h) above ∙ sym (ap (λ t. cond t (slice_index xs y) (slice_index ys (y - k))) test)
]

-- ---- bytes over others

pub over_in : (was : ℕ → ℕ) (at : ℕ) (bytes : List ℕ) (k y : ℕ) → at ≤ y → y < at + k → over was at bytes k y ≡ slice_index bytes (y - at)
over_in was at bytes k y low high = let test : (nat_le at y && nat_lt y (at + k)) ≡ true = grind (arith, nat_tests, low, high) in ap (λ t. cond t (slice_index bytes (y - at)) (was y)) test

pub over_out : (was : ℕ → ℕ) (at : ℕ) (bytes : List ℕ) (k y : ℕ) → (y < at) ⊎ (at + k ≤ y) → over was at bytes k y ≡ was y
over_out was at bytes k y out = ap (λ t. cond t (slice_index bytes (y - at)) (was y)) (test out)
  where
    test : (y < at) ⊎ (at + k ≤ y) → (nat_le at y && nat_lt y (at + k)) ≡ false
    test (inl low) = grind (arith, nat_tests, low)
    test (inr high) = grind (arith, nat_tests, high)

-- a part of a list written
pub get_mid : (a k : ℕ) (xs ys : List ℕ) (y : ℕ) → k ≡ length ys → a + k ≤ length xs → slice_index (put_mid a k xs ys) y ≡ over (slice_index xs) a ys k y
get_mid a k xs ys y long fits = ap (λ zs. slice_index zs y) (put_mid-paste a k xs ys ys k refl refl long ∙ paste_all xs a ys k long) ∙ get_paste a y xs (ys ++ drop (a + k) xs) (omega (arith, fits)) ∙ by (cases_lt y a) (cases_lt y (a + k))
  where
    by : ((y < a) ⊎ (a ≤ y)) → ((y < a + k) ⊎ (a + k ≤ y)) → cond (nat_lt y a) (slice_index xs y) (slice_index (ys ++ drop (a + k) xs) (y - a)) ≡ over (slice_index xs) a ys k y
    by (inl below) _ = ap (λ t. cond t (slice_index xs y) (slice_index (ys ++ drop (a + k) xs) (y - a))) (less below) ∙ sym (over_out (slice_index xs) a ys k y (inl below))
      where
        less : y < a → nat_lt y a ≡ true
        less h = grind (arith, nat_tests, h)
    by (inr from) (inl to) = ap (λ t. cond t (slice_index xs y) (slice_index (ys ++ drop (a + k) xs) (y - a))) (not_less from) ∙ get_or_append_left ys (drop (a + k) xs) 0 (y - a) (omega (arith, from, to, long)) ∙ sym (over_in (slice_index xs) a ys k y from to)
      where
        not_less : a ≤ y → nat_lt y a ≡ false
        not_less h = grind (arith, nat_tests, h)
    by (inr from) (inr past) = ap (λ t. cond t (slice_index xs y) (slice_index (ys ++ drop (a + k) xs) (y - a))) (not_less from) ∙ get_or-append_right ys (drop (a + k) xs) k (y - a) 0 (sym long) (omega (arith, past)) ∙ get_or-drop (a + k) xs (y - a - k) 0 ∙ ap (slice_index xs) (omega (arith, past)) ∙ sym (over_out (slice_index xs) a ys k y (inr past))
      where
        not_less : a ≤ y → nat_lt y a ≡ false
        not_less h = grind (arith, nat_tests, h)

-- ---- bytes made of words

pub same_bytes : (f g : ℕ → ℕ) (n a b : ℕ) → ((k : ℕ) → k < n → f (a + k) ≡ g (b + k)) → map f (range_with_len a n) ≡ map g (range_with_len b n)
same_bytes f g zero a b each = refl
same_bytes f g (suc n) a b each =
    let first : f a ≡ g b = (let za : a ≡ a + 0 = omega arith in ap f za) ∙ each 0 (omega arith) ∙ (let zb : b + 0 ≡ b = omega arith in ap g zb) in
    let rest : map f (range_with_len (a + 1) n) ≡ map g (range_with_len (b + 1) n) = same_bytes f g n (a + 1) (b + 1) (λ k few. (let ka : a + 1 + k ≡ a + suc k = omega arith in ap f ka) ∙ each (suc k) (omega (arith, few)) ∙ (let kb : b + suc k ≡ b + 1 + k = omega arith in ap g kb)) in
    (λ q. first q ∷ rest q)

by_each : (F : ℕ → ℕ) (xs : List ℕ) (a n : ℕ) → length xs ≡ n → ((k : ℕ) → k < n → slice_index xs k ≡ F (a + k)) → xs ≡ map F (range_with_len a n)
by_each F xs a n long each = fill_by_all (λ k. F (a + k)) xs n 0 long each ∙ same_bytes (λ k. F (a + k)) F n 0 a (λ k few. let e : a + (0 + k) ≡ a + k = omega arith in ap F e)

pub line_run : (words bytes : List ℕ) (from to k : ℕ) → bytes ≡ bytes_of words → k ≡ to - from → from ≤ to → to ≤ 8 * length words → take k (drop from bytes) ≡ map (list_byte words) (range_with_len from (to - from))
line_run words bytes from to k is many order within = by_each (list_byte words) (take k (drop from bytes)) from (to - from) (length-take-le k (drop from bytes) (let l = ap length is ∙ length-bytes_of words in omega (arith, many, order, within, l, length-drop from bytes)) ∙ many) (λ j few. each j few)
  where
    each : (j : ℕ) → j < to - from → slice_index (take k (drop from bytes)) j ≡ list_byte words (from + j)
    each j few =
        let place : from + j ≡ 8 * ((from + j) / 8) + (from + j) % 8 = omega arith in
        get_or-take k (drop from bytes) j 0 (omega (arith, few, many)) ∙ get_or-drop from bytes j 0
        ∙ ap (λ zs. slice_index zs (from + j)) is ∙ ap (slice_index (bytes_of words)) place
        ∙ byte_at words ((from + j) / 8) ((from + j) % 8) (omega (arith, few, within)) (omega arith)
