-- Bytes that words are, read by runs.
use Rattle.vista_region.proofs.Common.{◌≡◌, ℕ, zero, suc, ◌+◌, ◌-◌, ◌*◌, ◌/◌, ◌%◌, ◌<◌, ◌≤◌, List, [], ◌∷◌, ◌++◌, length, map, take, drop, slice_index, refl, ap, sym, ◌∙◌, arith, length-drop, range_with_len, length-take-le, byte_in, bytes_in}
use Rattle.std.specs.List.{flat_map}
use Rattle.std.proofs.Common.{append-nil}
use Rattle.std.proofs.lemmas.List.{append_assoc, get_or-drop, get_or-take}
use Rattle.std.proofs.lemmas.List.FromFn.{fill_by_all}
use Rattle.byteorder.specs.Endian.{little_bytes}
use Rattle.rio_base.specs.Regions.{AreWords}
use Rattle.rio_model.specs.Held.{byte_of}

abbrev bytes_of : List ℕ → List ℕ
bytes_of words = flat_map (little_bytes 8) words

byte_first : (w t : ℕ) (rest : List ℕ) → t < 8 → slice_index (little_bytes 8 w ++ rest) t ≡ byte_of w t
unfolding byte_of
byte_first w zero rest few = refl
byte_first w (suc zero) rest few = refl
byte_first w (suc (suc zero)) rest few = refl
byte_first w (suc (suc (suc zero))) rest few = refl
byte_first w (suc (suc (suc (suc zero)))) rest few = refl
byte_first w (suc (suc (suc (suc (suc zero))))) rest few = refl
byte_first w (suc (suc (suc (suc (suc (suc zero)))))) rest few = refl
byte_first w (suc (suc (suc (suc (suc (suc (suc zero))))))) rest few = refl
byte_first w (suc (suc (suc (suc (suc (suc (suc (suc t)))))))) rest few = absurd (omega (arith, few))

byte_at : (words : List ℕ) (j t : ℕ) → j < length words → t < 8 → slice_index (bytes_of words) (8 * j + t) ≡ byte_of (slice_index words j) t
byte_at [] j t few small = absurd (omega (arith, few))
byte_at (w ∷ words) zero t few small = ap (slice_index (little_bytes 8 w ++ bytes_of words)) (let e : 8 * 0 + t ≡ t = omega arith in e) ∙ byte_first w t (bytes_of words) small
byte_at (w ∷ words) (suc j) t few small =
    let e : 8 * suc j + t ≡ suc (suc (suc (suc (suc (suc (suc (suc (8 * j + t)))))))) = omega arith in
    ap (slice_index (little_bytes 8 w ++ bytes_of words)) e ∙ byte_at words j t (omega (arith, few)) small

pub same_bytes : (f g : ℕ → ℕ) (n a b : ℕ) → ((k : ℕ) → k < n → f (a + k) ≡ g (b + k)) → map f (range_with_len a n) ≡ map g (range_with_len b n)
same_bytes f g zero a b each = refl
same_bytes f g (suc n) a b each =
    let first : f a ≡ g b = (let za : a ≡ a + 0 = omega arith in ap f za) ∙ each 0 (omega arith) ∙ (let zb : b + 0 ≡ b = omega arith in ap g zb) in
    let rest : map f (range_with_len (a + 1) n) ≡ map g (range_with_len (b + 1) n) = same_bytes f g n (a + 1) (b + 1) (λ k few. (let ka : a + 1 + k ≡ a + suc k = omega arith in ap f ka) ∙ each (suc k) (omega (arith, few)) ∙ (let kb : b + suc k ≡ b + 1 + k = omega arith in ap g kb)) in
    (λ q. first q ∷ rest q)

by_each : (F : ℕ → ℕ) (xs : List ℕ) (a n : ℕ) → length xs ≡ n → ((k : ℕ) → k < n → slice_index xs k ≡ F (a + k)) → xs ≡ map F (range_with_len a n)
by_each F xs a n long each = fill_by_all (λ k. F (a + k)) xs n 0 long each ∙ same_bytes (λ k. F (a + k)) F n 0 a (λ k few. let e : a + (0 + k) ≡ a + k = omega arith in ap F e)

length_bytes_of : (words : List ℕ) → length (bytes_of words) ≡ 8 * length words
length_bytes_of [] = refl
length_bytes_of (w ∷ words) = let rest = length_bytes_of words in omega (arith, rest)

-- a part of the bytes of words
pub line_run : (words bytes : List ℕ) (from to k : ℕ) → bytes ≡ bytes_of words → k ≡ to - from → from ≤ to → to ≤ 8 * length words → take k (drop from bytes) ≡ bytes_in (slice_index words) from (to - from)
line_run words bytes from to k is many order within = by_each (byte_in (slice_index words)) (take k (drop from bytes)) from (to - from) (length-take-le k (drop from bytes) (let l = ap length is ∙ length_bytes_of words in omega (arith, many, order, within, l, length-drop from bytes)) ∙ many) (λ j few. each j few)
  where
    each : (j : ℕ) → j < to - from → slice_index (take k (drop from bytes)) j ≡ byte_in (slice_index words) (from + j)
    each j few =
        let place : from + j ≡ 8 * ((from + j) / 8) + (from + j) % 8 = omega arith in
        get_or-take k (drop from bytes) j 0 (omega (arith, few, many)) ∙ get_or-drop from bytes j 0
        ∙ ap (λ zs. slice_index zs (from + j)) is ∙ ap (slice_index (bytes_of words)) place
        ∙ byte_at words ((from + j) / 8) ((from + j) % 8) (omega (arith, few, within)) (omega arith)

-- the bytes of words that were read
pub bytes_read : (l : ℕ → ℕ) (place n : ℕ) (words : List ℕ) (from to : ℕ) → AreWords l place n words → to ≤ 8 * n → bytes_in (slice_index words) from (to - from) ≡ bytes_in (λ w. l (place + w)) from (to - from)
bytes_read l place n words from to are within = same_bytes (byte_in (slice_index words)) (byte_in (λ w. l (place + w))) (to - from) from from (λ k few. ap (λ w. byte_of w ((from + k) % 8)) (are.each ((from + k) / 8) (omega (arith, few, within))))

-- the same bytes, counted from another word
pub bytes_moved : (l : ℕ → ℕ) (place first from at n : ℕ) → at ≡ 8 * first + from → bytes_in (λ w. l (place + first + w)) from n ≡ bytes_in (λ w. l (place + w)) at n
bytes_moved l place first from at n is = same_bytes (byte_in (λ w. l (place + first + w))) (byte_in (λ w. l (place + w))) n from at (λ k few. each k)
  where
    each : (k : ℕ) → byte_in (λ w. l (place + first + w)) (from + k) ≡ byte_in (λ w. l (place + w)) (at + k)
    each k =
        let word : place + first + (from + k) / 8 ≡ place + (at + k) / 8 = omega (arith, is) in
        let rest : (from + k) % 8 ≡ (at + k) % 8 = omega (arith, is) in
        (λ q. byte_of (l (word q)) (rest q))

split_map : (F : ℕ → ℕ) (n k a : ℕ) → map F (range_with_len a k) ++ map F (range_with_len (a + k) n) ≡ map F (range_with_len a (k + n))
split_map F n zero a = let at : a + 0 ≡ a = omega arith in let same : n ≡ 0 + n = omega arith in (λ e. map F (range_with_len (at e) (same e)))
split_map F n (suc k) a =
    let at : a + suc k ≡ (a + 1) + k = omega arith in
    let same : suc (k + n) ≡ suc k + n = omega arith in
    ap (λ b. F a ∷ (map F (range_with_len (a + 1) k) ++ map F (range_with_len b n))) at ∙ ap (λ xs. F a ∷ xs) (split_map F n k (a + 1)) ∙ ap (λ q. map F (range_with_len a q)) same

-- none are read yet
pub bytes_none : (F : ℕ → ℕ) (off : ℕ) (old : List ℕ) → old ≡ old ++ map F (range_with_len off (off - off))
bytes_none F off old = let none : off - off ≡ 0 = omega arith in sym (ap (λ k. old ++ map F (range_with_len off k)) none ∙ append-nil old)

-- bytes after those that are there
pub bytes_next : (F : ℕ → ℕ) (off at to n : ℕ) (old xs ys : List ℕ) → off ≤ at → at ≤ to → xs ≡ old ++ map F (range_with_len off (at - off)) → ys ≡ xs ++ map F (range_with_len at n) → n ≡ to - at → ys ≡ old ++ map F (range_with_len off (to - off))
bytes_next F off at to n old xs ys low high so more many =
    let from : at ≡ off + (at - off) = omega (arith, low) in
    let all : (at - off) + n ≡ to - off = omega (arith, many, low, high) in
    more ∙ ap (λ zs. zs ++ map F (range_with_len at n)) so ∙ append_assoc old (map F (range_with_len off (at - off))) (map F (range_with_len at n))
    ∙ ap (λ zs. old ++ zs) ((λ q. map F (range_with_len off (at - off)) ++ map F (range_with_len (from q) n)) ∙ split_map F n (at - off) off ∙ ap (λ c. map F (range_with_len off c)) all)
