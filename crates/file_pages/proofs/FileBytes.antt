-- The bytes of a file as a list: some stand over its old ones, or past them.
use Rattle.file_pages.proofs.Common.{◌≡◌, ℕ, zero, suc, ◌+◌, ◌-◌, ◌<◌, ◌≤◌, ◌⊎◌, ◌&&◌, ◌++◌, cond, List, [], ◌∷◌, length, map, replicate, take, drop, refl, sym, ap, ◌∙◌, arith, inl, inr, nat_le, nat_lt, slice_index, range_with_len, cases_lt, append-nil, length-take-le, take-append-drop, take_all, length-map-range_with_len, take-map-range_with_len, BlockWords, put_at, written, byte_in, held, held_bytes, word_in, Placed, same_map}
use Rattle.std.specs.Prelude.{min}
use Rattle.std.proofs.lemmas.List.{drop_at}
use Rattle.node_pages.specs.WordBytes.{over}
use Rattle.node_pages.proofs.ByteRuns.{over_in, over_out}
use Rattle.file_pages.proofs.Extended.{split_map}
use Rattle.file_pages.proofs.Left.{bytes_sized}

-- ---- one byte

pub over_same : (was now : ℕ → ℕ) (at : ℕ) (bytes : List ℕ) (k y : ℕ) → was y ≡ now y → over was at bytes k y ≡ over now at bytes k y
over_same was now at bytes k y same = ap (λ v. cond (nat_le at y && nat_lt y (at + k)) (slice_index bytes (y - at)) v) same

-- ---- lists

-- a function that gives the first k of these bytes, from a place on
map_take : (G : ℕ → ℕ) (k a : ℕ) (bytes : List ℕ) → k ≤ length bytes → ((x : ℕ) → a ≤ x → x < a + k → G x ≡ slice_index bytes (x - a)) → map G (range_with_len a k) ≡ take k bytes
map_take G zero a bytes few is = refl
map_take G (suc k) a [] few is = absurd (omega (arith, few))
map_take G (suc k) a (b ∷ bytes) few is =
    ap (λ y. y ∷ map G (range_with_len (a + 1) k)) (is a (omega arith) (omega arith) ∙ ap (slice_index (b ∷ bytes)) none)
    ∙ ap (λ ys. b ∷ ys) (map_take G k (a + 1) bytes (omega (arith, few)) (λ x low high. is x (omega (arith, low)) (omega (arith, high)) ∙ ap (slice_index (b ∷ bytes)) (next x low)))
  where
    none : a - a ≡ 0
    none = omega arith

    next : (x : ℕ) → a + 1 ≤ x → x - a ≡ suc (x - (a + 1))
    next x low = omega (arith, low)

-- a front, a middle and the rest
split_three : (G : ℕ → ℕ) (a k rest size : ℕ) → size ≡ a + (k + rest) → map G (range_with_len 0 size) ≡ map G (range_with_len 0 a) ++ map G (range_with_len a k) ++ map G (range_with_len (a + k) rest)
split_three G a k rest size is =
    ap (λ n. map G (range_with_len 0 n)) (is ∙ sum) ∙ sym (split_map G rest (a + k) 0)
    ∙ ap (λ xs. xs ++ map G (range_with_len (0 + (a + k)) rest)) (sym (split_map G k a 0))
    ∙ (λ e. map G (range_with_len 0 a) ++ map G (range_with_len (first e) k) ++ map G (range_with_len (second e) rest))
  where
    sum : a + (k + rest) ≡ (a + k) + rest
    sum = omega arith

    first : 0 + a ≡ a
    first = omega arith

    second : 0 + (a + k) ≡ a + k
    second = omega arith

-- no bytes over a list
pub put_none : (old : List ℕ) (off : ℕ) → put_at old off [] ≡ old
put_none old off = by (off + 0) (omega arith)
  where
    by : (n : ℕ) → n ≡ off → take off old ++ [] ++ drop n old ≡ old
    by n same = ap (λ m. take off old ++ [] ++ drop m old) same ∙ ap (λ xs. xs ++ drop off old) (append-nil (take off old)) ∙ take-append-drop off old

-- the first k of these bytes stand over a list that a function gives
map_over : (F G : ℕ → ℕ) (size off k : ℕ) (bytes : List ℕ) → k ≤ length bytes → off + k ≤ size → ((x : ℕ) → x < size → G x ≡ over F off bytes k x) → map G (range_with_len 0 size) ≡ put_at (map F (range_with_len 0 size)) off (take k bytes)
map_over F G size off k bytes few within is =
    split_three G off k (size - (off + k)) size whole
    ∙ (λ e. front e ++ middle e ++ rest e)
    ∙ (λ e. sym before e ++ take k bytes ++ sym behind e)
  where
    old : List ℕ
    old = map F (range_with_len 0 size)

    whole : size ≡ off + (k + (size - (off + k)))
    whole = omega (arith, within)

    halves : map F (range_with_len 0 (off + k)) ++ map F (range_with_len (0 + (off + k)) (size - (off + k))) ≡ old
    halves = let sum : (off + k) + (size - (off + k)) ≡ size = omega (arith, within) in split_map F (size - (off + k)) (off + k) 0 ∙ ap (λ n. map F (range_with_len 0 n)) sum

    before : take off old ≡ map F (range_with_len 0 off)
    before = take-map-range_with_len F 0 size off (omega (arith, within))

    place : off + length (take k bytes) ≡ off + k
    place = ap (λ n. off + n) (length-take-le k bytes few)

    behind : drop (off + length (take k bytes)) old ≡ map F (range_with_len (off + k) (size - (off + k)))
    behind =
        let from : 0 + (off + k) ≡ off + k = omega arith in
        ap (λ n. drop n old) place ∙ ap (drop (off + k)) (sym halves)
        ∙ drop_at (map F (range_with_len 0 (off + k))) (map F (range_with_len (0 + (off + k)) (size - (off + k)))) (off + k) (length-map-range_with_len F 0 (off + k))
        ∙ ap (λ a. map F (range_with_len a (size - (off + k)))) from

    front : map G (range_with_len 0 off) ≡ map F (range_with_len 0 off)
    front = same_map G F off 0 (λ x low high. is x (omega (arith, high, within)) ∙ over_out F off bytes k x (inl (omega (arith, high))))

    middle : map G (range_with_len off k) ≡ take k bytes
    middle = map_take G k off bytes few (λ x low high. is x (omega (arith, high, within)) ∙ over_in F off bytes k x low high)

    rest : map G (range_with_len (off + k) (size - (off + k))) ≡ map F (range_with_len (off + k) (size - (off + k)))
    rest = same_map G F (size - (off + k)) (off + k) (λ x low high. is x (omega (arith, high, within)) ∙ over_out F off bytes k x (inr low))

-- ---- the bytes of a node

-- some stand over its old ones
pub bytes_put : (f g : BlockWords) (n : Placed) (off : ℕ) (bytes : List ℕ) (k : ℕ) → 0 < n.kind → k ≤ min (length bytes) (n.size - off) → ((x : ℕ) → x < n.size → byte_in (word_in g n) x ≡ over (byte_in (word_in f n)) off bytes k x) → held_bytes (held g n) ≡ put_at (held_bytes (held f n)) off (take k bytes)
bytes_put f g n off bytes k used most is = bytes_sized g n used ∙ by (cases_lt n.size off) ∙ ap (λ xs. put_at xs off (take k bytes)) (sym (bytes_sized f n used))
  where
    F : ℕ → ℕ
    F = byte_in (word_in f n)

    G : ℕ → ℕ
    G = byte_in (word_in g n)

    old : List ℕ
    old = map F (range_with_len 0 n.size)

    by : ((n.size < off) ⊎ (off ≤ n.size)) → map G (range_with_len 0 n.size) ≡ put_at old off (take k bytes)
    by (inl past) =
        let none : 0 ≡ k = omega (arith, most, past) in
        same_map G F n.size 0 (λ x low high. is x (omega (arith, high)) ∙ over_out F off bytes k x (inl (omega (arith, high, past)))) ∙ sym (put_none old off) ∙ ap (λ j. put_at old off (take j bytes)) none
    by (inr within) = map_over F G n.size off k bytes (omega (arith, most)) (omega (arith, most, within)) is

-- all of them do, and none of them lies past its size
pub put_written : (old : List ℕ) (off : ℕ) (bytes : List ℕ) → 0 < length bytes → off + length bytes ≤ length old → put_at old off (take (length bytes) bytes) ≡ written old off bytes
put_written old off [] some within = absurd (omega (arith, some))
put_written old off (b ∷ bytes) some within =
    ap (put_at old off) (take_all (length (b ∷ bytes)) (b ∷ bytes) (omega arith))
    ∙ ap (λ xs. put_at xs off (b ∷ bytes)) (sym (append-nil old) ∙ ap (λ n. old ++ replicate n 0) none)
  where
    none : 0 ≡ off - length old
    none = omega (arith, within)
