-- Words made of bytes, and of a page's own bytes around them.
use Rattle.file_pages.proofs.Common.{◌≡◌, true, nat_lt, nat_tests, ℕ, zero, suc, ◌+◌, ◌-◌, ◌*◌, ◌/◌, ◌%◌, ◌<◌, ◌≤◌, ◌⊎◌, List, ◌++◌, length, take, drop, set, sym, ap, subst, ◌∙◌, arith, inl, inr, cases_lt, get_or-drop, get_or-take, length-set, length-take-le}
use Rattle.std.proofs.Common.{get_or, slice_index}
use Rattle.std.specs.Prelude.{min}
use Rattle.std.specs.Int.{w64, from_le_bytes, to_le_bytes}
use Rattle.std.proofs.lemmas.Grind.{get_or-set_at}
use Rattle.std.proofs.lemmas.List.{get_or-set_other, get_or_append_left, length-append, length-drop}
use Rattle.std.proofs.lemmas.Nat.{le_bytes_8}
use borrow.Rule.Slice.PartMut.{put_mid, same_len_mid}
use Rattle.byteorder.specs.Endian.{IsRead, little_number}
use Rattle.rio_model.specs.Held.{byte_of}
use Rattle.file_pages.specs.PageBytes.{EndsHave}
use Rattle.rio_base.specs.Bytes.{bytes_of}
use Rattle.node_pages.specs.WordBytes.{list_byte, over}
use Rattle.rio_base.proofs.Bytes.{bytes_read, fits_front}
use Rattle.node_pages.proofs.ByteRuns.{byte_at, get_mid, over_in, over_out}

mid_length : (a k : ℕ) (xs ys : List ℕ) → length ys ≡ k → a + k ≤ length xs → length (put_mid a k xs ys) ≡ length xs
mid_length a k xs ys long fits = same_len_mid a k xs ys (long ∙ sym (length-take-le k (drop a xs) (omega (arith, length-drop a xs, fits))))

-- ---- one word

byte_small : (w t : ℕ) → byte_of w t < 256
unfolding byte_of
byte_small w zero = omega arith
byte_small w (suc zero) = omega arith
byte_small w (suc (suc zero)) = omega arith
byte_small w (suc (suc (suc zero))) = omega arith
byte_small w (suc (suc (suc (suc zero)))) = omega arith
byte_small w (suc (suc (suc (suc (suc zero))))) = omega arith
byte_small w (suc (suc (suc (suc (suc (suc zero)))))) = omega arith
byte_small w (suc (suc (suc (suc (suc (suc (suc zero))))))) = omega arith
byte_small w (suc (suc (suc (suc (suc (suc (suc (suc t)))))))) = omega arith

over_small : (was : ℕ → ℕ) (at k y : ℕ) (bytes : List ℕ) → ((i : ℕ) → get_or bytes i 0 < 256) → was y < 256 → over was at bytes k y < 256
over_small was at k y bytes small own = by (cases_lt y at) (cases_lt y (at + k))
  where
    by : ((y < at) ⊎ (at ≤ y)) → ((y < at + k) ⊎ (at + k ≤ y)) → over was at bytes k y < 256
    by (inl below) _ = omega (arith, over_out was at bytes k y (inl below), own)
    by (inr from) (inr past) = omega (arith, over_out was at bytes k y (inr past), own)
    by (inr from) (inl to) = omega (arith, over_in was at bytes k y from to, small (y - at))

-- eight bytes with others put over them are a number again
pub word_put : (word number at : ℕ) (bytes line part : List ℕ) → number ≡ from_le_bytes w64 (put_mid at (at + length bytes - at) line part) → line ≡ to_le_bytes w64 word → part ≡ bytes → at + length bytes ≤ 8 → ((i : ℕ) → get_or bytes i 0 < 256) → (y : ℕ) → y < 8 → byte_of number y ≡ over (byte_of word) at bytes (length bytes) y
unfolding byte_of
word_put word number at bytes line part made is here fits small y few = ap (λ xs. slice_index xs y) (le_bytes_8 (put_mid at k line part) number eight each made) ∙ put y
  where
    k : ℕ
    k = at + length bytes - at

    eight : length (put_mid at k line part) ≡ 8
    eight = mid_length at k line part (omega (arith, ap length here)) (omega (arith, ap length is, fits)) ∙ ap length is

    put : (y : ℕ) → slice_index (put_mid at k line part) y ≡ over (slice_index (to_le_bytes w64 word)) at bytes (length bytes) y
    put y =
        get_mid at k line part y (omega (arith, ap length here)) (omega (arith, ap length is, fits))
        ∙ (λ p. over (slice_index (is p)) at (here p) k y)
        ∙ ap (λ n. over (slice_index (to_le_bytes w64 word)) at bytes n y) (let e : at + length bytes - at ≡ length bytes = omega arith in e)

    each : (i : ℕ) → get_or (put_mid at k line part) i 0 < 256
    each i = subst (λ z. z < 256) (sym (put i)) (over_small (slice_index (to_le_bytes w64 word)) at (length bytes) i bytes small (byte_small word i))

-- ---- words from the beginning of a word on

-- the words that a list of bytes has whole
abbrev pub whole_words : List ℕ → ℕ
whole_words bytes = length bytes / 8

-- a byte of the whole words
whole_byte : (bytes dst : List ℕ) → length dst ≡ whole_words bytes → ((i : ℕ) → get_or bytes i 0 < 256) → IsRead little_number 8 (take (8 * whole_words bytes) bytes) dst → (y : ℕ) → y < 8 * whole_words bytes → list_byte dst y ≡ slice_index bytes y
whole_byte bytes dst long small read y low =
    sym (byte_at dst (y / 8) (y % 8) (omega (arith, long, low)) (omega arith)) ∙ ap (slice_index (bytes_of dst)) (let e : 8 * (y / 8) + y % 8 ≡ y = omega arith in e) ∙ ap (λ xs. slice_index xs y) (sym made) ∙ get_or-take (8 * whole_words bytes) bytes y 0 low
  where
    made : take (8 * whole_words bytes) bytes ≡ bytes_of dst
    made = bytes_read (take (8 * whole_words bytes) bytes) dst (length-take-le (8 * whole_words bytes) bytes (omega arith) ∙ (omega (arith, long))) (fits_front (8 * whole_words bytes) bytes small) read

-- bytes at the beginning
front_in : (was : ℕ → ℕ) (bytes : List ℕ) (y : ℕ) → y < length bytes → over was 0 bytes (length bytes) y ≡ slice_index bytes y
front_in was bytes y low = over_in was 0 bytes (length bytes) y (omega arith) (omega (arith, low)) ∙ ap (slice_index bytes) (let e : y - 0 ≡ y = omega arith in e)

-- where bytes fill all words
pub rest_whole : (last : ℕ) (bytes dst words : List ℕ) → length dst ≡ whole_words bytes → ((i : ℕ) → get_or bytes i 0 < 256) → IsRead little_number 8 (take (8 * whole_words bytes) bytes) dst → length bytes ≤ 8 * whole_words bytes → length words ≡ (length bytes + 7) / 8 → (y : ℕ) → y < 8 * length words → list_byte (dst ++ drop (whole_words bytes) words) y ≡ over (λ x. byte_of last (x % 8)) 0 bytes (length bytes) y
rest_whole last bytes dst words long small read all room y low =
    ap (λ w. byte_of w (y % 8)) (get_or_append_left dst (drop (whole_words bytes) words) 0 (y / 8) (omega (arith, long, all, room, low)))
    ∙ whole_byte bytes dst long small read y (omega (arith, all, room, low))
    ∙ sym (front_in (λ x. byte_of last (x % 8)) bytes y (omega (arith, all, room, low)))

-- where the last word has other bytes behind them
pub rest_part : (last word : ℕ) (bytes dst words tail : List ℕ) → length dst ≡ whole_words bytes → ((i : ℕ) → get_or bytes i 0 < 256) → IsRead little_number 8 (take (8 * whole_words bytes) bytes) dst → 8 * whole_words bytes < length bytes → length words ≡ (length bytes + 7) / 8 → tail ≡ drop (8 * whole_words bytes) bytes → ((y : ℕ) → y < 8 → byte_of word y ≡ over (byte_of last) 0 tail (length tail) y) → (y : ℕ) → y < 8 * length words → list_byte (set (dst ++ drop (whole_words bytes) words) (whole_words bytes) word) y ≡ over (λ x. byte_of last (x % 8)) 0 bytes (length bytes) y
rest_part last word bytes dst words tail long small read part room behind put y low = by (cases_lt y (8 * n)) (cases_lt y (length bytes))
  where
    n : ℕ
    n = whole_words bytes

    left : length tail ≡ length bytes - 8 * n
    left = ap length behind ∙ length-drop (8 * n) bytes

    was : ℕ → ℕ
    was x = byte_of last (x % 8)

    all : List ℕ
    all = dst ++ drop n words

    many : n < length all
    many = omega (arith, length-append dst (drop n words), length-drop n words, long, room, part)

    here : 8 * n ≤ y → slice_index (set all n word) (y / 8) ≡ word
    here from = get_or-set_at all n (y / 8) word 0 (omega (arith, from, low, room, part)) many

    by : ((y < 8 * n) ⊎ (8 * n ≤ y)) → ((y < length bytes) ⊎ (length bytes ≤ y)) → list_byte (set all n word) y ≡ over was 0 bytes (length bytes) y
    by (inl below) _ =
        ap (λ w. byte_of w (y % 8)) (get_or-set_other all n (y / 8) word 0 (λ is. omega (arith, is, below)) ∙ get_or_append_left dst (drop n words) 0 (y / 8) (omega (arith, long, below)))
        ∙ whole_byte bytes dst long small read y below
        ∙ sym (front_in was bytes y (omega (arith, below)))
    by (inr from) (inl to) =
        ap (λ w. byte_of w (y % 8)) (here from)
        ∙ put (y % 8) (omega arith)
        ∙ front_in (byte_of last) tail (y % 8) (omega (arith, left, from, to))
        ∙ ap (λ xs. slice_index xs (y % 8)) behind
        ∙ get_or-drop (8 * n) bytes (y % 8) 0
        ∙ ap (slice_index bytes) (let e : 8 * n + y % 8 ≡ y = omega (arith, from, to) in e)
        ∙ sym (front_in was bytes y to)
    by (inr from) (inr past) =
        ap (λ w. byte_of w (y % 8)) (here from)
        ∙ put (y % 8) (omega arith)
        ∙ over_out (byte_of last) 0 tail (length tail) (y % 8) (inr (omega (arith, left, from, past, part, low, room)))
        ∙ sym (over_out was 0 bytes (length bytes) y (inr (omega (arith, past))))

-- ---- words from a byte within a word on

-- the first word has bytes of its own before them, and so may the last behind them
pub words_filled : (first last word skip head : ℕ) (bytes words part rest tail : List ℕ) (k : ℕ) → skip < 8 → head ≡ min (8 - skip) (length bytes) → 0 < length bytes → length words ≡ (skip + length bytes + 7) / 8 → k ≡ length words - 1 → length part ≡ k → length rest ≡ length part → tail ≡ drop head bytes → ((y : ℕ) → y < 8 → byte_of word y ≡ over (byte_of first) skip (take head bytes) (length (take head bytes)) y) → ((y : ℕ) → y < 8 * length part → list_byte rest y ≡ over (λ x. byte_of last (x % 8)) 0 tail (length tail) y) → (was : ℕ → ℕ) → EndsHave was skip (length bytes) (length words) first last → (y : ℕ) → y < 8 * length words → list_byte (put_mid 1 k (set words 0 word) rest) y ≡ over was skip bytes (length bytes) y
words_filled first last word skip head bytes words part rest tail k few is some room most long same behind put filled was own y low = by (cases_lt y 8) (cases_lt y skip) (cases_lt y (skip + length bytes))
  where
    fits : head ≤ length bytes
    fits = omega (arith, is)

    wide : length (take head bytes) ≡ head
    wide = length-take-le head bytes fits

    left : length tail ≡ length bytes - head
    left = ap length behind ∙ length-drop head bytes

    many : 0 < length words
    many = omega (arith, room, some)

    all : List ℕ
    all = set words 0 word

    got : slice_index (put_mid 1 k all rest) (y / 8) ≡ over (slice_index all) 1 rest k (y / 8)
    got = get_mid 1 k all rest (y / 8) (sym (same ∙ long)) (omega (arith, length-set words 0 word, many, most))

    -- in the first word
    begin : y < 8 → list_byte (put_mid 1 k all rest) y ≡ over (byte_of first) skip (take head bytes) (length (take head bytes)) y
    begin within =
        ap (λ w. byte_of w (y % 8)) (got ∙ over_out (slice_index all) 1 rest k (y / 8) (inl (omega (arith, within))) ∙ get_or-set_at words 0 (y / 8) word 0 (omega (arith, within)) many)
        ∙ ap (byte_of word) (let e : y % 8 ≡ y = omega (arith, within) in e)
        ∙ put y within

    -- in one behind it
    next : 8 ≤ y → list_byte (put_mid 1 k all rest) y ≡ over (λ x. byte_of last (x % 8)) 0 tail (length tail) (y - 8)
    next behind =
        ap (λ w. byte_of w (y % 8)) (got ∙ over_in (slice_index all) 1 rest k (y / 8) (omega (arith, behind)) (omega (arith, behind, low, most)) ∙ ap (slice_index rest) (let e : y / 8 - 1 ≡ (y - 8) / 8 = omega (arith, behind) in e))
        ∙ ap (byte_of (slice_index rest ((y - 8) / 8))) (let e : y % 8 ≡ (y - 8) % 8 = omega (arith, behind) in e)
        ∙ filled (y - 8) (omega (arith, long, most, low, behind))

    by : ((y < 8) ⊎ (8 ≤ y)) → ((y < skip) ⊎ (skip ≤ y)) → ((y < skip + length bytes) ⊎ (skip + length bytes ≤ y)) → list_byte (put_mid 1 k all rest) y ≡ over was skip bytes (length bytes) y
    by (inl within) (inl below) _ = begin within ∙ over_out (byte_of first) skip (take head bytes) (length (take head bytes)) y (inl below) ∙ own.first_word y within (inl below) ∙ sym (over_out was skip bytes (length bytes) y (inl below))
    by (inl within) (inr from) (inr past) = begin within ∙ over_out (byte_of first) skip (take head bytes) (length (take head bytes)) y (inr (omega (arith, wide, fits, past))) ∙ own.first_word y within (inr past) ∙ sym (over_out was skip bytes (length bytes) y (inr past))
    by (inl within) (inr from) (inl to) = begin within ∙ over_in (byte_of first) skip (take head bytes) (length (take head bytes)) y from (omega (arith, wide, is, within, to)) ∙ get_or-take head bytes (y - skip) 0 (omega (arith, is, within, from, to)) ∙ sym (over_in was skip bytes (length bytes) y from to)
    by (inr after) _ (inl to) =
        next after ∙ front_in (λ x. byte_of last (x % 8)) tail (y - 8) (omega (arith, left, is, after, to))
        ∙ ap (λ xs. slice_index xs (y - 8)) behind
        ∙ get_or-drop head bytes (y - 8) 0
        ∙ ap (slice_index bytes) (let e : head + (y - 8) ≡ y - skip = omega (arith, is, after, to, few) in e)
        ∙ sym (over_in was skip bytes (length bytes) y (omega (arith, few, after)) to)
    by (inr after) _ (inr past) =
        next after ∙ over_out (λ x. byte_of last (x % 8)) 0 tail (length tail) (y - 8) (inr (omega (arith, left, is, after, past, few)))
        ∙ own.last_word ((y - 8) % 8) (omega arith) (omega (arith, room, after, past, low))
        ∙ ap was (let e : 8 * (length words - 1) + (y - 8) % 8 ≡ y = omega (arith, room, after, past, low) in e)
        ∙ sym (over_out was skip bytes (length bytes) y (inr past))

-- where the first word has none before them, those behind them are in the last word alone
pub words_begun : (first last skip : ℕ) (bytes old words : List ℕ) → skip ≡ 0 → length old ≡ (length bytes + 7) / 8 → ((y : ℕ) → y < 8 * length old → list_byte words y ≡ over (λ x. byte_of last (x % 8)) 0 bytes (length bytes) y) → (was : ℕ → ℕ) → EndsHave was skip (length bytes) (length old) first last → (y : ℕ) → y < 8 * length old → list_byte words y ≡ over was skip bytes (length bytes) y
words_begun first last skip bytes old words none room filled was own y low = filled y low ∙ by (cases_lt y (length bytes)) ∙ ap (λ s. over was s bytes (length bytes) y) (sym none)
  where
    by : ((y < length bytes) ⊎ (length bytes ≤ y)) → over (λ x. byte_of last (x % 8)) 0 bytes (length bytes) y ≡ over was 0 bytes (length bytes) y
    by (inl to) = front_in (λ x. byte_of last (x % 8)) bytes y to ∙ sym (front_in was bytes y to)
    by (inr past) =
        over_out (λ x. byte_of last (x % 8)) 0 bytes (length bytes) y (inr (omega (arith, past)))
        ∙ own.last_word (y % 8) (omega arith) (omega (arith, none, room, past, low))
        ∙ ap was (let e : 8 * (length old - 1) + y % 8 ≡ y = omega (arith, room, past, low) in e)
        ∙ sym (over_out was 0 bytes (length bytes) y (inr (omega (arith, past))))

-- a word is read where the bytes end within it
pub some_left : (n : ℕ) → 0 < n → nat_lt 0 n ≡ true
some_left n some = grind (arith, nat_tests, some)
