-- The bytes of an entry's name, made of its words.
use Rattle.rio_model.proofs.Common.{◌≡◌, ℕ, zero, suc, ◌+◌, ◌*◌, ◌/◌, ◌%◌, ◌<◌, ◌≤◌, ◌++◌, ◌∙◌, List, [], ◌∷◌, refl, sym, ap, subst, map, drop, arith, length, slice_index, range_with_len}
use Rattle.std.proofs.Common.{◌^◌, take, length-drop}
use Rattle.std.proofs.lemmas.List.{get_or-drop, get_or-take, length-take-le}
use Rattle.std.proofs.lemmas.List.FromFn.{fill_by_all, length-map-range_with_len}
use Rattle.byteorder.specs.Endian.{little_bytes}
use Rattle.rio_base.specs.Bytes.{bytes_of}
use Rattle.rio_base.proofs.Bytes.{length-bytes_of}
use Rattle.rio_model.specs.Held.{Held, byte_in, byte_of}
use Rattle.volume_check.specs.Entries.{HasEntries, ino_in, name_in}

-- ---- runs of bytes

run_same : (f g : ℕ → ℕ) (n a b : ℕ) → ((k : ℕ) → k < n → f (a + k) ≡ g (b + k)) → map f (range_with_len a n) ≡ map g (range_with_len b n)
run_same f g zero a b each = refl
run_same f g (suc n) a b each =
    let first : f a ≡ g b = (let za : a ≡ a + 0 = omega arith in ap f za) ∙ each 0 (omega arith) ∙ (let zb : b + 0 ≡ b = omega arith in ap g zb) in
    let rest : map f (range_with_len (a + 1) n) ≡ map g (range_with_len (b + 1) n) = run_same f g n (a + 1) (b + 1) (λ k few. (let ka : a + 1 + k ≡ a + suc k = omega arith in ap f ka) ∙ each (suc k) (omega (arith, few)) ∙ (let kb : b + suc k ≡ b + 1 + k = omega arith in ap g kb)) in
    (λ q. first q ∷ rest q)

by_each : (F : ℕ → ℕ) (xs : List ℕ) (a n : ℕ) → length xs ≡ n → ((k : ℕ) → k < n → slice_index xs k ≡ F (a + k)) → xs ≡ map F (range_with_len a n)
by_each F xs a n long each = fill_by_all (λ k. F (a + k)) xs n 0 long each ∙ run_same (λ k. F (a + k)) F n 0 a (λ k few. let e : a + (0 + k) ≡ a + k = omega arith in ap F e)

-- ---- bytes of words, one by one

byte_first : (w t : ℕ) (rest : List ℕ) → t < 8 → slice_index (little_bytes 8 w ++ rest) t ≡ byte_of w t
unfolding byte_of
byte_first w zero rest few = refl
byte_first w (suc zero) rest few = refl
byte_first w (suc (suc zero)) rest few = refl
byte_first w (suc (suc (suc zero))) rest few = refl
byte_first w (suc (suc (suc (suc zero)))) rest few = refl
byte_first w (suc (suc (suc (suc (suc zero))))) rest few = refl
byte_first w (suc (suc (suc (suc (suc (suc zero)))))) rest few = refl
byte_first w (suc (suc (suc (suc (suc (suc (suc zero))))))) rest few = refl
byte_first w (suc (suc (suc (suc (suc (suc (suc (suc t)))))))) rest few = absurd (omega (arith, few))

byte_at : (words : List ℕ) (j t : ℕ) → j < length words → t < 8 → slice_index (bytes_of words) (8 * j + t) ≡ byte_of (slice_index words j) t
byte_at [] j t few small = absurd (omega (arith, few))
byte_at (w ∷ words) zero t few small = ap (slice_index (little_bytes 8 w ++ bytes_of words)) (let e : 8 * 0 + t ≡ t = omega arith in e) ∙ byte_first w t (bytes_of words) small
byte_at (w ∷ words) (suc j) t few small =
    let e : 8 * suc j + t ≡ suc (suc (suc (suc (suc (suc (suc (suc (8 * j + t)))))))) = omega arith in
    ap (slice_index (little_bytes 8 w ++ bytes_of words)) e ∙ byte_at words j t (omega (arith, few)) small

-- ---- the name of one entry

pub length-name_in : (word : ℕ → ℕ) (j : ℕ) → length (name_in word j) ≡ word (8 * j) / 2 ^ 32 % 2 ^ 8
length-name_in word j = length-map-range_with_len (byte_in word) (64 * j + 8) (word (8 * j) / 2 ^ 32 % 2 ^ 8)

pub bytes_long : (words bytes : List ℕ) (j : ℕ) → bytes ≡ bytes_of (take 7 (drop (8 * j + 1) words)) → 8 * j + 8 ≤ length words → length bytes ≡ 56
bytes_long words bytes j made many = ap length made ∙ length-bytes_of (take 7 (drop (8 * j + 1) words)) ∙ ap (λ n. 8 * n) (length-take-le 7 (drop (8 * j + 1) words) (let rest = length-drop (8 * j + 1) words in omega (arith, rest, many)))

-- the bytes that its words have
pub name_made : (words bytes : List ℕ) (j len : ℕ) → bytes ≡ bytes_of (take 7 (drop (8 * j + 1) words)) → 8 * j + 8 ≤ length words → len ≡ slice_index words (8 * j) / 2 ^ 32 % 2 ^ 8 → len ≤ 56 → take len bytes ≡ name_in (slice_index words) j
name_made words bytes j len made many long few =
    by_each (byte_in (slice_index words)) (take len bytes) (64 * j + 8) len (length-take-le len bytes (let all = bytes_long words bytes j made many in omega (arith, few, all))) each
    ∙ ap (λ n. map (byte_in (slice_index words)) (range_with_len (64 * j + 8) n)) long
  where
    part : List ℕ
    part = take 7 (drop (8 * j + 1) words)

    part_long : length part ≡ 7
    part_long = length-take-le 7 (drop (8 * j + 1) words) (let rest = length-drop (8 * j + 1) words in omega (arith, rest, many))

    each : (y : ℕ) → y < len → slice_index (take len bytes) y ≡ byte_in (slice_index words) (64 * j + 8 + y)
    each y small =
        let place : y ≡ 8 * (y / 8) + y % 8 = omega arith in
        let word_at : 8 * j + 1 + y / 8 ≡ (64 * j + 8 + y) / 8 = omega arith in
        let bit_at : y % 8 ≡ (64 * j + 8 + y) % 8 = omega arith in
        get_or-take len bytes y 0 small
        ∙ ap (λ (xs : List ℕ). slice_index xs y) made
        ∙ ap (slice_index (bytes_of part)) place
        ∙ byte_at part (y / 8) (y % 8) (omega (arith, small, few, part_long)) (omega arith)
        ∙ ap (λ w. byte_of w (y % 8)) (get_or-take 7 (drop (8 * j + 1) words) (y / 8) 0 (omega (arith, small, few)) ∙ get_or-drop (8 * j + 1) words (y / 8) 0)
        ∙ (λ q. byte_of (slice_index words (word_at q)) (bit_at q))

-- the first word of an entry is the same where its words are
pub first_same : (u v : ℕ → ℕ) (j : ℕ) → ((t : ℕ) → t < 8 → u (8 * j + t) ≡ v (8 * j + t)) → u (8 * j) ≡ v (8 * j)
first_same u v j same = let at : 8 * j ≡ 8 * j + 0 = omega arith in ap u at ∙ same 0 (omega arith) ∙ ap v (sym at)

-- and so is its name
pub name_same : (u v : ℕ → ℕ) (j : ℕ) → ((t : ℕ) → t < 8 → u (8 * j + t) ≡ v (8 * j + t)) → u (8 * j) / 2 ^ 32 % 2 ^ 8 ≤ 56 → name_in u j ≡ name_in v j
name_same u v j same few =
    run_same (byte_in u) (byte_in v) (u (8 * j) / 2 ^ 32 % 2 ^ 8) (64 * j + 8) (64 * j + 8) each ∙ ap (λ w. map (byte_in v) (range_with_len (64 * j + 8) (w / 2 ^ 32 % 2 ^ 8))) (first_same u v j same)
  where
    each : (y : ℕ) → y < u (8 * j) / 2 ^ 32 % 2 ^ 8 → byte_in u (64 * j + 8 + y) ≡ byte_in v (64 * j + 8 + y)
    each y small =
        let word_at : (64 * j + 8 + y) / 8 ≡ 8 * j + (1 + y / 8) = omega arith in
        ap (λ w. byte_of w ((64 * j + 8 + y) % 8)) (ap u word_at ∙ same (1 + y / 8) (omega (arith, small, few)) ∙ ap v (sym word_at))

-- ---- the entries of a directory, by its words

pub entry_words : (h : Held) (words : List ℕ) (j : ℕ) → HasEntries h words → 8 * j + 8 ≤ length words → (t : ℕ) → t < 8 → slice_index words (8 * j + t) ≡ h.word (8 * j + t)
entry_words h words j has within t small = has.each (8 * j + t) (omega (arith, within, small))

pub entry_within : (h : Held) (words : List ℕ) (j : ℕ) → HasEntries h words → 64 * j < h.size → 8 * j + 8 ≤ length words
entry_within h words j has within = let size = has.size in let whole = has.whole in omega (arith, within, size, whole)

pub within_entry : (h : Held) (words : List ℕ) (j : ℕ) → HasEntries h words → 8 * j + 8 ≤ length words → 64 * j < h.size
within_entry h words j has within = let size = has.size in omega (arith, within, size)

pub ino_same : (h : Held) (words : List ℕ) (j : ℕ) → HasEntries h words → 8 * j + 8 ≤ length words → ino_in (slice_index words) j ≡ ino_in h.word j
ino_same h words j has within = ap (λ w. w % 2 ^ 32) (first_same (slice_index words) h.word j (entry_words h words j has within))

pub length_same : (h : Held) (words : List ℕ) (j : ℕ) → HasEntries h words → 8 * j + 8 ≤ length words → length (name_in h.word j) ≡ slice_index words (8 * j) / 2 ^ 32 % 2 ^ 8
length_same h words j has within = length-name_in h.word j ∙ ap (λ w. w / 2 ^ 32 % 2 ^ 8) (sym (first_same (slice_index words) h.word j (entry_words h words j has within)))

pub names_same : (h : Held) (words : List ℕ) (j : ℕ) → HasEntries h words → 8 * j + 8 ≤ length words → length (name_in h.word j) ≤ 56 → name_in (slice_index words) j ≡ name_in h.word j
names_same h words j has within few = name_same (slice_index words) h.word j (entry_words h words j has within) (subst (λ n. n ≤ 56) (length_same h words j has within) few)
