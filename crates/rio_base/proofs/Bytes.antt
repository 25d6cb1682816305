-- Words and their bytes: each is read back as it was written.
use Rattle.std.proofs.Common.{◌≡◌, ◌<◌, ◌≤◌, ℕ, zero, suc, ◌+◌, ◌*◌, ◌^◌, List, [], ◌∷◌, ◌++◌, length, take, drop, get_or, slice_index, refl, sym, ap, ◌∙◌, inl, inr, arith, length-append, length-drop}
use Rattle.std.proofs.lemmas.List.{take-append-drop, drop-drop, drop_at, length-take-le, nil_from_length, ext_get_or, get_or-take, get_or-drop, get_or_past, length-take}
use Rattle.std.proofs.lemmas.Bool.{cases_lt}
use Rattle.std.proofs.lemmas.Nat.{le_bytes_8}
use Rattle.std.specs.Int.{w64, from_le_bytes}
use Rattle.std.specs.List.{AllByRecursion}
use Rattle.byteorder.specs.Endian.{little_bytes, little_number}
use Rattle.byteorder.specs.Numbers.{little_from-take, little_number-reads_back}
use Rattle.rio_base.specs.Bytes.{bytes_of, word_at}

-- a front of bytes is bytes
pub fits_front : (n : ℕ) (xs : List ℕ) → ((i : ℕ) → get_or xs i 0 < 256) → (i : ℕ) → get_or (take n xs) i 0 < 256
fits_front n xs fits i = elim (cases_lt i n) [
  | inl below ↦ omega (arith, get_or-take n xs i 0 below, fits i)
  | inr above ↦ omega (arith, get_or_past (take n xs) i 0 (omega (arith, length-take n xs)))
]

-- the number in 8 bytes has those bytes
number_bytes : (xs : List ℕ) → 8 ≤ length xs → ((i : ℕ) → get_or xs i 0 < 256) → little_bytes 8 (little_number 8 xs) ≡ take 8 xs
number_bytes xs long fits =
    let front : List ℕ = take 8 xs in
    let same : little_number 8 front ≡ little_number 8 xs = little_from-take 0 8 8 xs (omega arith) in
    let value : little_number 8 front ≡ from_le_bytes w64 front = omega arith in
    let each : (i : ℕ) → get_or front i 0 < 256 = fits_front 8 xs fits in
    le_bytes_8 front (little_number 8 xs) (length-take-le 8 xs long) each (sym same ∙ value)

-- words that were read, each from its place, have the bytes
pub bytes_read : (src dst : List ℕ) → length src ≡ 8 * length dst → ((i : ℕ) → get_or src i 0 < 256) → ((k : ℕ) → k < length dst → slice_index dst k ≡ little_number 8 (drop (8 * k) src)) → src ≡ bytes_of dst
bytes_read src [] long fits read = nil_from_length src long
bytes_read src (d ∷ dst) long fits read =
    let here : d ≡ little_number 8 src = read 0 (omega arith) in
    let rest : List ℕ = drop 8 src in
    let short : length rest ≡ 8 * length dst = omega (arith, length-drop 8 src) in
    let each : (i : ℕ) → get_or rest i 0 < 256 = λ i. omega (arith, get_or-drop 8 src i 0, fits (8 + i)) in
    let next : (k : ℕ) → k < length dst → slice_index dst k ≡ little_number 8 (drop (8 * k) rest) = λ k lt.
    let place : 8 + 8 * k ≡ 8 * (suc k) = omega arith in
    let at : drop (8 * k) rest ≡ drop (8 * (suc k)) src = drop-drop (8 * k) 8 src ∙ ap (λ (n : ℕ). drop n src) place in
    read (suc k) (omega arith) ∙ ap (little_number 8) (sym at) in
    let first : take 8 src ≡ little_bytes 8 d = sym (number_bytes src (omega arith) fits) ∙ ap (little_bytes 8) (sym here) in
    sym (take-append-drop 8 src) ∙ ap (λ (xs : List ℕ). xs ++ rest) first ∙ ap (λ (xs : List ℕ). little_bytes 8 d ++ xs) (bytes_read rest dst short each next)

-- there are 8 bytes a word
pub length-bytes_of : (words : List ℕ) → length (bytes_of words) ≡ 8 * length words
length-bytes_of [] = refl
length-bytes_of (w ∷ words) = omega (arith, length-append (little_bytes 8 w) (bytes_of words), length-bytes_of words)

-- each word is read back
pub word_at-bytes_of : (words : List ℕ) (k : ℕ) → AllByRecursion (λ w. w < 2 ^ 64) words → k < length words → word_at (bytes_of words) k ≡ slice_index words k
word_at-bytes_of [] k fits lt = absurd (omega arith)
word_at-bytes_of (w ∷ words) zero fits lt = little_number-reads_back 8 w (bytes_of words) (omega (arith, fits.0))
word_at-bytes_of (w ∷ words) (suc k) fits lt =
    let place : 8 * (suc k) ≡ 8 + 8 * k = omega arith in
    let all : List ℕ = little_bytes 8 w ++ bytes_of words in
    let at : drop (8 * (suc k)) all ≡ drop (8 * k) (bytes_of words) =
    ap (λ (n : ℕ). drop n all) place ∙ sym (drop-drop (8 * k) 8 all) ∙ ap (drop (8 * k)) (drop_at (little_bytes 8 w) (bytes_of words) 8 refl) in
    ap (little_number 8) at ∙ word_at-bytes_of words k fits.1 (omega arith)

-- words of the same bytes are the same
pub same_words : (words read bytes : List ℕ) → AllByRecursion (λ w. w < 2 ^ 64) words → bytes ≡ bytes_of words → bytes ≡ bytes_of read → ((k : ℕ) → k < length read → slice_index read k ≡ word_at bytes k) → read ≡ words
same_words words read bytes fits is was at =
    let longer : length bytes ≡ 8 * length words = ap length is ∙ length-bytes_of words in
    let long : length bytes ≡ 8 * length read = ap length was ∙ length-bytes_of read in
    let count : length read ≡ length words = omega arith in
    ext_get_or 0 read words count (λ k lt. at k lt ∙ ap (λ (bs : List ℕ). word_at bs k) is ∙ word_at-bytes_of words k fits (omega arith))
