-- The bytes of words, by parts, and bytes that are written over others.
use Rattle.std.proofs.Common.{◌≡◌, ◌≤◌, ℕ, ◌+◌, ◌-◌, ◌*◌, List, [], ◌∷◌, ◌++◌, length, take, drop, replicate, refl, sym, ap, ◌∙◌, arith, length-append}
use Rattle.std.proofs.Math.Seq.{take-append_seam, drop-append_seam, drop-append-add, take-add}
use Rattle.std.proofs.lemmas.Grind.{flat_map-append}
use Rattle.std.proofs.lemmas.List.{take-append-drop, length-take-le}
use Rattle.byteorder.specs.Endian.{little_bytes}
use Rattle.rio_base.specs.Bytes.{bytes_of}
use Rattle.rio_base.specs.Hosts.{overwritten}
use Rattle.rio_base.proofs.Bytes.{length-bytes_of}

nothing_more : (xs : List ℕ) → xs ++ [] ≡ xs
nothing_more [] = refl
nothing_more (x ∷ xs) = ap (λ (ys : List ℕ). x ∷ ys) (nothing_more xs)

joined : (xs ys zs : List ℕ) → (xs ++ ys) ++ zs ≡ xs ++ (ys ++ zs)
joined [] ys zs = refl
joined (x ∷ xs) ys zs = ap (λ (l : List ℕ). x ∷ l) (joined xs ys zs)

-- the bytes of two parts, one behind the other
pub bytes_both : (xs ys : List ℕ) → bytes_of (xs ++ ys) ≡ bytes_of xs ++ bytes_of ys
bytes_both xs ys = flat_map-append (little_bytes 8) xs ys

pub bytes_parts : (n : ℕ) (words : List ℕ) → bytes_of words ≡ bytes_of (take n words) ++ bytes_of (drop n words)
bytes_parts n words = ap bytes_of (sym (take-append-drop n words)) ∙ bytes_both (take n words) (drop n words)

-- how many bytes the first n words have
pub long_front : (n : ℕ) (words : List ℕ) → n ≤ length words → length (bytes_of (take n words)) ≡ 8 * n
long_front n words fits = length-bytes_of (take n words) ∙ ap (λ k. 8 * k) (length-take-le n words fits)

-- the bytes of the first words, and of those behind them
pub bytes_front : (n : ℕ) (words : List ℕ) → n ≤ length words → take (8 * n) (bytes_of words) ≡ bytes_of (take n words)
bytes_front n words fits =
    ap (λ (bs : List ℕ). take (8 * n) bs) (bytes_parts n words)
    ∙ ap (λ k. take k (bytes_of (take n words) ++ bytes_of (drop n words))) (sym (long_front n words fits))
    ∙ take-append_seam (bytes_of (take n words)) (bytes_of (drop n words))

pub bytes_behind : (n : ℕ) (words : List ℕ) → n ≤ length words → drop (8 * n) (bytes_of words) ≡ bytes_of (drop n words)
bytes_behind n words fits =
    ap (λ (bs : List ℕ). drop (8 * n) bs) (bytes_parts n words)
    ∙ ap (λ k. drop k (bytes_of (take n words) ++ bytes_of (drop n words))) (sym (long_front n words fits))
    ∙ drop-append_seam (bytes_of (take n words)) (bytes_of (drop n words))

-- bytes that are written over others, from the end of a front on
pub over_rest : (front rest from : List ℕ) (off : ℕ) → length front ≡ off → length from ≤ length rest → overwritten (front ++ rest) off from ≡ front ++ (from ++ drop (length from) rest)
over_rest front rest [] off is fits = refl
over_rest front rest (b ∷ from) off is fits = grown ∙ laid (b ∷ from)
  where
    none : off + length (b ∷ from) - length (front ++ rest) ≡ 0
    none = omega (arith, fits, is, length-append front rest)

    grown : overwritten (front ++ rest) off (b ∷ from) ≡ (take off (front ++ rest) ++ (b ∷ from)) ++ drop (off + length (b ∷ from)) (front ++ rest)
    grown = ap (λ (all : List ℕ). (take off all ++ (b ∷ from)) ++ drop (off + length (b ∷ from)) all) (ap (λ k. (front ++ rest) ++ replicate k 0) none ∙ nothing_more (front ++ rest))

    laid : (ys : List ℕ) → (take off (front ++ rest) ++ ys) ++ drop (off + length ys) (front ++ rest) ≡ front ++ (ys ++ drop (length ys) rest)
    laid ys =
        ap (λ k. (take k (front ++ rest) ++ ys) ++ drop (k + length ys) (front ++ rest)) (sym is)
        ∙ ap (λ (xs : List ℕ). (xs ++ ys) ++ drop (length front + length ys) (front ++ rest)) (take-append_seam front rest)
        ∙ ap (λ (xs : List ℕ). (front ++ ys) ++ xs) (drop-append-add front rest (length ys))
        ∙ joined front ys (drop (length ys) rest)

-- a front of words, and the part behind it
pub front_and_part : (d m : ℕ) (words : List ℕ) (rest : List ℕ) → bytes_of (take d words) ++ (bytes_of (take m (drop d words)) ++ rest) ≡ bytes_of (take (d + m) words) ++ rest
front_and_part d m words rest =
    sym (joined (bytes_of (take d words)) (bytes_of (take m (drop d words))) rest)
    ∙ ap (λ (bs : List ℕ). bs ++ rest) (sym (bytes_both (take d words) (take m (drop d words))) ∙ ap bytes_of (sym (take-add d m words)))
