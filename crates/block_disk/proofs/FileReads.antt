-- The words of a file that are read piece by piece.
use Rattle.std.proofs.Common.{◌≡◌, ◌≤◌, ℕ, ◌+◌, ◌*◌, List, [], ◌∷◌, ◌++◌, length, take, drop, Option, Some, None, refl, sym, ap, ◌∙◌, arith, length-drop}
use borrow.Rule.Slice.PartMut.{put_mid}
use Rattle.std.proofs.Math.Seq.{take-add}
use Rattle.std.proofs.lemmas.List.{append_assoc, drop_at, length-take-le, take_all, take_at}
use Rattle.byteorder.specs.Endian.{little_bytes}
use Rattle.rio_base.specs.Bytes.{bytes_of}
use Rattle.rio_base.specs.Hosts.{Files, HasBytes, HasSize, IsFile, bytes_in}
use Rattle.rio_base.proofs.Bytes.{length-bytes_of}
use Rattle.block_disk.proofs.HostFiles.{bytes_are, sized}

pub bytes-append : (xs ys : List ℕ) → bytes_of (xs ++ ys) ≡ bytes_of xs ++ bytes_of ys
bytes-append [] ys = refl
bytes-append (x ∷ xs) ys = ap (λ (rest : List ℕ). little_bytes 8 x ++ rest) (bytes-append xs ys) ∙ sym (append_assoc (little_bytes 8 x) (bytes_of xs) (bytes_of ys))

-- the first words have the first bytes of the file
abbrev pub HasFront : Option Files → List ℕ → List ℕ → ℕ → Type 0
HasFront None name words done = Unit {0}
HasFront (Some files) name words done = take (8 * done) (bytes_in files name) ≡ bytes_of (take done words)

pub front_none : (told : Option Files) (name words : List ℕ) → HasFront told name words 0
front_none None name words = tt
front_none (Some files) name words = refl

pub front_more : (told : Option Files) (name old new : List ℕ) (done n : ℕ) → HasFront told name old done → take done new ≡ take done old → done + n ≤ length new → HasBytes told name (8 * done) (bytes_of (take n (drop done new))) → HasFront told name new (done + n)
front_more None name old new done n front same fits bytes = tt
front_more (Some files) name old new done n front same fits bytes =
    let whole : List ℕ = bytes_in files name in
    let piece : List ℕ = take n (drop done new) in
    let words : length piece ≡ n = length-take-le n (drop done new) (omega (arith, length-drop done new, fits)) in
    let long : length (bytes_of piece) ≡ 8 * n = length-bytes_of piece ∙ ap (λ k. 8 * k) words in
    let next : take (8 * n) (drop (8 * done) whole) ≡ bytes_of piece = sym (bytes ∙ ap (λ k. take k (drop (8 * done) whole)) long) in
    let sum : 8 * (done + n) ≡ 8 * done + 8 * n = omega arith in
    ap (λ k. take k whole) sum
    ∙ take-add (8 * done) (8 * n) whole
    ∙ ap (λ (xs : List ℕ). xs ++ take (8 * n) (drop (8 * done) whole)) (front ∙ ap bytes_of (sym same))
    ∙ ap (λ (xs : List ℕ). bytes_of (take done new) ++ xs) next
    ∙ sym (bytes-append (take done new) piece)
    ∙ ap bytes_of (sym (take-add done n new))

pub front_all : (told : Option Files) (name words : List ℕ) (count done : ℕ) → HasSize told name (Some (8 * count)) → length words ≡ count → done ≡ count → HasFront told name words done → IsFile told name (bytes_of words)
front_all None name words count done size long all front = tt
front_all (Some files) name words count done size long all front =
    let own = sized files name (8 * count) size in
    let is : bytes_in files name ≡ own.0 = bytes_are files name own.0 own.1 in
    own.1 ∙ ap Some (sym (take_all (8 * done) own.0 (omega (arith, own.2, all))) ∙ ap (λ (bytes : List ℕ). take (8 * done) bytes) (sym is) ∙ front ∙ ap bytes_of (take_all done words (omega (arith, long, all))))

-- ---- words that were put into the middle of others

pub mid_words : (xs ys : List ℕ) (at n : ℕ) → length ys ≡ n → at + n ≤ length xs → take n (drop at (put_mid at n xs ys)) ≡ ys
mid_words xs ys at n long fits =
    ap (take n) (drop_at (take at xs) (ys ++ drop n (drop at xs)) at (length-take-le at xs (omega (arith, fits)))) ∙ take_at ys (drop n (drop at xs)) n long

pub mid_front : (xs ys : List ℕ) (at n : ℕ) → at ≤ length xs → take at (put_mid at n xs ys) ≡ take at xs
mid_front xs ys at n fits = take_at (take at xs) (ys ++ drop n (drop at xs)) at (length-take-le at xs fits)
