-- Bytes of a host's file that come one piece after the other.
use Rattle.std.proofs.Common.{◌≡◌, ℕ, zero, suc, ◌+◌, ◌<◌, ◌≤◌, List, [], ◌∷◌, ◌++◌, length, take, drop, Option, Some, None, refl, sym, ap, subst, ◌∙◌, arith, length-drop}
use Rattle.std.proofs.Math.Seq.{take-add}
use Rattle.std.proofs.lemmas.List.{drop-drop, length-take}
use Rattle.rio_base.specs.Failures.{Rose}
use Rattle.rio_base.specs.Hosts.{Files, HasBytes, bytes_in}

-- the bytes that came, where some came, are the file's from off on
abbrev pub HaveCome : Option Files → List ℕ → ℕ → ℕ → List ℕ → Type 0
HaveCome files name off done room = 0 < done → HasBytes files name off (take done room)

-- so many bytes are taken
taken : (n : ℕ) (xs : List ℕ) → n ≤ length xs → length (take n xs) ≡ n
taken n xs within = omega (arith, length-take n xs, within)

-- a front of the file's bytes from off on, and the bytes behind it
joined : (off done n : ℕ) (whole new : List ℕ) → done + n ≤ length new → take done new ≡ take done (drop off whole) → take n (drop done new) ≡ take n (drop (off + done) whole) → take (done + n) new ≡ take (length (take (done + n) new)) (drop off whole)
joined off done n whole new fits front piece =
    take-add done n new
    ∙ ap (λ (xs : List ℕ). xs ++ take n (drop done new)) front
    ∙ ap (λ (xs : List ℕ). take done (drop off whole) ++ xs) (piece ∙ ap (take n) (sym (drop-drop done off whole)))
    ∙ sym (take-add done n (drop off whole))
    ∙ ap (λ k. take k (drop off whole)) (sym (taken (done + n) new fits))

pub come_more : (files : Option Files) (name : List ℕ) (off done n : ℕ) (room new : List ℕ) → HaveCome files name off done room → HasBytes files name (off + done) (take n (drop done new)) → take done new ≡ take done room → done + n ≤ length new → HasBytes files name off (take (done + n) new)
come_more None name off done n room new before bytes same fits = tt
come_more (Some files) name off zero n room new before bytes same fits =
    let here : off + 0 ≡ off = omega arith in
    let all : n ≡ 0 + n = omega arith in
    subst (λ k. HasBytes (Some files) name off (take k new)) all (subst (λ k. HasBytes (Some files) name k (take n new)) here bytes)
come_more (Some files) name off (suc d) n room new before piece' same fits =
    let done : ℕ = suc d in
    let whole : List ℕ = bytes_in files name in
    let front : take done new ≡ take done (drop off whole) = same ∙ before (omega arith) ∙ ap (λ k. take k (drop off whole)) (ap length (sym same) ∙ taken done new (omega (arith, fits))) in
    let next : take n (drop done new) ≡ take n (drop (off + done) whole) = piece' ∙ ap (λ k. take k (drop (off + done) whole)) (taken n (drop done new) (omega (arith, length-drop done new, fits))) in
    joined off done n whole new fits front next

-- ---- one piece, lent behind what came before

-- what stands before the piece
pub piece_before : (done : ℕ) (old tail : List ℕ) → done ≤ length old → take done (take done old ++ tail) ≡ take done old
piece_before zero old tail within = refl
piece_before (suc n) [] tail within = absurd (omega (arith, within))
piece_before (suc n) (x ∷ xs) tail within = ap (λ ys. x ∷ ys) (piece_before n xs tail (omega (arith, within)))

piece_on : (done : ℕ) (old tail : List ℕ) → done ≤ length old → drop done (take done old ++ tail) ≡ tail
piece_on zero old tail within = refl
piece_on (suc n) [] tail within = absurd (omega (arith, within))
piece_on (suc n) (x ∷ xs) tail within = piece_on n xs tail (omega (arith, within))

front_alone : (n : ℕ) (xs ys : List ℕ) → n ≤ length xs → take n (xs ++ ys) ≡ take n xs
front_alone zero xs ys within = refl
front_alone (suc n) [] ys within = absurd (omega (arith, within))
front_alone (suc n) (x ∷ xs) ys within = ap (λ zs. x ∷ zs) (front_alone n xs ys (omega (arith, within)))

pub piece_bytes : (files : Option Files) (name : List ℕ) (off done n : ℕ) (old new tail : List ℕ) → done ≤ length old → n ≤ length new → HasBytes files name off (take n new) → HasBytes files name off (take n (drop done (take done old ++ (new ++ tail))))
piece_bytes files name off done n old new tail within fits bytes = subst (HasBytes files name off) (sym (ap (take n) (piece_on done old (new ++ tail) within) ∙ front_alone n new tail fits)) bytes

-- two readings of a count that rose
pub rose_read : (before after x y : ℕ) → x ≡ before → y ≡ after → Rose x y → Rose before after
rose_read before after x y p q h = subst (λ n. Rose n after) p (subst (λ n. Rose x n) q h)
