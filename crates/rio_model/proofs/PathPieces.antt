-- How the pieces between separators begin and end.
use Rattle.rio_model.proofs.Common.{◌≡◌, ◌≢◌, ◌==◌, ◌<◌, ◌≤◌, ◌+◌, ℕ, false, cond, List, [], ◌∷◌, ◌++◌, drop, refl, sym, ap, subst, ◌∙◌, arith, nat_tests, Decides-eqb}
use Rattle.std.proofs.Common.{length, get_or, append_assoc, append-nil}
use Rattle.rio_base.specs.Bytes.{pieces, onto, Lacks}
use Rattle.std.proofs.lemmas.List.{drop_more, drop_all}

-- a piece and the separator behind it
pub pieces_first : (s : ℕ) (piece rest : List ℕ) → Lacks s piece → pieces s (piece ++ s ∷ rest) ≡ piece ∷ pieces s rest
pieces_first s [] rest lacks = ap (λ b. cond b ([] ∷ pieces s rest) (onto s (pieces s rest))) ((Decides-eqb s s).1 refl)
pieces_first s (b ∷ piece) rest lacks = ap (λ t. cond t ([] ∷ pieces s (piece ++ s ∷ rest)) (onto b (pieces s (piece ++ s ∷ rest)))) lacks.0 ∙ ap (onto b) (pieces_first s piece rest lacks.1)

-- bytes without a separator are one piece
pub pieces_whole : (s b : ℕ) (piece : List ℕ) → Lacks s (b ∷ piece) → pieces s (b ∷ piece) ≡ (b ∷ piece) ∷ []
pieces_whole s b [] lacks = ap (λ t. cond t ([] ∷ []) ((b ∷ []) ∷ [])) lacks.0
pieces_whole s b (x ∷ piece) lacks = ap (λ t. cond t ([] ∷ pieces s (x ∷ piece)) (onto b (pieces s (x ∷ piece)))) lacks.0 ∙ ap (onto b) (pieces_whole s x piece lacks.1)

pub Lacks-push : (s : ℕ) (piece : List ℕ) (b : ℕ) → Lacks s piece → b == s ≡ false → Lacks s (piece ++ b ∷ [])
Lacks-push s [] b lacks other = (other, tt)
Lacks-push s (x ∷ piece) b lacks other = (lacks.0, Lacks-push s piece b lacks.1 other)

-- a loop over bytes: what it has, the pieces that are whole and one that is begun, and what is left
pub piece_ended : (s : ℕ) (bytes piece begun : List ℕ) (done whole : List (List ℕ)) (i : ℕ) → i < length bytes → get_or bytes i 0 ≡ s → Lacks s piece → pieces s bytes ≡ done ++ pieces s (piece ++ drop i bytes) → whole ≡ done ++ piece ∷ [] → begun ≡ [] → pieces s bytes ≡ whole ++ pieces s (begun ++ drop (i + 1) bytes)
piece_ended s bytes piece begun done whole i below is lacks kept w b =
    kept
    ∙ ap (λ ds. done ++ pieces s (piece ++ ds)) (drop_more bytes i 0 below ∙ ap (λ x. x ∷ drop (i + 1) bytes) is)
    ∙ ap (λ ps. done ++ ps) (pieces_first s piece (drop (i + 1) bytes) lacks)
    ∙ sym (append_assoc done (piece ∷ []) (pieces s (drop (i + 1) bytes)))
    ∙ ap (λ ps. ps ++ pieces s (drop (i + 1) bytes)) (sym w)
    ∙ ap (λ xs. whole ++ pieces s (xs ++ drop (i + 1) bytes)) (sym b)

pub piece_longer : (s : ℕ) (bytes piece begun : List ℕ) (done whole : List (List ℕ)) (i : ℕ) → i < length bytes → pieces s bytes ≡ done ++ pieces s (piece ++ drop i bytes) → whole ≡ done → begun ≡ piece ++ get_or bytes i 0 ∷ [] → pieces s bytes ≡ whole ++ pieces s (begun ++ drop (i + 1) bytes)
piece_longer s bytes piece begun done whole i below kept w b =
    kept
    ∙ ap (λ ds. done ++ pieces s (piece ++ ds)) (drop_more bytes i 0 below)
    ∙ ap (λ xs. done ++ pieces s xs) (sym (append_assoc piece (get_or bytes i 0 ∷ []) (drop (i + 1) bytes)))
    ∙ ap (λ ps. ps ++ pieces s ((piece ++ get_or bytes i 0 ∷ []) ++ drop (i + 1) bytes)) (sym w)
    ∙ ap (λ xs. whole ++ pieces s (xs ++ drop (i + 1) bytes)) (sym b)

pub Lacks-longer : (s : ℕ) (piece begun : List ℕ) (b : ℕ) → Lacks s piece → b ≢ s → begun ≡ piece ++ b ∷ [] → Lacks s begun
Lacks-longer s piece begun b lacks other is = subst (Lacks s) (sym is) (Lacks-push s piece b lacks (grind (arith, nat_tests)))

pub Lacks-none : (s : ℕ) (begun : List ℕ) → begun ≡ [] → Lacks s begun
Lacks-none s begun is = subst (Lacks s) (sym is) tt

-- what it has at the end of the bytes
all_passed : (s : ℕ) (bytes piece : List ℕ) (done : List (List ℕ)) (i : ℕ) → length bytes ≤ i → pieces s bytes ≡ done ++ pieces s (piece ++ drop i bytes) → pieces s bytes ≡ done ++ pieces s piece
all_passed s bytes piece done i past kept = kept ∙ ap (λ ds. done ++ pieces s (piece ++ ds)) (drop_all i bytes past) ∙ ap (λ xs. done ++ pieces s xs) (append-nil piece)

pub pieces_and_last : (s : ℕ) (bytes piece : List ℕ) (done whole : List (List ℕ)) (i : ℕ) → length bytes ≤ i → 0 < length piece → Lacks s piece → pieces s bytes ≡ done ++ pieces s (piece ++ drop i bytes) → whole ≡ done ++ piece ∷ [] → whole ≡ pieces s bytes
pieces_and_last s bytes [] done whole i past some lacks kept w = absurd (omega arith)
pieces_and_last s bytes (b ∷ piece) done whole i past some lacks kept w = w ∙ sym (all_passed s bytes (b ∷ piece) done i past kept ∙ ap (λ ps. done ++ ps) (pieces_whole s b piece lacks))

pub pieces_alone : (s : ℕ) (bytes piece : List ℕ) (done whole : List (List ℕ)) (i : ℕ) → length bytes ≤ i → length piece ≡ 0 → pieces s bytes ≡ done ++ pieces s (piece ++ drop i bytes) → whole ≡ done → whole ≡ pieces s bytes
pieces_alone s bytes [] done whole i past none kept w = w ∙ sym (all_passed s bytes [] done i past kept ∙ append-nil done)
pieces_alone s bytes (b ∷ piece) done whole i past none kept w = absurd (omega arith)
