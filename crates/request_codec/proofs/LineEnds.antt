-- Where the first line end lies in some bytes.
use Rattle.std.proofs.Common.{◌≡◌, ℕ, zero, suc, ◌+◌, ◌<◌, Bool, true, false, List, [], ◌∷◌, ◌++◌, length, get_or, take, drop, refl, sym, ap, ◌∙◌, arith, add-one, drop-cons}
use Rattle.std.specs.Prelude.{◌==◌}
use Rattle.std.proofs.lemmas.List.{take-append-drop, append_assoc, get_or-take, length-take-le}
use Rattle.memchr.specs.Find.{Nowhere, NoneBefore, Passes, is_byte}
use Rattle.request_codec.specs.Lines.{HasNoEnd, ended}

not_true : (b : Bool) → (b ≡ true → ⊥) → b ≡ false
not_true true h = absurd (h refl)
not_true false h = refl

lacks_all : (xs : List ℕ) → ((k : ℕ) → k < length xs → (get_or xs k 0 == 10) ≡ true → ⊥) → HasNoEnd xs
lacks_all [] h = tt
lacks_all (x ∷ xs) h = (not_true (x == 10) (λ e. h zero (omega arith) e), lacks_all xs (λ k l e. h (suc k) (omega arith) e))

-- nothing found: no line ends in the bytes
pub no_end : (hay : List ℕ) → Nowhere (Passes (is_byte 10) hay) 0 (length hay) → HasNoEnd hay
no_end hay h = lacks_all hay (λ k l. h k (omega arith) l)

-- found at k: no line ends before it, and the bytes are those before it, the line end and the rest
pub end_found : (hay : List ℕ) (k : ℕ) → NoneBefore (Passes (is_byte 10) hay) 0 (length hay) k → HasNoEnd (take k hay)
end_found hay k h =
    let len : length (take k hay) ≡ k = length-take-le k hay (omega (arith, h.high)) in
    lacks_all (take k hay) (λ i l e. h.before i (omega arith) (omega (arith, len)) (ap (λ b. b == 10) (sym (get_or-take k hay i 0 (omega (arith, len)))) ∙ e))

ten : (b : ℕ) → (b == 10) ≡ true → b ≡ 10
ten b e = grind arith

pub cut_at_end : (hay : List ℕ) (k : ℕ) → k < length hay → Passes (is_byte 10) hay k → hay ≡ ended (take k hay) ++ drop (k + 1) hay
cut_at_end hay k l is =
    sym (take-append-drop k hay)
    ∙ ap (λ rest. take k hay ++ rest) (drop-cons hay k 0 l ∙ ap (λ b. b ∷ drop (suc k) hay) (ten _ is) ∙ ap (λ n. 10 ∷ drop n hay) (sym (add-one k)))
    ∙ sym (append_assoc (take k hay) (10 ∷ []) (drop (k + 1) hay))
