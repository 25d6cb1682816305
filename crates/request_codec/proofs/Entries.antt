-- The texts of entries, one after another.
use Rattle.std.proofs.Common.{◌≡◌, ℕ, zero, suc, ◌+◌, ◌-◌, ◌<◌, List, ◌∷◌, ◌++◌, flat_map, Option, refl, sym, ap, ◌∙◌, subst, arith}
use Rattle.std.specs.List.{range_with_len}
use Rattle.std.proofs.lemmas.Grind.{flat_map-append}
use Rattle.std.proofs.lemmas.List.{append-nil}
use Rattle.request_codec.specs.Sending.{IsCutOff, Sent}
use Rattle.request_codec.proofs.Sendings.{cut_as, cut_more, sent_cut, sent_sent}

one_range : (a b m n : ℕ) → a ≡ b → m ≡ n → range_with_len a m ≡ range_with_len b n
one_range a b m n from count = ap (λ (x : ℕ). range_with_len x m) from ∙ ap (λ (y : ℕ). range_with_len b y) count

range_split : (a n m b all : ℕ) → b ≡ a + n → all ≡ n + m → range_with_len a all ≡ range_with_len a n ++ range_with_len b m
range_split a zero m b all from count = one_range a b all m (omega arith) (omega arith)
range_split a (suc n) m b zero from count = absurd (omega arith)
range_split a (suc n) m b (suc all) from count = ap (λ (xs : List ℕ). a ∷ xs) (range_split (a + 1) n m b all (omega arith) (omega arith))

next_text : (F : ℕ → List ℕ) (k : ℕ) → flat_map F (range_with_len 0 (k + 1)) ≡ flat_map F (range_with_len 0 k) ++ F k
next_text F k =
    ap (flat_map F) (range_split 0 k 1 k (k + 1) (omega arith) refl)
    ∙ flat_map-append F (range_with_len 0 k) (range_with_len k 1)
    ∙ ap (λ (text : List ℕ). flat_map F (range_with_len 0 k) ++ text) (append-nil (F k))

-- one more entry is sent
pub entries_more : (F : ℕ → List ℕ) (k : ℕ) {a : Option (List ℕ)} {f : ℕ} {h : List ℕ} {b : Option (List ℕ)} {f1 : ℕ} {h1 : List ℕ} {c : Option (List ℕ)} {f2 : ℕ} {h2 : List ℕ}
    → Sent a f h (flat_map F (range_with_len 0 k)) b f1 h1 → Sent b f1 h1 (F k) c f2 h2 → Sent a f h (flat_map F (range_with_len 0 (k + 1))) c f2 h2
entries_more F k {a = a} {f = f} {h = h} {c = c} {f2 = f2} {h2 = h2} s t =
    subst (λ (text : List ℕ). Sent a f h text c f2 h2) (sym (next_text F k)) (sent_sent s t)

-- an entry is cut, and those behind it are lost
pub entries_cut : (F : ℕ → List ℕ) (k n : ℕ) {a : Option (List ℕ)} {f : ℕ} {h : List ℕ} {b : Option (List ℕ)} {f1 : ℕ} {h1 : List ℕ} {c : Option (List ℕ)} {f2 : ℕ}
    → k < n → Sent a f h (flat_map F (range_with_len 0 k)) b f1 h1 → IsCutOff b f1 h1 (F k) c f2 → IsCutOff a f h (flat_map F (range_with_len 0 n)) c f2
entries_cut F k n {a = a} {f = f} {h = h} {c = c} {f2 = f2} within s cut =
    let rest : List ℕ = flat_map F (range_with_len (k + 1) (n - (k + 1))) in
    let whole : (flat_map F (range_with_len 0 k) ++ F k) ++ rest ≡ flat_map F (range_with_len 0 n) =
    ap (λ (text : List ℕ). text ++ rest) (sym (next_text F k))
    ∙ sym (flat_map-append F (range_with_len 0 (k + 1)) (range_with_len (k + 1) (n - (k + 1))))
    ∙ ap (flat_map F) (sym (range_split 0 (k + 1) (n - (k + 1)) (k + 1) n (omega arith) (omega (arith, within)))) in
    cut_as whole (cut_more rest (sent_cut s cut))
