-- Hexadecimal digits of a list, piece after piece.
use Rattle.std.proofs.Common.{◌≡◌, ℕ, ◌+◌, ◌-◌, ◌/◌, ◌%◌, ◌≤◌, ◌*◌, List, [], ◌∷◌, ◌++◌, length, slice_index, take, drop, Option, Ok, refl, sym, ap, ◌∙◌, arith, subst, length-drop}
use Rattle.std.proofs.lemmas.List.{take-append-drop, take_all, length-take-le}
use Rattle.std.proofs.Math.Seq.{take-add}
use Rattle.hex.specs.Hex.{encode_with, encode_lower, lower_digits}
use Rattle.request_codec.specs.Sending.{Sent, IsCutOff, Puts}
use Rattle.request_codec.proofs.Sendings.{sent_none, held_more, sent_sent, sent_cut, cut_more}

pub encode_append : (t xs ys : List ℕ) → encode_with t (xs ++ ys) ≡ encode_with t xs ++ encode_with t ys
unfolding encode_with
encode_append t [] ys = refl
encode_append t (b ∷ xs) ys = ap (λ (zs : List ℕ). slice_index t (b / 16) ∷ slice_index t (b % 16) ∷ zs) (encode_append t xs ys)

take_in_two : (i j : ℕ) (xs : List ℕ) → i ≤ j → take j xs ≡ take i xs ++ take (j - i) (drop i xs)
take_in_two i j xs up =
    let all : j ≡ i + (j - i) = omega arith in
    ap (λ k. take k xs) all ∙ take-add i (j - i) xs

pub encoded_none : {a : Option (List ℕ)} {f : ℕ} {h : List ℕ} → Sent a f h (encode_lower []) a f h
unfolding encode_with
encoded_none = sent_none

-- one more piece is held
pub encoded_more : {a : Option (List ℕ)} {f : ℕ} {h : List ℕ} {b : Option (List ℕ)} {f1 : ℕ} {h1 : List ℕ} {c : Option (List ℕ)} {f2 : ℕ} {h2 : List ℕ} (bytes : List ℕ) (i j m : ℕ) (room : List ℕ) → i ≤ j → j ≤ length bytes → Sent a f h (encode_lower (take i bytes)) b f1 h1 → Sent b f1 h1 [] c f2 h2 → take (m + 2 * length (take (j - i) (drop i bytes))) room ≡ h2 ++ encode_lower (take (j - i) (drop i bytes)) → Sent a f h (encode_lower (take j bytes)) c f2 (take (m + 2 * (j - i)) room)
encoded_more {a} {f} {h} {b} {f1} {h1} {c} {f2} {h2} bytes i j m room up within s t held =
    let piece : List ℕ = take (j - i) (drop i bytes) in
    let size : length piece ≡ j - i = length-take-le (j - i) (drop i bytes) (omega (arith, length-drop i bytes)) in
    let held : take (m + 2 * (j - i)) room ≡ h2 ++ encode_lower piece = ap (λ (k : ℕ). take (m + 2 * k) room) (sym size) ∙ held in
    let whole : encode_lower (take i bytes) ++ ([] ++ encode_lower piece) ≡ encode_lower (take j bytes) = sym (encode_append lower_digits (take i bytes) piece) ∙ ap encode_lower (sym (take_in_two i j bytes up)) in
    let P : List ℕ → Type 0 = λ text. Sent a f h text c f2 (take (m + 2 * (j - i)) room) in
    subst P whole (sent_sent s (held_more (encode_lower piece) t held))

-- all digits are sent, and so many bytes are held
pub encoded_done : {E : Type 0} (bytes : List ℕ) (i n : ℕ) (room : List ℕ) {a : Option (List ℕ)} {f : ℕ} {h : List ℕ} {b : Option (List ℕ)} {f1 : ℕ} → length bytes ≤ i → n ≤ length room → Sent a f h (encode_lower (take i bytes)) b f1 (take n room) → Puts {E = E} (Ok n) a f h (encode_lower bytes) b f1 room
encoded_done bytes i n room {a} {f} {h} {b} {f1} all fits sent = record {
  ok = record { fits = fits; sent = subst (λ (xs : List ℕ). Sent a f h (encode_lower xs) b f1 (take n room)) (take_all i bytes all) sent };
  err = tt;
}

-- the digits that were to follow are cut off
pub encoded_cut : {a : Option (List ℕ)} {f : ℕ} {h : List ℕ} {b : Option (List ℕ)} {f1 : ℕ} {h1 : List ℕ} {c : Option (List ℕ)} {f2 : ℕ} (bytes : List ℕ) (i : ℕ) → Sent a f h (encode_lower (take i bytes)) b f1 h1 → IsCutOff b f1 h1 [] c f2 → IsCutOff a f h (encode_lower bytes) c f2
encoded_cut {a} {f} {h} {b} {f1} {h1} {c} {f2} bytes i s k =
    let rest : List ℕ = drop i bytes in
    let whole : encode_lower (take i bytes) ++ encode_lower rest ≡ encode_lower bytes = sym (encode_append lower_digits (take i bytes) rest) ∙ ap encode_lower (take-append-drop i bytes) in
    let P : List ℕ → Type 0 = λ text. IsCutOff a f h text c f2 in
    subst P whole (sent_cut s (cut_more (encode_lower rest) k))
