-- The texts of replies, part after part.
use Rattle.std.proofs.Common.{◌≡◌, ℕ, ◌+◌, ◌<◌, ◌≤◌, List, [], ◌∷◌, ◌++◌, length, take, drop, flat_map, codes, decimal, Option, Ok, sym, ap, ◌∙◌, subst}
use Rattle.std.proofs.Math.ListN.{get_or}
use Rattle.std.proofs.lemmas.Grind.{flat_map-append}
use Rattle.std.proofs.lemmas.List.{append_assoc, append-nil, take-append-drop, take_all, take_more}
use Rattle.rio_base.specs.declared.places.Ino.{Ino}
use Rattle.rio_requests.specs.declared.reply.Reply.{Reply}
use Rattle.rio_requests.specs.declared.reply.Reply.TheVariants.{Stat}
use Rattle.request_codec.specs.Sending.{Sent, IsCutOff, Puts}
use Rattle.request_codec.proofs.Sendings.{cut_as, cut_more, sent_cut, sent_none, sent_sent}
use Rattle.request_codec.specs.Text.{body_of, kind_name}

five_parts : (word ino space kind size : List ℕ) → (word ++ ino) ++ (((space ++ kind) ++ space) ++ size) ≡ ((((word ++ ino) ++ space) ++ kind) ++ space) ++ size
five_parts word ino space kind size = simp append_assoc

-- the text of what stands at a path, as it is put
pub stat_text : (ino : Ino) (kind size n : ℕ) (word : List ℕ) → n ≡ ino.0 → word ≡ codes " " ++ kind_name kind ++ codes " " → (codes "ok " ++ decimal n) ++ (word ++ decimal size) ≡ body_of (Stat ino kind size)
stat_text ino kind size n word same is =
    ap (λ (k : ℕ). (codes "ok " ++ decimal k) ++ (word ++ decimal size)) same
    ∙ ap (λ (w : List ℕ). (codes "ok " ++ decimal ino.0) ++ (w ++ decimal size)) is
    ∙ five_parts (codes "ok ") (decimal ino.0) (codes " ") (kind_name kind) (decimal size)

-- the text of a kind and a size, where the kind is known
pub kind_text : (kind size k : ℕ) → kind ≡ k → (codes " " ++ kind_name k ++ codes " ") ++ decimal size ≡ (codes " " ++ kind_name kind ++ codes " ") ++ decimal size
kind_text kind size k is = ap (λ (n : ℕ). (codes " " ++ kind_name n ++ codes " ") ++ decimal size) (sym is)

-- the text of a reply that is known
pub body_text : (reply r : Reply) → reply ≡ r → body_of r ≡ body_of reply
body_text reply r is = ap body_of (sym is)

-- ---- the texts of a list's elements

each_next : {X : Type 0} (F : X → List ℕ) (xs : List X) (i : ℕ) (d : X) (y : List ℕ) → i < length xs → y ≡ F (get_or xs i d) → flat_map F (take i xs) ++ y ≡ flat_map F (take (i + 1) xs)
each_next F xs i d y within is =
    ap (λ (zs : List ℕ). flat_map F (take i xs) ++ zs) (is ∙ sym (append-nil (F (get_or xs i d))))
    ∙ sym (flat_map-append F (take i xs) (get_or xs i d ∷ []))
    ∙ ap (flat_map F) (sym (take_more xs i d within))

-- one more element is sent
pub each_more : {X : Type 0} (F : X → List ℕ) (xs : List X) (i : ℕ) (d : X) {a : Option (List ℕ)} {f : ℕ} {h : List ℕ} {b : Option (List ℕ)} {f1 : ℕ} {h1 y : List ℕ} {c : Option (List ℕ)} {f2 : ℕ} {h2 : List ℕ} → i < length xs → y ≡ F (get_or xs i d) → Sent a f h (flat_map F (take i xs)) b f1 h1 → Sent b f1 h1 y c f2 h2 → Sent a f h (flat_map F (take (i + 1) xs)) c f2 h2
each_more F xs i d {a = a} {f = f} {h = h} {y = y} {c = c} {f2 = f2} {h2 = h2} within is s t =
    let P : List ℕ → Type 0 = λ text. Sent a f h text c f2 h2 in
    subst P (each_next F xs i d y within is) (sent_sent s t)

-- nothing is sent yet
pub each_none : {X : Type 0} (F : X → List ℕ) (xs : List X) {a : Option (List ℕ)} {f : ℕ} {h : List ℕ} → Sent a f h (flat_map F (take 0 xs)) a f h
each_none F xs = sent_none

-- all elements are sent, and so many bytes are held
pub each_done : {X E : Type 0} (F : X → List ℕ) (xs : List X) (i n : ℕ) (room : List ℕ) {a : Option (List ℕ)} {f : ℕ} {h : List ℕ} {b : Option (List ℕ)} {f1 : ℕ} → length xs ≤ i → n ≤ length room → Sent a f h (flat_map F (take i xs)) b f1 (take n room) → Puts {E = E} (Ok n) a f h (flat_map F xs) b f1 room
each_done {X} F xs i n room {a} {f} {h} {b} {f1} all fits sent = record {
  ok = record { fits = fits; sent = subst (λ (ys : List X). Sent a f h (flat_map F ys) b f1 (take n room)) (take_all i xs all) sent };
  err = tt;
}

-- an element is cut, and those behind it are lost
pub each_cut : {X : Type 0} (F : X → List ℕ) (xs : List X) (i : ℕ) (d : X) {a : Option (List ℕ)} {f : ℕ} {h : List ℕ} {b : Option (List ℕ)} {f1 : ℕ} {h1 y : List ℕ} {c : Option (List ℕ)} {f2 : ℕ} → i < length xs → y ≡ F (get_or xs i d) → Sent a f h (flat_map F (take i xs)) b f1 h1 → IsCutOff b f1 h1 y c f2 → IsCutOff a f h (flat_map F xs) c f2
each_cut F xs i d {y = y} within is s k =
    let rest : List ℕ = flat_map F (drop (i + 1) xs) in
    let whole : (flat_map F (take i xs) ++ y) ++ rest ≡ flat_map F xs =
    ap (λ (zs : List ℕ). zs ++ rest) (each_next F xs i d y within is)
    ∙ sym (flat_map-append F (take (i + 1) xs) (drop (i + 1) xs))
    ∙ ap (flat_map F) (take-append-drop (i + 1) xs) in
    cut_as whole (cut_more rest (sent_cut s k))
