-- The valid dirty entries in order: those among the first i are a front of all of them.
use Rattle.std.specs.Prelude.{◌≡◌, ◌⊎◌, ℕ, zero, suc, ◌+◌, ◌-◌, ◌<◌, ◌≤◌, Bool, true, false, List, [], ◌∷◌, ◌++◌, cond, map, filter, length, slice_index, refl}
use Rattle.std.specs.List.{range_with_len}
use Rattle.std.proofs.Common.{◌∙◌, ap, sym, subst, inl, inr, arith}
use Rattle.std.proofs.lemmas.Bool.{cases_Bool}
use Rattle.std.proofs.lemmas.List.{append-nil, append_assoc, get_or_append_left, get_or_push, length-append, map-id}
use Rattle.std.proofs.lemmas.List.FromFn.{filter_of_map_range_with_len_more}
use Rattle.write_back.specs.Flushing.{dirty_before, needs_write}

-- what entry i adds
abbrev added : Bool → ℕ → List ℕ
added true i = i ∷ []
added false i = []

pub before_none : (words : List ℕ) → dirty_before words 0 ≡ []
unfolding dirty_before
before_none words = refl

before_more : (words : List ℕ) (i : ℕ) → dirty_before words (i + 1) ≡ dirty_before words i ++ added (needs_write words i) i
unfolding dirty_before
before_more words i = ap (filter (needs_write words)) (sym (map-id (range_with_len 0 (i + 1)))) ∙ filter_of_map_range_with_len_more (needs_write words) (λ x. x) 0 i i (omega arith) ∙ joined
  where
    one : (b : Bool) → cond b (i ∷ []) [] ≡ added b i
    one true = refl
    one false = refl

    joined : filter (needs_write words) (map (λ x. x) (range_with_len 0 i)) ++ cond (needs_write words i) (i ∷ []) [] ≡ filter (needs_write words) (range_with_len 0 i) ++ added (needs_write words i) i
    joined = rw (map-id (range_with_len 0 i), one (needs_write words i)) refl

pub before_with : (words : List ℕ) (i : ℕ) → needs_write words i ≡ true → dirty_before words (i + 1) ≡ dirty_before words i ++ i ∷ []
before_with words i e = before_more words i ∙ ap (λ b. dirty_before words i ++ added b i) e

pub before_without : (words : List ℕ) (i : ℕ) → needs_write words i ≡ false → dirty_before words (i + 1) ≡ dirty_before words i
before_without words i e = before_more words i ∙ ap (λ b. dirty_before words i ++ added b i) e ∙ append-nil (dirty_before words i)

small_next : (words : List ℕ) (i : ℕ) → length (dirty_before words i) ≤ i → (needs_write words i ≡ true) ⊎ (needs_write words i ≡ false) → length (dirty_before words (i + 1)) ≤ i + 1
small_next words i h (inl e) = omega (arith, h, ap length (before_with words i e), length-append (dirty_before words i) (i ∷ []))
small_next words i h (inr e) = omega (arith, h, ap length (before_without words i e))

pub before_small : (words : List ℕ) (i : ℕ) → length (dirty_before words i) ≤ i
before_small words zero = omega (arith, ap length (before_none words))
before_small words (suc i) =
    let e : suc i ≡ i + 1 = omega arith in
    subst (λ n. length (dirty_before words n) ≤ n) (sym e) (small_next words i (before_small words i) (cases_Bool (needs_write words i)))

-- those among the first i are a front
front : (words : List ℕ) (i d : ℕ) → (rest : List ℕ) × (dirty_before words (i + d) ≡ dirty_before words i ++ rest)
front words i zero = ([], ap (dirty_before words) (omega arith) ∙ sym (append-nil (dirty_before words i)))
front words i (suc d) =
    let earlier = front words i d in
    let more = added (needs_write words (i + d)) (i + d) in
    (earlier.0 ++ more, ap (dirty_before words) (omega arith) ∙ before_more words (i + d) ∙ ap (λ l. l ++ more) earlier.1 ∙ append_assoc (dirty_before words i) earlier.0 more)

pub front_of_all : (words : List ℕ) (i n : ℕ) → i ≤ n → (rest : List ℕ) × (dirty_before words n ≡ dirty_before words i ++ rest)
front_of_all words i n le =
    let f = front words i (n - i) in
    (f.0, ap (dirty_before words) (omega (arith, le)) ∙ f.1)

pub front_length : (words : List ℕ) (i n : ℕ) → i ≤ n → length (dirty_before words i) ≤ length (dirty_before words n)
front_length words i n le =
    let f = front_of_all words i n le in
    omega (arith, ap length f.1, length-append (dirty_before words i) f.0)

pub front_at : (words : List ℕ) (i n x : ℕ) → i ≤ n → x < length (dirty_before words i) → slice_index (dirty_before words n) x ≡ slice_index (dirty_before words i) x
front_at words i n x le less =
    let f = front_of_all words i n le in
    ap (λ (l : List ℕ). slice_index l x) f.1 ∙ get_or_append_left (dirty_before words i) f.0 0 x less

-- a dirty entry stands behind those before it
pub dirty_at : (words : List ℕ) (i n : ℕ) → i < n → needs_write words i ≡ true → slice_index (dirty_before words n) (length (dirty_before words i)) ≡ i
dirty_at words i n less e =
    let now = before_with words i e in
    front_at words (i + 1) n (length (dirty_before words i)) (omega (arith, less)) (omega (arith, ap length now, length-append (dirty_before words i) (i ∷ [])))
    ∙ ap (λ (l : List ℕ). slice_index l (length (dirty_before words i))) now ∙ get_or_push (dirty_before words i) i 0 _ refl

-- the number at place x is below n, and that of a dirty entry
abbrev DirtyAt : List ℕ → List ℕ → ℕ → ℕ → Type 0
DirtyAt words l x n = (slice_index l x < n) × (needs_write words (slice_index l x) ≡ true)

member_pushed : (words l : List ℕ) (i x : ℕ) → needs_write words i ≡ true → (x < length l → DirtyAt words l x i) → (x < length l) ⊎ (x ≡ length l) → DirtyAt words (l ++ i ∷ []) x (i + 1)
member_pushed words l i x e was (inl less) =
    let w = was less in
    let same = get_or_append_left l (i ∷ []) 0 x less in
    (omega (arith, w.0, same), ap (needs_write words) same ∙ w.1)
member_pushed words l i x e was (inr last) =
    let same = get_or_push l i 0 x (sym last) in
    (omega (arith, same), ap (needs_write words) same ∙ e)

member_next : (words : List ℕ) (i x : ℕ) → (x < length (dirty_before words i) → DirtyAt words (dirty_before words i) x i) → x < length (dirty_before words (i + 1)) → (needs_write words i ≡ true) ⊎ (needs_write words i ≡ false)
    → DirtyAt words (dirty_before words (i + 1)) x (i + 1)
member_next words i x was less (inl e) =
    let now = before_with words i e in
    subst (λ (l : List ℕ). DirtyAt words l x (i + 1)) (sym now) (member_pushed words (dirty_before words i) i x e was (place (omega (arith, less, ap length now, length-append (dirty_before words i) (i ∷ [])))))
  where
    place : x ≤ length (dirty_before words i) → (x < length (dirty_before words i)) ⊎ (x ≡ length (dirty_before words i))
    place le = grind arith
member_next words i x was less (inr e) =
    let now = before_without words i e in
    let w = was (subst (λ (l : List ℕ). x < length l) now less) in
    subst (λ (l : List ℕ). DirtyAt words l x (i + 1)) (sym now) (omega (arith, w.0), w.1)

-- each of them is an entry, and dirty
pub dirty_member : (words : List ℕ) (i x : ℕ) → x < length (dirty_before words i) → DirtyAt words (dirty_before words i) x i
dirty_member words zero x less = absurd (omega (arith, less, ap length (before_none words)))
dirty_member words (suc i) x less =
    let e : suc i ≡ i + 1 = omega arith in
    subst (λ n. DirtyAt words (dirty_before words n) x n) (sym e) (member_next words i x (dirty_member words i x) (subst (λ n. x < length (dirty_before words n)) e less) (cases_Bool (needs_write words i)))
