-- Names that are sorted: two equal ones are neighbours.
use Rattle.rio_model.proofs.Common.{◌≡◌, ℕ, zero, suc, ◌+◌, ◌-◌, ◌*◌, ◌<◌, ◌≤◌, ◌++◌, ◌∙◌, Bool, true, false, cond, List, [], ◌∷◌, refl, sym, ap, subst, arith, length, slice_index, nat_cmp, eq_by_cmp, is_eq, Ordering, Equal, true_false}
use Rattle.std.proofs.Common.{drop, length-append, length-drop, map, take}
use Rattle.std.specs.Prelude.{All, replicate, slice_index_or}
use Rattle.std.specs.declared.cmp.Ordering.TheVariants.{Greater, Less}
use Rattle.std.specs.Cmp.Lexicographic.{nat_list_cmp_total, slice_cmp}
use Rattle.std.specs.List.{range_with_len, sum_by}
use Rattle.std.specs.List.Sorted.{IsPermutation, IsSorted}
use Rattle.std.specs.Ordering.{is_lt, ordering_reverse}
use Rattle.std.proofs.lemmas.Cmp.{tied_itself}
use Rattle.std.proofs.lemmas.List.Elements.{All-head, All-tail}
use Rattle.std.proofs.lemmas.List.FromFn.{get_or-map-range_with_len, length-map-range_with_len, map-range_with_len_more}
use Rattle.std.proofs.lemmas.List.{append-nil, ext_get_or, length-replicate, length-take-le, nil_from_length, take_all}
use Rattle.std.proofs.lemmas.Slice.{put_mid-paste}
use borrow.Rule.Slice.PartMut.{put_mid}
use Rattle.std.proofs.lemmas.List.Sorted.{ranks_by, sorted_far, sum_by-IsPermutation}
use Rattle.std.proofs.lemmas.List.Sums.{sum_by-cons}
use Rattle.std.proofs.lemmas.Map.Lookups.{exact_bytes}
use Rattle.byteorder.specs.Endian.{little_number}
use Rattle.rio_base.specs.Bytes.{bytes_of, word_at}
use Rattle.rio_base.proofs.Bytes.{bytes_read}
use Rattle.rio_model.specs.Paths.{IsName, IsNameByte}
use Rattle.volume_check.specs.Entries.{AllDiffer, name_words, padded}

-- ---- names with zeros behind them

no_zero : (y : ℕ) → IsNameByte y → y ≡ 0 → ⊥
no_zero y b e = let low = b.low in omega (arith, low, e)

no_nil : (y : ℕ) (xs : List ℕ) → [] ≡ y ∷ xs → ⊥
no_nil y xs e = cc

heads : (x y : ℕ) (xs ys : List ℕ) → x ∷ xs ≡ y ∷ ys → x ≡ y
heads x y xs ys e = cc

tails : (x y : ℕ) (xs ys : List ℕ) → x ∷ xs ≡ y ∷ ys → xs ≡ ys
tails x y xs ys e = cc

zeros_first : (n y : ℕ) (xs : List ℕ) → IsNameByte y → replicate n 0 ≡ y ∷ xs → ⊥
zeros_first zero y xs b e = no_nil y xs e
zeros_first (suc n) y xs b e = no_zero y b (sym (heads 0 y (replicate n 0) xs e))

same_padded : (a b : List ℕ) (m n : ℕ) → All IsNameByte a → All IsNameByte b → a ++ replicate m 0 ≡ b ++ replicate n 0 → a ≡ b
same_padded [] [] m n p q e = refl
same_padded [] (y ∷ b) m n p q e = absurd (zeros_first m y (b ++ replicate n 0) (All-head IsNameByte y b q) e)
same_padded (x ∷ a) [] m n p q e = absurd (zeros_first n x (a ++ replicate m 0) (All-head IsNameByte x a p) (sym e))
same_padded (x ∷ a) (y ∷ b) m n p q e =
    let first : x ≡ y = heads x y (a ++ replicate m 0) (b ++ replicate n 0) e in
    let rest : a ≡ b = same_padded a b m n (All-tail IsNameByte x a p) (All-tail IsNameByte y b q) (tails x y (a ++ replicate m 0) (b ++ replicate n 0) e) in
    (λ t. first t ∷ rest t)

pub padded_apart : (a b : List ℕ) → IsName a → IsName b → padded a ≡ padded b → a ≡ b
padded_apart a b p q e = same_padded a b (56 - length a) (56 - length b) p.bytes q.bytes e

-- ---- the words of names

name_fits : (name : List ℕ) (n : ℕ) → All IsNameByte name → (i : ℕ) → slice_index (name ++ replicate n 0) i < 256
name_fits [] n bytes i = zeros n i
  where
    zeros : (n i : ℕ) → slice_index (replicate n 0) i < 256
    zeros zero i = omega arith
    zeros (suc n) zero = omega arith
    zeros (suc n) (suc i) = zeros n i
name_fits (x ∷ name) n bytes zero = let b = All-head IsNameByte x name bytes in let high = b.high in omega (arith, high)
name_fits (x ∷ name) n bytes (suc i) = name_fits name n (All-tail IsNameByte x name bytes) i

pub padded_long : (name : List ℕ) → length name ≤ 56 → length (padded name) ≡ 56
padded_long name few = length-append name (replicate (56 - length name) 0) ∙ (let zeros = length-replicate {A = ℕ} (56 - length name) 0 in omega (arith, zeros, few))

padded_bytes : (name : List ℕ) → IsName name → padded name ≡ bytes_of (name_words name)
padded_bytes name is = bytes_read (padded name) (name_words name) (padded_long name is.few ∙ ap (λ n. 8 * n) (sym long)) (name_fits name (56 - length name) is.bytes) (λ k small. get_or-map-range_with_len (word_at (padded name)) 0 7 k k 0 (subst (λ n. k < n) long small) (omega arith))
  where
    long : length (name_words name) ≡ 7
    long = length-map-range_with_len (word_at (padded name)) 0 7

pub words_apart : (a b : List ℕ) → IsName a → IsName b → name_words a ≡ name_words b → a ≡ b
words_apart a b p q e = padded_apart a b p q (padded_bytes a p ∙ ap bytes_of e ∙ sym (padded_bytes b q))

-- a name that has zeros put behind it
pub padded_made : (bytes fill name : List ℕ) (len : ℕ) → length bytes ≡ 56 → len ≤ 56 → fill ≡ replicate (56 - len) 0 → take len bytes ≡ name → put_mid len (56 - len) bytes fill ≡ padded name
padded_made bytes fill name len long few zeros front =
    put_mid-paste len (56 - len) bytes fill (replicate (56 - len) 0) (56 - len) zeros refl (sym (length-replicate {A = ℕ} (56 - len) 0))
    ∙ ap (λ (xs : List ℕ). take len bytes ++ take (56 - len) (replicate (56 - len) 0) ++ xs) (nil_from_length (drop (len + (56 - len)) bytes) (let rest = length-drop (len + (56 - len)) bytes in omega (arith, rest, long, few)))
    ∙ append-nil (take len bytes ++ take (56 - len) (replicate (56 - len) 0))
    ∙ ap (λ (xs : List ℕ). take len bytes ++ xs) (take_all (56 - len) (replicate (56 - len) 0) (let all = length-replicate {A = ℕ} (56 - len) 0 in omega (arith, all)))
    ∙ ap (λ (xs : List ℕ). xs ++ replicate (56 - len) 0) front
    ∙ ap (λ n. name ++ replicate (56 - n) 0) (sym (length-take-le len bytes (omega (arith, long, few))) ∙ ap length front)

-- made of the bytes
pub words_read : (name bytes dst : List ℕ) → bytes ≡ padded name → length dst ≡ 7 → ((k : ℕ) → k < length dst → slice_index dst k ≡ little_number 8 (drop (8 * k) bytes)) → dst ≡ name_words name
words_read name bytes dst is long read = ext_get_or 0 dst (name_words name) (long ∙ sym (length-map-range_with_len (word_at (padded name)) 0 7)) (λ k small. read k small ∙ ap (λ (bs : List ℕ). word_at bs k) is ∙ sym (get_or-map-range_with_len (word_at (padded name)) 0 7 k k 0 (omega (arith, small, long)) (omega arith)))

-- one name more
pub words_next : (F : ℕ → List ℕ) (k : ℕ) (xs ys : List (List ℕ)) (name : List ℕ) → xs ≡ map F (range_with_len 0 k) → ys ≡ xs ++ name ∷ [] → name ≡ F k → ys ≡ map F (range_with_len 0 (k + 1))
words_next F k xs ys name so more is = more ∙ ap (λ (zs : List (List ℕ)). zs ++ name ∷ []) so ∙ ap (λ n. map F (range_with_len 0 k) ++ n ∷ []) is ∙ sym (map-range_with_len_more F 0 k k (omega arith))

-- ---- the order of words

same : List ℕ → List ℕ → Bool
same x y = eq_by_cmp (slice_cmp nat_cmp) x y

same_itself : (x y : List ℕ) → y ≡ x → same x y ≡ true
unfolding same
same_itself x y e = ap (λ z. eq_by_cmp (slice_cmp nat_cmp) x z) e ∙ ap is_eq (tied_itself nat_list_cmp_total x)

tied : (o : Ordering) → is_eq o ≡ true → o ≡ Equal
tied Less e = absurd (true_false (sym e))
tied Equal e = refl
tied Greater e = absurd (true_false (sym e))

same_is : (x y : List ℕ) → same x y ≡ true → x ≡ y
unfolding same
same_is x y e = exact_bytes x y (tied _ e)

neither : (x z : List ℕ) → is_lt (slice_cmp nat_cmp x z) ≡ false → is_lt (slice_cmp nat_cmp z x) ≡ false → x ≡ z
neither x z p q = exact_bytes x z (by (slice_cmp nat_cmp x z) (slice_cmp nat_cmp z x) (nat_list_cmp_total.antisymm x z) p q)
  where
    by : (a b : Ordering) → a ≡ ordering_reverse b → is_lt a ≡ false → is_lt b ≡ false → a ≡ Equal
    by Less b e p q = absurd (true_false p)
    by Equal b e p q = refl
    by Greater Less e p q = absurd (true_false q)
    by Greater Equal e p q = cc
    by Greater Greater e p q = cc

-- ---- how often a name is among others

hits : List ℕ → List (List ℕ) → ℕ
hits x xs = sum_by (λ y. cond (same x y) 1 0) xs

hits_more : (x y : List ℕ) (ys : List (List ℕ)) → hits x (y ∷ ys) ≡ cond (same x y) 1 0 + hits x ys
unfolding hits
hits_more x y ys = sum_by-cons (λ y. cond (same x y) 1 0) y ys

hits_none : (x : List ℕ) → hits x [] ≡ 0
unfolding hits
hits_none x = refl

hits_moved : (x : List ℕ) (xs ys : List (List ℕ)) → IsPermutation xs ys → hits x ys ≡ hits x xs
unfolding hits
hits_moved x xs ys h = sum_by-IsPermutation (λ y. cond (same x y) 1 0) xs ys h

one_hit : (x : List ℕ) (xs : List (List ℕ)) (i : ℕ) → i < length xs → slice_index_or xs i [] ≡ x → 1 ≤ hits x xs
one_hit x [] i small is = absurd (omega (arith, small))
one_hit x (y ∷ ys) zero small is = let here : cond (same x y) 1 0 ≡ 1 = ap {B = ℕ} (λ (b : Bool). cond b 1 0) (same_itself x y is) in let more = hits_more x y ys in omega (arith, here, more)
one_hit x (y ∷ ys) (suc i) small is = let rest = one_hit x ys i (omega (arith, small)) is in let more = hits_more x y ys in omega (arith, rest, more)

two_hits : (x : List ℕ) (xs : List (List ℕ)) (i j : ℕ) → i < j → j < length xs → slice_index_or xs i [] ≡ x → slice_index_or xs j [] ≡ x → 2 ≤ hits x xs
two_hits x [] i j less small p q = absurd (omega (arith, small))
two_hits x (y ∷ ys) i zero less small p q = absurd (omega (arith, less))
two_hits x (y ∷ ys) zero (suc j) less small p q = let here : cond {A = ℕ} (same x y) 1 0 ≡ 1 = ap {B = ℕ} (λ (b : Bool). cond b 1 0) (same_itself x y p) in let rest = one_hit x ys j (omega (arith, small)) q in let more = hits_more x y ys in omega (arith, here, rest, more)
two_hits x (y ∷ ys) (suc i) (suc j) less small p q = let rest = two_hits x ys i j (omega (arith, less)) (omega (arith, small)) p q in let more = hits_more x y ys in omega (arith, rest, more)

-- a name is at one place, and at another behind it
pub record IsTwice (x : List ℕ) (xs : List (List ℕ)) : Type 0 where
  pub first : ℕ
  pub second : ℕ
  pub less : first < second
  pub within : second < length xs
  pub one : slice_index_or xs first [] ≡ x
  pub other : slice_index_or xs second [] ≡ x

hit_once : (x : List ℕ) (xs : List (List ℕ)) → 1 ≤ hits x xs → (i : ℕ) × (i < length xs) × (slice_index_or xs i [] ≡ x)
hit_once x [] some = absurd (let none = hits_none x in omega (arith, some, none))
hit_once x (y ∷ ys) some = by (same x y) refl (hit_once x ys)
  where
    by : (b : Bool) → same x y ≡ b → (1 ≤ hits x ys → (i : ℕ) × (i < length ys) × (slice_index_or ys i [] ≡ x)) → (i : ℕ) × (i < length (y ∷ ys)) × (slice_index_or (y ∷ ys) i [] ≡ x)
    by true e further = (0, omega arith, sym (same_is x y e))
    by false e further =
        let none : cond (same x y) 1 0 ≡ 0 = ap {B = ℕ} (λ (b : Bool). cond b 1 0) e in
        let more = hits_more x y ys in
        let rest = further (omega (arith, some, more, none)) in
        let small = rest.1 in
        (suc rest.0, omega (arith, small), rest.2)

hit_twice : (x : List ℕ) (xs : List (List ℕ)) → 2 ≤ hits x xs → IsTwice x xs
hit_twice x [] some = absurd (let none = hits_none x in omega (arith, some, none))
hit_twice x (y ∷ ys) some = by (same x y) refl (hit_twice x ys)
  where
    by : (b : Bool) → same x y ≡ b → (2 ≤ hits x ys → IsTwice x ys) → IsTwice x (y ∷ ys)
    by true e further =
        let one : cond (same x y) 1 0 ≡ 1 = ap {B = ℕ} (λ (b : Bool). cond b 1 0) e in
        let more = hits_more x y ys in
        let rest = hit_once x ys (omega (arith, some, more, one)) in
        let small = rest.1 in
        record { first = 0; second = suc rest.0; less = omega arith; within = omega (arith, small); one = sym (same_is x y e); other = rest.2 }
    by false e further =
        let none : cond (same x y) 1 0 ≡ 0 = ap {B = ℕ} (λ (b : Bool). cond b 1 0) e in
        let more = hits_more x y ys in
        let rest = further (omega (arith, some, more, none)) in
        let less = rest.less in
        let within = rest.within in
        record { first = suc rest.first; second = suc rest.second; less = omega (arith, less); within = omega (arith, within); one = rest.one; other = rest.other }

pub twice_moved : (x : List ℕ) (xs ys : List (List ℕ)) → IsPermutation xs ys → IsTwice x xs → IsTwice x ys
twice_moved x xs ys moved h = hit_twice x ys (let many = two_hits x xs h.first h.second h.less h.within h.one h.other in let same = hits_moved x xs ys moved in omega (arith, many, same))

pub twice_back : (x : List ℕ) (xs ys : List (List ℕ)) → IsPermutation xs ys → IsTwice x ys → IsTwice x xs
twice_back x xs ys moved h = hit_twice x xs (let many = two_hits x ys h.first h.second h.less h.within h.one h.other in let same = hits_moved x xs ys moved in omega (arith, many, same))

-- ---- sorted names

-- no name is the one before it
abbrev pub Differ : List (List ℕ) → Type 0
Differ xs = (k : ℕ) → k + 1 < length xs → slice_index_or xs k [] ≡ slice_index_or xs (k + 1) [] → ⊥

sorted_once : (x : List ℕ) (xs : List (List ℕ)) → IsSorted (slice_cmp nat_cmp) xs → Differ xs → IsTwice x xs → ⊥
sorted_once x xs up differ h =
    let less = h.less in
    let within = h.within in
    let next : List ℕ = slice_index_or xs (h.first + 1) [] in
    let low : is_lt (slice_cmp nat_cmp next x) ≡ false = subst (λ y. is_lt (slice_cmp nat_cmp next y) ≡ false) h.one (up h.first [] (omega arith) (omega (arith, less, within))) in
    let high : is_lt (slice_cmp nat_cmp x next) ≡ false = subst (λ y. is_lt (slice_cmp nat_cmp y next) ≡ false) h.other (sorted_far (λ x y. is_lt (slice_cmp nat_cmp x y)) (ranks_by nat_list_cmp_total (λ x. x)) xs up (h.first + 1) h.second [] (omega (arith, less)) within) in
    differ h.first (omega (arith, less, within)) (h.one ∙ neither x next high low)

neighbours_twice : (xs : List (List ℕ)) (k : ℕ) → k + 1 < length xs → slice_index_or xs k [] ≡ slice_index_or xs (k + 1) [] → IsTwice (slice_index_or xs k []) xs
neighbours_twice xs k small e = record { first = k; second = k + 1; less = omega arith; within = small; one = refl; other = sym e }

-- sorted names all differ where neighbours do
pub differ_by : (names sorted : List (List ℕ)) → IsPermutation names sorted → IsSorted (slice_cmp nat_cmp) sorted → Differ sorted → AllDiffer names
differ_by names sorted moved up differ j k less small same = sorted_once (slice_index_or names j []) sorted up differ (twice_moved (slice_index_or names j []) names sorted moved (record { first = j; second = k; less = less; within = small; one = refl; other = sym same }))

pub by_differ : (names sorted : List (List ℕ)) → IsPermutation names sorted → AllDiffer names → Differ sorted
by_differ names sorted moved differ k small same =
    let twice = twice_back (slice_index_or sorted k []) names sorted moved (neighbours_twice sorted k small same) in
    differ twice.first twice.second twice.less twice.within (twice.one ∙ sym twice.other)
