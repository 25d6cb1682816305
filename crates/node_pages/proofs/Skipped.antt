-- Free blocks without some of them that are set aside.
use Rattle.node_pages.proofs.Common.{min, ◌≡◌, ◌≢◌, ℕ, zero, suc, ◌+◌, ◌<◌, ◌≤◌, ◌==◌, ◌&&◌, ◌||◌, ◌⊎◌, ◌++◌, Bool, true, false, cond, not, List, [], ◌∷◌, length, take, drop, refl, sym, ap, subst, ◌∙◌, arith, inl, inr, length-drop, nat_lt, slice_index, filter, range_with_len, cases_eq, cases_lt, nat_tests, append-nil, get_or-take, take-append-drop, take_all, length-take, VolumeShape, free_blocks, BlockWords, IsFree, volume_layout, IsMapped}
use Rattle.std.proofs.Common.{length-append, length-take-le}
use Rattle.std.proofs.lemmas.List.{take-append-le, take_more}
use Rattle.rio_base.specs.Bitmap.{is_free}
use Rattle.block_alloc.proofs.Free.{filter_short}
use Rattle.block_alloc.proofs.Ranges.{filter_same}
use Rattle.node_pages.specs.Changes.{Apart, free_beside, is_among}
use Rattle.node_pages.proofs.FreeLists.{Picked, first_apart, is_free_block, picked, rising}

-- ---- one block is among others, or not

pub among_at : (bs : List ℕ) (k b : ℕ) → k < length bs → slice_index bs k ≡ b → is_among bs b ≡ true
among_at [] k b few is = absurd (omega (arith, few))
among_at (c ∷ cs) zero b few is = grind (arith, nat_tests, is)
among_at (c ∷ cs) (suc k) b few is = by (c == b) (is_among cs b) (among_at cs k b (omega (arith, few)) is)
  where
    by : (x y : Bool) → y ≡ true → (x || y) ≡ true
    by true y h = refl
    by false y h = h

pub among_none : (bs : List ℕ) (b : ℕ) → ((k : ℕ) → k < length bs → slice_index bs k ≢ b) → is_among bs b ≡ false
among_none [] b none = refl
among_none (c ∷ cs) b none = by (c == b) (is_among cs b) (differs c b (none 0 (omega arith))) (among_none cs b (λ k few. none (suc k) (omega (arith, few))))
  where
    differs : (c b : ℕ) → c ≢ b → (c == b) ≡ false
    differs c b h = grind (arith, nat_tests, h)

    by : (x y : Bool) → x ≡ false → y ≡ false → (x || y) ≡ false
    by false y hx hy = hy
    by true y hx hy = hx

-- ---- lists filtered

pub filter_append : (p : ℕ → Bool) (xs ys : List ℕ) → filter p (xs ++ ys) ≡ filter p xs ++ filter p ys
filter_append p [] ys = refl
filter_append p (x ∷ xs) ys = by (p x) (filter_append p xs ys)
  where
    by : (t : Bool) → filter p (xs ++ ys) ≡ filter p xs ++ filter p ys → cond t (x ∷ filter p (xs ++ ys)) (filter p (xs ++ ys)) ≡ cond t (x ∷ filter p xs) (filter p xs) ++ filter p ys
    by true e = ap (λ zs. x ∷ zs) e
    by false e = e

pub filter_less : (p : ℕ → Bool) (xs : List ℕ) → length (filter p xs) ≤ length xs
filter_less p [] = omega arith
filter_less p (x ∷ xs) = by (p x) (filter p xs) (filter_less p xs)
  where
    by : (t : Bool) (ys : List ℕ) → length ys ≤ length xs → length (cond t (x ∷ ys) ys) ≤ suc (length xs)
    by true ys h = omega (arith, h)
    by false ys h = omega (arith, h)

pub filter_twice : (p q : ℕ → Bool) (xs : List ℕ) → filter q (filter p xs) ≡ filter (λ b. p b && q b) xs
filter_twice p q [] = refl
filter_twice p q (x ∷ xs) = by (p x) (q x) refl (filter_twice p q xs)
  where
    by : (s t : Bool) → q x ≡ t → filter q (filter p xs) ≡ filter (λ b. p b && q b) xs → filter q (cond s (x ∷ filter p xs) (filter p xs)) ≡ cond (s && t) (x ∷ filter (λ b. p b && q b) xs) (filter (λ b. p b && q b) xs)
    by false t is e = e
    by true true is e = ap (λ c. cond c (x ∷ filter q (filter p xs)) (filter q (filter p xs))) is ∙ ap (λ zs. x ∷ zs) e
    by true false is e = ap (λ c. cond c (x ∷ filter q (filter p xs)) (filter q (filter p xs))) is ∙ e

-- the first n that pass, of a front that has as many
pub front_passes : (p : ℕ → Bool) (n m : ℕ) (xs : List ℕ) → n ≤ length (filter p (take m xs)) → take n (filter p (take m xs)) ≡ take n (filter p xs)
front_passes p n m xs enough = sym (ap (take n) (ap (filter p) (sym (take-append-drop m xs)) ∙ filter_append p (take m xs) (drop m xs)) ∙ take-append-le n (filter p (take m xs)) (filter p (drop m xs)) enough)

-- a front has as many but for those that don't pass at all
pub front_count : (p : ℕ → Bool) (n s : ℕ) (xs : List ℕ) → length (filter p xs) + s ≡ length xs → n + s ≤ length xs → n ≤ length (filter p (take (n + s) xs))
front_count p n s xs all few =
    let parts = ap length (ap (filter p) (sym (take-append-drop (n + s) xs)) ∙ filter_append p (take (n + s) xs) (drop (n + s) xs)) ∙ length-append (filter p (take (n + s) xs)) (filter p (drop (n + s) xs)) in
    let less = filter_less p (drop (n + s) xs) in
    let rest = length-drop (n + s) xs in
    omega (arith, parts, less, rest, all, few)

-- ---- one number fewer

pub one_out : (p q : ℕ → Bool) (c n a : ℕ) → a ≤ c → c < a + n → p c ≡ true → q c ≡ false → ((b : ℕ) → b ≢ c → q b ≡ p b) → length (filter q (range_with_len a n)) + 1 ≡ length (filter p (range_with_len a n))
one_out p q c zero a low high one off same = absurd (omega (arith, low, high))
one_out p q c (suc n) a low high one off same = by (cases_eq a c) (λ past. one_out p q c n (a + 1) past (omega (arith, high)) one off same)
  where
    by : ((a ≡ c) ⊎ (a ≢ c)) → (a + 1 ≤ c → length (filter q (range_with_len (a + 1) n)) + 1 ≡ length (filter p (range_with_len (a + 1) n))) → length (filter q (range_with_len a (suc n))) + 1 ≡ length (filter p (range_with_len a (suc n)))
    by (inl here) rec =
        ap (λ t. length (cond t (a ∷ filter q (range_with_len (a + 1) n)) (filter q (range_with_len (a + 1) n))) + 1) (ap q here ∙ off)
        ∙ ap (λ ys. length ys + 1) (filter_same q p n (a + 1) (record { each = λ i few. same (a + 1 + i) (λ e. omega (arith, e, here)) }))
        ∙ (let more : length (filter p (range_with_len (a + 1) n)) + 1 ≡ suc (length (filter p (range_with_len (a + 1) n))) = omega arith in more)
        ∙ sym (ap (λ t. length (cond t (a ∷ filter p (range_with_len (a + 1) n)) (filter p (range_with_len (a + 1) n)))) (ap p here ∙ one))
    by (inr away) rec =
        ap (λ t. length (cond t (a ∷ filter q (range_with_len (a + 1) n)) (filter q (range_with_len (a + 1) n))) + 1) (same a away)
        ∙ both (p a) (filter q (range_with_len (a + 1) n)) (filter p (range_with_len (a + 1) n)) (rec (omega (arith, low, away)))
      where
        both : (t : Bool) (ys zs : List ℕ) → length ys + 1 ≡ length zs → length (cond t (a ∷ ys) ys) + 1 ≡ length (cond t (a ∷ zs) zs)
        both true ys zs e = omega (arith, e)
        both false ys zs e = e

-- ---- free blocks without these

abbrev pub is_left : VolumeShape → BlockWords → List ℕ → ℕ → Bool
is_left shape f skip b = is_free shape f b && not (is_among skip b)

pub beside_range : (shape : VolumeShape) (f : BlockWords) (skip : List ℕ) → free_beside shape f skip ≡ filter (is_left shape f skip) (range_with_len 0 shape.blocks)
beside_range shape f skip = filter_twice (is_free shape f) (λ b. not (is_among skip b)) (range_with_len 0 shape.blocks)

pub left_free : (shape : VolumeShape) (f : BlockWords) (skip : List ℕ) (b : ℕ) → is_left shape f skip b ≡ true → is_free shape f b ≡ true
left_free shape f skip b h = by (is_free shape f b) (not (is_among skip b)) h
  where
    by : (x y : Bool) → (x && y) ≡ true → x ≡ true
    by true y h = refl
    by false y h = h

free_bit : (shape : VolumeShape) (f : BlockWords) (b : ℕ) → IsMapped shape f → IsFree (volume_layout shape f) b → is_free shape f b ≡ true
free_bit shape f b h free = let none = h.marks.free b free in grind (arith, nat_tests, none)

count_bits : (shape : VolumeShape) (f : BlockWords) (skip : List ℕ) → Apart skip → ((k : ℕ) → k < length skip → (slice_index skip k < shape.blocks) × (is_free shape f (slice_index skip k) ≡ true)) → length (filter (is_left shape f skip) (range_with_len 0 shape.blocks)) + length skip ≡ length (free_blocks shape f)
count_bits shape f [] apart free = (let none : length (filter (is_left shape f []) (range_with_len 0 shape.blocks)) + 0 ≡ length (filter (is_left shape f []) (range_with_len 0 shape.blocks)) = omega arith in none) ∙ ap length (filter_same (is_left shape f []) (is_free shape f) shape.blocks 0 (record { each = λ i few. and_true (is_free shape f (0 + i)) }))
  where
    and_true : (t : Bool) → (t && true) ≡ t
    and_true true = refl
    and_true false = refl
count_bits shape f (c ∷ cs) apart free =
    let rest : length (filter (is_left shape f cs) (range_with_len 0 shape.blocks)) + length cs ≡ length (free_blocks shape f) = count_bits shape f cs (λ s t fs ft e. let up : suc s ≡ suc t = apart (suc s) (suc t) (omega (arith, fs)) (omega (arith, ft)) e in omega (arith, up)) (λ k few. free (suc k) (omega (arith, few))) in
    let first : (c < shape.blocks) × (is_free shape f c ≡ true) = free 0 (omega arith) in
    let none : is_among cs c ≡ false = among_none cs c (λ k few e. let zero_up : suc k ≡ 0 = apart (suc k) 0 (omega (arith, few)) (omega arith) e in omega (arith, zero_up)) in
    let one : length (filter (is_left shape f (c ∷ cs)) (range_with_len 0 shape.blocks)) + 1 ≡ length (filter (is_left shape f cs) (range_with_len 0 shape.blocks)) = one_out (is_left shape f cs) (is_left shape f (c ∷ cs)) c shape.blocks 0 (omega arith) (omega (arith, first.0)) (both_true (is_free shape f c) (is_among cs c) first.1 none) (ends_false (is_free shape f c) (is_among (c ∷ cs) c) (among_at (c ∷ cs) 0 c (omega arith) refl)) (λ b away. ap (λ t. is_free shape f b && not (t || is_among cs b)) (differs c b (λ e. away (sym e)))) in
    omega (arith, rest, one)
  where
    both_true : (x y : Bool) → x ≡ true → y ≡ false → (x && not y) ≡ true
    both_true true false hx hy = refl
    both_true true true hx hy = sym hy
    both_true false y hx hy = absurd cc

    ends_false : (x y : Bool) → y ≡ true → (x && not y) ≡ false
    ends_false true true hy = refl
    ends_false false true hy = refl
    ends_false x false hy = absurd cc

    differs : (c b : ℕ) → c ≢ b → (c == b) ≡ false
    differs c b h = grind (arith, nat_tests, h)

-- as many are free beside these as are free, but for them
pub count_beside : (shape : VolumeShape) (f : BlockWords) (skip : List ℕ) → IsMapped shape f → Apart skip → ((k : ℕ) → k < length skip → IsFree (volume_layout shape f) (slice_index skip k)) → length (free_beside shape f skip) + length skip ≡ length (free_blocks shape f)
count_beside shape f skip h apart free = ap (λ xs. length xs + length skip) (beside_range shape f skip) ∙ count_bits shape f skip apart (λ k few. ((free k few).to, free_bit shape f _ h (free k few)))

range_apart : (p : ℕ → Bool) (n : ℕ) → Apart (filter p (range_with_len 0 n))
range_apart p n s t few_s few_t same = elim (cases_lt s t) [
  | inl below ↦ absurd (let up = rising p n 0 s t below few_t in omega (arith, up, same))
  | inr above ↦ elim (cases_lt t s) [
    | inl over ↦ absurd (let up = rising p n 0 t s over few_s in omega (arith, up, same))
    | inr under ↦ omega (arith, above, under)
  ]
]

-- the lowest of them
pub lowest_left : (shape : VolumeShape) (f : BlockWords) (skip : List ℕ) (n : ℕ) (all left : List ℕ) → IsMapped shape f → Apart skip → ((k : ℕ) → k < length skip → IsFree (volume_layout shape f) (slice_index skip k)) → all ≡ take (n + length skip) (free_blocks shape f) → n + length skip ≤ length (free_blocks shape f) → left ≡ take n (filter (λ b. not (is_among skip b)) all) → left ≡ take n (free_beside shape f skip)
lowest_left shape f skip n all left h apart free is room most = most ∙ ap (λ xs. take n (filter (λ b. not (is_among skip b)) xs)) is ∙ front_passes (λ b. not (is_among skip b)) n (n + length skip) (free_blocks shape f) (front_count (λ b. not (is_among skip b)) n (length skip) (free_blocks shape f) (count_beside shape f skip h apart free) room)

pub left_count : (shape : VolumeShape) (f : BlockWords) (skip : List ℕ) (n : ℕ) (left : List ℕ) → left ≡ take n (free_beside shape f skip) → n ≤ length (free_beside shape f skip) → length left ≡ n
left_count shape f skip n left is room = ap length is ∙ length-take-le n (free_beside shape f skip) room

pub left_apart : (shape : VolumeShape) (f : BlockWords) (skip : List ℕ) (n : ℕ) (left : List ℕ) → left ≡ take n (free_beside shape f skip) → n ≤ length (free_beside shape f skip) → Apart left
left_apart shape f skip n left is room = subst Apart (sym (is ∙ ap (take n) (beside_range shape f skip))) (first_apart n (filter (is_left shape f skip) (range_with_len 0 shape.blocks)) (subst (λ xs. n ≤ length xs) (beside_range shape f skip) room) (range_apart (is_left shape f skip) shape.blocks))

pub left_are_free : (shape : VolumeShape) (f : BlockWords) (skip : List ℕ) (n : ℕ) (left : List ℕ) → IsMapped shape f → left ≡ take n (free_beside shape f skip) → n ≤ length (free_beside shape f skip) → (t : ℕ) → t < n → IsFree (volume_layout shape f) (slice_index left t) × (is_among skip (slice_index left t) ≡ false)
left_are_free shape f skip n left h is room t few =
    let range : List ℕ = filter (is_left shape f skip) (range_with_len 0 shape.blocks) in
    let enough : n ≤ length range = subst (λ xs. n ≤ length xs) (beside_range shape f skip) room in
    let at : slice_index left t ≡ slice_index range t = ap (λ xs. slice_index xs t) (is ∙ ap (take n) (beside_range shape f skip)) ∙ get_or-take n range t 0 few in
    let pick : Picked (is_left shape f skip) 0 shape.blocks (slice_index range t) = picked (is_left shape f skip) shape.blocks 0 t (omega (arith, few, enough)) in
    (subst (IsFree (volume_layout shape f)) (sym at) (is_free_block shape f _ h (let to = pick.to in omega (arith, to)) (left_free shape f skip _ pick.is)), ap (is_among skip) at ∙ left_out (is_free shape f (slice_index range t)) (is_among skip (slice_index range t)) pick.is)
  where
    left_out : (x y : Bool) → (x && not y) ≡ true → y ≡ false
    left_out x false h = refl
    left_out true true h = absurd cc
    left_out false true h = absurd cc

-- ---- one after the other

next_filter : (p : ℕ → Bool) (t : ℕ) (xs : List ℕ) → t < length xs → filter p (take (t + 1) xs) ≡ filter p (take t xs) ++ cond (p (slice_index xs t)) (slice_index xs t ∷ []) []
next_filter p t xs few = ap (filter p) (take_more xs t 0 few) ∙ filter_append p (take t xs) (slice_index xs t ∷ [])

pub left_next : (p : ℕ → Bool) (n t : ℕ) (xs ys : List ℕ) → t < length xs → ys ≡ take n (filter p (take t xs)) → length ys < n → p (slice_index xs t) ≡ true → ys ++ slice_index xs t ∷ [] ≡ take n (filter p (take (t + 1) xs))
left_next p n t xs ys few is short passes = by (filter p (take t xs)) (next_filter p t xs few ∙ ap (λ b. filter p (take t xs) ++ cond b (slice_index xs t ∷ []) []) passes) is
  where
    by : (front : List ℕ) → filter p (take (t + 1) xs) ≡ front ++ slice_index xs t ∷ [] → ys ≡ take n front → ys ++ slice_index xs t ∷ [] ≡ take n (filter p (take (t + 1) xs))
    by front next same =
        let long : length ys ≡ min n (length front) = ap length same ∙ length-take n front in
        let room : length front < n = omega (arith, long, short) in
        ap (λ zs. zs ++ slice_index xs t ∷ []) (same ∙ take_all n front (omega (arith, room))) ∙ sym (ap (take n) next ∙ take_all n (front ++ slice_index xs t ∷ []) (omega (arith, length-append front (slice_index xs t ∷ []), room)))

pub left_stays : (p : ℕ → Bool) (n t : ℕ) (xs ys : List ℕ) → t < length xs → ys ≡ take n (filter p (take t xs)) → (n ≤ length ys) ⊎ (p (slice_index xs t) ≡ false) → ys ≡ take n (filter p (take (t + 1) xs))
left_stays p n t xs ys few is (inr fails) = is ∙ ap (take n) (sym (append-nil (filter p (take t xs))) ∙ ap (λ b. filter p (take t xs) ++ cond b (slice_index xs t ∷ []) []) (sym fails) ∙ sym (next_filter p t xs few))
left_stays p n t xs ys few is (inl full) = is ∙ sym (ap (take n) (next_filter p t xs few) ∙ take-append-le n (filter p (take t xs)) (cond (p (slice_index xs t)) (slice_index xs t ∷ []) []) (let long : length ys ≡ min n (length (filter p (take t xs))) = ap length is ∙ length-take n (filter p (take t xs)) in omega (arith, long, full)))

pub left_more : (p : ℕ → Bool) (n t : ℕ) (xs ys zs : List ℕ) → t < length xs → ys ≡ take n (filter p (take t xs)) → zs ≡ ys ++ cond (nat_lt (length ys) n && p (slice_index xs t)) (slice_index xs t ∷ []) [] → zs ≡ take n (filter p (take (t + 1) xs))
left_more p n t xs ys zs few is more = by (cases_lt (length ys) n) (p (slice_index xs t)) refl
  where
    less : length ys < n → nat_lt (length ys) n ≡ true
    less h = grind (arith, nat_tests, h)

    full : n ≤ length ys → nat_lt (length ys) n ≡ false
    full h = grind (arith, nat_tests, h)

    both : (b q : Bool) → nat_lt (length ys) n ≡ b → p (slice_index xs t) ≡ q → zs ≡ ys ++ cond (b && q) (slice_index xs t ∷ []) []
    both b q eb eq = more ∙ (λ r. ys ++ cond (eb r && eq r) (slice_index xs t ∷ []) [])

    by : ((length ys < n) ⊎ (n ≤ length ys)) → (q : Bool) → p (slice_index xs t) ≡ q → zs ≡ take n (filter p (take (t + 1) xs))
    by (inl short) true e = both true true (less short) e ∙ left_next p n t xs ys few is short e
    by (inl short) false e = both true false (less short) e ∙ append-nil ys ∙ left_stays p n t xs ys few is (inr e)
    by (inr enough) q e = both false q (full enough) e ∙ append-nil ys ∙ left_stays p n t xs ys few is (inl enough)

-- blocks set aside are few
pub skip_few : (shape : VolumeShape) (f : BlockWords) (skip : List ℕ) → IsMapped shape f → Apart skip → ((k : ℕ) → k < length skip → IsFree (volume_layout shape f) (slice_index skip k)) → length skip ≤ shape.blocks
skip_few shape f skip h apart free = let all = count_beside shape f skip h apart free in let few = filter_short (is_free shape f) shape.blocks 0 in omega (arith, all, few)
