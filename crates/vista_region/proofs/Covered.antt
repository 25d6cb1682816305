-- A data word is in a range of the transaction exactly where a record covers its place.
use Rattle.vista_region.proofs.Common.{◌≡◌, ℕ, zero, suc, ◌+◌, ◌-◌, ◌<◌, ◌≤◌, ◌⊎◌, inl, inr, ◌++◌, Bool, true, false, cond, ◌&&◌, nat_lt, Option, Some, None, List, [], ◌∷◌, length, refl, sym, ap, ◌∙◌, arith, is_some, nat_tests, true_false, CoversAll}
use Rattle.std.proofs.Common.{◌||◌, nat_le}
use Rattle.std.specs.Prelude.{max, slice_index}
use Rattle.rio_model.specs.Undo.{UndoRecord, covers, first_some, is_covered, own_word, saved_word}
use Rattle.rio_requests.specs.RegionAnswers.{all_in_range, in_range}
use Rattle.vista_region.specs.Regions.{range_of, ranges_of}

or_assoc : (a b c : Bool) → (a || (b || c)) ≡ ((a || b) || c)
or_assoc true b c = refl
or_assoc false b c = refl

in_both : (xs ys : List (ℕ × ℕ)) (w : ℕ) → in_range (xs ++ ys) w ≡ (in_range xs w || in_range ys w)
in_both [] ys w = refl
in_both (x ∷ xs) ys w = ap (λ b. (nat_le x.0 w && nat_lt w (x.0 + x.1)) || b) (in_both xs ys w) ∙ or_assoc (nat_le x.0 w && nat_lt w (x.0 + x.1)) (in_range xs w) (in_range ys w)

covered_more : (r : UndoRecord) (older : List UndoRecord) (q : ℕ) → is_covered (r ∷ older) q ≡ (is_covered older q || covers r q)
unfolding own_word
covered_more r older q = by (saved_word older q) (covers r q)
  where
    by : (o : Option ℕ) (b : Bool) → is_some (first_some o (cond b (Some (slice_index r.old (q - r.first))) None)) ≡ (is_some o || b)
    by (Some v) b = refl
    by None true = refl
    by None false = refl

-- ---- the range of one record

-- a record of words of the heap map alone
pub range_of_map : (from : ℕ) (r : UndoRecord) → r.first < from → r.first + length r.old ≤ from → range_of from r ≡ []
range_of_map from r low high =
    let test : (nat_lt r.first from && nat_le (r.first + length r.old) from) ≡ true = grind (arith, nat_tests) in
    ap (λ b. cond b [] ((r.first - from, r.first + length r.old - max r.first from) ∷ [])) test

range_here : (from : ℕ) (r : UndoRecord) → (from ≤ r.first) ⊎ (from < r.first + length r.old) → range_of from r ≡ (r.first - from, r.first + length r.old - max r.first from) ∷ []
range_here from r h = ap (λ b. cond b [] ((r.first - from, r.first + length r.old - max r.first from) ∷ [])) (test h)
  where
    test : (from ≤ r.first) ⊎ (from < r.first + length r.old) → (nat_lt r.first from && nat_le (r.first + length r.old) from) ≡ false
    test (inl a) = grind (arith, nat_tests)
    test (inr a) = grind (arith, nat_tests)

pub range_of_data : (from o : ℕ) (r : UndoRecord) → r.first ≡ from + o → range_of from r ≡ (o, length r.old) ∷ []
range_of_data from o r e =
    let first : r.first - from ≡ o = omega (arith, e) in
    let many : r.first + length r.old - max r.first from ≡ length r.old = omega (arith, e) in
    range_here from r (inl (omega (arith, e))) ∙ (λ q. (first q, many q) ∷ [])

in_own : (from : ℕ) (r : UndoRecord) (w : ℕ) → in_range (range_of from r) w ≡ covers r (from + w)
in_own from r w = by (grind arith)
  where
    first : ℕ
    first = r.first

    many : ℕ
    many = length r.old

    out : (from + w < first) ⊎ (first + many ≤ from + w) → covers r (from + w) ≡ false
    out (inl h) = grind (arith, nat_tests)
    out (inr h) = grind (arith, nat_tests)

    far : (a b : ℕ) → (w < a) ⊎ (a + b ≤ w) → in_range ((a, b) ∷ []) w ≡ false
    far a b (inl h) = grind (arith, nat_tests)
    far a b (inr h) = grind (arith, nat_tests)

    near : (a b : ℕ) → a ≤ w → w < a + b → in_range ((a, b) ∷ []) w ≡ true
    near a b low high = grind (arith, nat_tests)

    inner : first ≤ from + w → from + w < first + many → covers r (from + w) ≡ true
    inner low high = grind (arith, nat_tests)

    by : ((first < from) × (first + many ≤ from)) ⊎ ((((from ≤ first) ⊎ (from < first + many)) × ((from + w < first) ⊎ (first + many ≤ from + w))) ⊎ (((from ≤ first) ⊎ (from < first + many)) × (first ≤ from + w) × (from + w < first + many))) → in_range (range_of from r) w ≡ covers r (from + w)
    by (inl h) = ap (λ xs. in_range xs w) (range_of_map from r h.0 h.1) ∙ sym (out (inr (omega (arith, h.1))))
    by (inr (inl h)) = ap (λ xs. in_range xs w) (range_here from r h.0) ∙ far (first - from) (first + many - max first from) (past h.0 h.1) ∙ sym (out h.1)
      where
        past : (from ≤ first) ⊎ (from < first + many) → (from + w < first) ⊎ (first + many ≤ from + w) → (w < first - from) ⊎ (first - from + (first + many - max first from) ≤ w)
        past a (inl b) = inl (omega (arith, b))
        past a (inr b) = inr (omega (arith, b))
    by (inr (inr h)) = ap (λ xs. in_range xs w) (range_here from r h.0) ∙ near (first - from) (first + many - max first from) (omega (arith, h.1)) (omega (arith, h.1, h.2)) ∙ sym (inner h.1 h.2)

-- ---- the ranges of all

pub in_ranges : (from : ℕ) (records : List UndoRecord) (w : ℕ) → in_range (ranges_of from records) w ≡ is_covered records (from + w)
in_ranges from [] w = refl
in_ranges from (r ∷ older) w =
    in_both (ranges_of from older) (range_of from r) w
    ∙ ap (λ b. b || in_range (range_of from r) w) (in_ranges from older w)
    ∙ ap (λ b. is_covered older (from + w) || b) (in_own from r w)
    ∙ sym (covered_more r older (from + w))

and_true : (a b : Bool) → a ≡ true → b ≡ true → (a && b) ≡ true
and_true a b x y = ap (λ c. c && b) x ∙ y

of_and : (a b : Bool) → (a && b) ≡ true → (a ≡ true) × (b ≡ true)
of_and true b e = (refl, e)
of_and false b e = absurd (true_false (sym e))

pub all_in : (from : ℕ) (records : List UndoRecord) (w n : ℕ) → CoversAll records (from + w) n → all_in_range (ranges_of from records) w n ≡ true
all_in from records w zero c = refl
all_in from records w (suc n) c = and_true (in_range (ranges_of from records) w) (all_in_range (ranges_of from records) (w + 1) n) (in_ranges from records w ∙ c (from + w) (omega arith) (omega arith)) (all_in from records (w + 1) n (λ q low high. c q (omega (arith, low)) (omega (arith, high))))

all_of : (from : ℕ) (records : List UndoRecord) (w n : ℕ) → all_in_range (ranges_of from records) w n ≡ true → CoversAll records (from + w) n
all_of from records w zero e = λ q low high. absurd (omega (arith, low, high))
all_of from records w (suc n) e = λ q low high. by q low high (grind (arith, low)) (λ next. all_of from records (w + 1) n parts.1 q (omega (arith, next)) (omega (arith, high)))
  where
    parts : (in_range (ranges_of from records) w ≡ true) × (all_in_range (ranges_of from records) (w + 1) n ≡ true)
    parts = of_and (in_range (ranges_of from records) w) (all_in_range (ranges_of from records) (w + 1) n) e

    by : (q : ℕ) → from + w ≤ q → q < from + w + suc n → (from + w ≡ q) ⊎ (from + w < q) → (from + w < q → is_covered records q ≡ true) → is_covered records q ≡ true
    by q low high (inl here) more = ap (is_covered records) (sym here) ∙ sym (in_ranges from records w) ∙ parts.0
    by q low high (inr later) more = more later

pub not_all_in : (from : ℕ) (records : List UndoRecord) (w n : ℕ) → (CoversAll records (from + w) n → ⊥) → all_in_range (ranges_of from records) w n ≡ false
not_all_in from records w n none = by (all_in_range (ranges_of from records) w n) refl
  where
    by : (b : Bool) → all_in_range (ranges_of from records) w n ≡ b → b ≡ false
    by true e = absurd (none (all_of from records w n e))
    by false e = refl
