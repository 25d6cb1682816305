-- Marks of pending blocks, and the list of those that are marked.
use Rattle.std.specs.List.{list_any}
use Rattle.std.proofs.Common.{◌≡◌, ◌≢◌, ◌<◌, ◌≤◌, ◌+◌, ◌==◌, ◌||◌, ℕ, zero, suc, Bool, true, false, List, [], ◌∷◌, ◌++◌, length, get_or, set, slice_index, replicate, ◌⊎◌, refl, sym, ap, subst, ◌∙◌, arith, inl, inr, eqb-true, get_or-set_same, get_or-set_other}
use Rattle.std.proofs.lemmas.Bool.{cases_Bool, cases_eq, cases_lt, eq-eqb, ne_eqb}
use Rattle.std.proofs.lemmas.List.{ext_get_or, get_or-replicate, get_or_past, get_or_read, length-replicate, length-set, length_push}
use Rattle.rio_base.specs.Disks.{is_pending}
use Rattle.rio_base.specs.Rules.{true_false}
use Rattle.block_disk.specs.BlockLists.{Lists, marked}

-- a marked block is one of the blocks
pub within_marks : (pending : List Bool) (b : ℕ) → is_pending pending b ≡ true → b < length pending
within_marks pending b e = from (cases_lt b (length pending))
  where
    from : (b < length pending) ⊎ (length pending ≤ b) → b < length pending
    from (inl less) = less
    from (inr past) = absurd (true_false (sym e ∙ get_or_past pending b false past))

-- ---- how many marks are set

marked_most : (pending : List Bool) → marked pending ≤ length pending
unfolding marked
marked_most [] = omega arith
marked_most (true ∷ pending) = omega (arith, marked_most pending)
marked_most (false ∷ pending) = omega (arith, marked_most pending)

marked_less : (pending : List Bool) (b : ℕ) → b < length pending → is_pending pending b ≡ false → marked pending < length pending
unfolding marked
marked_less [] b h e = absurd (omega (arith, h))
marked_less (true ∷ pending) zero h e = absurd (true_false e)
marked_less (false ∷ pending) zero h e = omega (arith, marked_most pending)
marked_less (true ∷ pending) (suc b) h e = omega (arith, marked_less pending b (omega (arith, h)) e)
marked_less (false ∷ pending) (suc b) h e = omega (arith, marked_less pending b (omega (arith, h)) e)

marked_more : (pending : List Bool) (b : ℕ) → b < length pending → is_pending pending b ≡ false → marked (set pending b true) ≡ marked pending + 1
unfolding marked
marked_more [] b h e = absurd (omega (arith, h))
marked_more (true ∷ pending) zero h e = absurd (true_false e)
marked_more (false ∷ pending) zero h e = omega arith
marked_more (true ∷ pending) (suc b) h e = omega (arith, marked_more pending b (omega (arith, h)) e)
marked_more (false ∷ pending) (suc b) h e = omega (arith, marked_more pending b (omega (arith, h)) e)

marked_none : (n : ℕ) → marked (replicate n false) ≡ 0
unfolding marked
marked_none zero = refl
marked_none (suc n) = omega (arith, marked_none n)

-- ---- numbers in a list

or_right : (a b : Bool) → b ≡ true → (a || b) ≡ true
or_right true b e = refl
or_right false b e = e

or_parts : (a b : Bool) → (a || b) ≡ true → (a ≡ true) ⊎ (b ≡ true)
or_parts true b e = inl refl
or_parts false b e = inr e

any_at : (numbers : List ℕ) (i : ℕ) → i < length numbers → list_any (λ n. n == slice_index numbers i) numbers ≡ true
any_at [] i h = absurd (omega (arith, h))
any_at (x ∷ xs) zero h = ap (λ t. t || list_any (λ n. n == x) xs) (eq-eqb x x refl)
any_at (x ∷ xs) (suc i) h = or_right (x == slice_index xs i) (list_any (λ n. n == slice_index xs i) xs) (any_at xs i (omega (arith, h)))

at_any : (numbers : List ℕ) (b : ℕ) → list_any (λ n. n == b) numbers ≡ true → (i : ℕ) × (i < length numbers) × (slice_index numbers i ≡ b)
at_any [] b e = absurd (true_false (sym e))
at_any (x ∷ xs) b e = from (or_parts (x == b) (list_any (λ n. n == b) xs) e) (at_any xs b)
  where
    from : ((x == b) ≡ true) ⊎ (list_any (λ n. n == b) xs ≡ true) → (list_any (λ n. n == b) xs ≡ true → (i : ℕ) × (i < length xs) × (slice_index xs i ≡ b)) → (i : ℕ) × (i < length (x ∷ xs)) × (slice_index (x ∷ xs) i ≡ b)
    from (inl q) rest = (zero, omega arith, eqb-true x b q)
    from (inr q) rest = let f = rest q in (suc f.0, omega (arith, f.1), f.2)

any_push : (numbers : List ℕ) (b c : ℕ) → list_any (λ n. n == c) (numbers ++ b ∷ []) ≡ (list_any (λ n. n == c) numbers || (b == c))
any_push [] b c = by_test (b == c)
  where
    by_test : (t : Bool) → (t || false) ≡ t
    by_test true = refl
    by_test false = refl
any_push (x ∷ xs) b c = by_test (x == c) (any_push xs b c)
  where
    by_test : (t : Bool) → list_any (λ n. n == c) (xs ++ b ∷ []) ≡ (list_any (λ n. n == c) xs || (b == c)) → (t || list_any (λ n. n == c) (xs ++ b ∷ [])) ≡ ((t || list_any (λ n. n == c) xs) || (b == c))
    by_test true e = refl
    by_test false e = e

-- ---- the list of the pending blocks

pub listed : (numbers : List ℕ) (pending : List Bool) → Lists numbers pending → (i : ℕ) → i < length numbers → is_pending pending (slice_index numbers i) ≡ true
listed numbers pending l i h = l.each (slice_index numbers i) ∙ any_at numbers i h

pub found : (numbers : List ℕ) (pending : List Bool) → Lists numbers pending → (b : ℕ) → is_pending pending b ≡ true → (i : ℕ) × (i < length numbers) × (slice_index numbers i ≡ b)
found numbers pending l b e = at_any numbers b (sym (l.each b) ∙ e)

pub listed_within : (numbers : List ℕ) (pending : List Bool) → Lists numbers pending → (i : ℕ) → i < length numbers → slice_index numbers i < length pending
listed_within numbers pending l i h = within_marks pending (slice_index numbers i) (listed numbers pending l i h)

-- a mark that was read
pub mark_read : (pending : List Bool) (b : ℕ) (mark : Bool) → b < length pending → mark ≡ get_or pending b mark → mark ≡ false → is_pending pending b ≡ false
mark_read pending b mark h e clear = sym (get_or_read pending b mark h e false) ∙ clear

none_pending : (n b : ℕ) → is_pending (replicate n false) b ≡ false
none_pending n b = from (cases_lt b n)
  where
    from : (b < n) ⊎ (n ≤ b) → is_pending (replicate n false) b ≡ false
    from (inl less) = get_or-replicate n b false false less
    from (inr past) = get_or_past (replicate n false) b false (omega (arith, past, length-replicate n false))

pub lists_none : (n : ℕ) → Lists [] (replicate n false)
lists_none n = record { each = λ b. none_pending n b; once = sym (marked_none n) }

pub lists_clear : (n : ℕ) (numbers : List ℕ) (pending : List Bool) → numbers ≡ [] → pending ≡ replicate n false → Lists numbers pending
lists_clear n numbers pending none clear = subst (λ (ns : List ℕ). Lists ns pending) (sym none) (subst (λ (ps : List Bool). Lists [] ps) (sym clear) (lists_none n))

-- there is room for one more
pub lists_room : (numbers : List ℕ) (pending : List Bool) (b : ℕ) → Lists numbers pending → b < length pending → is_pending pending b ≡ false → length numbers < length pending
lists_room numbers pending b l h e = omega (arith, l.once, marked_less pending b h e)

-- one block more is marked
pub lists_more : (numbers : List ℕ) (pending : List Bool) (b : ℕ) → Lists numbers pending → b < length pending → is_pending pending b ≡ false → Lists (numbers ++ b ∷ []) (set pending b true)
lists_more numbers pending b l h e = record {
  each = λ c. at c (cases_eq c b) ∙ sym (any_push numbers b c);
  once = length_push numbers b ∙ ap (λ n. n + 1) l.once ∙ sym (marked_more pending b h e);
}
  where
    or_false : (t : Bool) → (t || false) ≡ t
    or_false true = refl
    or_false false = refl

    at : (c : ℕ) → (c ≡ b) ⊎ (c ≢ b) → is_pending (set pending b true) c ≡ (list_any (λ n. n == c) numbers || (b == c))
    at c (inl is) = subst (λ k. is_pending (set pending b true) k ≡ (list_any (λ n. n == k) numbers || (b == k))) (sym is) (get_or-set_same pending b true false h ∙ sym (or_right (list_any (λ n. n == b) numbers) (b == b) (eq-eqb b b refl)))
    at c (inr ne) = get_or-set_other pending b c true false ne ∙ l.each c ∙ sym (or_false (list_any (λ n. n == c) numbers)) ∙ ap (λ t. list_any (λ n. n == c) numbers || t) (sym (ne_eqb b c (λ q. ne (sym q))))

-- ---- marks that are taken away

pub clear_stays : (pending : List Bool) (b c : ℕ) → is_pending pending c ≡ false → is_pending (set pending b false) c ≡ false
clear_stays pending b c e = from (cases_eq c b) (cases_lt c (length pending))
  where
    from : (c ≡ b) ⊎ (c ≢ b) → (c < length pending) ⊎ (length pending ≤ c) → is_pending (set pending b false) c ≡ false
    from (inl is) (inl less) = subst (λ k. is_pending (set pending k false) c ≡ false) is (get_or-set_same pending c false false less)
    from (inl is) (inr past) = get_or_past (set pending b false) c false (omega (arith, past, length-set pending b false))
    from (inr ne) _ = get_or-set_other pending b c false false ne ∙ e

pub clear_next : (numbers : List ℕ) (i : ℕ) (now new : List Bool) → slice_index numbers i < length now → ((j : ℕ) → j < i → is_pending now (slice_index numbers j) ≡ false) → new ≡ set now (slice_index numbers i) false → (j : ℕ) → j < i + 1 → is_pending new (slice_index numbers j) ≡ false
clear_next numbers i now new within before e j less = ap (λ (marks : List Bool). is_pending marks (slice_index numbers j)) e ∙ from (cases_eq j i)
  where
    from : (j ≡ i) ⊎ (j ≢ i) → is_pending (set now (slice_index numbers i) false) (slice_index numbers j) ≡ false
    from (inl is) = subst (λ k. is_pending (set now (slice_index numbers i) false) (slice_index numbers k) ≡ false) (sym is) (get_or-set_same now (slice_index numbers i) false false within)
    from (inr ne) = clear_stays now (slice_index numbers i) (slice_index numbers j) (before j (omega (arith, less, ne)))

-- once each listed mark is taken away, none is set
pub none_left : (numbers : List ℕ) (old new : List Bool) → Lists numbers old → length new ≡ length old → ((i : ℕ) → i < length numbers → is_pending new (slice_index numbers i) ≡ false) → ((b : ℕ) → is_pending old b ≡ false → is_pending new b ≡ false) → new ≡ replicate (length old) false
none_left numbers old new l count cleared unmarked = ext_get_or false new (replicate (length old) false) (count ∙ sym (length-replicate (length old) false)) (λ b h. at b (cases_Bool (is_pending old b)) ∙ sym (get_or-replicate (length old) b false false (omega (arith, h, count))))
  where
    at : (b : ℕ) → (is_pending old b ≡ true) ⊎ (is_pending old b ≡ false) → is_pending new b ≡ false
    at b (inl e) = let f = found numbers old l b e in subst (λ k. is_pending new k ≡ false) f.2 (cleared f.0 f.1)
    at b (inr e) = unmarked b e
