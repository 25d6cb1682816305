-- The blocks that a shrinking node loses: those of its last pages, and its table where that goes.
use Rattle.node_pages.proofs.Common.{◌≡◌, ℕ, zero, suc, ◌+◌, ◌-◌, ◌<◌, ◌≤◌, ◌++◌, Bool, true, false, cond, List, [], ◌∷◌, refl, sym, ap, subst, ◌∙◌, arith, inl, inr, nat_lt, Contains, nat_tests, map-append, get_or-map-range_with_len, length-map-range_with_len, Block, numbers, few_tables, most_tables, Slot, AtPage, AtTable, Placed, HasSlot, pages, tables}
use Rattle.std.proofs.lemmas.List.Elements.{Contains-append_left, Contains-append_right, Contains-append_cases}
use Rattle.rio_model.specs.NodeChanges.{shrunk}
use Rattle.rio_model.proofs.PlacedRules.{cases_lt}
use Rattle.node_pages.specs.LookingUp.{page_blocks}

-- page by page
in_pages : (n : Placed) (first count b : ℕ) → Contains (page_blocks n first count) b → (p : ℕ) × (first ≤ p) × (p < first + count) × (n.block (AtPage p) ≡ b)
in_pages n first count b (k, few, is) =
    let within : k < count = subst (λ m. k < m) (length-map-range_with_len (λ p. n.block (AtPage p)) first count) few in
    (first + k, omega arith, omega (arith, within), sym (get_or-map-range_with_len (λ p. n.block (AtPage p)) first count k (first + k) b within refl) ∙ is)

page_in : (n : Placed) (first count p : ℕ) → first ≤ p → p < first + count → Contains (page_blocks n first count) (n.block (AtPage p))
page_in n first count p low high =
    let within : p - first < count = omega (arith, low, high) in
    let at : first + (p - first) ≡ p = omega (arith, low) in
    (p - first, subst (λ m. p - first < m) (sym (length-map-range_with_len (λ q. n.block (AtPage q)) first count)) within, get_or-map-range_with_len (λ q. n.block (AtPage q)) first count (p - first) p _ within at)

abbrev pub lost_blocks : Placed → ℕ → Bool → List ℕ
lost_blocks n len goes = page_blocks n (pages len) (pages n.size - pages len) ++ cond goes (n.block (AtTable 0) ∷ []) []

one_in : (t b : ℕ) → Contains (t ∷ []) b → t ≡ b
one_in t b (zero, few, is) = is
one_in t b (suc k, few, is) = absurd (omega (arith, few))

pub lost_in : (n : Placed) (len : ℕ) (goes : Bool) → goes ≡ nat_lt (tables len) (tables n.size) → (s : Slot) → HasSlot n s → (HasSlot (shrunk n len) s → ⊥) → Contains (lost_blocks n len goes) (n.block s)
lost_in n len goes is (AtPage p) has out = Contains-append_left (page_blocks n (pages len) (pages n.size - pages len)) (cond goes (n.block (AtTable 0) ∷ []) []) (n.block (AtPage p)) (elim (cases_lt p (pages len)) [
  | inl still ↦ absurd (out (record { used = has.used; within = still.0 }))
  | inr gone ↦ page_in n (pages len) (pages n.size - pages len) p gone.0 (let within : p < pages n.size = has.within in let past = gone.0 in omega (arith, within, past))
])
lost_in n len goes is (AtTable k) has out = Contains-append_right (page_blocks n (pages len) (pages n.size - pages len)) (cond goes (n.block (AtTable 0) ∷ []) []) (n.block (AtTable k)) (elim (cases_lt k (tables len)) [
  | inl still ↦ absurd (out (record { used = has.used; within = still.0 }))
  | inr gone ↦
      let first : k ≡ 0 = (few_tables n.size k has.within).0 in
      let within : k < tables n.size = has.within in
      let past = gone.0 in
      let drops : goes ≡ true = is ∙ less_true _ _ (omega (arith, within, past)) in
      subst (λ t. Contains (cond t (n.block (AtTable 0) ∷ []) []) (n.block (AtTable k))) (sym drops) (0, omega arith, ap (λ x. n.block (AtTable x)) (sym first))
])
  where
    less_true : (a b : ℕ) → a < b → nat_lt a b ≡ true
    less_true a b h = grind (arith, nat_tests, h)

more_true : (a b : ℕ) → nat_lt a b ≡ true → a < b
more_true a b h = grind (arith, nat_tests, h)

-- where a table goes, there was one
pub table_goes : (n : Placed) (len : ℕ) (goes : Bool) → 0 < n.kind → goes ≡ nat_lt (tables len) (tables n.size) → goes ≡ true → HasSlot n (AtTable 0)
table_goes n len goes used is on = record { used = used; within = (let less = more_true _ _ (sym is ∙ on) in omega (arith, less)) }

table_lost : (n : Placed) (len b : ℕ) (goes : Bool) → 0 < n.kind → goes ≡ nat_lt (tables len) (tables n.size) → Contains (cond goes (n.block (AtTable 0) ∷ []) []) b → (s : Slot) × HasSlot n s × (n.block s ≡ b) × (HasSlot (shrunk n len) s → ⊥)
table_lost n len b true used is on =
    let less : tables len < tables n.size = more_true _ _ (sym is) in
    (AtTable 0, record { used = used; within = (let l = less in omega (arith, l)) }, one_in _ b on, (λ h. few (tables len) (tables n.size) less (most_tables n.size) h.within))
  where
    few : (a b : ℕ) → a < b → b ≤ 1 → 0 < a → ⊥
    few a b h k l = omega (arith, h, k, l)
table_lost n len b false used is (k, few, e) = absurd (omega (arith, few))

pub lost_back : (n : Placed) (len b : ℕ) (goes : Bool) → 0 < n.kind → len ≤ n.size → goes ≡ nat_lt (tables len) (tables n.size) → Contains (lost_blocks n len goes) b → (s : Slot) × HasSlot n s × (n.block s ≡ b) × (HasSlot (shrunk n len) s → ⊥)
lost_back n len b goes used le is on = elim (Contains-append_cases (page_blocks n (pages len) (pages n.size - pages len)) _ b on) [
  | inl page ↦ by_page (in_pages n (pages len) (pages n.size - pages len) b page)
  | inr tab ↦ table_lost n len b goes used is tab
]
  where
    by_page : ((p : ℕ) × (pages len ≤ p) × (p < pages len + (pages n.size - pages len)) × (n.block (AtPage p) ≡ b)) → (s : Slot) × HasSlot n s × (n.block s ≡ b) × (HasSlot (shrunk n len) s → ⊥)
    by_page (p, low, high, e) = (AtPage p, record { used = used; within = (let inside : p < pages n.size = omega (arith, low, high, le) in inside) }, e, (λ h. let within : p < pages len = h.within in omega (arith, within, low)))

pub lost_numbers : (n : Placed) (len table : ℕ) (goes : Bool) (xs ys : List Block) → numbers xs ≡ page_blocks n (pages len) (pages n.size - pages len) → ys ≡ xs ++ cond goes (record { 0 = table } ∷ []) [] → (goes ≡ true → table ≡ n.block (AtTable 0)) → numbers ys ≡ lost_blocks n len goes
lost_numbers n len table goes xs ys so is at = ap numbers is ∙ map-append (λ (b : Block). b.0) xs (cond goes (record { 0 = table } ∷ []) []) ∙ ap (λ zs. zs ++ numbers (cond goes (record { 0 = table } ∷ []) [])) so ∙ ap (λ zs. page_blocks n (pages len) (pages n.size - pages len) ++ zs) (tail goes at)
  where
    tail : (t : Bool) → (t ≡ true → table ≡ n.block (AtTable 0)) → numbers (cond t (record { 0 = table } ∷ []) []) ≡ cond t (n.block (AtTable 0) ∷ []) []
    tail true e = ap (λ x. x ∷ []) (e refl)
    tail false e = refl
