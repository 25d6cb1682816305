-- The free blocks are as many as the volume has past the reserved ones and those of all nodes.
use Rattle.rio_model.proofs.Common.{◌≡◌, ◌≢◌, ℕ, zero, suc, ◌+◌, ◌-◌, ◌<◌, ◌≤◌, ◌==◌, ◌&&◌, Bool, true, false, cond, List, [], ◌∷◌, ◌++◌, map, refl, sym, ap, subst, ◌∙◌, arith, inl, inr, nat_lt, not, if◌then◌else◌, sum, range_with_len, cases_eq, nat_tests, true_false, VolumeShape, used_bit, BlockWords, IsIno, reserved}
use Rattle.std.proofs.Common.{length}
use Rattle.std.specs.Prelude.{min}
use Rattle.std.specs.List.{filter}
use Rattle.std.proofs.lemmas.List.Filters.{length-filter_both}
use Rattle.std.proofs.lemmas.List.FromFn.{length-range_with_len, map-range_with_len_more}
use Rattle.std.proofs.lemmas.List.Sums.{sum_by-append}
use Rattle.rio_base.specs.Bitmap.{is_free, free_blocks}
use Rattle.rio_model.specs.Placed.{Slot, AtPage, AtTable, Placed, HasSlot, Layout, volume_layout, Owned}
use Rattle.rio_model.proofs.PlacedRules.{placed_blocks, layout_blocks, page_page, table_table, table_page, cases_lt, node_fits, reserved_below}
use Rattle.rio_model.specs.Sizes.{pages, tables}
use Rattle.rio_model.specs.VolumeRules.{IsLaid, IsMapped, MarkRule, ReservedRule}

-- ---- what a test keeps of a range of numbers

abbrev count : (ℕ → Bool) → ℕ → ℕ → ℕ
count p a n = length (filter p (range_with_len a n))

-- ---- two tests that differ at one place
record Minus (p q : ℕ → Bool) (a n t : ℕ) : Type 0 where
  pub within : t < n
  pub here : p (a + t) ≡ true
  pub gone : q (a + t) ≡ false
  pub same : (i : ℕ) → i < n → i ≢ t → q (a + i) ≡ p (a + i)

at_zero : (p : ℕ → Bool) (a : ℕ) → p (a + 0) ≡ p a
at_zero p a = let e : a + 0 ≡ a = omega arith in ap p e

at_next : (p : ℕ → Bool) (a i : ℕ) → p ((a + 1) + i) ≡ p (a + suc i)
at_next p a i = let e : (a + 1) + i ≡ a + suc i = omega arith in ap p e

same_rest : (p q : ℕ → Bool) (a n : ℕ) → ((i : ℕ) → i < suc n → q (a + i) ≡ p (a + i)) → (i : ℕ) → i < n → q ((a + 1) + i) ≡ p ((a + 1) + i)
same_rest p q a n h i few = let e : (a + 1) + i ≡ a + suc i = omega arith in ap q e ∙ h (suc i) (omega (arith, few)) ∙ sym (ap p e)

filter_same : (p q : ℕ → Bool) (n a : ℕ) → ((i : ℕ) → i < n → q (a + i) ≡ p (a + i)) → filter p (range_with_len a n) ≡ filter q (range_with_len a n)
filter_same p q zero a h = refl
filter_same p q (suc n) a h =
    let first : p a ≡ q a = sym (at_zero p a) ∙ sym (h 0 (omega arith)) ∙ at_zero q a in
    ap (λ b. cond b (a ∷ filter p (range_with_len (a + 1) n)) (filter p (range_with_len (a + 1) n))) first ∙ ap (λ xs. cond (q a) (a ∷ xs) xs) (filter_same p q n (a + 1) (same_rest p q a n h))

length_cond : (b : Bool) (x y : ℕ) (xs ys : List ℕ) → length xs ≡ suc (length ys) → length (cond b (x ∷ xs) xs) ≡ suc (length (cond b (y ∷ ys) ys))
length_cond true x y xs ys e = ap suc e
length_cond false x y xs ys e = e

minus_rest : (p q : ℕ → Bool) (a n t : ℕ) → Minus p q a (suc n) (suc t) → Minus p q (a + 1) n t
minus_rest p q a n t h = record {
  within = let w = h.within in omega (arith, w);
  here = at_next p a t ∙ h.here;
  gone = at_next q a t ∙ h.gone;
  same = λ i few away. at_next q a i ∙ h.same (suc i) (omega (arith, few)) (λ e. away (omega (arith, e))) ∙ sym (at_next p a i);
}

minus_one : (p q : ℕ → Bool) (n t a : ℕ) → Minus p q a n t → count p a n ≡ suc (count q a n)
minus_one p q zero t a h = absurd (let w = h.within in omega (arith, w))
minus_one p q (suc n) zero a h =
    let rest : filter p (range_with_len (a + 1) n) ≡ filter q (range_with_len (a + 1) n) = filter_same p q n (a + 1) (λ i few. at_next q a i ∙ h.same (suc i) (omega (arith, few)) (λ e. absurd (omega (arith, e))) ∙ sym (at_next p a i)) in
    ap (λ b. length (cond b (a ∷ filter p (range_with_len (a + 1) n)) (filter p (range_with_len (a + 1) n)))) (sym (at_zero p a) ∙ h.here) ∙ ap (λ xs. suc (length xs)) rest ∙ sym (ap (λ b. suc (length (cond b (a ∷ filter q (range_with_len (a + 1) n)) (filter q (range_with_len (a + 1) n))))) (sym (at_zero q a) ∙ h.gone))
minus_one p q (suc n) (suc t) a h =
    let rest = minus_one p q n t (a + 1) (minus_rest p q a n t h) in
    let same : q a ≡ p a = sym (at_zero q a) ∙ h.same 0 (omega arith) (λ e. absurd (omega (arith, e))) ∙ at_zero p a in
    length_cond (p a) a a _ _ rest ∙ ap (λ b. suc (length (cond b (a ∷ filter q (range_with_len (a + 1) n)) (filter q (range_with_len (a + 1) n))))) (sym same)

-- ---- a run of places taken out
abbrev without : (ℕ → Bool) → (ℕ → ℕ) → ℕ → ℕ → Bool
without p g zero b = p b
without p g (suc c) b = without p g c b && not (b == g c)

and_true : (a b : Bool) → a ≡ true → b ≡ true → (a && b) ≡ true
and_true true b x y = y
and_true false b x y = x

and_false : (a : Bool) → (a && false) ≡ false
and_false true = refl
and_false false = refl

and_one : (a : Bool) → (a && true) ≡ a
and_one true = refl
and_one false = refl

and_left : (a b : Bool) → (a && b) ≡ true → a ≡ true
and_left true b e = refl
and_left false b e = e

and_right : (a b : Bool) → (a && b) ≡ true → b ≡ true
and_right true b e = e
and_right false b e = absurd (true_false (sym e))

not_eq : (b c : ℕ) → b ≢ c → not (b == c) ≡ true
not_eq b c away = let e : (b == c) ≡ false = grind (arith, nat_tests, away) in ap not e

eq_not : (b c : ℕ) → not (b == c) ≡ true → b ≢ c
eq_not b c e same = let t : (b == c) ≡ true = grind (arith, nat_tests, same) in true_false (sym e ∙ ap not t)

without_true : (p : ℕ → Bool) (g : ℕ → ℕ) (c b : ℕ) → p b ≡ true → ((k : ℕ) → k < c → b ≢ g k) → without p g c b ≡ true
without_true p g zero b h away = h
without_true p g (suc c) b h away = and_true _ _ (without_true p g c b h (λ k few. away k (omega (arith, few)))) (not_eq b (g c) (away c (omega arith)))

without_back : (p : ℕ → Bool) (g : ℕ → ℕ) (c b : ℕ) → without p g c b ≡ true → p b ≡ true
without_back p g zero b h = h
without_back p g (suc c) b h = without_back p g c b (and_left _ _ h)

without_away : (p : ℕ → Bool) (g : ℕ → ℕ) (c b k : ℕ) → without p g c b ≡ true → k < c → b ≢ g k
without_away p g zero b k h few = absurd (omega (arith, few))
without_away p g (suc c) b k h few = elim (cases_eq k c) [
  | inl same ↦ (λ e. eq_not b (g c) (and_right _ _ h) (e ∙ ap g same))
  | inr away ↦ without_away p g c b k (and_left _ _ h) (omega (arith, few, away))
]

record Run (p : ℕ → Bool) (g : ℕ → ℕ) (c n : ℕ) : Type 0 where
  pub below : (k : ℕ) → k < c → g k < n
  pub holds : (k : ℕ) → k < c → p (g k) ≡ true
  pub apart : (j k : ℕ) → j < c → k < c → g j ≡ g k → j ≡ k

at_sum : (p : ℕ → Bool) (t : ℕ) → p (0 + t) ≡ p t
at_sum p t = let e : 0 + t ≡ t = omega arith in ap p e

count_run : (p : ℕ → Bool) (g : ℕ → ℕ) (c n : ℕ) → Run p g c n → count p 0 n ≡ c + count (without p g c) 0 n
count_run p g zero n r = let e : count p 0 n ≡ 0 + count p 0 n = omega arith in e
count_run p g (suc c) n r =
    let before = count_run p g c n (record { below = λ k few. r.below k (omega (arith, few)); holds = λ k few. r.holds k (omega (arith, few)); apart = λ j k fj fk. r.apart j k (omega (arith, fj)) (omega (arith, fk)) }) in
    let one = minus_one (without p g c) (without p g (suc c)) n (g c) 0 (record {
      within = r.below c (omega arith);
      here = at_sum (without p g c) (g c) ∙ without_true p g c (g c) (r.holds c (omega arith)) (λ k few e. let same = r.apart c k (omega arith) (omega (arith, few)) e in omega (arith, same, few));
      gone = at_sum (without p g (suc c)) (g c) ∙ (let t : (g c == g c) ≡ true = grind (arith, nat_tests) in ap (λ b. without p g c (g c) && not b) t ∙ and_false _);
      same = λ i few away. ap (λ z. without p g c (0 + i) && z) (not_eq (0 + i) (g c) (λ e. away (omega (arith, e)))) ∙ and_one _;
    }) in
    omega (arith, before, one)

-- ---- the blocks of node after node taken out

abbrev slots_of : Placed → ℕ → ℕ
slots_of n c = if nat_lt 0 n.kind then c else 0

abbrev without_node : (ℕ → Bool) → Placed → ℕ → Bool
without_node p n = without (without p (λ k. n.block (AtPage k)) (slots_of n (pages n.size))) (λ k. n.block (AtTable k)) (slots_of n (tables n.size))

abbrev without_nodes : (ℕ → Bool) → Layout → ℕ → ℕ → Bool
without_nodes p l zero = p
without_nodes p l (suc m) = without_node (without_nodes p l m) (l.node (suc m))

abbrev blocks_of : Placed → ℕ
blocks_of n = slots_of n (pages n.size) + slots_of n (tables n.size)

blocks_are : (n : Placed) → blocks_of n ≡ placed_blocks n
blocks_are n = elim (cases_lt 0 n.kind) [
  | inl used ↦ ap (λ b. cond b (pages n.size) 0 + cond b (tables n.size) 0) used.1 ∙ sym (ap (λ b. cond b (pages n.size + tables n.size) 0) used.1)
  | inr free ↦ ap (λ b. cond b (pages n.size) 0 + cond b (tables n.size) 0) free.1 ∙ sym (ap (λ b. cond b (pages n.size + tables n.size) 0) free.1)
]

abbrev all_blocks : Layout → ℕ → ℕ
all_blocks l zero = 0
all_blocks l (suc m) = all_blocks l m + blocks_of (l.node (suc m))

few_slots : (n : Placed) (c k : ℕ) → k < slots_of n c → (0 < n.kind) × (k < c)
few_slots n c k h = elim (cases_lt 0 n.kind) [
  | inl used ↦ (used.0, subst (λ b. k < cond b c 0) used.1 h)
  | inr free ↦ absurd (let none : k < 0 = subst (λ b. k < cond b c 0) free.1 h in omega (arith, none))
]

slots_few : (n : Placed) (c k : ℕ) → 0 < n.kind → k < c → k < slots_of n c
slots_few n c k used few = let t : nat_lt 0 n.kind ≡ true = grind (arith, nat_tests, used) in subst (λ b. k < cond b c 0) (sym t) few

page_has : (n : Placed) (k : ℕ) → k < slots_of n (pages n.size) → HasSlot n (AtPage k)
page_has n k h = let f = few_slots n (pages n.size) k h in record { used = f.0; within = f.1 }

table_has : (n : Placed) (k : ℕ) → k < slots_of n (tables n.size) → HasSlot n (AtTable k)
table_has n k h = let f = few_slots n (tables n.size) k h in record { used = f.0; within = f.1 }

node_true : (p : ℕ → Bool) (n : Placed) (b : ℕ) → p b ≡ true → ((s : Slot) → HasSlot n s → n.block s ≢ b) → without_node p n b ≡ true
node_true p n b h away = without_true _ (λ k. n.block (AtTable k)) _ b (without_true p (λ k. n.block (AtPage k)) _ b h (λ k few e. away (AtPage k) (page_has n k few) (sym e))) (λ k few e. away (AtTable k) (table_has n k few) (sym e))

node_back : (p : ℕ → Bool) (n : Placed) (b : ℕ) → without_node p n b ≡ true → p b ≡ true
node_back p n b h = without_back p (λ k. n.block (AtPage k)) (slots_of n (pages n.size)) b (without_back (without p (λ k. n.block (AtPage k)) (slots_of n (pages n.size))) (λ k. n.block (AtTable k)) (slots_of n (tables n.size)) b h)

node_away : (p : ℕ → Bool) (n : Placed) (b : ℕ) (s : Slot) → without_node p n b ≡ true → HasSlot n s → n.block s ≢ b
node_away p n b (AtPage k) h has = λ e. without_away p (λ x. n.block (AtPage x)) (slots_of n (pages n.size)) b k (without_back (without p (λ k. n.block (AtPage k)) (slots_of n (pages n.size))) (λ x. n.block (AtTable x)) (slots_of n (tables n.size)) b h) (slots_few n (pages n.size) k has.used has.within) (sym e)
node_away p n b (AtTable k) h has = λ e. without_away (without p (λ k. n.block (AtPage k)) (slots_of n (pages n.size))) (λ x. n.block (AtTable x)) (slots_of n (tables n.size)) b k h (slots_few n (tables n.size) k has.used has.within) (sym e)

record Counts (p : ℕ → Bool) (n : Placed) (blocks : ℕ) : Type 0 where
  pub below : (s : Slot) → HasSlot n s → n.block s < blocks
  pub holds : (s : Slot) → HasSlot n s → p (n.block s) ≡ true
  pub apart : (s t : Slot) → HasSlot n s → HasSlot n t → n.block s ≡ n.block t → s ≡ t

count_node : (p : ℕ → Bool) (n : Placed) (blocks : ℕ) → Counts p n blocks → count p 0 blocks ≡ blocks_of n + count (without_node p n) 0 blocks
count_node p n blocks h =
    let one = count_run p (λ k. n.block (AtPage k)) (slots_of n (pages n.size)) blocks (record {
      below = λ k few. h.below (AtPage k) (page_has n k few);
      holds = λ k few. h.holds (AtPage k) (page_has n k few);
      apart = λ j k fj fk e. page_page j k (h.apart (AtPage j) (AtPage k) (page_has n j fj) (page_has n k fk) e);
    }) in
    let two = count_run (without p (λ k. n.block (AtPage k)) (slots_of n (pages n.size))) (λ k. n.block (AtTable k)) (slots_of n (tables n.size)) blocks (record {
      below = λ k few. h.below (AtTable k) (table_has n k few);
      holds = λ k few. without_true p (λ x. n.block (AtPage x)) _ _ (h.holds (AtTable k) (table_has n k few)) (λ x fx e. table_page k x (h.apart (AtTable k) (AtPage x) (table_has n k few) (page_has n x fx) e));
      apart = λ j k fj fk e. table_table j k (h.apart (AtTable j) (AtTable k) (table_has n j fj) (table_has n k fk) e);
    }) in
    omega (arith, one, two)

nodes_true : (p : ℕ → Bool) (l : Layout) (m b : ℕ) → p b ≡ true → ((i : ℕ) (s : Slot) → 1 ≤ i → i ≤ m → HasSlot (l.node i) s → (l.node i).block s ≢ b) → without_nodes p l m b ≡ true
nodes_true p l zero b h away = h
nodes_true p l (suc m) b h away = node_true _ (l.node (suc m)) b (nodes_true p l m b h (λ i s low high. away i s low (omega (arith, high)))) (λ s has. away (suc m) s (omega arith) (omega arith) has)

nodes_back : (p : ℕ → Bool) (l : Layout) (m b : ℕ) → without_nodes p l m b ≡ true → p b ≡ true
nodes_back p l zero b h = h
nodes_back p l (suc m) b h = nodes_back p l m b (node_back (without_nodes p l m) (l.node (suc m)) b h)

nodes_away : (p : ℕ → Bool) (l : Layout) (m b i : ℕ) (s : Slot) → without_nodes p l m b ≡ true → 1 ≤ i → i ≤ m → HasSlot (l.node i) s → (l.node i).block s ≢ b
nodes_away p l zero b i s h low high has = absurd (omega (arith, low, high))
nodes_away p l (suc m) b i s h low high has = elim (cases_eq i (suc m)) [
  | inl same ↦ (λ e. node_away (without_nodes p l m) (l.node (suc m)) b s h (subst (λ x. HasSlot (l.node x) s) same has) (sym (ap (λ x. (l.node x).block s) same) ∙ e))
  | inr away ↦ nodes_away p l m b i s (node_back (without_nodes p l m) (l.node (suc m)) b h) low (omega (arith, high, away)) has
]

count_nodes : (p : ℕ → Bool) (l : Layout) (m : ℕ) → IsLaid l → m ≤ l.shape.inodes → ((b : ℕ) → Owned l b → p b ≡ true) → count p 0 l.shape.blocks ≡ all_blocks l m + count (without_nodes p l m) 0 l.shape.blocks
count_nodes p l zero h few marked = let e : count p 0 l.shape.blocks ≡ 0 + count p 0 l.shape.blocks = omega arith in e
count_nodes p l (suc m) h few marked =
    let before = count_nodes p l m h (omega (arith, few)) marked in
    let ino : IsIno l.shape (suc m) = record { from = omega arith; to = few } in
    let own = node_fits l (suc m) h ino in
    let one = count_node (without_nodes p l m) (l.node (suc m)) l.shape.blocks (record {
      below = own.to;
      holds = λ s has. nodes_true p l m _ (marked _ (record { node = suc m; slot = s; owns = record { ino = ino; slot = has }; is = refl })) (λ i t low high old e. let same = (h.once.each i (suc m) t s (record { ino = record { from = low; to = omega (arith, high, few) }; slot = old }) (record { ino = ino; slot = has }) e).0 in omega (arith, same, high));
      apart = own.apart;
    }) in
    omega (arith, before, one)

-- ---- what is left are the reserved blocks

count_below : (r a n : ℕ) → count (λ b. nat_lt b r) a n ≡ min (r - a) n
count_below r a zero = let e : min (r - a) 0 ≡ 0 = omega arith in sym e
count_below r a (suc n) = elim (cases_lt a r) [
  | inl low ↦ ap (λ t. length (cond t (a ∷ filter (λ b. nat_lt b r) (range_with_len (a + 1) n)) (filter (λ b. nat_lt b r) (range_with_len (a + 1) n)))) low.1 ∙ (let rest = count_below r (a + 1) n in let less = low.0 in omega (arith, rest, less))
  | inr high ↦ ap (λ t. length (cond t (a ∷ filter (λ b. nat_lt b r) (range_with_len (a + 1) n)) (filter (λ b. nat_lt b r) (range_with_len (a + 1) n)))) high.1 ∙ (let rest = count_below r (a + 1) n in let more = high.0 in omega (arith, rest, more))
]

same_bool : (a b : Bool) → (a ≡ true → b ≡ true) → (b ≡ true → a ≡ true) → a ≡ b
same_bool true b x y = sym (x refl)
same_bool false true x y = y refl
same_bool false false x y = refl

abbrev marked : VolumeShape → BlockWords → ℕ → Bool
marked shape f b = not (is_free shape f b)

marked_one : (shape : VolumeShape) (f : BlockWords) (b : ℕ) → used_bit shape f b ≡ 1 → marked shape f b ≡ true
marked_one shape f b e = ap (λ x. not (x == 0)) e

marked_zero : (shape : VolumeShape) (f : BlockWords) (b : ℕ) → used_bit shape f b ≡ 0 → marked shape f b ≡ true → ⊥
marked_zero shape f b e t = true_false (sym t ∙ ap (λ x. not (x == 0)) e)

left_over : (l : Layout) (f : BlockWords) → IsLaid l → ReservedRule l.shape f → MarkRule l f → (b : ℕ) → b < l.shape.blocks → without_nodes (marked l.shape f) l l.shape.inodes b ≡ nat_lt b (reserved l.shape)
left_over l f h low_marked k b within = elim (cases_lt b (reserved l.shape)) [
  | inl low ↦ nodes_true (marked l.shape f) l l.shape.inodes b (marked_one l.shape f b (low_marked.marked b low.0)) (λ i s from to has e. let above = (node_fits l i h (record { from = from; to = to })).from s has in let less = low.0 in omega (arith, above, less, e)) ∙ sym low.1
  | inr high ↦ same_bool _ _ (λ t. absurd (marked_zero l.shape f b (k.free b (record { from = high.0; to = within; free = λ own. nodes_away (marked l.shape f) l l.shape.inodes b own.node own.slot t own.owns.ino.from own.owns.ino.to own.owns.slot own.is })) (nodes_back (marked l.shape f) l l.shape.inodes b t))) (λ t. absurd (true_false (sym t ∙ high.1)))
]

-- ---- the sum over all inodes

pub sum_last : (f : ℕ → ℕ) (n a : ℕ) → sum (map f (range_with_len a (suc n))) ≡ sum (map f (range_with_len a n)) + f (a + n)
sum_last f n a =
    let more : suc n ≡ n + 1 = omega arith in
    let one : sum (map f (range_with_len a (suc n))) ≡ sum (map f (range_with_len a n) ++ f (a + n) ∷ []) = ap (λ x. sum (map f (range_with_len a x))) more ∙ ap sum (map-range_with_len_more f a n (a + n) refl) in
    let two : sum (map f (range_with_len a n) ++ f (a + n) ∷ []) ≡ sum (map f (range_with_len a n)) + (0 + f (a + n)) = sum_by-append (λ x. x) (map f (range_with_len a n)) (f (a + n) ∷ []) in
    omega (arith, one, two)

all_sum : (l : Layout) (m : ℕ) → all_blocks l m ≡ sum (map (λ i. placed_blocks (l.node i)) (range_with_len 1 m))
all_sum l zero = refl
all_sum l (suc m) =
    let rest = all_sum l m in
    let last = sum_last (λ i. placed_blocks (l.node i)) m 1 in
    let at : 1 + m ≡ suc m = omega arith in
    let node : placed_blocks (l.node (1 + m)) ≡ placed_blocks (l.node (suc m)) = ap (λ i. placed_blocks (l.node i)) at in
    let own = blocks_are (l.node (suc m)) in
    omega (arith, rest, last, node, own)

-- ---- the laws

-- the marked blocks are the reserved ones and those of all nodes, the others are free
record Counted (l : Layout) (f : BlockWords) : Type 0 where
  pub free : length (free_blocks l.shape f) ≡ l.shape.blocks - reserved l.shape - layout_blocks l
  pub fit : layout_blocks l + reserved l.shape ≤ l.shape.blocks

counted : (l : Layout) (f : BlockWords) → IsLaid l → ReservedRule l.shape f → MarkRule l f → Counted l f
counted l f h low_marked k =
    let r = reserved l.shape in
    let used = count_nodes (marked l.shape f) l l.shape.inodes h (omega arith) (λ b own. marked_one l.shape f b (k.counts b own)) in
    let same : count (without_nodes (marked l.shape f) l l.shape.inodes) 0 l.shape.blocks ≡ count (λ b. nat_lt b r) 0 l.shape.blocks = ap length (filter_same _ _ l.shape.blocks 0 (λ i few. ap (λ x. nat_lt x r) (zero_sum i) ∙ sym (left_over l f h low_marked k i few) ∙ sym (ap (without_nodes (marked l.shape f) l l.shape.inodes) (zero_sum i)))) in
    let low = count_below r 0 l.shape.blocks in
    let both = length-filter_both (is_free l.shape f) (marked l.shape f) (λ b. refl) (range_with_len 0 l.shape.blocks) in
    let all = length-range_with_len 0 l.shape.blocks in
    let room = reserved_below l.shape h.shape_fits in
    let sums = all_sum l l.shape.inodes in
    record { free = omega (arith, used, same, low, both, all, room, sums); fit = omega (arith, used, same, low, both, all, room, sums) }
  where
    zero_sum : (i : ℕ) → 0 + i ≡ i
    zero_sum i = omega arith

pub free_by_layout : (shape : VolumeShape) (f : BlockWords) → IsMapped shape f → length (free_blocks shape f) ≡ shape.blocks - reserved shape - layout_blocks (volume_layout shape f)
free_by_layout shape f h = (counted (volume_layout shape f) f h.laid h.reserved_marked h.marks).free
