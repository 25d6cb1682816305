-- The numbers of a node, by where they stand and by their places in the list of its blocks.
use Rattle.volume_check.proofs.Common.{Bool, true, false, List, [], ap, arith, cond, inl, inr, length, map, refl, slice_index, slice_index_or, subst, suc, sym, zero, cases_eq, cases_lt, nat_tests, nat_lt, ℕ, ◌++◌, ◌+◌, ◌-◌, ◌/◌, ◌<◌, ◌∙◌, ◌∷◌, ◌≡◌, ◌≤◌, ◌↔◌, append-nil, append_assoc, get_or-append_right, get_or_append_left, get_or-map, length-append, length-map, map-append, get_or-map-range_with_len, length-map-range_with_len, map-range_with_len_more, range_with_len, BlockWords, Block, AtPage, AtTable, HasSlot, Placed, Slot, placed_at, pages, tables, largest_size, direct_number, half, indirect_number, IsIno, IsRun, IsTrue, Seen, VolumeShape}
use Rattle.rio_model.specs.Placed.{number_at}
use Rattle.volume_check.specs.Claims.{slot_at, slot_place}
use Rattle.volume_check.specs.Inodes.{HasInodes, layout_of, said}
use Rattle.volume_check.specs.NodeBlocks.{InRange, node_numbers, numbers, page_numbers}
use Rattle.volume_check.specs.declared.inodes.Inodes.{Inodes}

-- ---- where they stand

pub placed_direct : (f : BlockWords) (i p : ℕ) → p < 24 → (placed_at f i).block (AtPage p) ≡ direct_number f i p
unfolding number_at
placed_direct f i p few = let t : nat_lt p 24 ≡ true = grind (arith, nat_tests, few) in ap (λ b. cond b (direct_number f i p) (half (f (indirect_number f i) ((p - 24) / 2)) p)) t

pub placed_later : (f : BlockWords) (i p : ℕ) → 24 ≤ p → (placed_at f i).block (AtPage p) ≡ half (f (indirect_number f i) ((p - 24) / 2)) p
unfolding number_at
placed_later f i p past = let t : nat_lt p 24 ≡ false = grind (arith, nat_tests, past) in ap (λ b. cond b (direct_number f i p) (half (f (indirect_number f i) ((p - 24) / 2)) p)) t

pub placed_table : (f : BlockWords) (i k : ℕ) → (placed_at f i).block (AtTable k) ≡ indirect_number f i
unfolding number_at
placed_table f i k = refl

-- a node has a table where it has more than 24 pages
pub has_table : (n : Placed) → 0 < n.kind → 24 < pages n.size → HasSlot n (AtTable 0)
has_table n used many = record { used = used; within = (let t : nat_lt 24 (pages n.size) ≡ true = grind (arith, nat_tests, many) in subst (λ b. 0 < cond b 1 0) (sym t) (omega arith)) }

pub one_table : (n : Placed) → 24 < pages n.size → tables n.size ≡ 1
one_table n many = let t : nat_lt 24 (pages n.size) ≡ true = grind (arith, nat_tests, many) in ap (λ b. cond b 1 0) t

pub no_table : (n : Placed) → pages n.size ≤ 24 → tables n.size ≡ 0
no_table n few = let t : nat_lt 24 (pages n.size) ≡ false = grind (arith, nat_tests, few) in ap (λ b. cond b 1 0) t

-- ---- the list of them

pub used_numbers : (n : Placed) → 0 < n.kind → node_numbers n ≡ page_numbers n 0 (pages n.size) ++ map (λ k. n.block (AtTable k)) (range_with_len 0 (tables n.size))
used_numbers n used = let t : nat_lt 0 n.kind ≡ true = grind (arith, nat_tests, used) in ap (λ b. cond b (page_numbers n 0 (pages n.size) ++ map (λ k. n.block (AtTable k)) (range_with_len 0 (tables n.size))) []) t

pub free_numbers : (n : Placed) → n.kind ≡ 0 → node_numbers n ≡ []
free_numbers n free = let t : nat_lt 0 n.kind ≡ false = grind (arith, nat_tests, free) in ap (λ b. cond b (page_numbers n 0 (pages n.size) ++ map (λ k. n.block (AtTable k)) (range_with_len 0 (tables n.size))) []) t

pub numbers_len : (n : Placed) → 0 < n.kind → length (node_numbers n) ≡ pages n.size + tables n.size
numbers_len n used =
    ap length (used_numbers n used)
    ∙ length-append (page_numbers n 0 (pages n.size)) (map (λ k. n.block (AtTable k)) (range_with_len 0 (tables n.size)))
    ∙ (let a = length-map-range_with_len (λ p. n.block (AtPage p)) 0 (pages n.size) in let b = length-map-range_with_len (λ k. n.block (AtTable k)) 0 (tables n.size) in λ t. a t + b t)

pub page_at : (n : Placed) (p : ℕ) → 0 < n.kind → p < pages n.size → slice_index (node_numbers n) p ≡ n.block (AtPage p)
page_at n p used few =
    let long = length-map-range_with_len (λ q. n.block (AtPage q)) 0 (pages n.size) in
    ap (λ xs. slice_index xs p) (used_numbers n used)
    ∙ get_or_append_left (page_numbers n 0 (pages n.size)) (map (λ k. n.block (AtTable k)) (range_with_len 0 (tables n.size))) 0 p (omega (arith, few, long))
    ∙ get_or-map-range_with_len (λ q. n.block (AtPage q)) 0 (pages n.size) p p 0 few (omega arith)

pub table_at : (n : Placed) (k : ℕ) → 0 < n.kind → k < tables n.size → slice_index (node_numbers n) (pages n.size + k) ≡ n.block (AtTable k)
table_at n k used few =
    let long = length-map-range_with_len (λ q. n.block (AtPage q)) 0 (pages n.size) in
    let e : (pages n.size + k) - pages n.size ≡ k = omega arith in
    ap (λ xs. slice_index xs (pages n.size + k)) (used_numbers n used)
    ∙ get_or-append_right (page_numbers n 0 (pages n.size)) (map (λ j. n.block (AtTable j)) (range_with_len 0 (tables n.size))) (pages n.size) (pages n.size + k) 0 long (omega arith)
    ∙ ap (slice_index (map (λ j. n.block (AtTable j)) (range_with_len 0 (tables n.size)))) e
    ∙ get_or-map-range_with_len (λ j. n.block (AtTable j)) 0 (tables n.size) k k 0 few (omega arith)

-- ---- by places

pub at_page : (count at : ℕ) → at < count → slot_at count at ≡ AtPage at
at_page count at few = let t : nat_lt at count ≡ true = grind (arith, nat_tests, few) in ap (λ b. cond b (AtPage at) (AtTable (at - count))) t

pub at_table : (count at : ℕ) → count ≤ at → slot_at count at ≡ AtTable (at - count)
at_table count at past = let t : nat_lt at count ≡ false = grind (arith, nat_tests, past) in ap (λ b. cond b (AtPage at) (AtTable (at - count))) t

pub record StandsAt (n : Placed) (s : Slot) : Type 0 where
  pub within : slot_place (pages n.size) s < length (node_numbers n)
  pub is : slice_index (node_numbers n) (slot_place (pages n.size) s) ≡ n.block s
  pub back : slot_at (pages n.size) (slot_place (pages n.size) s) ≡ s

pub slot_stands : (n : Placed) (s : Slot) → HasSlot n s → StandsAt n s
slot_stands n (AtPage p) h =
    let used = h.used in
    let few : p < pages n.size = h.within in
    let long = numbers_len n used in
    record { within = omega (arith, few, long); is = page_at n p used few; back = at_page (pages n.size) p few }
slot_stands n (AtTable k) h =
    let used = h.used in
    let few : k < tables n.size = h.within in
    let long = numbers_len n used in
    let e : (pages n.size + k) - pages n.size ≡ k = omega arith in
    record { within = omega (arith, few, long); is = table_at n k used few; back = at_table (pages n.size) (pages n.size + k) (omega arith) ∙ ap AtTable e }

pub record HasPlace (n : Placed) (at : ℕ) : Type 0 where
  pub has : HasSlot n (slot_at (pages n.size) at)
  pub is : slice_index (node_numbers n) at ≡ n.block (slot_at (pages n.size) at)
  pub place : slot_place (pages n.size) (slot_at (pages n.size) at) ≡ at

pub place_stands : (n : Placed) (at : ℕ) → at < length (node_numbers n) → HasPlace n at
place_stands n at within = elim (cases_eq n.kind 0) [
  | inl free ↦ absurd (let none = ap length (free_numbers n free) in omega (arith, within, none))
  | inr some ↦ elim (cases_lt at (pages n.size)) [
    | inl few ↦
        let used : 0 < n.kind = omega (arith, some) in
        let e = at_page (pages n.size) at few in
        record {
          has = subst (λ s. HasSlot n s) (sym e) (record { used = used; within = few });
          is = page_at n at used few ∙ ap n.block (sym e);
          place = ap (slot_place (pages n.size)) e;
        }
    | inr past ↦
        let used : 0 < n.kind = omega (arith, some) in
        let e = at_table (pages n.size) at past in
        let long = numbers_len n used in
        let few : at - pages n.size < tables n.size = omega (arith, within, long, past) in
        let back : pages n.size + (at - pages n.size) ≡ at = omega (arith, past) in
        record {
          has = subst (λ s. HasSlot n s) (sym e) (record { used = used; within = few });
          is = sym (ap (slice_index (node_numbers n)) back) ∙ table_at n (at - pages n.size) used few ∙ ap n.block (sym e);
          place = ap (slot_place (pages n.size)) e ∙ back;
        }
  ]
]

-- what holds of each number holds of each slot's block
pub all_numbers : (n : Placed) (p : ℕ → Type 0) → ((at : ℕ) → at < length (node_numbers n) → p (slice_index (node_numbers n) at)) → (s : Slot) → HasSlot n s → p (n.block s)
all_numbers n p all s h = let at = slot_stands n s h in subst p at.is (all (slot_place (pages n.size) s) at.within)

pub each_number : (n : Placed) (p : ℕ → Type 0) → ((s : Slot) → HasSlot n s → p (n.block s)) → (at : ℕ) → at < length (node_numbers n) → p (slice_index (node_numbers n) at)
each_number n p all at within = let place = place_stands n at within in subst p (sym place.is) (all _ place.has)

-- ---- as blocks

pub as_many : (bs : List Block) → length (numbers bs) ≡ length bs
as_many bs = length-map bs (λ (b : Block). b.0)

pub number_of_block : (bs : List Block) (t : ℕ) (d : Block) → t < length bs → (slice_index_or bs t d).0 ≡ slice_index (numbers bs) t
number_of_block bs t d h = sym (get_or-map (λ (b : Block). b.0) bs t d 0 h)

-- one block more of a run of pages
pub block_next : (old : List ℕ) (n : Placed) (first p : ℕ) (xs ys : List Block) (b : Block) → first ≤ p → numbers xs ≡ old ++ page_numbers n first (p - first) → ys ≡ xs ++ b ∷ [] → b.0 ≡ n.block (AtPage p) → numbers ys ≡ old ++ page_numbers n first (p + 1 - first)
block_next old n first p xs ys b low so more is =
    let one : p + 1 - first ≡ (p - first) + 1 = omega (arith, low) in
    let at : first + (p - first) ≡ p = omega (arith, low) in
    ap numbers more ∙ map-append (λ (c : Block). c.0) xs (b ∷ []) ∙ ap (λ zs. zs ++ b.0 ∷ []) so ∙ append_assoc old (page_numbers n first (p - first)) (b.0 ∷ []) ∙ ap (λ x. old ++ (page_numbers n first (p - first) ++ x ∷ [])) is ∙ ap (λ zs. old ++ zs) (sym (map-range_with_len_more (λ q. n.block (AtPage q)) first (p - first) p at) ∙ ap (page_numbers n first) (sym one))

-- the same, counted from the first
pub block_more : (old : List ℕ) (n : Placed) (first count j : ℕ) (xs ys : List Block) (b : Block) → first + count ≡ j → numbers xs ≡ old ++ page_numbers n first count → ys ≡ xs ++ b ∷ [] → b.0 ≡ n.block (AtPage j) → numbers ys ≡ old ++ page_numbers n first (count + 1)
block_more old n first count j xs ys b at so more is =
    ap numbers more ∙ map-append (λ (c : Block). c.0) xs (b ∷ []) ∙ ap (λ zs. zs ++ b.0 ∷ []) so ∙ append_assoc old (page_numbers n first count) (b.0 ∷ []) ∙ ap (λ x. old ++ (page_numbers n first count ++ x ∷ [])) is ∙ ap (λ zs. old ++ zs) (sym (map-range_with_len_more (λ q. n.block (AtPage q)) first count j at))

-- and a table behind pages
pub table_pushed : (old : List ℕ) (n : Placed) (count : ℕ) (xs ys : List Block) (table : Block) → numbers xs ≡ old ++ page_numbers n 24 (count - 24) → ys ≡ xs ++ table ∷ [] → table.0 ≡ n.block (AtTable 0) → numbers ys ≡ (old ++ page_numbers n 24 (count - 24)) ++ (n.block (AtTable 0) ∷ [])
table_pushed old n count xs ys table so more is =
    ap numbers more ∙ map-append (λ (c : Block). c.0) xs (table ∷ []) ∙ ap (λ zs. zs ++ table.0 ∷ []) so ∙ ap (λ x. (old ++ page_numbers n 24 (count - 24)) ++ x ∷ []) is

-- two runs of pages, one after the other
blocks_join : (n : Placed) (k j first : ℕ) → page_numbers n first j ++ page_numbers n (first + j) k ≡ page_numbers n first (j + k)
blocks_join n k zero first = let at : first + 0 ≡ first = omega arith in let same : k ≡ 0 + k = omega arith in (λ e. page_numbers n (at e) (same e))
blocks_join n k (suc j) first =
    let at : first + suc j ≡ (first + 1) + j = omega arith in
    let same : suc (j + k) ≡ suc j + k = omega arith in
    ap (λ a. n.block (AtPage first) ∷ (page_numbers n (first + 1) j ++ page_numbers n a k)) at ∙ ap (λ zs. n.block (AtPage first) ∷ zs) (blocks_join n k j (first + 1)) ∙ ap (page_numbers n first) same

-- all blocks of a node that has no table, and of one that has one
pub few_numbers : (n : Placed) (count : ℕ) (bs : List Block) → 0 < n.kind → count ≡ pages n.size → count ≤ 24 → numbers bs ≡ page_numbers n 0 count → numbers bs ≡ node_numbers n
few_numbers n count bs used is few so =
    so ∙ ap (page_numbers n 0) is ∙ sym (append-nil (page_numbers n 0 (pages n.size)))
    ∙ sym (ap (λ t. page_numbers n 0 (pages n.size) ++ map (λ k. n.block (AtTable k)) (range_with_len 0 t)) (no_table n (omega (arith, is, few))))
    ∙ sym (used_numbers n used)

pub many_numbers : (n : Placed) (count : ℕ) (bs : List Block) → 0 < n.kind → count ≡ pages n.size → 24 < count → numbers bs ≡ (page_numbers n 0 24 ++ page_numbers n 24 (count - 24)) ++ (n.block (AtTable 0) ∷ []) → numbers bs ≡ node_numbers n
many_numbers n count bs used is many so =
    let sum : 24 + (count - 24) ≡ count = omega (arith, many) in
    so ∙ ap (λ xs. xs ++ (n.block (AtTable 0) ∷ [])) (blocks_join n (count - 24) 24 0 ∙ ap (page_numbers n 0) (sum ∙ is))
    ∙ sym (ap (λ t. page_numbers n 0 (pages n.size) ++ map (λ k. n.block (AtTable k)) (range_with_len 0 t)) (one_table n (omega (arith, is, many))))
    ∙ sym (used_numbers n used)

-- ---- as inodes say them

pub direct_said : (s : Seen) (n : Inodes) (i p : ℕ) → HasInodes s n → IsIno n.shape i → p < 24 → half (said n i (2 + p / 2)) p ≡ ((layout_of s n).node i).block (AtPage p)
direct_said s n i p h ino few = ap (λ w. half w p) (h.each i (2 + p / 2) ino (omega (arith, few))) ∙ sym (placed_direct s.words i p few)

pub table_said : (s : Seen) (n : Inodes) (i k : ℕ) → HasInodes s n → IsIno n.shape i → half (said n i 14) 0 ≡ ((layout_of s n).node i).block (AtTable k)
table_said s n i k h ino = ap (λ w. half w 0) (h.each i 14 ino (omega arith)) ∙ sym (placed_table s.words i k)

-- a page that the table numbers, by the words of the table
pub later_said : (s : Seen) (n : Inodes) (i p : ℕ) (table : ℕ) (words : List ℕ) → HasInodes s n → IsIno n.shape i → table ≡ ((layout_of s n).node i).block (AtTable 0) → IsRun s.words table 0 512 words → 24 ≤ p → p < 1048 → half (slice_index words ((p - 24) / 2)) p ≡ ((layout_of s n).node i).block (AtPage p)
later_said s n i p table words h ino is run past few =
    let place : (p - 24) / 2 < 512 = omega (arith, past, few) in
    let zero : 0 + (p - 24) / 2 ≡ (p - 24) / 2 = omega arith in
    ap (λ w. half w p) (run.each ((p - 24) / 2) place ∙ (λ e. s.words ((is ∙ placed_table s.words i 0) e) (zero e))) ∙ sym (placed_later s.words i p past)

-- ---- ranges

-- numbers that are all in range are so slot by slot
pub ranges_keep : (shape : VolumeShape) (n : Placed) (bs : List Block) (r : Bool) → numbers bs ≡ node_numbers n → (IsTrue r ↔ ((k : ℕ) → k < length bs → InRange shape (slice_index (numbers bs) k))) → IsTrue r ↔ ((s : Slot) → HasSlot n s → InRange shape (n.block s))
ranges_keep shape n bs r is h = (
  λ e. all_numbers n (InRange shape) (λ at within. subst (λ xs. InRange shape (slice_index xs at)) is (h.0 e at (omega (arith, within, long)))),
  λ all. h.1 (λ k within. subst (λ xs. InRange shape (slice_index xs k)) (sym is) (each_number n (InRange shape) all k (omega (arith, within, long)))),
)
  where
    long : length bs ≡ length (node_numbers n)
    long = sym (as_many bs) ∙ ap length is

-- and where a table's is not, no slots are
pub tables_break : (shape : VolumeShape) (n : Placed) (r : Bool) → r ≡ false → (IsTrue r ↔ ((k : ℕ) → HasSlot n (AtTable k) → InRange shape (n.block (AtTable k)))) → IsTrue false ↔ ((s : Slot) → HasSlot n s → InRange shape (n.block s))
tables_break shape n r fails h = (λ e. absurd (differ e refl), λ all. absurd (differ (h.1 (λ k has. all (AtTable k) has)) fails))
  where
    differ : {t : Bool} → t ≡ true → t ≡ false → ⊥
    differ p q = cc

-- how many there are at most
pub few_at_most : (n : Placed) → (0 < n.kind → n.size ≤ largest_size) → length (node_numbers n) ≤ 2048
few_at_most n most = elim (cases_eq n.kind 0) [
  | inl free ↦ (let none = ap length (free_numbers n free) in omega (arith, none))
  | inr some ↦ (let used : 0 < n.kind = omega (arith, some) in let long = numbers_len n used in let size = most used in elim (cases_lt 24 (pages n.size)) [
    | inl many ↦ (let one = one_table n many in omega (arith, long, one, size))
    | inr few ↦ (let none = no_table n few in omega (arith, long, none, few))
  ])
]

-- ---- tables in range

pub free_has_none : (n : Placed) (s : Slot) → n.kind ≡ 0 → HasSlot n s → ⊥
free_has_none n s free h = let used = h.used in omega (arith, free, used)

pub few_have_none : (n : Placed) (k : ℕ) → pages n.size ≤ 24 → HasSlot n (AtTable k) → ⊥
few_have_none n k few h = let within : k < tables n.size = h.within in let none = no_table n few in omega (arith, within, none)

pub free_tables : (s : Seen) (n : Inodes) (i : ℕ) (p : ℕ → Type 0) → HasInodes s n → IsIno n.shape i → said n i 0 ≡ 0 → IsTrue true ↔ ((k : ℕ) → HasSlot ((layout_of s n).node i) (AtTable k) → p (((layout_of s n).node i).block (AtTable k)))
free_tables s n i p h ino free = (λ e k has. absurd (free_has_none ((layout_of s n).node i) (AtTable k) (sym (h.each i 0 ino (omega arith)) ∙ free) has), λ all. refl)

pub few_tables : (s : Seen) (n : Inodes) (i count : ℕ) (p : ℕ → Type 0) → HasInodes s n → IsIno n.shape i → count ≡ pages (said n i 1) → count ≤ 24 → IsTrue true ↔ ((k : ℕ) → HasSlot ((layout_of s n).node i) (AtTable k) → p (((layout_of s n).node i).block (AtTable k)))
few_tables s n i count p h ino is few = (λ e k has. absurd (few_have_none ((layout_of s n).node i) k (subst (λ x. pages x ≤ 24) (h.each i 1 ino (omega arith)) (omega (arith, is, few))) has), λ all. refl)

pub one_in_range : (s : Seen) (n : Inodes) (i count : ℕ) (p : ℕ → Type 0) (r : Bool) (table : Block) → HasInodes s n → IsIno n.shape i → 0 < said n i 0 → count ≡ pages (said n i 1) → 24 < count → table.0 ≡ half (said n i 14) 0 → (IsTrue r ↔ p table.0) → IsTrue r ↔ ((k : ℕ) → HasSlot ((layout_of s n).node i) (AtTable k) → p (((layout_of s n).node i).block (AtTable k)))
one_in_range s n i count p r table h ino used is many at test = (
  λ e k has. subst p (at ∙ table_said s n i k h ino) (test.0 e),
  λ all. test.1 (subst p (sym (at ∙ table_said s n i 0 h ino)) (all 0 (has_table ((layout_of s n).node i) (subst (λ x. 0 < x) (h.each i 0 ino (omega arith)) used) (subst (λ x. 24 < pages x) (h.each i 1 ino (omega arith)) (omega (arith, is, many)))))),
)
