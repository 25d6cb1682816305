-- Blocks of a list by their place.
use Rattle.node_pages.proofs.Common.{Bool, true, false, cond, refl, ◌≡◌, ℕ, zero, suc, ◌+◌, ◌-◌, ◌<◌, ◌≤◌, List, [], ◌∷◌, ◌++◌, length, map, ap, sym, ◌∙◌, arith, slice_index_or, nat_lt, slice_index, Contains, range_with_len, nat_tests, append_assoc, map-append, Block, numbers, AtPage, AtTable, Placed, pages, tables}
use Rattle.std.specs.Prelude.{nat_eq}
use Rattle.std.proofs.lemmas.List.{get_or-map, length-map, get_or_default}
use Rattle.std.proofs.lemmas.List.FromFn.{map-range_with_len_more}
use Rattle.node_pages.specs.LookingUp.{node_blocks, page_blocks}

pub as_many : (bs : List Block) → length (numbers bs) ≡ length bs
as_many bs = length-map bs (λ (b : Block). b.0)

pub number_at : (bs : List Block) (t : ℕ) (d : Block) → t < length bs → (slice_index_or bs t d).0 ≡ slice_index (numbers bs) t
number_at bs t d h = sym (get_or-map (λ (b : Block). b.0) bs t d 0 h)

pub block_place : (bs : List Block) (t n count : ℕ) (d : Block) → t < length bs → slice_index (numbers bs) t < n → count ≡ n → (slice_index_or bs t d).0 < count
block_place bs t n count d few within is = let at = number_at bs t d few in omega (arith, within, is, at)

pub listed : (xs : List ℕ) (t : ℕ) → t < length xs → Contains xs (slice_index xs t)
listed xs t h = (t, h, get_or_default xs t (slice_index xs t) 0 h)

pub place_of : (xs : List ℕ) (b : ℕ) → Contains xs b → (t : ℕ) × (t < length xs) × (slice_index xs t ≡ b)
place_of xs b h = (h.0, h.1, get_or_default xs h.0 0 b h.1 ∙ h.2)

-- one block more of a run of pages
pub block_next : (old : List ℕ) (n : Placed) (first p : ℕ) (xs ys : List Block) (b : Block) → first ≤ p → numbers xs ≡ old ++ page_blocks n first (p - first) → ys ≡ xs ++ b ∷ [] → b.0 ≡ n.block (AtPage p) → numbers ys ≡ old ++ page_blocks n first (p + 1 - first)
block_next old n first p xs ys b low so more is =
    let one : p + 1 - first ≡ (p - first) + 1 = omega (arith, low) in
    let at : first + (p - first) ≡ p = omega (arith, low) in
    ap numbers more ∙ map-append (λ (c : Block). c.0) xs (b ∷ []) ∙ ap (λ zs. zs ++ b.0 ∷ []) so ∙ append_assoc old (page_blocks n first (p - first)) (b.0 ∷ []) ∙ ap (λ x. old ++ (page_blocks n first (p - first) ++ x ∷ [])) is ∙ ap (λ zs. old ++ zs) (sym (map-range_with_len_more (λ q. n.block (AtPage q)) first (p - first) p at) ∙ ap (page_blocks n first) (sym one))

-- two runs of pages, one after the other
pub blocks_join : (n : Placed) (k j first : ℕ) → page_blocks n first j ++ page_blocks n (first + j) k ≡ page_blocks n first (j + k)
blocks_join n k zero first = let at : first + 0 ≡ first = omega arith in let same : k ≡ 0 + k = omega arith in (λ e. page_blocks n (at e) (same e))
blocks_join n k (suc j) first =
    let at : first + suc j ≡ (first + 1) + j = omega arith in
    let same : suc (j + k) ≡ suc j + k = omega arith in
    ap (λ a. n.block (AtPage first) ∷ (page_blocks n (first + 1) j ++ page_blocks n a k)) at ∙ ap (λ zs. n.block (AtPage first) ∷ zs) (blocks_join n k j (first + 1)) ∙ ap (page_blocks n first) same

pub blocks_joined : (n : Placed) (first middle end : ℕ) → first ≤ middle → middle ≤ end → page_blocks n first (middle - first) ++ page_blocks n middle (end - middle) ≡ page_blocks n first (end - first)
blocks_joined n first middle end low high =
    let at : middle ≡ first + (middle - first) = omega (arith, low) in
    let all : (middle - first) + (end - middle) ≡ end - first = omega (arith, low, high) in
    ap (λ a. page_blocks n first (middle - first) ++ page_blocks n a (end - middle)) at ∙ blocks_join n (end - middle) (middle - first) first ∙ ap (page_blocks n first) all

-- all blocks of a node
pub whole_numbers : (n : Placed) (table : ℕ) (counts : Bool) (xs ys : List Block) → numbers xs ≡ page_blocks n 0 (pages n.size) → ys ≡ xs ++ cond counts (record { 0 = table } ∷ []) [] → counts ≡ nat_lt 24 (pages n.size) → (counts ≡ true → table ≡ n.block (AtTable 0)) → numbers ys ≡ node_blocks n
whole_numbers n table counts xs ys is so test at =
    ap numbers so ∙ map-append (λ (b : Block). b.0) xs (cond counts (record { 0 = table } ∷ []) []) ∙ ap (λ zs. zs ++ numbers (cond counts (record { 0 = table } ∷ []) [])) is ∙ ap (λ zs. page_blocks n 0 (pages n.size) ++ zs) (tail counts at ∙ ap (λ t. map (λ k. n.block (AtTable k)) (range_with_len 0 (cond t 1 0))) test)
  where
    tail : (t : Bool) → (t ≡ true → table ≡ n.block (AtTable 0)) → numbers (cond t (record { 0 = table } ∷ []) []) ≡ map (λ k. n.block (AtTable k)) (range_with_len 0 (cond t 1 0))
    tail true e = ap (λ x. x ∷ []) (e refl)
    tail false e = refl

-- a node has a table where its count of tables is 1
pub table_is : (t : ℕ) → nat_eq t 1 ≡ true → t ≡ 1
table_is t h = grind (arith, nat_tests, h)

pub table_test : (t size own : ℕ) → t ≡ tables size → size ≡ own → nat_eq t 1 ≡ nat_lt 24 (pages own)
table_test t size own is same = ap (λ x. nat_eq x 1) (is ∙ ap tables same) ∙ by_case (nat_lt 24 (pages own))
  where
    by_case : (b : Bool) → nat_eq (cond b 1 0) 1 ≡ b
    by_case true = refl
    by_case false = refl
