-- The last steps of a planned growth.
use Rattle.node_pages.proofs.Common.{BlockWords, ◌≡◌, ◌≢◌, ℕ, zero, suc, ◌+◌, ◌-◌, ◌*◌, ◌<◌, ◌≤◌, ◌==◌, ◌||◌, ◌⊎◌, min, true, false, cond, List, [], ◌∷◌, length, map, refl, sym, ap, subst, ◌∙◌, arith, inl, inr, nat_le, slice_index, Option, None, Some, AllByRecursion, Contains, cases_eq, nat_tests, PageName, VolumeShape, Block, Health, Seen, Below, Kept, Passes, numbers, IsNew, most_tables, one_table, same_old, sourced, Takes, grown, Slot, AtPage, AtTable, Placed, HasSlot, Layout, volume_layout, Owned, IsFree, largest_size, pages, tables, WordEdit, run_edits, Bears, LeavesInUse, Ready}
use Rattle.rio_model.proofs.GrowthRules.{no_table}
use Rattle.rio_model.proofs.PlacedRules.{cases_lt}
use Rattle.node_pages.specs.Changes.{EditsTable, Staged, new_direct, new_word, wanted_blocks, word_edit}
use Rattle.node_pages.specs.LookingUp.{LooksUp}
use Rattle.node_pages.proofs.OrderRules.{leaves_beside, leaves_looked, leaves_trans, ready_left}
use Rattle.node_pages.specs.Staging.{Beside, Zeroed, taken_name}
use Rattle.node_pages.specs.declared.changes.Edit.{Edit}
use Rattle.node_pages.proofs.Listed.{as_many, place_of}

-- ---- how many blocks

pub more_tables : (a b : ℕ) → a ≤ b → tables a ≤ tables b
more_tables a b h = elim (cases_lt 24 (pages a)) [
  | inl many ↦ subst (λ (x : ℕ). x ≤ tables b) (sym (one_table a many.0)) (subst (λ (x : ℕ). 1 ≤ x) (sym (one_table b (let m = many.0 in omega (arith, m, h)))) (omega arith))
  | inr few ↦ subst (λ (x : ℕ). x ≤ tables b) (sym (no_table a few.0)) (omega arith)
]

pub wanted_count : (a b : ℕ) → a ≤ b → wanted_blocks a b ≡ (pages b - pages a) + (tables b - tables a)
wanted_count a b h = let more = more_tables a b h in by_parts (pages a) (pages b) (tables a) (tables b) (omega (arith, h)) more
  where
    by_parts : (p q s t : ℕ) → p ≤ q → s ≤ t → (q + t) - (p + s) ≡ (q - p) + (t - s)
    by_parts p q s t l m = omega (arith, l, m)

pub wanted_none : (a b : ℕ) → b ≤ a → wanted_blocks a b ≡ 0
wanted_none a b h = let more = more_tables b a h in by_parts (pages a) (pages b) (tables a) (tables b) (omega (arith, h)) more
  where
    by_parts : (p q s t : ℕ) → q ≤ p → t ≤ s → (q + t) - (p + s) ≡ 0
    by_parts p q s t l m = omega (arith, l, m)

pub taken_most : (size len n : ℕ) → n ≡ wanted_blocks size len → size ≤ len → len ≤ largest_size → n ≤ 4096
taken_most size len n is grows most = let count = is ∙ wanted_count size len grows in let few = most_tables len in by_parts (pages len) (pages size) (tables len) (tables size) n (omega (arith, most)) few count
  where
    by_parts : (p q s t n : ℕ) → p ≤ 1048 → s ≤ 1 → n ≡ (p - q) + (s - t) → n ≤ 4096
    by_parts p q s t n a b e = omega (arith, a, b, e)

pub taken_reach : (size len have want n : ℕ) → have ≡ pages size → want ≡ pages len → n ≡ wanted_blocks size len → size ≤ len → want ≤ have + n
taken_reach size len have want n h w is grows = let count = is ∙ wanted_count size len grows in by_parts (pages len) (pages size) (tables len - tables size) n have want h w count
  where
    by_parts : (p q s n have want : ℕ) → have ≡ q → want ≡ p → n ≡ (p - q) + s → want ≤ have + n
    by_parts p q s n have want h w e = omega (arith, h, w, e)

-- ---- names of the blocks taken

no_name : (i kind first count len t : ℕ) → (kind ≡ 1) ⊎ (count ≤ t) → taken_name i kind first count len t ≡ None
no_name i kind first count len t out = ap (λ b. cond b None (Some (record { file = record { 0 = i }; index = first + t; size = min 4096 (len - 4096 * (first + t)) }))) (test out)
  where
    test : (kind ≡ 1) ⊎ (count ≤ t) → ((kind == 1) || nat_le count t) ≡ true
    test (inl dir) = grind (arith, nat_tests, dir)
    test (inr past) = grind (arith, nat_tests, past)

page_name : (i kind first count len t : ℕ) → kind ≢ 1 → t < count → taken_name i kind first count len t ≡ Some (record { file = record { 0 = i }; index = first + t; size = min 4096 (len - 4096 * (first + t)) })
page_name i kind first count len t file few = let test : ((kind == 1) || nat_le count t) ≡ false = grind (arith, nat_tests, file, few) in ap (λ b. cond b None (Some (record { file = record { 0 = i }; index = first + t; size = min 4096 (len - 4096 * (first + t)) }))) test

bears_taken : (i : ℕ) (n : Placed) (len : ℕ) (taken : List ℕ) (s : Slot) (k : ℕ) → IsNew n len taken s k → Bears i (grown n len taken) s (taken_name i n.kind (pages n.size) (pages len - pages n.size) len k)
bears_taken i n len taken (AtTable t) k new = no_name i n.kind (pages n.size) (pages len - pages n.size) len k (inr (let at = (new.table t refl).1 in omega (arith, at)))
bears_taken i n len taken (AtPage p) k new = elim (cases_eq n.kind 1) [
  | inl dir ↦ subst (Bears i (grown n len taken) (AtPage p)) (sym (no_name i n.kind (pages n.size) (pages len - pages n.size) len k (inl dir))) dir
  | inr file ↦
      let at = new.page p refl in
      let place = at.0 in
      let within = at.1 in
      subst (Bears i (grown n len taken) (AtPage p)) (sym (page_name i n.kind (pages n.size) (pages len - pages n.size) len k file (omega (arith, place, within))))
      (file, record { file = refl; index = omega (arith, place); size_from = subst (λ (x : ℕ). min 4096 (len - 4096 * p) ≤ min 4096 (len - 4096 * x)) (let back : p ≡ pages n.size + k = omega (arith, place) in back) (omega arith) })
]

pub staged_of : (l : Layout) (i : ℕ) (n : Placed) (len : ℕ) (taken : List ℕ) (y : Seen) (j : Kept) → ((s : Slot) → HasSlot n s → Owned l (n.block s)) → Takes l n len taken → Zeroed taken (taken_name i n.kind (pages n.size) (pages len - pages n.size) len) (length taken) y j → Staged i (grown n len taken) taken y j
staged_of l i n len taken y j mine takes z = record {
  zeros = λ b w on. let at = place_of taken b on in subst (λ x. y.words x w ≡ 0) at.2 (z.zeros at.0 w at.1);
  firm = λ b on. let at = place_of taken b on in subst (λ x. j.loose x ≡ false) at.2 (z.firm at.0 at.1);
  named = λ s has on cached. elim (sourced l n len taken s takes has) [
    | inl old ↦ absurd (let at = place_of taken _ on in (takes.free at.0 at.1).free (subst (Owned l) (sym (same_old n len taken s old) ∙ sym at.2) (mine s old)))
    | inr new ↦ subst (Bears i (grown n len taken) s) (sym (ap y.names new.1.is ∙ z.named new.0 new.1.within (ap y.cached (sym new.1.is) ∙ cached))) (bears_taken i n len taken s new.0 new.1)
  ];
}

-- ---- a run of edits, as edits of the table

pub edits_table : (m : Placed) (table first : ℕ) (v : ℕ → ℕ) (count : ℕ) (es : List Edit) → map word_edit es ≡ run_edits table v first count → (0 < count → HasSlot m (AtTable 0)) → (HasSlot m (AtTable 0) → table ≡ m.block (AtTable 0)) → first + count ≤ 512 → AllByRecursion (EditsTable m) es
edits_table m table first v count [] so has is few = tt
edits_table m table first v zero (e ∷ es) so has is few = absurd (nothing _ _ so)
  where
    nothing : (x : WordEdit) (xs : List WordEdit) → x ∷ xs ≡ [] → ⊥
    nothing x xs h = cc
edits_table m table first v (suc count) (e ∷ es) so has is few =
    let slot = has (omega arith) in
    (((0, slot, sym (is slot) ∙ sym (block_of so)), omega (arith, few, word_of so)), edits_table m table (first + 1) v count es (rest_of so) (λ some. slot) is (omega (arith, few)))
  where
    first_of : List WordEdit → WordEdit → WordEdit
    first_of [] d = d
    first_of (x ∷ xs) d = x

    rest : List WordEdit → List WordEdit
    rest [] = []
    rest (x ∷ xs) = xs

    block_of : word_edit e ∷ map word_edit es ≡ run_edits table v first (suc count) → e.block.0 ≡ table
    block_of h = ap (λ xs. (first_of xs (word_edit e)).block) h

    word_of : word_edit e ∷ map word_edit es ≡ run_edits table v first (suc count) → e.word ≡ first
    word_of h = ap (λ xs. (first_of xs (word_edit e)).word) h

    rest_of : word_edit e ∷ map word_edit es ≡ run_edits table v first (suc count) → map word_edit es ≡ run_edits table v (first + 1) count
    rest_of h = ap rest h

-- ---- equal numbers and lists

pub edits_as : (table last have have2 want want2 first first2 count count2 : ℕ) (bs cs : List ℕ) → have ≡ have2 → want ≡ want2 → first ≡ first2 → count ≡ count2 → bs ≡ cs → run_edits table (new_word last have want bs) first count ≡ run_edits table (new_word last have2 want2 cs) first2 count2
edits_as table last have have2 want want2 first first2 count count2 bs cs eh ew ef ec eb = λ p. run_edits table (new_word last (eh p) (ew p) (eb p)) (ef p) (ec p)

pub direct_as : (old : List ℕ) (have have2 want want2 q : ℕ) (bs cs : List ℕ) → have ≡ have2 → want ≡ want2 → bs ≡ cs → new_direct old have want bs q ≡ new_direct old have2 want2 cs q
direct_as old have have2 want want2 q bs cs eh ew eb = λ p. new_direct old (eh p) (ew p) (eb p) q

pub zeroed_as : (y : Seen) (j : Kept) (bs cs : List ℕ) (i kind h h2 n n2 len k k2 : ℕ) → bs ≡ cs → h ≡ h2 → n ≡ n2 → k ≡ k2 → Zeroed bs (taken_name i kind h n len) k y j → Zeroed cs (taken_name i kind h2 n2 len) k2 y j
zeroed_as y j bs cs i kind h h2 n n2 len k k2 eb eh en ek z = subst (λ m. Zeroed cs (taken_name i kind h2 n2 len) m y j) ek (subst (λ us. Zeroed us (taken_name i kind h2 n2 len) k y j) eb (subst (λ (f : ℕ → Option PageName). Zeroed bs f k y j) (λ p. taken_name i kind (eh p) (en p) len) z))

-- ---- looked up, and then staged

pub staged_leaves : (shape : VolumeShape) (s t : Health) (o n : Below) (bs cs : List Block) (x z y : Seen) (k l j : Kept) → Ready shape x k → LooksUp shape x z → Passes s o k t n l → bs ≡ cs → ((p : ℕ) → p < length cs → IsFree (volume_layout shape x.words) (slice_index (numbers cs) p)) → Beside (Contains (numbers bs)) z l y j → j.updating ≡ false → LeavesInUse (volume_layout shape x.words) x k y j
staged_leaves shape s t o n bs cs x z y k l j ready looks passes same free beside idle =
    let first = leaves_looked shape s t o n x z k l ready looks passes in
    leaves_trans shape x k z l y j ready first (leaves_beside shape (Contains (numbers bs)) z l y j (ready_left shape x k z l ready first) (λ b on. subst (λ f. IsFree (volume_layout shape f) b) (sym looks.looks.words) (free_of b (subst (λ us. Contains (numbers us) b) same on))) beside idle)
  where
    free_of : (b : ℕ) → Contains (numbers cs) b → IsFree (volume_layout shape x.words) b
    free_of b on = by_place (place_of (numbers cs) b on)
      where
        by_place : ((p : ℕ) × (p < length (numbers cs)) × (slice_index (numbers cs) p ≡ b)) → IsFree (volume_layout shape x.words) b
        by_place (p, few, e) = subst (IsFree (volume_layout shape x.words)) e (free p (subst (λ (m : ℕ). p < m) (as_many cs) few))

-- blocks that are free lie in the volume
pub free_place : (shape : VolumeShape) (f : BlockWords) (count : ℕ) (bs cs : List Block) (t : ℕ) → bs ≡ cs → ((t : ℕ) → t < length cs → IsFree (volume_layout shape f) (slice_index (numbers cs) t)) → count ≡ shape.blocks → t < length bs → slice_index (numbers bs) t < count
free_place shape f count bs cs t same free is few =
    let to = (free t (subst (λ xs. t < length xs) same few)).to in
    subst (λ n. slice_index (numbers bs) t < n) (sym is) (subst (λ xs. slice_index (numbers xs) t < shape.blocks) (sym same) to)
