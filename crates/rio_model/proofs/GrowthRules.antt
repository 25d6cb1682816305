-- A node that grows by blocks that it takes, or shrinks, is one that the rules allow.
use Rattle.rio_model.proofs.Common.{◌≡◌, ℕ, ◌+◌, ◌-◌, ◌*◌, ◌/◌, ◌%◌, ◌<◌, ◌≤◌, ◌⊎◌, Bool, true, false, cond, List, refl, sym, ap, subst, ◌∙◌, arith, inl, inr, nat_lt, slice_index, nat_tests, VolumeShape, BlockWords, IsIno, reserved}
use Rattle.std.proofs.Common.{length}
use Rattle.rio_model.specs.Held.{word_in}
use Rattle.rio_model.proofs.HeldRules.{counts_of}
use Rattle.rio_model.specs.NodeChanges.{Available, grown_block, grown, Takes, shrunk}
use Rattle.rio_model.specs.Placed.{Slot, AtPage, AtTable, Placed, Within, HasSlot, Layout, IsFree, Owned}
use Rattle.rio_model.proofs.PlacedRules.{page_page, table_table, table_page, cases_lt, node_fits}
use Rattle.rio_model.specs.Sizes.{pages, tables}
use Rattle.rio_model.specs.VolumeRules.{SizeFits, IsLaid, NodeFits}

-- a node has one table at most, and only where it has more than 24 pages
less_true : (a b : ℕ) → a < b → nat_lt a b ≡ true
less_true a b h = grind (arith, nat_tests, h)

less_false : (a b : ℕ) → b ≤ a → nat_lt a b ≡ false
less_false a b h = grind (arith, nat_tests, h)

pub few_tables : (size k : ℕ) → k < tables size → (k ≡ 0) × (24 < pages size)
few_tables size k h = by_case _ refl
  where
    by_case : (b : Bool) → nat_lt 24 (pages size) ≡ b → (k ≡ 0) × (24 < pages size)
    by_case true e = let one : k < 1 = subst (λ t. k < cond t 1 0) e h in (omega (arith, one), more e)
      where
        more : nat_lt 24 (pages size) ≡ true → 24 < pages size
        more z = grind (arith, nat_tests, z)
    by_case false e = let none : k < 0 = subst (λ t. k < cond t 1 0) e h in absurd (omega (arith, none))

pub one_table : (size : ℕ) → 24 < pages size → tables size ≡ 1
one_table size h = ap (λ t. cond t 1 0) (less_true 24 (pages size) h)

pub no_table : (size : ℕ) → pages size ≤ 24 → tables size ≡ 0
no_table size h = ap (λ t. cond t 1 0) (less_false 24 (pages size) h)

pub most_tables : (size : ℕ) → tables size ≤ 1
most_tables size = elim (cases_lt 24 (pages size)) [ inl big ↦ subst (λ (x : ℕ). x ≤ 1) (sym (one_table size big.0)) (omega arith) | inr not ↦ subst (λ (x : ℕ). x ≤ 1) (sym (no_table size not.0)) (omega arith) ]

-- ---- growth: a slot has the block that it had, or one of those taken

pub page_old : (n : Placed) (len p : ℕ) (taken : List ℕ) → p < pages n.size → (grown n len taken).block (AtPage p) ≡ n.block (AtPage p)
page_old n len p taken few = ap (λ t. cond t (n.block (AtPage p)) (slice_index taken (p - pages n.size))) (less_true p (pages n.size) few)

pub page_new : (n : Placed) (len p : ℕ) (taken : List ℕ) → pages n.size ≤ p → (grown n len taken).block (AtPage p) ≡ slice_index taken (p - pages n.size)
page_new n len p taken many = ap (λ t. cond t (n.block (AtPage p)) (slice_index taken (p - pages n.size))) (less_false p (pages n.size) many)

pub table_old : (n : Placed) (len k : ℕ) (taken : List ℕ) → k < tables n.size → (grown n len taken).block (AtTable k) ≡ n.block (AtTable k)
table_old n len k taken few = ap (λ t. cond t (n.block (AtTable k)) (slice_index taken (pages len - pages n.size))) (less_true k (tables n.size) few)

pub table_new : (n : Placed) (len k : ℕ) (taken : List ℕ) → tables n.size ≤ k → (grown n len taken).block (AtTable k) ≡ slice_index taken (pages len - pages n.size)
table_new n len k taken many = ap (λ t. cond t (n.block (AtTable k)) (slice_index taken (pages len - pages n.size))) (less_false k (tables n.size) many)

pub same_old : (n : Placed) (len : ℕ) (taken : List ℕ) (s : Slot) → HasSlot n s → (grown n len taken).block s ≡ n.block s
same_old n len taken (AtPage p) has = page_old n len p taken has.within
same_old n len taken (AtTable k) has = table_old n len k taken has.within

-- a slot that is new has the block of this place among those taken
pub record IsNew (n : Placed) (len : ℕ) (taken : List ℕ) (s : Slot) (k : ℕ) : Type 0 where
  pub within : k < length taken
  pub is : (grown n len taken).block s ≡ slice_index taken k
  pub page : (p : ℕ) → s ≡ AtPage p → (p ≡ k + pages n.size) × (p < pages len)
  pub table : (t : ℕ) → s ≡ AtTable t → (t ≡ 0) × (k ≡ pages len - pages n.size)

pub sourced : (l : Layout) (n : Placed) (len : ℕ) (taken : List ℕ) (s : Slot) → Takes l n len taken → HasSlot (grown n len taken) s → HasSlot n s ⊎ ((k : ℕ) × IsNew n len taken s k)
sourced l n len taken (AtPage p) t has = elim (cases_lt p (pages n.size)) [
  | inl old ↦ inl (record { used = has.used; within = old.0 })
  | inr new ↦ inr (
    p - pages n.size,
    record {
      within = (let count = t.count in let past = new.0 in let within : p < pages len = has.within in omega (arith, count, past, within));
      is = page_new n len p taken new.0;
      page = λ q e. let same = page_page p q e in let past = new.0 in let within : p < pages len = has.within in (omega (arith, same, past), omega (arith, same, within));
      table = λ q e. absurd (table_page q p (sym e));
    },
  )
]
sourced l n len taken (AtTable k) t has = elim (cases_lt k (tables n.size)) [
  | inl old ↦ inl (record { used = has.used; within = old.0 })
  | inr new ↦
      let few = few_tables len k has.within in
      inr (
        pages len - pages n.size,
        record {
          within = (let count = t.count in let past = new.0 in let within : k < tables len = has.within in omega (arith, count, past, within));
          is = table_new n len k taken new.0;
          page = λ q e. absurd (table_page k q e);
          table = λ q e. (sym (table_table k q e) ∙ few.0, refl);
        },
      )
]

same_slot : (n : Placed) (len : ℕ) (taken : List ℕ) (s t : Slot) (j k : ℕ) → j ≡ k → n.size ≤ len → IsNew n len taken s j → IsNew n len taken t k → s ≡ t
same_slot n len taken (AtPage p) (AtPage q) j k e g x y = let one = (x.page p refl).0 in let two = (y.page q refl).0 in let same : p ≡ q = omega (arith, one, two, e) in ap AtPage same
same_slot n len taken (AtPage p) (AtTable q) j k e g x y = let one = x.page p refl in let two = (y.table q refl).1 in let at = one.0 in let within = one.1 in absurd (omega (arith, at, two, e, within, g))
same_slot n len taken (AtTable p) (AtPage q) j k e g x y = let one = (x.table p refl).1 in let two = y.page q refl in let at = two.0 in let within = two.1 in absurd (omega (arith, one, at, e, within, g))
same_slot n len taken (AtTable p) (AtTable q) j k e g x y = ap AtTable ((x.table p refl).0 ∙ sym (y.table q refl).0)

-- blocks of a node are past the reserved ones, and no two are one
pub record BlocksFit (shape : VolumeShape) (n : Placed) : Type 0 where
  pub from : (s : Slot) → HasSlot n s → reserved shape ≤ n.block s
  pub to : (s : Slot) → HasSlot n s → n.block s < shape.blocks
  pub apart : (s t : Slot) → HasSlot n s → HasSlot n t → n.block s ≡ n.block t → s ≡ t

-- each block of the grown node is one that it may have
pub grown_available : (l : Layout) (i size : ℕ) (taken : List ℕ) → Takes l (l.node i) size taken → (s : Slot) → HasSlot (grown (l.node i) size taken) s → Available l i (grown_block (l.node i) size taken s)
grown_available l i size taken t s h = elim (sourced l (l.node i) size taken s t h) [
  | inl old ↦ inl (s, old, sym (same_old (l.node i) size taken s old))
  | inr new ↦ inr (subst (IsFree l) (sym new.1.is) (t.free new.0 new.1.within))
]

-- a node that grows from blocks that are its inode's own, by free ones
pub node_grown_fits : (l : Layout) (n : Placed) (len : ℕ) (taken : List ℕ) → n.kind ≤ 3 → BlocksFit l.shape n → ((s : Slot) → HasSlot n s → Owned l (n.block s)) → Takes l n len taken → SizeFits n.kind len → NodeFits l.shape (grown n len taken)
node_grown_fits l n len taken kind own mine t fits = record {
  kind = kind;
  size = λ used. fits;
  from = λ s has. elim (sourced l n len taken s t has) [ inl old ↦ subst (λ b. reserved l.shape ≤ b) (sym (same_old n len taken s old)) (own.from s old) | inr new ↦ subst (λ b. reserved l.shape ≤ b) (sym new.1.is) (t.free new.0 new.1.within).from ];
  to = λ s has. elim (sourced l n len taken s t has) [ inl old ↦ subst (λ (b : ℕ). b < l.shape.blocks) (sym (same_old n len taken s old)) (own.to s old) | inr new ↦ subst (λ (b : ℕ). b < l.shape.blocks) (sym new.1.is) (t.free new.0 new.1.within).to ];
  apart = λ s u hs hu same. elim (sourced l n len taken s t hs) [
    | inl a ↦ elim (sourced l n len taken u t hu) [
      | inl b ↦ own.apart s u a b (sym (same_old n len taken s a) ∙ same ∙ same_old n len taken u b)
      | inr b ↦ absurd (taken_out (n.block s) b.0 b.1.within (mine s a) (sym (same_old n len taken s a) ∙ same ∙ b.1.is))
    ]
    | inr a ↦ elim (sourced l n len taken u t hu) [
      | inl b ↦ absurd (taken_out (n.block u) a.0 a.1.within (mine u b) (sym (same_old n len taken u b) ∙ sym same ∙ a.1.is))
      | inr b ↦ same_slot n len taken s u a.0 b.0 (t.apart a.0 b.0 a.1.within b.1.within (sym a.1.is ∙ same ∙ b.1.is)) t.grows a.1 b.1
    ]
  ];
}
  where
    taken_out : (b k : ℕ) → k < length taken → Owned l b → b ≡ slice_index taken k → ⊥
    taken_out b k within owned e = (t.free k within).free (subst (Owned l) e owned)

pub grown_fits : (l : Layout) (i size : ℕ) (taken : List ℕ) → IsLaid l → IsIno l.shape i → Takes l (l.node i) size taken → SizeFits (l.node i).kind size → NodeFits l.shape (grown (l.node i) size taken)
grown_fits l i size taken h ino t fits =
    let own = node_fits l i h ino in
    node_grown_fits l (l.node i) size taken own.kind (record { from = own.from; to = own.to; apart = own.apart }) (λ s has. record { node = i; slot = s; owns = record { ino = ino; slot = has }; is = refl }) t fits

-- words below the old size are what they were, where the node's old pages are
pub grown_word : (f g : BlockWords) (n : Placed) (size : ℕ) (taken : List ℕ) (y : ℕ) → 0 < n.kind → n.size ≤ size → 8 * y < n.size → ((p : ℕ) → HasSlot n (AtPage p) → (w : ℕ) → g (n.block (AtPage p)) w ≡ f (n.block (AtPage p)) w) → word_in g (grown n size taken) y ≡ word_in f n y
grown_word f g n size taken y used grows within same =
    let old : y / 512 < pages n.size = omega (arith, within) in
    let has : HasSlot n (AtPage (y / 512)) = record { used = used; within = old } in
    ap (λ t. cond t (g (grown_block n size taken (AtPage (y / 512))) (y % 512)) 0) (counts_of n.kind size y used (omega (arith, within, grows))) ∙ ap (λ t. g (cond t (n.block (AtPage (y / 512))) (slice_index taken (y / 512 - pages n.size))) (y % 512)) (less_true _ _ old) ∙ same (y / 512) has (y % 512) ∙ sym (ap (λ t. cond t (f (n.block (AtPage (y / 512))) (y % 512)) 0) (counts_of n.kind n.size y used within))

-- ---- shrinking

within_more : (a b : ℕ) (s : Slot) → a ≤ b → Within a s → Within b s
within_more a b (AtPage p) le h = let within : p < pages a = h in omega (arith, within, le)
within_more a b (AtTable k) le h =
    let few = few_tables a k h in
    let many : nat_lt 24 (pages b) ≡ true = more _ (let m = few.1 in omega (arith, m, le)) in
    subst (λ t. k < cond t 1 0) (sym many) (let zero = few.0 in omega (arith, zero))
  where
    more : (x : ℕ) → 24 < x → nat_lt 24 x ≡ true
    more x h = grind (arith, nat_tests, h)

pub shrunk_has : (n : Placed) (size : ℕ) (s : Slot) → size ≤ n.size → HasSlot (shrunk n size) s → HasSlot n s
shrunk_has n size s le h = record { used = h.used; within = within_more size n.size s le h.within }

pub grown_has : (n : Placed) (size : ℕ) (taken : List ℕ) (s : Slot) → n.size ≤ size → HasSlot n s → HasSlot (grown n size taken) s
grown_has n size taken s le h = record { used = h.used; within = within_more n.size size s le h.within }

pub shrunk_available : (l : Layout) (i size : ℕ) (s : Slot) → size ≤ (l.node i).size → HasSlot (shrunk (l.node i) size) s → Available l i ((l.node i).block s)
shrunk_available l i size s le h = inl (s, shrunk_has (l.node i) size s le h, refl)

pub shrunk_fits : (shape : VolumeShape) (n : Placed) (size : ℕ) → NodeFits shape n → size ≤ n.size → SizeFits n.kind size → NodeFits shape (shrunk n size)
shrunk_fits shape n size h le fits = record {
  kind = h.kind;
  size = λ used. fits;
  from = λ s has. h.from s (shrunk_has n size s le has);
  to = λ s has. h.to s (shrunk_has n size s le has);
  apart = λ s t hs ht e. h.apart s t (shrunk_has n size s le hs) (shrunk_has n size t le ht) e;
}
