-- A node that grows: an update that stores its new numbers turns it into the grown one.
use Rattle.node_pages.proofs.Common.{◌≡◌, ◌≢◌, ℕ, ◌+◌, ◌-◌, ◌*◌, ◌/◌, ◌%◌, ◌^◌, ◌<◌, ◌≤◌, ◌==◌, ◌&&◌, ◌⊎◌, true, false, cond, List, [], length, map, refl, sym, ap, subst, ◌∙◌, arith, inl, inr, nat_lt, nat_le, slice_index, AllByRecursion, Contains, cases_eq, nat_tests, get_or-map-range_with_len, VolumeShape, BlockWords, IsIno, numbers, Inode, few_tables, most_tables, one_table, page_new, page_old, same_old, sourced, Takes, grown, Slot, AtPage, AtTable, Placed, HasSlot, placed_at, Layout, volume_layout, later_of, pages, tables, Turns, edited, run_edits, IsLaid, NodeFits, SizeFits}
use Rattle.rio_base.specs.Layout.{half}
use Rattle.inode_table.specs.Inodes.{inode_words, pair_word, word_of_inode}
use Rattle.rio_model.proofs.GrowthRules.{BlocksFit, grown_has, node_grown_fits, table_new, table_old}
use Rattle.rio_model.specs.Placed.{Lies}
use Rattle.rio_model.proofs.PlacedRules.{cases_lt, node_fits}
use Rattle.rio_model.proofs.UpdateRules.{high_half, low_half, run_edits_node, run_in, run_out}
use Rattle.rio_model.specs.Updates.{EditsNode}
use Rattle.node_pages.specs.Changes.{PlansFor, given_node, new_direct, new_number, new_word, planned_node, size_update, word_edit}
use Rattle.node_pages.proofs.GrowingLaws.{end_word, first_word}
use Rattle.node_pages.specs.declared.changes.SizeChange.{SizeChange}
use Rattle.node_pages.proofs.Given.{Given, given_of}
use Rattle.node_pages.proofs.Listed.{listed, place_of}

-- ---- tests and sizes

less_true : (a b : ℕ) → a < b → nat_lt a b ≡ true
less_true a b h = grind (arith, nat_tests, h)

less_false : (a b : ℕ) → b ≤ a → nat_lt a b ≡ false
less_false a b h = grind (arith, nat_tests, h)

le_true : (a b : ℕ) → a ≤ b → nat_le a b ≡ true
le_true a b h = grind (arith, nat_tests, h)

le_false : (a b : ℕ) → b < a → nat_le a b ≡ false
le_false a b h = grind (arith, nat_tests, h)

-- ---- what the parts of a growth gave

pub record Made (shape : VolumeShape) (f : BlockWords) (i : ℕ) (given : Inode) (len last table : ℕ) (c : SizeChange) : Type 0 where
  pub laid : IsLaid (volume_layout shape f)
  pub ino : IsIno shape i
  pub plans : PlansFor f i given
  pub fits : SizeFits given.kind len
  pub takes : Takes (volume_layout shape f) (given_node f i given) len (numbers c.taken)
  pub last_is : 24 < pages given.size → pages given.size % 2 ≡ 1 → last ≡ (placed_at f i).block (AtPage (pages given.size - 1))
  pub last_fits : last < 2 ^ 32
  pub new_table : tables len - tables given.size ≡ 1 → table ≡ slice_index (numbers c.taken) (pages len - pages given.size)
  pub old_table : tables len - tables given.size ≡ 0 → table ≡ given.indirect
  pub kind : c.inode.kind ≡ given.kind
  pub size : c.inode.size ≡ len
  pub direct : (p : ℕ) → p < 24 → slice_index c.inode.direct p ≡ new_direct given.direct (pages given.size) (pages len) (numbers c.taken) p
  pub indirect : c.inode.indirect ≡ table
  pub edits : map word_edit c.edits ≡ run_edits table (new_word last (pages given.size) (pages len) (numbers c.taken)) (first_word (pages given.size)) (end_word (pages len) - first_word (pages given.size))
  pub freed : numbers c.freed ≡ []

pub inode_word_is : (n : Inode) (w : ℕ) → w < 16 → slice_index (inode_words n) w ≡ word_of_inode n w
unfolding inode_words
inode_word_is n w few = get_or-map-range_with_len (word_of_inode n) 0 16 w w 0 few (let at : 0 + w ≡ w = omega arith in at)

number_old : (last have want : ℕ) (taken : List ℕ) (p : ℕ) → p < have → new_number last have want taken p ≡ last
number_old last have want taken p h = ap (λ t. cond t last (cond (nat_lt p want) (slice_index taken (p - have)) 0)) (less_true p have h)

number_new : (last have want : ℕ) (taken : List ℕ) (p : ℕ) → have ≤ p → p < want → new_number last have want taken p ≡ slice_index taken (p - have)
number_new last have want taken p h k = ap (λ t. cond t last (cond (nat_lt p want) (slice_index taken (p - have)) 0)) (less_false p have h) ∙ ap (λ t. cond t (slice_index taken (p - have)) 0) (less_true p want k)

-- the half of a word of an inode that has a direct number
pub direct_half : (n : Inode) (p b : ℕ) → p < 24 → slice_index n.direct p ≡ b → b < 2 ^ 32 → (p % 2 ≡ 1 → slice_index n.direct (p - 1) < 2 ^ 32) → half (slice_index (inode_words n) (2 + p / 2)) p ≡ b
direct_half n p b few is fits before = ap (λ w. half w p) (inode_word_is n (2 + p / 2) (omega (arith, few)) ∙ pair_at n p few) ∙ by_case (cases_eq (p % 2) 0)
  where
    pair_at : (n : Inode) (p : ℕ) → p < 24 → word_of_inode n (2 + p / 2) ≡ pair_word (slice_index n.direct (2 * (p / 2))) (slice_index n.direct (2 * (p / 2) + 1))
    pair_at n p few =
        let w = 2 + p / 2 in
        let a : (2 + p / 2 == 0) ≡ false = grind (arith, nat_tests) in
        let b : (2 + p / 2 == 1) ≡ false = grind (arith, nat_tests) in
        let d : nat_lt (2 + p / 2) 14 ≡ true = less_true (2 + p / 2) 14 (omega (arith, few)) in
        let two : 2 + p / 2 - 2 ≡ p / 2 = omega arith in
        let pair = λ (x : ℕ). pair_word (slice_index n.direct (2 * x)) (slice_index n.direct (2 * x + 1)) in
        ap (λ t. cond t n.kind (cond (w == 1) n.size (cond (nat_lt w 14) (pair (w - 2)) (cond (w == 14) n.indirect n.double)))) a
        ∙ ap (λ t. cond t n.size (cond (nat_lt w 14) (pair (w - 2)) (cond (w == 14) n.indirect n.double))) b
        ∙ ap (λ t. cond t (pair (w - 2)) (cond (w == 14) n.indirect n.double)) d
        ∙ ap pair two

    by_case : (p % 2 ≡ 0) ⊎ (p % 2 ≢ 0) → half (pair_word (slice_index n.direct (2 * (p / 2))) (slice_index n.direct (2 * (p / 2) + 1))) p ≡ b
    by_case (inl even) =
        let at : 2 * (p / 2) ≡ p = omega (arith, even) in
        let here : slice_index n.direct (2 * (p / 2)) ≡ b = ap (slice_index n.direct) at ∙ is in
        low_half _ _ p even (subst (λ (x : ℕ). x < 2 ^ 32) (sym here) fits) ∙ here
    by_case (inr not) =
        let odd : p % 2 ≡ 1 = omega (arith, not) in
        let first : 2 * (p / 2) ≡ p - 1 = omega (arith, odd) in
        let second : 2 * (p / 2) + 1 ≡ p = omega (arith, odd) in
        let here : slice_index n.direct (2 * (p / 2) + 1) ≡ b = ap (slice_index n.direct) second ∙ is in
        high_half _ _ p odd (subst (λ (x : ℕ). x < 2 ^ 32) (ap (slice_index n.direct) (sym first)) (before odd)) (subst (λ (x : ℕ). x < 2 ^ 32) (sym here) fits) ∙ here

low_alone : (x : ℕ) → x < 2 ^ 32 → half x 0 ≡ x
unfolding half
low_alone x few = omega (arith, few)

pub indirect_half : (n : Inode) (b : ℕ) → n.indirect ≡ b → b < 2 ^ 32 → half (slice_index (inode_words n) 14) 0 ≡ b
indirect_half n b is fits = ap (λ w. half w 0) (inode_word_is n 14 (omega arith)) ∙ low_alone n.indirect (subst (λ (x : ℕ). x < 2 ^ 32) (sym is) fits) ∙ is

-- the table that the parts name is the grown node's
pub made_table : (shape : VolumeShape) (f : BlockWords) (i : ℕ) (given : Inode) (len last table : ℕ) (c : SizeChange) → Made shape f i given len last table c → (k : ℕ) → HasSlot (planned_node f i given len c) (AtTable k) → table ≡ (planned_node f i given len c).block (AtTable k)
made_table shape f i given len last table c h k hs = elim (cases_lt k (tables given.size)) [
  | inl old ↦
      let one_n : tables given.size ≡ 1 = one_table given.size (few_tables given.size k old.0).1 in
      let one_m : tables len ≡ 1 = one_table len (few_tables len k hs.within).1 in
      h.old_table (omega (arith, one_n, one_m)) ∙ (given_of f i given h.plans).indirect k (record { used = hs.used; within = old.0 }) ∙ sym (table_old (given_node f i given) len k (numbers c.taken) old.0)
  | inr new ↦
      let first = (few_tables len k hs.within).0 in
      let none_n = new.0 in
      let one_m : tables len ≡ 1 = one_table len (few_tables len k hs.within).1 in
      h.new_table (omega (arith, none_n, one_m, first)) ∙ sym (table_new (given_node f i given) len k (numbers c.taken) new.0)
]

pub made_grows : (shape : VolumeShape) (f : BlockWords) (i : ℕ) (given : Inode) (len last table : ℕ) (c : SizeChange) → Made shape f i given len last table c → Turns shape (placed_at f i) (planned_node f i given len c) (size_update i c)
made_grows shape f i given len last table c h = record {
  shape_fits = h.laid.shape_fits;
  ino = h.ino;
  old_fits = was_fits;
  new_fits = m_fits;
  gains = λ s hs. elim (sourced l n len taken s h.takes hs) [
    | inl old ↦ inl (s, g.back s old, sym (same_old n len taken s old))
    | inr new ↦ inr (subst (Contains taken) (sym new.1.is) (listed taken new.0 new.1.within))
  ];
  loses = λ s hs. let old = g.on s hs in inl (s, grown_has n len taken s h.takes.grows old, same_old n len taken s old);
  taken = λ b on. (taken_of b on, λ s hs e. (h.takes.free (place_of taken b on).0 (place_of taken b on).1).free (record { node = i; slot = s; owns = record { ino = h.ino; slot = hs }; is = e ∙ sym (place_of taken b on).2 }));
  freed = λ b on. absurd (none b (subst (λ xs. Contains xs b) h.freed on));
  edits = subst (AllByRecursion (EditsNode m)) (sym h.edits) (each_edit (cases_eq count 0));
  kind = inode_word_is c.inode 0 (omega arith) ∙ h.kind;
  size = inode_word_is c.inode 1 (omega arith) ∙ h.size;
  direct = λ p few hs. direct_half c.inode p (m.block (AtPage p)) few (direct_of p few hs) (fits32 (AtPage p) hs)
      (λ odd. let before : HasSlot m (AtPage (p - 1)) = record { used = hs.used; within = (let within : p < want = hs.within in omega (arith, within)) } in subst (λ (x : ℕ). x < 2 ^ 32) (sym (direct_of (p - 1) (omega (arith, few)) before)) (fits32 (AtPage (p - 1)) before));
  indirect = λ k hs. let zero = (few_tables len k hs.within).0 in indirect_half c.inode (m.block (AtTable k)) (h.indirect ∙ table_is k hs) (fits32 (AtTable k) hs);
  later = later;
}
  where
    l : Layout
    l = volume_layout shape f

    n : Placed
    n = given_node f i given

    g : Given f i given
    g = given_of f i given h.plans

    taken : List ℕ
    taken = numbers c.taken

    m : Placed
    m = grown n len taken

    have : ℕ
    have = pages given.size

    want : ℕ
    want = pages len

    first : ℕ
    first = first_word have

    count : ℕ
    count = end_word want - first

    v : ℕ → ℕ
    v = new_word last have want taken

    was_fits : NodeFits shape (placed_at f i)
    was_fits = node_fits l i h.laid h.ino

    n_fits : BlocksFit shape n
    n_fits = record {
      from = λ s hs. was_fits.from s (g.back s hs);
      to = λ s hs. was_fits.to s (g.back s hs);
      apart = λ s t hs ht e. was_fits.apart s t (g.back s hs) (g.back t ht) e;
    }

    kind_of : PlansFor f i given → given.kind ≤ 3
    kind_of (inl own) = subst (λ (k : ℕ). k ≤ 3) (sym own.0.kind) (h.laid.kinds.each i h.ino).0
    kind_of (inr new) = new.3

    m_fits : NodeFits shape m
    m_fits = node_grown_fits l n len taken (kind_of h.plans) n_fits (λ s hs. record { node = i; slot = s; owns = record { ino = h.ino; slot = g.back s hs }; is = refl }) h.takes h.fits

    none : (b : ℕ) → Contains [] b → ⊥
    none b (k, few, e) = omega (arith, few)

    fits32 : (s : Slot) → HasSlot m s → m.block s < 2 ^ 32
    fits32 s hs = let to = m_fits.to s hs in let most = h.laid.shape_fits.blocks_to in omega (arith, to, most)

    count_is : length taken ≡ (want - have) + (tables len - tables given.size)
    count_is = h.takes.count

    taken_of : (b : ℕ) → Contains taken b → (s : Slot) × HasSlot m s × (m.block s ≡ b)
    taken_of b on = by_place (place_of taken b on)
      where
        last_place : (t a b : ℕ) → want ≤ t + have → t < length taken → length taken ≡ (want - have) + (a - b) → have ≤ want → a ≤ 1 → t ≡ want - have
        last_place t a b past few size le one = omega (arith, past, few, size, le, one)

        by_place : ((t : ℕ) × (t < length taken) × (slice_index taken t ≡ b)) → (s : Slot) × HasSlot m s × (m.block s ≡ b)
        by_place (t, few, e) = elim (cases_lt (t + have) want) [
          | inl page ↦
              let within = page.0 in
              let back : t + have - have ≡ t = omega arith in
              (AtPage (t + have), record { used = g.used; within = within }, page_new n len (t + have) taken (omega arith) ∙ ap (slice_index taken) back ∙ e)
          | inr tab ↦
              let past = tab.0 in
              let size = count_is in
              let le : have ≤ want = (let grows = h.takes.grows in omega (arith, grows)) in
              let at : t ≡ want - have = last_place t (tables len) (tables given.size) past few size le (most_tables len) in
              let new : tables given.size < tables len = omega (arith, past, few, size, le) in
              (AtTable 0, record { used = g.used; within = (omega (arith, new)) }, table_new n len 0 taken (let m1 = most_tables len in omega (arith, new, m1)) ∙ ap (slice_index taken) (sym at) ∙ e)
        ]

    table_has : 0 < count → HasSlot m (AtTable 0)
    table_has some = record { used = g.used; within = subst (λ (x : ℕ). 0 < x) (sym (one_table len (omega (arith, some)))) (omega arith) }

    table_is : (k : ℕ) → HasSlot m (AtTable k) → table ≡ m.block (AtTable k)
    table_is k hs = made_table shape f i given len last table c h k hs

    each_edit : (count ≡ 0) ⊎ (count ≢ 0) → AllByRecursion (EditsNode m) (run_edits table v first count)
    each_edit (inl nothing) = subst (λ x. AllByRecursion (EditsNode m) (run_edits table v first x)) (sym nothing) tt
    each_edit (inr some) = run_edits_node m table v count first (let has = table_has (omega (arith, some)) in (AtTable 0, has, sym (table_is 0 has)))

    direct_of : (p : ℕ) → p < 24 → HasSlot m (AtPage p) → slice_index c.inode.direct p ≡ m.block (AtPage p)
    direct_of p few hs = elim (cases_lt p have) [
      | inl old ↦
          let test : (nat_le have p && nat_lt p want) ≡ false = ap (λ t. t && nat_lt p want) (le_false have p old.0) in
          h.direct p few ∙ ap (λ t. cond t (slice_index taken (p - have)) (slice_index given.direct p)) test ∙ g.direct p few (record { used = hs.used; within = old.0 }) ∙ sym (page_old n len p taken old.0)
      | inr new ↦
          let test : (nat_le have p && nat_lt p want) ≡ true = ap (λ t. t && nat_lt p want) (le_true have p new.0) ∙ less_true p want hs.within in
          h.direct p few ∙ ap (λ t. cond t (slice_index taken (p - have)) (slice_index given.direct p)) test ∙ sym (page_new n len p taken new.0)
    ]

    number_is : (p : ℕ) → have ≤ p → HasSlot m (AtPage p) → new_number last have want taken p ≡ m.block (AtPage p)
    number_is p many hs = number_new last have want taken p many hs.within ∙ sym (page_new n len p taken many)

    late : (p : ℕ) → 24 + 2 * first ≤ p → p % 2 ≡ 1 → have ≤ p
    late p low odd = omega (arith, low, odd)

    here : (p : ℕ) → 24 + 2 * first ≤ p → p % 2 ≡ 0 → HasSlot m (AtPage p) → new_number last have want taken p ≡ m.block (AtPage p)
    here p low even hs = elim (cases_lt p have) [
      | inl old ↦
          let old0 = old.0 in
          let at : have - 1 ≡ p = omega (arith, old0, low, even) in
          number_old last have want taken p old0 ∙ h.last_is (omega (arith, old0, low)) (omega (arith, at, even, old0)) ∙ ap (λ x. n.block (AtPage x)) at ∙ sym (page_old n len p taken old0)
      | inr new ↦ number_is p new.0 hs
    ]

    below : (q : ℕ) → q < want → new_number last have want taken q < 2 ^ 32
    below q few = elim (cases_lt q have) [
      | inl old ↦ subst (λ (x : ℕ). x < 2 ^ 32) (sym (number_old last have want taken q old.0)) h.last_fits
      | inr new ↦ subst (λ (x : ℕ). x < 2 ^ 32) (sym (number_is q new.0 (record { used = g.used; within = few }))) (fits32 (AtPage q) (record { used = g.used; within = few }))
    ]

    says_of : (p : ℕ) → 24 + 2 * first ≤ p → HasSlot m (AtPage p) → half (v ((p - 24) / 2)) p ≡ m.block (AtPage p)
    says_of p low hs = elim (cases_eq (p % 2) 0) [
      | inl even ↦
          let at : 24 + 2 * ((p - 24) / 2) ≡ p = omega (arith, even, low) in
          let is : new_number last have want taken (24 + 2 * ((p - 24) / 2)) ≡ m.block (AtPage p) = ap (new_number last have want taken) at ∙ here p low even hs in
          low_half _ _ p even (subst (λ (x : ℕ). x < 2 ^ 32) (sym is) (fits32 (AtPage p) hs)) ∙ is
      | inr not ↦
          let odd : p % 2 ≡ 1 = omega (arith, not) in
          let at : 25 + 2 * ((p - 24) / 2) ≡ p = omega (arith, odd, low) in
          let is : new_number last have want taken (25 + 2 * ((p - 24) / 2)) ≡ m.block (AtPage p) = ap (new_number last have want taken) at ∙ number_is p (late p low odd) hs in
          high_half _ _ p odd (below (24 + 2 * ((p - 24) / 2)) (let within : p < want = hs.within in omega (arith, at, within))) (subst (λ (x : ℕ). x < 2 ^ 32) (sym is) (fits32 (AtPage p) hs)) ∙ is
    ]

    later : (k : BlockWords) → Lies k i (placed_at f i) → (p : ℕ) → 24 ≤ p → HasSlot m (AtPage p) → half (edited k (map word_edit c.edits) (m.block (AtTable 0)) ((p - 24) / 2)) p ≡ m.block (AtPage p)
    later k lies p past hs =
        let tab : HasSlot m (AtTable 0) = record { used = g.used; within = subst (λ (x : ℕ). 0 < x) (sym (one_table len (let within : p < want = hs.within in omega (arith, past, within)))) (omega arith) } in
        ap (λ es. half (edited k es (m.block (AtTable 0)) ((p - 24) / 2)) p) h.edits ∙ elim (cases_lt ((p - 24) / 2) first) [
          | inl early ↦
              let before = early.0 in
              let old : p < have = omega (arith, before, past) in
              let has : HasSlot n (AtPage p) = record { used = g.used; within = old } in
              let many : 24 < have = omega (arith, past, old) in
              let t : HasSlot n (AtTable 0) = record { used = g.used; within = subst (λ (x : ℕ). 0 < x) (sym (one_table given.size many)) (omega arith) } in
              ap (λ w. half w p) (run_out count first k table v (m.block (AtTable 0)) ((p - 24) / 2) (inr (inl before)) ∙ ap (λ b. k b ((p - 24) / 2)) (table_old n len 0 taken t.within))
              ∙ later_of k i (placed_at f i) p lies past (g.back (AtPage p) has) ∙ sym (page_old n len p taken old)
          | inr behind ↦
              let from = behind.0 in
              let within : p < want = hs.within in
              ap (λ b. half (edited k (run_edits table v first count) b ((p - 24) / 2)) p) (sym (table_is 0 tab))
              ∙ ap (λ w. half w p) (run_in count first k table v ((p - 24) / 2) from (omega (arith, past, within, from)))
              ∙ says_of p (omega (arith, from, past)) hs
        ]
