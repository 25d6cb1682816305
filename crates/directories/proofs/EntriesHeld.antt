-- What a directory holds after edits that store entries.
use Rattle.directories.proofs.Common.{◌≡◌, ◌≢◌, ℕ, ◌+◌, ◌-◌, ◌*◌, ◌/◌, ◌%◌, ◌<◌, ◌≤◌, ◌⊎◌, ◌==◌, ◌&&◌, Bool, true, false, cond, List, [], ◌∷◌, refl, sym, ap, ◌∙◌, arith, inl, inr, slice_index, nat_lt, cases_eq, cases_lt, nat_tests, BlockWords, Held, held, Slot, AtPage, Placed, HasSlot, edited}
use Rattle.rio_model.proofs.HeldRules.{same_held}
use Rattle.rio_model.proofs.PlacedRules.{page_page}
use Rattle.rio_model.proofs.UpdateRules.{edited_on, run_in, run_out}
use Rattle.directories.specs.Contents.{AllGoInto, GoesInto, all_edits, entry_edits, sized_to, with_entries, with_entry}
use Rattle.directories.specs.declared.storing.EntryWords.{EntryWords}

-- no two slots of a node have one block
abbrev pub BlocksApart : Placed → Type 0
BlocksApart m = (s t : Slot) → HasSlot m s → HasSlot m t → m.block s ≡ m.block t → s ≡ t

-- the words of a node's pages, as far as they are known
abbrev pub PagesHold : BlockWords → Placed → (ℕ → Type 0) → (ℕ → ℕ) → Type 0
PagesHold g m known word = (y : ℕ) → known y → HasSlot m (AtPage (y / 512)) → g (m.block (AtPage (y / 512))) (y % 512) ≡ word y

-- word y is in one of these slots
abbrev pub InSlots : List ℕ → ℕ → Type 0
InSlots [] y = ⊥
InSlots (j ∷ slots) y = (y / 8 ≡ j) ⊎ InSlots slots y

-- one entry stored: its words are known too
one_held : (g : BlockWords) (m : Placed) (known : ℕ → Type 0) (h : Held) (j : ℕ) (e : EntryWords) → BlocksApart m → GoesInto m j e → PagesHold g m known h.word → PagesHold (edited g (entry_edits e)) m (λ y. known y ⊎ (y / 8 ≡ j)) (with_entry h j (slice_index e.words)).word
one_held g m known h j e apart into was y on has = elim (cases_eq (y / 8) j) [
  | inl here ↦ stored here
  | inr away ↦ elim on [
    | inl old ↦ beside away (cases_eq (m.block (AtPage (y / 512))) e.block.0) ∙ was y old has ∙ sym (other away)
    | inr here ↦ absurd (away here)
  ]
]
  where
    value : ℕ → ℕ
    value w = slice_index e.words (w - e.first)

    other : y / 8 ≢ j → (with_entry h j (slice_index e.words)).word y ≡ h.word y
    other away = let test : (y / 8 == j) ≡ false = grind (arith, nat_tests, away) in ap (λ b. cond b (slice_index e.words (y % 8)) (h.word y)) test

    stored : y / 8 ≡ j → edited g (entry_edits e) (m.block (AtPage (y / 512))) (y % 512) ≡ (with_entry h j (slice_index e.words)).word y
    stored here =
        let page : y / 512 ≡ j / 64 = omega (arith, here) in
        let first = into.first in
        let rest : y % 512 - e.first ≡ y % 8 = omega (arith, here, first) in
        let test : (y / 8 == j) ≡ true = grind (arith, nat_tests, here) in
        ap (λ b. edited g (entry_edits e) b (y % 512)) (ap (λ p. m.block (AtPage p)) page ∙ sym into.block)
        ∙ run_in 8 e.first g e.block.0 value (y % 512) (omega (arith, here, first)) (omega (arith, here, first))
        ∙ ap (slice_index e.words) rest
        ∙ sym (ap (λ b. cond b (slice_index e.words (y % 8)) (h.word y)) test)

    beside : y / 8 ≢ j → (m.block (AtPage (y / 512)) ≡ e.block.0) ⊎ (m.block (AtPage (y / 512)) ≢ e.block.0) → edited g (entry_edits e) (m.block (AtPage (y / 512))) (y % 512) ≡ g (m.block (AtPage (y / 512))) (y % 512)
    beside away (inr off) = run_out 8 e.first g e.block.0 value (m.block (AtPage (y / 512))) (y % 512) (inl off)
    beside away (inl on_block) =
        let page : y / 512 ≡ j / 64 = page_page (y / 512) (j / 64) (apart (AtPage (y / 512)) (AtPage (j / 64)) has into.page (on_block ∙ into.block)) in
        run_out 8 e.first g e.block.0 value (m.block (AtPage (y / 512))) (y % 512) (inr (out page))
      where
        out : y / 512 ≡ j / 64 → (y % 512 < e.first) ⊎ (e.first + 8 ≤ y % 512)
        out page = elim (cases_lt (y % 512) e.first) [
          | inl low ↦ inl low
          | inr past ↦ inr (let first = into.first in omega (arith, page, past, away, first))
        ]

-- all entries stored, one after the other
pub entries_held : (slots : List ℕ) (puts : List EntryWords) (g : BlockWords) (m : Placed) (known : ℕ → Type 0) (h : Held) → BlocksApart m → AllGoInto m slots puts → PagesHold g m known h.word → PagesHold (edited g (all_edits puts)) m (λ y. known y ⊎ InSlots slots y) (with_entries h slots puts).word
entries_held [] [] g m known h apart into was y (inl on) has = was y on has
entries_held [] [] g m known h apart into was y (inr none) has = absurd none
entries_held [] (e ∷ puts) g m known h apart into was y on has = absurd into
entries_held (j ∷ slots) [] g m known h apart into was y on has = absurd into
entries_held (j ∷ slots) (e ∷ puts) g m known h apart into was y on has =
    ap (λ (f : BlockWords). f (m.block (AtPage (y / 512))) (y % 512)) (edited_on (entry_edits e) (all_edits puts) g)
    ∙ entries_held slots puts (edited g (entry_edits e)) m (λ z. known z ⊎ (z / 8 ≡ j)) (with_entry h j (slice_index e.words)) apart into.1 (one_held g m known h j e apart into.0 was) y (split on) has
  where
    split : known y ⊎ InSlots (j ∷ slots) y → (known y ⊎ (y / 8 ≡ j)) ⊎ InSlots slots y
    split (inl old) = inl (inl old)
    split (inr (inl here)) = inl (inr here)
    split (inr (inr later)) = inr later

-- so the whole directory is held, where each of its words is known or stored
pub directory_held : (slots : List ℕ) (puts : List EntryWords) (g : BlockWords) (m : Placed) (known : ℕ → Type 0) (h : Held) → 0 < m.kind → h.kind ≡ m.kind → BlocksApart m → AllGoInto m slots puts → PagesHold g m known h.word → ((y : ℕ) → 8 * y < m.size → known y ⊎ InSlots slots y) → held (edited g (all_edits puts)) m ≡ sized_to m.size (with_entries h slots puts)
directory_held slots puts g m known h used kind apart into was all = same_held _ _ (sym kind ∙ sym (same_kind slots puts h)) size word
  where
    same_kind : (slots : List ℕ) (puts : List EntryWords) (h : Held) → (with_entries h slots puts).kind ≡ h.kind
    same_kind [] puts h = refl
    same_kind (j ∷ slots) [] h = refl
    same_kind (j ∷ slots) (e ∷ puts) h = same_kind slots puts (with_entry h j (slice_index e.words))

    size : cond (nat_lt 0 m.kind) m.size 0 ≡ m.size
    size = ap (λ b. cond b m.size 0) (let test : nat_lt 0 m.kind ≡ true = grind (arith, nat_tests, used) in test)

    word : (y : ℕ) → (held (edited g (all_edits puts)) m).word y ≡ (sized_to m.size (with_entries h slots puts)).word y
    word y = by (nat_lt (8 * y) m.size) refl
      where
        by : (b : Bool) → nat_lt (8 * y) m.size ≡ b → cond (nat_lt 0 m.kind && nat_lt (8 * y) m.size) (edited g (all_edits puts) (m.block (AtPage (y / 512))) (y % 512)) 0 ≡ cond (nat_lt (8 * y) m.size) ((with_entries h slots puts).word y) 0
        by true is =
            let below : 8 * y < m.size = grind (arith, nat_tests, is) in
            let both : (nat_lt 0 m.kind && nat_lt (8 * y) m.size) ≡ true = grind (arith, nat_tests, used, below) in
            ap (λ b. cond b (edited g (all_edits puts) (m.block (AtPage (y / 512))) (y % 512)) 0) both ∙ entries_held slots puts g m known h apart into was y (all y below) (record { used = used; within = (omega (arith, below)) }) ∙ sym (ap (λ b. cond b ((with_entries h slots puts).word y) 0) is)
        by false is =
            let neither : (nat_lt 0 m.kind && nat_lt (8 * y) m.size) ≡ false = none (nat_lt 0 m.kind) is in
            ap (λ b. cond b (edited g (all_edits puts) (m.block (AtPage (y / 512))) (y % 512)) 0) neither ∙ sym (ap (λ b. cond b ((with_entries h slots puts).word y) 0) is)
          where
            none : (t : Bool) → nat_lt (8 * y) m.size ≡ false → (t && nat_lt (8 * y) m.size) ≡ false
            none true e = e
            none false e = refl
