-- Block numbers as they are read from an inode and from an indirect block.
use Rattle.node_pages.proofs.Common.{slice_index, List, length, take, drop, subst, sym, ◌++◌, ◌≡◌, ℕ, ◌+◌, ◌-◌, ◌/◌, ◌<◌, ◌≤◌, ap, ◌∙◌, arith, BlockWords, AtPage, AtTable, HasSlot, placed_at, first_table, later_of, lies_self, table_of}
use Rattle.std.proofs.lemmas.List.{take_at}
use Rattle.rio_base.specs.Blocks.{IsRun}
use Rattle.rio_base.specs.Layout.{half, inode_word}
use Rattle.rio_model.proofs.PlacedRules.{direct_of}

pub direct_value : (f : BlockWords) (i p w b : ℕ) → p < 24 → HasSlot (placed_at f i) (AtPage p) → w ≡ inode_word f i (2 + p / 2) → b ≡ half w p → b ≡ (placed_at f i).block (AtPage p)
direct_value f i p w b few has word is = is ∙ ap (λ x. half x p) word ∙ direct_of f i (placed_at f i) p (lies_self f i) few has

pub table_value : (f : BlockWords) (i p w b : ℕ) → 24 ≤ p → HasSlot (placed_at f i) (AtPage p) → w ≡ inode_word f i 14 → b ≡ half w 0 → b ≡ (placed_at f i).block (AtTable 0)
table_value f i p w b past has word is = is ∙ ap (λ x. half x 0) word ∙ table_of f i (placed_at f i) 0 (lies_self f i) (first_table (placed_at f i) p has past)

pub later_value : (f : BlockWords) (i p w b x : ℕ) → 24 ≤ p → HasSlot (placed_at f i) (AtPage p) → x ≡ (p - 24) / 2 → w ≡ f ((placed_at f i).block (AtTable 0)) x → b ≡ half w p → b ≡ (placed_at f i).block (AtPage p)
later_value f i p w b x past has at word is = is ∙ ap (λ z. half z p) (word ∙ ap (f ((placed_at f i).block (AtTable 0))) at) ∙ later_of f i (placed_at f i) p (lies_self f i) past has

-- a number in words of the indirect block that were read as a run
pub run_number : (f : BlockWords) (i p w count : ℕ) (words : List ℕ) → IsRun f ((placed_at f i).block (AtTable 0)) w count words → 24 ≤ p → HasSlot (placed_at f i) (AtPage p) → w ≤ (p - 24) / 2 → (p - 24) / 2 < w + count → half (slice_index words ((p - 24) / 2 - w)) p ≡ (placed_at f i).block (AtPage p)
run_number f i p w count words run past has low high =
    let at : w + ((p - 24) / 2 - w) ≡ (p - 24) / 2 = omega (arith, low) in
    ap (λ z. half z p) (run.each ((p - 24) / 2 - w) (omega (arith, low, high)) ∙ ap (f ((placed_at f i).block (AtTable 0))) at) ∙ later_of f i (placed_at f i) p (lies_self f i) past has

-- a list that was lent to be filled, as it is afterwards
pub filled_len : (new old : List ℕ) (len n : ℕ) → length new ≡ len → len ≡ n → length (take len (new ++ drop (length new) old)) ≡ n
filled_len new old len n is few = ap length (take_at new (drop (length new) old) len is) ∙ is ∙ few

pub filled_run : (f : BlockWords) (b w m len n : ℕ) (new old : List ℕ) → IsRun f b w m new → m ≡ n → length new ≡ len → IsRun f b w n (take len (new ++ drop (length new) old))
filled_run f b w m len n new old run few is = subst (λ ws. IsRun f b w n ws) (sym (take_at new (drop (length new) old) len is)) (subst (λ k. IsRun f b w k new) few run)
