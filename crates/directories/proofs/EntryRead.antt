-- An entry of a directory that was read by itself.
use Rattle.directories.proofs.Common.{◌≡◌, ◌≢◌, ℕ, ◌+◌, ◌*◌, ◌/◌, ◌%◌, ◌^◌, ◌<◌, ◌≤◌, List, length, slice_index, refl, sym, ap, subst, ◌∙◌, arith, BlockWords, VolumeShape, Seen, Held, entry_ino, entry_name, held, held_of, AtPage, Placed, placed_at, EntryRule}
use Rattle.directories.specs.Entries.{name_in}
use Rattle.directories.specs.Reading.{CanReadDir}
use Rattle.directories.specs.Rows.{IsEntry}
use Rattle.directories.proofs.CanRead.{dir_held, dir_size, sized}
use Rattle.directories.proofs.Found.{entry_word}
use Rattle.directories.proofs.Listed.{names_short}
use Rattle.directories.proofs.NameWords.{name_length, name_moved}

-- these words are the entry of a slot
pub record IsSlot (h : Held) (j : ℕ) (words : List ℕ) : Type 0 where
  pub within : 64 * j < h.size
  pub named : name_in (slice_index words) 0 ≡ entry_name h j
  pub ino : slice_index words 0 % 2 ^ 32 ≡ entry_ino h j
  pub few : slice_index words 0 / 2 ^ 32 % 2 ^ 8 ≤ 56

pub slot_read : (shape : VolumeShape) (x : Seen) (d j size : ℕ) (words : List ℕ) → CanReadDir shape x d → size ≡ (placed_at x.words d).size → 64 * j < size → ((t : ℕ) → t < 8 → slice_index words t ≡ x.words ((placed_at x.words d).block (AtPage (j / 64))) (8 * (j % 64) + t)) → IsSlot (held_of shape x.words d) j words
slot_read shape x d j size words h is low each = subst (λ (k : Held). IsSlot k j words) (sym (dir_held shape x d h)) (record {
  within = within;
  named = named;
  ino = ap (λ w. w % 2 ^ 32) (sym (word 0 (omega arith))) ∙ (let at : 8 * j + 0 ≡ 8 * j = omega arith in ap (λ y. (held f n).word y % 2 ^ 32) at);
  few = few;
})
  where
    f : BlockWords
    f = x.words

    n : Placed
    n = placed_at x.words d

    below : 64 * j < n.size
    below = subst (λ (s : ℕ). 64 * j < s) is low

    used : 0 < n.kind
    used = let kind = h.dir in omega (arith, kind)

    within : 64 * j < (held f n).size
    within = subst (λ (s : ℕ). 64 * j < s) (sym (sized f n used)) below

    word : (t : ℕ) → t < 8 → (held f n).word (8 * j + t) ≡ slice_index words t
    word t small = entry_word f n j (j / 64) (n.block (AtPage (j / 64))) t used (dir_size shape x d h) below refl refl small ∙ sym (each t small)

    named : name_in (slice_index words) 0 ≡ entry_name (held f n) j
    named = name_moved (held f n).word (slice_index words) j 0 (entry_name (held f n) j) (names_short shape x d h j within) (λ t small. word t small ∙ (let at : t ≡ 8 * 0 + t = omega arith in ap (slice_index words) at)) refl

    few : slice_index words 0 / 2 ^ 32 % 2 ^ 8 ≤ 56
    few = subst (λ (m : ℕ). m ≤ 56) (sym (ap length named) ∙ name_length (slice_index words) 0) (names_short shape x d h j within)

-- an entry of this name is the name's row
pub slot_named : (h : Held) (j : ℕ) (words name : List ℕ) (i : ℕ) → IsSlot h j words → name_in (slice_index words) 0 ≡ name → i ≡ slice_index words 0 % 2 ^ 32 → IsEntry h j name i
slot_named h j words name i slot is ino = record { within = slot.within; named = sym slot.named ∙ is; ino = sym slot.ino ∙ sym ino }

-- and one of another name is not
pub slot_other : (h : Held) (j : ℕ) (words name : List ℕ) → IsSlot h j words → name_in (slice_index words) 0 ≢ name → (i : ℕ) → IsEntry h j name i → ⊥
slot_other h j words name slot other i row = other (slot.named ∙ row.named)

-- the name of an entry has 1 to 56 bytes where the rule on entries holds
pub entry_sized : (held : ℕ → Held) (d j i : ℕ) (name : List ℕ) → EntryRule held → (held d).kind ≡ 1 → IsEntry (held d) j name i → (1 ≤ length name) × (length name ≤ 56)
entry_sized held d j i name rule dir row =
    let is = (rule.each d j (record { dir = dir; within = row.within })).0 in
    (subst (λ (n : List ℕ). 1 ≤ length n) row.named is.some, subst (λ (n : List ℕ). length n ≤ 56) row.named is.few)
