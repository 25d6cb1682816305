-- The rules on a directory's entries, by its words.
use Rattle.rio_model.proofs.Common.{◌≡◌, ◌⊎◌, ℕ, ◌+◌, ◌*◌, ◌/◌, ◌<◌, ◌≤◌, ◌&&◌, ◌∙◌, Bool, true, false, cond, List, refl, sym, ap, subst, arith, inl, inr, length, slice_index, nat_tests, IsIno, VolumeShape}
use Rattle.std.specs.Prelude.{nat_le}
use Rattle.rio_base.specs.Blocks.{Seen}
use Rattle.rio_model.specs.Held.{HasEntry, Held, entry_ino, held, held_of, nothing}
use Rattle.rio_model.specs.Paths.{IsName}
use Rattle.rio_model.specs.Placed.{placed_at}
use Rattle.rio_model.specs.VolumeRules.{EntryRule, EntryAt}
use Rattle.rio_model.proofs.ReadStates.{HoldsWithin}
use Rattle.rio_model.proofs.VolumeFailRules.{ino_held}
use Rattle.volume_check.specs.Entries.{HasEntries, KeepsEntry, ino_in, kind_in, name_in}
use Rattle.volume_check.specs.Inodes.{HasInodes, said}
use Rattle.volume_check.specs.declared.inodes.Inodes.{Inodes}
use Rattle.volume_check.proofs.EntryBytes.{entry_within, ino_same, length-name_in, length_same, names_same, within_entry}

-- ---- kinds

kind_by : (a b : ℕ) (x : Held) (y : ℕ) → ((1 ≤ a) × (a ≤ b) → x.kind ≡ y) → (cond (nat_le 1 a && nat_le a b) x nothing).kind ≡ cond (nat_le 1 a && nat_le a b) y 0
kind_by a b x y same = by (nat_le 1 a && nat_le a b) (λ e. same (inside e))
  where
    inside : (nat_le 1 a && nat_le a b) ≡ true → (1 ≤ a) × (a ≤ b)
    inside e = (grind (arith, nat_tests), grind (arith, nat_tests))

    by : (t : Bool) → (t ≡ true → x.kind ≡ y) → (cond t x nothing).kind ≡ cond t y 0
    by true h = h refl
    by false h = refl

-- what an inode holds has the kind that it says
pub kind_is : (s : Seen) (n : Inodes) (i : ℕ) → HasInodes s n → (held_of n.shape s.words i).kind ≡ kind_in n i
kind_is s n i has = kind_by i n.shape.inodes (held s.words (placed_at s.words i)) (said n i 0) (λ ino. sym (has.each i 0 (record { from = ino.0; to = ino.1 }) (omega arith)))

pub kind_within : (n : Inodes) (i : ℕ) → IsIno n.shape i → kind_in n i ≡ said n i 0
kind_within n i ino = by i n.shape.inodes (said n i 0) ino.from ino.to
  where
    by : (a b y : ℕ) → 1 ≤ a → a ≤ b → cond (nat_le 1 a && nat_le a b) y 0 ≡ y
    by a b y from to = ap (λ t. cond t y 0) (let test : (nat_le 1 a && nat_le a b) ≡ true = grind (arith, nat_tests) in test)

pub kind_out : (n : Inodes) (i : ℕ) → (i < 1) ⊎ (n.shape.inodes < i) → kind_in n i ≡ 0
kind_out n i out = by i n.shape.inodes (said n i 0) out
  where
    off : (a b : ℕ) → (a < 1) ⊎ (b < a) → (nat_le 1 a && nat_le a b) ≡ false
    off a b (inl low) = grind (arith, nat_tests, low)
    off a b (inr high) = grind (arith, nat_tests, high)

    by : (a b y : ℕ) → (a < 1) ⊎ (b < a) → cond (nat_le 1 a && nat_le a b) y 0 ≡ 0
    by a b y o = ap (λ t. cond t y 0) (off a b o)

pub said_is : (s : Seen) (n : Inodes) (i k : ℕ) → HasInodes s n → IsIno n.shape i → said n i 0 ≡ k → (held_of n.shape s.words i).kind ≡ k
said_is s n i k has ino is = kind_is s n i has ∙ kind_within n i ino ∙ is

-- ---- rule 8

pub entry_at : (s : Seen) (n : Inodes) (d : ℕ) (words : List ℕ) → HasInodes s n → HasEntries (held_of n.shape s.words d) words → ((j : ℕ) → 8 * j + 8 ≤ length words → KeepsEntry n (slice_index words) j) → EntryAt (held_of n.shape s.words) d
entry_at s n d words has entries keeps j at =
    let h = held_of n.shape s.words d in
    let within = entry_within h words j entries at.within in
    let k = keeps j within in
    let few : length (name_in h.word j) ≤ 56 = subst (λ m. m ≤ 56) (length-name_in (slice_index words) j ∙ sym (length_same h words j entries within)) k.0.few in (
      subst IsName (names_same h words j entries within few) k.0,
      subst (λ m. 0 < m) (sym (kind_is s n (entry_ino h j) has ∙ ap (kind_in n) (sym (ino_same h words j entries within)))) k.1,
    )

pub at_entry : (s : Seen) (n : Inodes) (d : ℕ) (words : List ℕ) → HasInodes s n → (held_of n.shape s.words d).kind ≡ 1 → HasEntries (held_of n.shape s.words d) words → EntryAt (held_of n.shape s.words) d → (j : ℕ) → 8 * j + 8 ≤ length words → KeepsEntry n (slice_index words) j
at_entry s n d words has dir entries keeps j within =
    let h = held_of n.shape s.words d in
    let k = keeps j (record { dir = dir; within = within_entry h words j entries within }) in (
      subst IsName (sym (names_same h words j entries within k.0.few)) k.0,
      subst (λ m. 0 < m) (kind_is s n (entry_ino h j) has ∙ ap (kind_in n) (sym (ino_same h words j entries within))) k.1,
    )

-- a node that is no directory has no entries
pub entry_none : (held : ℕ → Held) (d k : ℕ) → (held d).kind ≡ k → (k ≡ 1 → ⊥) → EntryAt held d
entry_none held d k is other j at = absurd (other (sym is ∙ at.dir))

-- ---- one entry of a directory that was read

-- an entry is there, and names an inode
pub record Reads (shape : VolumeShape) (held : ℕ → Held) (d j i : ℕ) : Type 0 where
  pub entry : HasEntry held d j
  pub ino : entry_ino (held d) j ≡ i
  pub is_ino : IsIno shape i

pub entry_read : (shape : VolumeShape) (held : ℕ → Held) (d j i : ℕ) (words : List ℕ) → HoldsWithin shape held → EntryRule held → (held d).kind ≡ 1 → HasEntries (held d) words → 8 * j + 8 ≤ length words → i ≡ ino_in (slice_index words) j → Reads shape held d j i
entry_read shape held d j i words outside rule dir has within is =
    let entry : HasEntry held d j = record { dir = dir; within = within_entry (held d) words j has within } in
    let ino : entry_ino (held d) j ≡ i = sym (is ∙ ino_same (held d) words j has within) in
    record {
      entry = entry;
      ino = ino;
      is_ino = ino_held shape held i outside (subst (λ x. 0 < (held x).kind) ino (rule.each d j entry).1);
    }

-- all entries are among those that its words have
pub entries_end : (held : ℕ → Held) (d : ℕ) (words : List ℕ) → HasEntries (held d) words → (j : ℕ) → HasEntry held d j → j < length words / 8
entries_end held d words has j entry = let within = entry_within (held d) words j has entry.within in omega (arith, within)
