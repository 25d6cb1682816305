-- What a node holds, by what its inode says and by the words of its first pages.
use Rattle.rio_model.proofs.Common.{◌≡◌, ℕ, ◌*◌, ◌/◌, ◌%◌, ◌<◌, ◌≤◌, ◌∙◌, true, cond, List, sym, ap, subst, arith, length, nat_lt, nat_tests, IsIno}
use Rattle.std.proofs.Common.{take}
use Rattle.std.proofs.lemmas.List.{get_or-take, length-take-le}
use Rattle.rio_base.specs.Blocks.{Seen}
use Rattle.rio_model.specs.Held.{Held, held_ino, held_of}
use Rattle.rio_model.specs.Sizes.{pages}
use Rattle.rio_model.specs.VolumeRules.{SizeFits, SizeRule}
use Rattle.volume_check.specs.Entries.{HasEntries}
use Rattle.volume_check.specs.Inodes.{HasInodes, layout_of, said}
use Rattle.volume_check.specs.NodeBlocks.{HasFront}
use Rattle.volume_check.specs.RegionWords.{Begins}
use Rattle.volume_check.specs.declared.inodes.Inodes.{Inodes}
use Rattle.volume_check.proofs.Counts.{kind_said, size_said}

-- an inode of a kind
pub record IsNode (s : Seen) (n : Inodes) (i k : ℕ) : Type 0 where
  pub ino : IsIno n.shape i
  pub kind : said n i 0 ≡ k

-- ---- sizes

pub fits : (s : Seen) (n : Inodes) (i : ℕ) → HasInodes s n → SizeRule (layout_of s n) → IsIno n.shape i → 0 < said n i 0 → SizeFits (said n i 0) (said n i 1)
fits s n i has rule ino used =
    let kind = has.each i 0 ino (omega arith) in
    subst (λ z. SizeFits (said n i 0) z) (sym (has.each i 1 ino (omega arith))) (subst (λ k. SizeFits k ((layout_of s n).node i).size) (sym kind) (rule.each i ino (subst (λ k. 0 < k) kind used)))

pub held_size : (s : Seen) (n : Inodes) (i : ℕ) → HasInodes s n → IsIno n.shape i → 0 < said n i 0 → (held_of n.shape s.words i).size ≡ said n i 1
held_size s n i has ino used =
    let kind = kind_said s n i has ino in
    ap (λ (h : Held). h.size) (held_ino (layout_of s n) s.words i ino)
    ∙ size_of ((layout_of s n).node i).kind ((layout_of s n).node i).size (subst (λ k. 0 < k) kind used)
    ∙ sym (size_said s n i has ino)
  where
    size_of : (k z : ℕ) → 0 < k → cond (nat_lt 0 k) z 0 ≡ z
    size_of k z some = let test : nat_lt 0 k ≡ true = grind (arith, nat_tests) in ap (λ b. cond b z 0) test

-- ---- words

-- those of a directory, where its pages were read
pub entries_front : (h : Held) (size count : ℕ) (words : List ℕ) → h.size ≡ size → size % 64 ≡ 0 → count ≡ pages size → HasFront h count words → HasEntries h (take (size / 8) words)
entries_front h size count words is whole many front = record {
  size = is ∙ omega (arith, long, whole);
  whole = omega (arith, long, whole);
  each = λ y small. get_or-take (size / 8) words y 0 (omega (arith, small, long)) ∙ front.each y (omega (arith, small, long, many)) (omega (arith, small, long, is, whole));
}
  where
    all : length words ≡ 512 * pages size
    all = front.len ∙ ap (λ c. 512 * c) many

    long : length (take (size / 8) words) ≡ size / 8
    long = length-take-le (size / 8) words (omega (arith, all))

-- the words before the data of a region
pub front_begins : (h : Held) (count : ℕ) (words : List ℕ) → 4096 * count ≤ h.size → HasFront h count words → Begins h.word words
front_begins h count words within front = record { each = λ y small. let long = front.len in front.each y (omega (arith, small, long)) (omega (arith, small, long, within)) }

-- ---- the sizes of a region

-- a region of whole pages, four at least
pub record IsSized (h : Held) (size count : ℕ) : Type 0 where
  pub words : h.size / 8 ≡ 512 * count
  pub all : h.size ≡ 4096 * count
  pub some : 4 ≤ count

pub region_sized : (s : Seen) (n : Inodes) (i count : ℕ) → HasInodes s n → SizeRule (layout_of s n) → IsNode s n i 3 → count ≡ pages (said n i 1) → IsSized (held_of n.shape s.words i) (said n i 1) count
region_sized s n i count has rule is many =
    let used : 0 < said n i 0 = let kind = is.kind in omega (arith, kind) in
    let f = fits s n i has rule is.ino used in
    let whole = f.region is.kind in
    let least = f.region_pages is.kind in
    let size = held_size s n i has is.ino used in
    record { words = omega (arith, many, whole, size); all = omega (arith, many, whole, size); some = omega (arith, many, least) }
