-- The rules one after the other: what a group of them tells is what the volume's rules tell, and what was read before still holds.
use Rattle.volume_check.proofs.Common.{List, length, ap, inl, inr, slice_index, slice_index_or, subst, sym, ℕ, ◌*◌, ◌+◌, ◌-◌, ◌/◌, ◌<◌, ◌∙◌, ◌≡◌, ◌≤◌, BlockWords, IsIno, IsServed, Layout, Looks, Seen, VolumeShape, inode_word, placed_at, volume_layout, largest_size, AtPage, AtTable, Block, arith, pages}
use Rattle.rio_model.specs.Held.{held_of}
use Rattle.rio_model.specs.VolumeFails.{FailsHeld, FailsVolume, SaysShape}
use Rattle.rio_model.specs.VolumeRules.{IsMapped, KindRule, MarkRule, NumberRule, OnceRule, ReservedRule, SizeRule}
use Rattle.volume_check.specs.Bitmap.{HasBitmap, HasRead}
use Rattle.volume_check.specs.Inodes.{HasInodes, SizesFit, layout_of, said}
use Rattle.volume_check.specs.NodeBlocks.{CanNumber, InRange, node_numbers, numbers}
use Rattle.volume_check.specs.Rules.{FailsInodes, FailsMarks, FailsNumbers, FailsOnce, FailsReserved, FailsShape}
use Rattle.volume_check.specs.declared.bitmap.Bitmap.{Bitmap}
use Rattle.volume_check.specs.declared.inodes.Inodes.{Inodes}
use Rattle.volume_check.proofs.Blocks.{HasBlocks, inodes_read}
use Rattle.volume_check.proofs.Counts.{kind_said, size_said}
use Rattle.volume_check.proofs.NodeNumbers.{as_many, each_number, number_of_block, numbers_len, page_at}

-- ---- which rule of all fails

pub fails_shape : (f : BlockWords) (count rule b : ℕ) → FailsShape f count rule b → FailsVolume f count rule b
fails_shape f count rule b h = inl h

pub fails_reserved : (f : BlockWords) (count : ℕ) (shape : VolumeShape) → SaysShape f count shape → (rule b : ℕ) → FailsReserved shape f rule b → FailsVolume f count rule b
fails_reserved f count shape says rule b h = inr (shape, says, inl h)

pub fails_inodes : (f : BlockWords) (count : ℕ) (shape : VolumeShape) → SaysShape f count shape → ReservedRule shape f → (rule b : ℕ) → FailsInodes (volume_layout shape f) rule b → FailsVolume f count rule b
fails_inodes f count shape says low rule b (inl kind) = inr (shape, says, inr (low, inl kind))
fails_inodes f count shape says low rule b (inr size) = inr (shape, says, inr (low, inr (size.0, inl (size.1, size.2))))

pub fails_numbers : (f : BlockWords) (count : ℕ) (shape : VolumeShape) → SaysShape f count shape → ReservedRule shape f → KindRule (volume_layout shape f) → SizeRule (volume_layout shape f) → (rule b : ℕ) → FailsNumbers (volume_layout shape f) rule b → FailsVolume f count rule b
fails_numbers f count shape says low kinds sizes rule b h = inr (shape, says, inr (low, inr (kinds, inr (sizes, inl h))))

pub fails_once : (f : BlockWords) (count : ℕ) (shape : VolumeShape) → SaysShape f count shape → ReservedRule shape f → KindRule (volume_layout shape f) → SizeRule (volume_layout shape f) → NumberRule (volume_layout shape f) → (rule b : ℕ) → FailsOnce (volume_layout shape f) rule b → FailsVolume f count rule b
fails_once f count shape says low kinds sizes numbers rule b h = inr (shape, says, inr (low, inr (kinds, inr (sizes, inr (numbers, inl h)))))

pub fails_marks : (f : BlockWords) (count : ℕ) (shape : VolumeShape) → SaysShape f count shape → ReservedRule shape f → KindRule (volume_layout shape f) → SizeRule (volume_layout shape f) → NumberRule (volume_layout shape f) → OnceRule (volume_layout shape f) → (rule b : ℕ) → FailsMarks (volume_layout shape f) f rule b → FailsVolume f count rule b
fails_marks f count shape says low kinds sizes numbers once rule b h = inr (shape, says, inr (low, inr (kinds, inr (sizes, inr (numbers, inr (once, inl h))))))

pub fails_held : (f : BlockWords) (count : ℕ) (shape : VolumeShape) → SaysShape f count shape → IsMapped shape f → (rule b : ℕ) → FailsHeld shape (held_of shape f) rule b → FailsVolume f count rule b
fails_held f count shape says h rule b x = inr (shape, says, inr (h.reserved_marked, inr (h.laid.kinds, inr (h.laid.sizes, inr (h.laid.numbers, inr (h.laid.once, inr (h.marks, x)))))))

-- the rules 1 to 7 together
pub is_mapped : (f : BlockWords) (count : ℕ) (shape : VolumeShape) → SaysShape f count shape → ReservedRule shape f → KindRule (volume_layout shape f) → SizeRule (volume_layout shape f) → NumberRule (volume_layout shape f) → OnceRule (volume_layout shape f) → MarkRule (volume_layout shape f) f → IsMapped shape f
is_mapped f count shape says low kinds sizes numbers once marks = record {
  superblock = record { sizes = says.served.sizes; words = says.words };
  reserved_marked = low;
  laid = record { shape_fits = says.served.sizes; kinds = kinds; sizes = sizes; numbers = numbers; once = once };
  marks = marks;
}

-- ---- what was read before a look holds after it, and back

pub inodes_on : (s t : Seen) (n : Inodes) → Looks s t → HasInodes s n → HasInodes t n
inodes_on s t n l h = record { served = h.served; count = l.count ∙ h.count; each = λ i w ino few. h.each i w ino few ∙ ap (λ (f : BlockWords). inode_word f i w) (sym l.words) }

pub inodes_back : (s t : Seen) (n : Inodes) → Looks s t → HasInodes t n → HasInodes s n
inodes_back s t n l h = record { served = h.served; count = sym l.count ∙ h.count; each = λ i w ino few. h.each i w ino few ∙ ap (λ (f : BlockWords). inode_word f i w) l.words }

pub layout_on : (s t : Seen) (n : Inodes) (p : Layout → Type 0) → Looks s t → p (layout_of s n) → p (layout_of t n)
layout_on s t n p l h = subst (λ (f : BlockWords). p (volume_layout n.shape f)) (sym l.words) h

pub layout_back : (s t : Seen) (n : Inodes) (p : Layout → Type 0) → Looks s t → p (layout_of t n) → p (layout_of s n)
layout_back s t n p l h = subst (λ (f : BlockWords). p (volume_layout n.shape f)) l.words h

pub words_on : (s t : Seen) (p : BlockWords → Type 0) → Looks s t → p s.words → p t.words
words_on s t p l h = subst p (sym l.words) h

pub words_back : (s t : Seen) (p : BlockWords → Type 0) → Looks s t → p t.words → p s.words
words_back s t p l h = subst p l.words h

pub read_on : (s t : Seen) (m : Bitmap) (n : Inodes) → Looks s t → HasRead s m n → HasRead t m n
read_on s t m n l h = record {
  says = subst (λ c. SaysShape t.words c n.shape) (sym l.count) (subst (λ (f : BlockWords). SaysShape f s.count n.shape) (sym l.words) h.says);
  bitmap = subst (λ (f : BlockWords). HasBitmap n.shape f m) (sym l.words) h.bitmap;
  inodes = inodes_on s t n l h.inodes;
  reserved_marked = subst (λ (f : BlockWords). ReservedRule n.shape f) (sym l.words) h.reserved_marked;
}

-- rules told of what is seen later
pub volume_back : (s t : Seen) → Looks s t → (rule b : ℕ) → FailsVolume t.words t.count rule b → FailsVolume s.words s.count rule b
volume_back s t l rule b h = subst (λ (f : BlockWords). FailsVolume f s.count rule b) l.words (subst (λ c. FailsVolume t.words c rule b) l.count h)

-- ---- sizes

pub sizes_fit : (s : Seen) (n : Inodes) → HasInodes s n → SizeRule (layout_of s n) → SizesFit n
sizes_fit s n h rule i ino used =
    let kind = kind_said s n i h ino in
    let size = size_said s n i h ino in
    subst (λ x. x ≤ largest_size) (sym size) (rule.each i ino (subst (λ x. 0 < x) kind used)).most

-- ---- inodes that were read

pub inodes_made : (s : Seen) (shape : VolumeShape) (n : Inodes) (words : List ℕ) → IsServed shape → s.count ≡ shape.blocks → n.shape ≡ shape → n.words.items ≡ words → HasBlocks s.words (λ k. 2 + k) (shape.inodes / 32) words → HasInodes s n
inodes_made s shape n words served count is_shape is_words h = record {
  served = subst IsServed (sym is_shape) served;
  count = count ∙ ap (λ (sh : VolumeShape). sh.blocks) (sym is_shape);
  each = λ i w ino few. ap (λ xs. slice_index xs (16 * (i - 1) + w)) is_words ∙ inodes_read s.words shape words i w served.sizes.inode_blocks h (subst (λ sh. IsIno sh i) is_shape ino) few;
}

pub has_read : (s : Seen) (shape : VolumeShape) (m : Bitmap) (n : Inodes) → n.shape ≡ shape → SaysShape s.words s.count shape → HasBitmap shape s.words m → HasInodes s n → ReservedRule shape s.words → HasRead s m n
has_read s shape m n is says bits inodes low = record {
  says = subst (λ sh. SaysShape s.words s.count sh) (sym is) says;
  bitmap = subst (λ sh. HasBitmap sh s.words m) (sym is) bits;
  inodes = inodes;
  reserved_marked = subst (λ sh. ReservedRule sh s.words) (sym is) low;
}

-- ---- numbers may be read of a node that keeps the rules 4 and 5

pub can_number : (s t : Seen) (n : Inodes) (i : ℕ) → Looks s t → HasInodes s n → SizeRule (layout_of s n) → NumberRule (layout_of s n) → IsIno n.shape i → CanNumber ((layout_of t n).node i) t.count
can_number s t n i l h sizes numbers ino = subst (λ (f : BlockWords). CanNumber (placed_at f i) t.count) (sym l.words) (record {
  size = λ used. (sizes.each i ino used).most;
  tables = λ k has. subst (λ c. (placed_at s.words i).block (AtTable k) < c) (sym (l.count ∙ h.count)) (numbers.each i ino (AtTable k) has).1;
})

-- each number of it is then of a block past the reserved ones
pub number_range : (s : Seen) (n : Inodes) (i at : ℕ) → NumberRule (layout_of s n) → IsIno n.shape i → at < length (node_numbers ((layout_of s n).node i)) → InRange n.shape (slice_index (node_numbers ((layout_of s n).node i)) at)
number_range s n i at numbers ino within = each_number ((layout_of s n).node i) (InRange n.shape) (λ x has. ((numbers.each i ino x has).0, (numbers.each i ino x has).1)) at within

-- a page of a node, by the list of its blocks
pub front_within : (s : Seen) (n : Inodes) (i page count : ℕ) (bs : List Block) → HasInodes s n → IsIno n.shape i → 0 < said n i 0 → count ≤ pages (said n i 1) → page < count → numbers bs ≡ node_numbers ((layout_of s n).node i) → page < length bs
front_within s n i page count bs h ino used most less is =
    let kind : 0 < ((layout_of s n).node i).kind = subst (λ x. 0 < x) (kind_said s n i h ino) used in
    let size = ap pages (size_said s n i h ino) in
    let long = numbers_len ((layout_of s n).node i) kind in
    let many = as_many bs in
    let same = ap length is in
    omega (arith, most, less, size, long, many, same)

pub front_page : (s : Seen) (n : Inodes) (i page count : ℕ) (bs : List Block) (r : Block) → HasInodes s n → NumberRule (layout_of s n) → IsIno n.shape i → 0 < said n i 0 → count ≤ pages (said n i 1) → page < count → numbers bs ≡ node_numbers ((layout_of s n).node i) → r ≡ slice_index_or bs page r → (r.0 ≡ ((layout_of s n).node i).block (AtPage page)) × (r.0 < n.shape.blocks)
front_page s n i page count bs r h rule ino used most less is at =
    let kind : 0 < ((layout_of s n).node i).kind = subst (λ x. 0 < x) (kind_said s n i h ino) used in
    let few : page < pages ((layout_of s n).node i).size = subst (λ x. page < pages x) (size_said s n i h ino) (omega (arith, less, most)) in
    let number : r.0 ≡ slice_index (numbers bs) page = ap (λ (x : Block). x.0) at ∙ number_of_block bs page r (front_within s n i page count bs h ino used most less is) in
    let same : r.0 ≡ ((layout_of s n).node i).block (AtPage page) = number ∙ ap (λ xs. slice_index xs page) is ∙ page_at ((layout_of s n).node i) page kind few in
    (same, subst (λ x. x < n.shape.blocks) (sym same) ((rule.each i ino (AtPage page) (record { used = kind; within = few })).1))
