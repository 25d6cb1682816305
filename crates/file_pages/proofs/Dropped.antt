-- The exits of a shrink: its bytes, and the blocks that it frees.
use Rattle.file_pages.proofs.Common.{◌≡◌, ℕ, ◌<◌, ◌≤◌, List, length, refl, sym, ap, subst, ◌∙◌, arith, inr, Result, Ok, Err, IsErrOf, slice_index, Contains, Block, VolumeShape, BlockWords, Seen, IsIno, Kept, Settled, numbers, Inode, IsInode, page_old, ResizePart, resized, Held, held, held_bytes, held_of, held_ino, Change, Placed, HasSlot, placed_at, volume_layout, IsFree, Turns, LeavesInUse, Ready, IsMapped, SizeFits}
use Rattle.std.specs.Prelude.{IsErr}
use Rattle.node_pages.specs.Changes.{given_node, planned_node, size_update}
use Rattle.file_pages.specs.Files.{SetsBoth, file_bytes}
use Rattle.node_pages.proofs.OrderRules.{ready_left}
use Rattle.file_pages.specs.Preparing.{SizeLeaves}
use Rattle.node_pages.specs.declared.changes.SizeChange.{SizeChange}
use Rattle.node_pages.specs.declared.failures.SizeFail.{SizeFail}
use Rattle.node_pages.specs.declared.failures.SizeFail.TheVariants.{Stopped}
use Rattle.file_pages.specs.Touching.{CanChange}
use Rattle.node_pages.proofs.Listed.{as_many, listed}
use Rattle.file_pages.proofs.Left.{both_on, file_node, lost_free, shrunk_bytes, stops_on}

pub file_kind : (shape : VolumeShape) (f : BlockWords) (i : ℕ) (n : Inode) → IsIno shape i → IsInode f i n → n.kind ≡ 2 → (held_of shape f i).kind ≡ 2
file_kind shape f i n ino own kind = ap (λ (h : Held). h.kind) (held_ino (volume_layout shape f) f i ino) ∙ sym own.kind ∙ kind

pub old_bytes : (shape : VolumeShape) (f g : BlockWords) (i : ℕ) → IsIno shape i → g ≡ f → held_bytes (held g (placed_at f i)) ≡ file_bytes shape f i
old_bytes shape f g i ino e = ap (λ w. held_bytes (held w (placed_at f i))) e ∙ sym (file_node shape f i ino)

pub new_bytes : (shape : VolumeShape) (f g : BlockWords) (i : ℕ) (given : Inode) (len : ℕ) (c : SizeChange) → IsIno shape i → g ≡ f → IsInode f i given → given.kind ≡ 2 → len ≤ given.size → held_bytes (held g (planned_node f i given len c)) ≡ resized (file_bytes shape f i) len
new_bytes shape f g i given len c ino e own kind less =
    ap (λ w. held_bytes (held w (planned_node f i given len c))) e
    ∙ shrunk_bytes f (placed_at f i) (planned_node f i given len c) len (let k = own.kind in omega (arith, k, kind)) (omega (arith, kind)) refl (let s = own.size in omega (arith, s, less)) (λ p few. page_old (given_node f i given) len p (numbers c.taken) (omega (arith, few, less)))
    ∙ ap (λ b. resized b len) (sym (file_node shape f i ino))

pub freed_free : (shape : VolumeShape) (f g k : BlockWords) (i : ℕ) (m : Placed) (c : SizeChange) (b : ℕ) → g ≡ f → IsMapped shape g → Change (volume_layout shape g) g k i m → Turns shape (placed_at f i) m (size_update i c) → Contains (numbers c.freed) b → IsFree (volume_layout shape k) b
freed_free shape f g k i m c b e mapped change turns on =
    let t = turns.freed b on in
    lost_free shape g k i m t.0.0 b mapped change (subst (λ h. HasSlot (placed_at h i) t.0.0) (sym e) t.0.1) (ap (λ (h : BlockWords). (placed_at h i).block t.0.0) e ∙ t.0.2) t.1

pub dropped_ok : (shape : VolumeShape) (x : Seen) (k : Kept) (z : Seen) (l : Kept) (y : Seen) (j : Kept) (i len : ℕ) (bytes : List ℕ) → bytes ≡ resized (file_bytes shape x.words i) len → SetsBoth shape x.words z l i bytes → Ready shape z l → Settled z l → LeavesInUse (volume_layout shape z.words) z l y j → SetsBoth shape x.words y j i (resized (file_bytes shape x.words i) len) × Ready shape y j
dropped_ok shape x k z l y j i len bytes is set ready settled leaves = (subst (SetsBoth shape x.words y j i) is (both_on shape x.words z l y j i bytes ready settled set.reads leaves), ready_left shape z l y j ready leaves)

pub file_fits : (shape : VolumeShape) (f : BlockWords) (i : ℕ) (n : Inode) (len : ℕ) → IsMapped shape f → IsIno shape i → IsInode f i n → n.kind ≡ 2 → len ≤ n.size → SizeFits n.kind len
file_fits shape f i n len h ino own kind less = record {
  most = (let most = (h.laid.sizes.each i ino (let k = own.kind in omega (arith, k, kind))).most in let s = own.size in omega (arith, most, s, less));
  directory = λ dir. absurd (omega (arith, dir, kind));
  region = λ reg. absurd (omega (arith, reg, kind));
  region_pages = λ reg. absurd (omega (arith, reg, kind));
}

pub freed_place : (shape : VolumeShape) (c : SizeChange) (y : Seen) (bs : List Block) (t count : ℕ) → bs ≡ c.freed → CanChange shape y c → count ≡ shape.blocks → t < length bs → slice_index (numbers bs) t < count
freed_place shape c y bs t count same can is few = subst (λ (n : ℕ). slice_index (numbers bs) t < n) (sym is) (can.makes.freed _ (subst (λ us. Contains (numbers us) (slice_index (numbers bs) t)) same (listed (numbers bs) t (subst (λ (n : ℕ). t < n) (sym (as_many bs)) few))))

-- by how the call ends that drops them
pub dropped_all : {T : Type 0} (shape : VolumeShape) (x : Seen) (k : Kept) (z : Seen) (l : Kept) (y : Seen) (j : Kept) (i len : ℕ) (bytes : List ℕ) (q : Result T SizeFail) → (IsErr q → IsErrOf q Stopped) → bytes ≡ resized (file_bytes shape x.words i) len → SetsBoth shape x.words z l i bytes → Ready shape z l → Settled z l → LeavesInUse (volume_layout shape z.words) z l y j → SizeLeaves shape x k y j i len q
dropped_all shape x k z l y j i len bytes (Ok v) stops is set ready settled leaves = dropped_ok shape x k z l y j i len bytes is set ready settled leaves
dropped_all {T = T} shape x k z l y j i len bytes (Err e) stops is set ready settled leaves = subst (λ (r : Result T SizeFail). SizeLeaves shape x k y j i len r) (sym (stops refl)) (stops_on shape x.words z l y j i bytes (ResizePart (file_bytes shape x.words i) len) ready settled set.reads leaves (inr is))
