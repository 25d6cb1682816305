-- The exits of a growth.
use Rattle.file_pages.proofs.Common.{◌≡◌, ℕ, ◌≤◌, arith, length, refl, sym, ap, subst, ◌∙◌, inl, Result, Err, VolFail, VolumeShape, free_blocks, BlockWords, Seen, IsIno, Kept, Settled, Inode, IsInode, ResizePart, held, held_bytes, SetsFile, Agrees, AgreesBeside, placed_at, volume_layout, stands_agree, LeavesInUse, Ready, IsMapped, beside_agrees, beside_trans, largest_size}
use Rattle.std.specs.Prelude.{List}
use Rattle.rio_base.specs.declared.failures.VolFail.TheVariants.{Fault as VolFault, Stopped as VolStopped}
use Rattle.rio_model.proofs.WordRules.{file_beside}
use Rattle.rio_model.specs.VolumeRules.{SizeFits}
use Rattle.node_pages.specs.Changes.{wanted_blocks}
use Rattle.node_pages.specs.Failures.{size_handed}
use Rattle.file_pages.specs.Files.{HasSpace, SetsBoth, StopsAs, file_bytes}
use Rattle.node_pages.proofs.OrderRules.{order_agree}
use Rattle.file_pages.specs.Preparing.{SizeLeaves}
use Rattle.file_pages.specs.Storing.{StoresPages}
use Rattle.node_pages.specs.declared.failures.SizeFail.{SizeFail}
use Rattle.file_pages.proofs.Extended.{beside_back, grow_old, layout_left}
use Rattle.file_pages.proofs.Left.{sets_on}

-- ---- pages of a file were stored to, and no update was made

stored_agree : (shape : VolumeShape) (z : Seen) (l : Kept) → Ready shape z l → Settled z l → Agrees (volume_layout shape z.words) z.words l.standing
stored_agree shape z l ready settled = stands_agree (volume_layout shape z.words) z l settled ready.idle ready.order.firm

pub stored_both : (shape : VolumeShape) (f : BlockWords) (z : Seen) (l : Kept) (i : ℕ) (bytes : List ℕ) → IsMapped shape f → IsIno shape i → (placed_at f i).kind ≡ 2 → AgreesBeside (volume_layout shape f) i f z.words → Ready shape z l → Settled z l → held_bytes (held z.words (placed_at f i)) ≡ bytes → SetsBoth shape f z l i bytes
stored_both shape f z l i bytes mapped ino kind beside ready settled is = record { reads = reads; stands = sets_on shape f z.words l.standing i bytes reads (stored_agree shape z l ready settled) }
  where
    reads : SetsFile shape f z.words i bytes
    reads = subst (SetsFile shape f z.words i) is (file_beside shape f z.words i mapped ino kind beside)

pub stored_stops : (shape : VolumeShape) (f : BlockWords) (z : Seen) (l : Kept) (i : ℕ) (bytes : List ℕ) (part : List ℕ → Type 0) → Ready shape z l → Settled z l → SetsBoth shape f z l i bytes → part bytes → StopsAs shape f z l i part
stored_stops shape f z l i bytes part ready settled both is = record { bytes = bytes; is = is; stands = both.stands; ready = order_agree shape z.words l.standing z l ready.order (stored_agree shape z l ready settled) }

cleared_as : (T : Type 0) (shape : VolumeShape) (x : Seen) (k : Kept) (z : Seen) (l : Kept) (i len : ℕ) (e : VolFail) → Ready shape z l → Settled z l → SetsBoth shape x.words z l i (file_bytes shape x.words i) → SizeLeaves {T = T} shape x k z l i len (Err (size_handed e))
cleared_as T shape x k z l i len VolFault ready settled both = (both, ready)
cleared_as T shape x k z l i len VolStopped ready settled both = stored_stops shape x.words z l i (file_bytes shape x.words i) (ResizePart (file_bytes shape x.words i) len) ready settled both (inl refl)

-- what is prepared leaves a file its kind and its size
pub file_left : (shape : VolumeShape) (x : Seen) (k : Kept) (y : Seen) (j : Kept) (i : ℕ) (given : Inode) → IsIno shape i → Ready shape x k → IsInode x.words i given → given.kind ≡ 2 → LeavesInUse (volume_layout shape x.words) x k y j → ((placed_at y.words i).kind ≡ 2) × ((placed_at y.words i).size ≡ given.size)
file_left shape x k y j i given ino h own kind leaves =
    let same = (layout_left shape x k y j h leaves).each i ino in
    let is : (placed_at x.words i).kind ≡ 2 = sym own.kind ∙ kind in
    (same.kind ∙ is, same.size (omega (arith, is)) ∙ sym own.size)

-- the tail was cleared, or a part of it
pub cleared_both : (shape : VolumeShape) (x : Seen) (k : Kept) (y : Seen) (j : Kept) (z : Seen) (l : Kept) (i : ℕ) (given : Inode) → IsIno shape i → Ready shape x k → Settled z l → IsInode x.words i given → given.kind ≡ 2 → LeavesInUse (volume_layout shape x.words) x k y j → StoresPages shape y j z l i → held_bytes (held z.words (placed_at y.words i)) ≡ held_bytes (held y.words (placed_at y.words i)) → SetsBoth shape x.words z l i (file_bytes shape x.words i)
cleared_both shape x k y j z l i given ino h settled own kind leaves stores bytes =
    stored_both shape x.words z l i (file_bytes shape x.words i) h.order.mapped ino (sym own.kind ∙ kind)
    (beside_trans (volume_layout shape x.words) i x.words y.words z.words (beside_agrees (volume_layout shape x.words) i x.words y.words ino leaves.words) (beside_back shape x.words y.words y.words z.words i ino (layout_left shape x k y j h leaves) stores.beside))
    stores.ready settled (grow_old shape x k y j z.words i ino h leaves bytes)

pub cleared_err : {T : Type 0} (shape : VolumeShape) (x : Seen) (k : Kept) (z : Seen) (l : Kept) (i len : ℕ) (q : Result T SizeFail) (e : VolFail) (d : SizeFail) → q ≡ Err d → d ≡ size_handed e → Ready shape z l → Settled z l → SetsBoth shape x.words z l i (file_bytes shape x.words i) → SizeLeaves shape x k z l i len q
cleared_err {T = T} shape x k z l i len q e d qd de ready settled both = subst (λ r. SizeLeaves shape x k z l i len r) (sym (qd ∙ ap Err de)) (cleared_as T shape x k z l i len e ready settled both)

-- ---- there was space

pub has_space : (shape : VolumeShape) (f : BlockWords) (size len wanted : ℕ) → wanted ≡ wanted_blocks size len → len ≤ largest_size → wanted ≤ length (free_blocks shape f) → HasSpace shape f size len
has_space shape f size len wanted is most room = record { most = most; room = subst (λ (n : ℕ). n ≤ length (free_blocks shape f)) is room }

pub file_fits : (kind len : ℕ) → kind ≡ 2 → len ≤ largest_size → SizeFits kind len
file_fits kind len file most = record { most = most; directory = λ is. absurd (omega (arith, file, is)); region = λ is. absurd (omega (arith, file, is)); region_pages = λ is. absurd (omega (arith, file, is)) }
