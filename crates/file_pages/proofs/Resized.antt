-- What a change of a file's size leaves, clause by clause.
use Rattle.file_pages.proofs.Common.{◌≡◌, ℕ, ◌≤◌, ◌⊎◌, ◌&&◌, Bool, true, false, cond, length, refl, sym, ap, ◌∙◌, arith, inl, inr, Result, Ok, Err, OnOk, IsErrOf, nat_le, nat_tests, length-map-range_with_len, VolumeShape, BlockWords, Seen, IsIno, Kept, Settled, resized, Held, byte_in, held, held_of, word_in, held_ino, placed_at, volume_layout, largest_size, LeavesInUse, Ready}
use Rattle.rio_model.specs.Held.{nothing}
use Rattle.file_pages.specs.Files.{HasSpace, ResizeStops, SetsBoth, StopsAs, file_bytes}
use Rattle.node_pages.proofs.OrderRules.{ready_left}
use Rattle.file_pages.specs.Preparing.{SizeLeaves}
use Rattle.node_pages.specs.declared.failures.SizeFail.{SizeFail}
use Rattle.node_pages.specs.declared.failures.SizeFail.TheVariants.{NoSpace, TooLarge, Fault, Stopped, Memory}
use Rattle.file_pages.proofs.Left.{bytes_sized, file_node, stops_left}
use Rattle.node_pages.proofs.Planned.{wanted_none}

-- ---- a file is an inode

pub file_ino : (shape : VolumeShape) (f : BlockWords) (i : ℕ) → (held_of shape f i).kind ≡ 2 → IsIno shape i
file_ino shape f i kind = by (nat_le 1 i && nat_le i shape.inodes) refl kind
  where
    by : (t : Bool) → (nat_le 1 i && nat_le i shape.inodes) ≡ t → (cond t (held f (placed_at f i)) nothing).kind ≡ 2 → IsIno shape i
    by true test is = record { from = grind (arith, nat_tests, test); to = grind (arith, nat_tests, test) }
    by false test is = absurd (omega (arith, is))

pub file_placed : (shape : VolumeShape) (f : BlockWords) (i : ℕ) → IsIno shape i → (held_of shape f i).kind ≡ 2 → (placed_at f i).kind ≡ 2
file_placed shape f i ino kind = sym (ap (λ (h : Held). h.kind) (held_ino (volume_layout shape f) f i ino)) ∙ kind

pub held_file : (shape : VolumeShape) (f : BlockWords) (i : ℕ) → IsIno shape i → (placed_at f i).kind ≡ 2 → (held_of shape f i).kind ≡ 2
held_file shape f i ino kind = ap (λ (h : Held). h.kind) (held_ino (volume_layout shape f) f i ino) ∙ kind

pub file_size : (shape : VolumeShape) (f : BlockWords) (i : ℕ) → IsIno shape i → (placed_at f i).kind ≡ 2 → length (file_bytes shape f i) ≡ (placed_at f i).size
file_size shape f i ino kind = ap length (file_node shape f i ino ∙ bytes_sized f (placed_at f i) (omega (arith, kind))) ∙ length-map-range_with_len (byte_in (word_in f (placed_at f i))) 0 (placed_at f i).size

-- ---- the clauses

pub size_ok : {T : Type 0} (shape : VolumeShape) (x : Seen) (k : Kept) (y : Seen) (j : Kept) (i len : ℕ) (r : Result T SizeFail) → SizeLeaves shape x k y j i len r → OnOk r (SetsBoth shape x.words y j i (resized (file_bytes shape x.words i) len))
size_ok shape x k y j i len (Ok v) s = s.0
size_ok shape x k y j i len (Err e) s = tt

pub size_fault : {T : Type 0} (shape : VolumeShape) (x : Seen) (k : Kept) (y : Seen) (j : Kept) (i len : ℕ) (r : Result T SizeFail) → SizeLeaves shape x k y j i len r → IsErrOf r Fault → SetsBoth shape x.words y j i (file_bytes shape x.words i)
size_fault shape x k y j i len (Ok v) s is = absurd cc
size_fault shape x k y j i len (Err Fault) s is = s.0
size_fault shape x k y j i len (Err Stopped) s is = absurd cc
size_fault shape x k y j i len (Err NoSpace) s is = absurd cc
size_fault shape x k y j i len (Err TooLarge) s is = absurd cc
size_fault shape x k y j i len (Err Memory) s is = absurd cc

pub size_ready : {T : Type 0} (shape : VolumeShape) (x : Seen) (k : Kept) (y : Seen) (j : Kept) (i len : ℕ) (r : Result T SizeFail) → Ready shape x k → SizeLeaves shape x k y j i len r → IsErrOf r Stopped ⊎ Ready shape y j
size_ready shape x k y j i len (Ok v) h s = inr s.1
size_ready shape x k y j i len (Err Fault) h s = inr s.1
size_ready shape x k y j i len (Err Stopped) h s = inl refl
size_ready shape x k y j i len (Err NoSpace) h s = inr (ready_left shape x k y j h s)
size_ready shape x k y j i len (Err TooLarge) h s = inr (ready_left shape x k y j h s)
size_ready shape x k y j i len (Err Memory) h s = inr (ready_left shape x k y j h s)

pub size_refused : {T : Type 0} (shape : VolumeShape) (x : Seen) (k : Kept) (y : Seen) (j : Kept) (i len : ℕ) (r : Result T SizeFail) → SizeLeaves shape x k y j i len r → IsErrOf r NoSpace ⊎ IsErrOf r TooLarge ⊎ IsErrOf r Memory → LeavesInUse (volume_layout shape x.words) x k y j
size_refused shape x k y j i len (Err NoSpace) s is = s
size_refused shape x k y j i len (Err TooLarge) s is = s
size_refused shape x k y j i len (Err Memory) s is = s
size_refused shape x k y j i len (Ok v) s (inl is) = absurd cc
size_refused shape x k y j i len (Ok v) s (inr (inl is)) = absurd cc
size_refused shape x k y j i len (Ok v) s (inr (inr is)) = absurd cc
size_refused shape x k y j i len (Err Fault) s (inl is) = absurd cc
size_refused shape x k y j i len (Err Fault) s (inr (inl is)) = absurd cc
size_refused shape x k y j i len (Err Fault) s (inr (inr is)) = absurd cc
size_refused shape x k y j i len (Err Stopped) s (inl is) = absurd cc
size_refused shape x k y j i len (Err Stopped) s (inr (inl is)) = absurd cc
size_refused shape x k y j i len (Err Stopped) s (inr (inr is)) = absurd cc

pub size_stopped : {T : Type 0} (shape : VolumeShape) (x : Seen) (k : Kept) (y : Seen) (j : Kept) (i len : ℕ) (r : Result T SizeFail) → Ready shape x k → Settled x k → (held_of shape x.words i).kind ≡ 2 → HasSpace shape x.words (length (file_bytes shape x.words i)) len ⊎ LeavesInUse (volume_layout shape x.words) x k y j → SizeLeaves shape x k y j i len r → IsErrOf r Stopped → StopsAs shape x.words y j i (ResizeStops shape x.words i len)
size_stopped shape x k y j i len r h settled kind (inr left) s is = stops_left shape x k y j i (ResizeStops shape x.words i len) h settled kind left (inl refl)
size_stopped shape x k y j i len (Err Stopped) h settled kind (inl space) s is = record { bytes = s.bytes; is = elim s.is [ inl old ↦ inl old | inr new ↦ inr (space, new) ]; stands = s.stands; ready = s.ready }
size_stopped shape x k y j i len (Ok v) h settled kind (inl space) s is = absurd cc
size_stopped shape x k y j i len (Err Fault) h settled kind (inl space) s is = absurd cc
size_stopped shape x k y j i len (Err NoSpace) h settled kind (inl space) s is = absurd cc
size_stopped shape x k y j i len (Err TooLarge) h settled kind (inl space) s is = absurd cc
size_stopped shape x k y j i len (Err Memory) h settled kind (inl space) s is = absurd cc

-- a smaller size always has space
pub space_less : (shape : VolumeShape) (f : BlockWords) (size len : ℕ) → size ≤ largest_size → len ≤ size → HasSpace shape f size len
space_less shape f size len most less = record { most = omega (arith, most, less); room = (let none = wanted_none size len less in omega (arith, none)) }
