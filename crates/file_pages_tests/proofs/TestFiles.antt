-- The calls of tests keep two files.
use Rattle.std.proofs.Common.{◌≡◌, ◌≢◌, ℕ, ◌⊎◌, List, sym, ap, subst, ◌∙◌, arith, inl, inr, refl, Result, Ok, Err, ◌≤◌, ◌<◌}
use Rattle.std.proofs.lemmas.Bool.{cases_eq}
use Rattle.rio_base.specs.declared.places.VolumeShape.{VolumeShape}
use Rattle.rio_base.specs.Blocks.{BlockWords, Health, Looks, Seen}
use Rattle.rio_base.specs.Volume.{Below, Kept, Passes, Settled}
use Rattle.rio_model.specs.Held.{Held, held_of}
use Rattle.rio_model.specs.NodeChanges.{SetsFile}
use Rattle.rio_model.specs.Placed.{volume_layout}
use Rattle.rio_model.specs.VolumeReady.{LeavesInUse, Ready, AllNamed, Firmly}
use Rattle.file_pages.specs.Files.{SetsBoth, StopsAs, FaultsAfter}
use Rattle.node_pages.proofs.OrderRules.{leaves_refl, stands_ready_left, firm_on}
use Rattle.block_alloc.specs.Bitmap.{numbers}
use Rattle.rio_base.specs.declared.places.Block.{Block}
use Rattle.rio_base.specs.Bitmap.{free_blocks}
use Rattle.std.specs.Prelude.{◌↔◌, length, take, IfOk, IsErr, IsErrOf, OnOk}
use Rattle.rio_base.specs.Rules.{true_false}
use Rattle.node_pages.specs.Changes.{Apart}
use Rattle.node_pages.proofs.FreeLists.{first_apart, first_free, lists_apart}
use Rattle.node_pages.proofs.Listed.{as_many}
use Rattle.test_objects.specs.TestVolumes.{HasNodes}
use Rattle.file_pages_tests.specs.TestFiles.{CanSkip, FilesReady, FilesStand, HasFiles, IsTestFile}
use Rattle.rio_base.specs.Shapes.{HasShape}
use Rattle.rio_model.specs.VolumeRules.{IsMapped}
use Rattle.node_pages.specs.LookingUp.{LooksUp}
use Rattle.node_pages.proofs.LookingUpRules.{named_on}
use Rattle.node_pages.specs.declared.failures.SizeFail.{SizeFail}
use Rattle.node_pages.specs.declared.failures.SizeFail.TheVariants.{NoSpace as SizeNoSpace, TooLarge as SizeTooLarge, Fault as SizeFault, Stopped as SizeStopped, Memory as SizeMemory}
use Rattle.node_pages.specs.declared.failures.WriteFail.{WriteFail}
use Rattle.node_pages.specs.declared.failures.WriteFail.TheVariants.{NoSpace, TooLarge, Fault, Stopped, Memory}
use Rattle.file_pages.proofs.Left.{both_left}
use Rattle.file_pages.proofs.Resized.{file_ino, file_placed}
use Rattle.rio_base.specs.Layout.{inode_kind, IsIno}
use Rattle.rio_base.specs.declared.failures.VolFail.{VolFail}
use Rattle.inode_table.specs.declared.inode.Inode.{Inode}
use Rattle.inode_table.specs.Inodes.{IsInode}

-- two files are made
pub files_made : (shape : VolumeShape) (x : Seen) (k : Kept) → Ready shape x k → HasNodes shape x.words 2 3 → FilesReady shape x k
files_made shape x k ready nodes = record {
  ready = ready;
  files = record { file = file; free = nodes.free 4 (omega arith) };
}
  where
    file : (i : ℕ) → IsTestFile i → (held_of shape x.words i).kind ≡ 2
    file i (inl two) = nodes.made i (omega (arith, two)) (omega (arith, two))
    file i (inr three) = nodes.made i (omega (arith, three)) (omega (arith, three))

-- what stood is what reads
pub files_again : (shape : VolumeShape) (x : Seen) (k : Kept) (y : Seen) (j : Kept) → FilesStand shape x k → Ready shape y j → y.words ≡ k.standing → FilesReady shape y j
files_again shape x k y j stand ready words = record { ready = ready; files = subst (HasFiles shape) (sym words) stand.files }

-- a file that is set leaves the other one
has_set : (shape : VolumeShape) (f g : BlockWords) (i : ℕ) (bytes : List ℕ) → HasFiles shape f → IsTestFile i → SetsFile shape f g i bytes → HasFiles shape g
has_set shape f g i bytes h at set = record {
  file = λ j file. elim (cases_eq j i) [
    | inl same ↦ ap (λ x. (held_of shape g x).kind) same ∙ set.kind
    | inr away ↦ ap (λ (k : Held). k.kind) (set.others j away) ∙ h.file j file
  ];
  free = ap (λ (k : Held). k.kind) (set.others 4 (not_four i at)) ∙ h.free;
}
  where
    not_four : (i : ℕ) → IsTestFile i → 4 ≢ i
    not_four i (inl two) = λ e. omega (arith, two, e)
    not_four i (inr three) = λ e. omega (arith, three, e)

pub files_set : (shape : VolumeShape) (x : Seen) (k : Kept) (y : Seen) (j : Kept) (i : ℕ) (bytes : List ℕ) → FilesReady shape x k → IsTestFile i → SetsBoth shape x.words y j i bytes → Ready shape y j → FilesReady shape y j
files_set shape x k y j i bytes h at both ready = record { ready = ready; files = has_set shape x.words y.words i bytes h.files at both.reads }

pub files_left : (shape : VolumeShape) (x : Seen) (k : Kept) (y : Seen) (j : Kept) → FilesReady shape x k → Settled x k → LeavesInUse (volume_layout shape x.words) x k y j → Ready shape y j → FilesReady shape y j
files_left shape x k y j h settled left ready = files_set shape x k y j 2 _ h (inl refl) (both_left shape x k y j 2 h.ready settled (h.files.file 2 (inl refl)) left) ready

-- files that read stand
pub files_stand : (shape : VolumeShape) (x : Seen) (k : Kept) → FilesReady shape x k → Settled x k → FilesStand shape x k
files_stand shape x k h settled =
    let left = leaves_refl shape x k h.ready in
    record {
      ready = stands_ready_left shape x k x k h.ready settled left;
      files = has_set shape x.words k.standing 2 _ h.files (inl refl) (both_left shape x k x k 2 h.ready settled (h.files.file 2 (inl refl)) left).stands;
    }

pub files_stopped : (shape : VolumeShape) (x : Seen) (k : Kept) (y : Seen) (j : Kept) (i : ℕ) (part : List ℕ → Type 0) → FilesReady shape x k → IsTestFile i → StopsAs shape x.words y j i part → FilesStand shape y j
files_stopped shape x k y j i part h at stop = record { ready = stop.ready; files = has_set shape x.words j.standing i stop.bytes h.files at stop.stands }

-- ---- a call that only looks

pub files_read : (shape : VolumeShape) (s : Health) (o : Below) (t : Health) (n : Below) (x : Seen) (k : Kept) (y : Seen) (j : Kept) → FilesReady shape x k → Looks x y → HasShape shape y → AllNamed (volume_layout shape x.words) y → Passes s o k t n j → FilesReady shape y j
files_read shape s o t n x k y j h looks has_shape named passes = record {
  ready = record {
    order = record {
      has_shape = has_shape;
      mapped = subst (IsMapped shape) (sym looks.words) h.ready.order.mapped;
      named = subst (λ (f : BlockWords). AllNamed (volume_layout shape f) y) (sym looks.words) named;
      firm = subst (λ (f : BlockWords). Firmly (volume_layout shape f) j) (sym looks.words) (firm_on _ k j h.ready.order.firm passes.firm);
    };
    idle = passes.updating ∙ h.ready.idle;
  };
  files = subst (HasFiles shape) (sym looks.words) h.files;
}

pub files_looked : (shape : VolumeShape) (s : Health) (o : Below) (t : Health) (n : Below) (x : Seen) (k : Kept) (y : Seen) (j : Kept) → FilesReady shape x k → LooksUp shape x y → Passes s o k t n j → FilesReady shape y j
files_looked shape s o t n x k y j h l passes = files_read shape s o t n x k y j h l.looks l.still.has_shape (named_on shape x y h.ready.order.mapped h.ready.order.named l) passes

-- ---- a call that writes, by how it ends

pub written_ready : {T : Type 0} (shape : VolumeShape) (x : Seen) (k : Kept) (y : Seen) (j : Kept) (i off : ℕ) (bytes new : List ℕ) (r : Result T WriteFail) → FilesReady shape x k → IsTestFile i → Settled x k → OnOk r (SetsBoth shape x.words y j i new) → (IsErrOf r NoSpace ⊎ IsErrOf r TooLarge ⊎ IsErrOf r Memory → LeavesInUse (volume_layout shape x.words) x k y j) → ((d : ℕ) → IsErrOf r (Fault d) → FaultsAfter shape x.words y j i off bytes d) → IsErrOf r Stopped ⊎ Ready shape y j → IsErrOf r Stopped ⊎ FilesReady shape y j
written_ready shape x k y j i off bytes new r h at settled ok refused fault (inl stop) = inl stop
written_ready shape x k y j i off bytes new (Ok v) h at settled ok refused fault (inr ready) = inr (files_set shape x k y j i new h at ok ready)
written_ready shape x k y j i off bytes new (Err NoSpace) h at settled ok refused fault (inr ready) = inr (files_left shape x k y j h settled (refused (inl refl)) ready)
written_ready shape x k y j i off bytes new (Err TooLarge) h at settled ok refused fault (inr ready) = inr (files_left shape x k y j h settled (refused (inr (inl refl))) ready)
written_ready shape x k y j i off bytes new (Err Memory) h at settled ok refused fault (inr ready) = inr (files_left shape x k y j h settled (refused (inr (inr refl))) ready)
written_ready shape x k y j i off bytes new (Err (Fault d)) h at settled ok refused fault (inr ready) = let left = fault d refl in inr (files_set shape x k y j i left.new h at left.both ready)
written_ready shape x k y j i off bytes new (Err Stopped) h at settled ok refused fault (inr ready) = inl refl

pub written_stand : {T E : Type 0} (shape : VolumeShape) (x : Seen) (k : Kept) (y : Seen) (j : Kept) (i : ℕ) (part : List ℕ → Type 0) (r : Result T E) (e : E) → FilesReady shape x k → IsTestFile i → Settled y j → (IsErrOf r e → StopsAs shape x.words y j i part) → IsErrOf r e ⊎ FilesReady shape y j → FilesStand shape y j
written_stand shape x k y j i part r e h at settled stopped (inl stop) = files_stopped shape x k y j i part h at (stopped stop)
written_stand shape x k y j i part r e h at settled stopped (inr ready) = files_stand shape y j ready settled

pub sized_ready : {T : Type 0} (shape : VolumeShape) (x : Seen) (k : Kept) (y : Seen) (j : Kept) (i : ℕ) (old new : List ℕ) (r : Result T SizeFail) → FilesReady shape x k → IsTestFile i → Settled x k → OnOk r (SetsBoth shape x.words y j i new) → (IsErrOf r SizeNoSpace ⊎ IsErrOf r SizeTooLarge ⊎ IsErrOf r SizeMemory → LeavesInUse (volume_layout shape x.words) x k y j) → (IsErrOf r SizeFault → SetsBoth shape x.words y j i old) → IsErrOf r SizeStopped ⊎ Ready shape y j → IsErrOf r SizeStopped ⊎ FilesReady shape y j
sized_ready shape x k y j i old new r h at settled ok refused fault (inl stop) = inl stop
sized_ready shape x k y j i old new (Ok v) h at settled ok refused fault (inr ready) = inr (files_set shape x k y j i new h at ok ready)
sized_ready shape x k y j i old new (Err SizeNoSpace) h at settled ok refused fault (inr ready) = inr (files_left shape x k y j h settled (refused (inl refl)) ready)
sized_ready shape x k y j i old new (Err SizeTooLarge) h at settled ok refused fault (inr ready) = inr (files_left shape x k y j h settled (refused (inr (inl refl))) ready)
sized_ready shape x k y j i old new (Err SizeMemory) h at settled ok refused fault (inr ready) = inr (files_left shape x k y j h settled (refused (inr (inr refl))) ready)
sized_ready shape x k y j i old new (Err SizeFault) h at settled ok refused fault (inr ready) = inr (files_set shape x k y j i old h at (fault refl) ready)
sized_ready shape x k y j i old new (Err SizeStopped) h at settled ok refused fault (inr ready) = inl refl

-- ---- what a call answers

pub on_answered : {P T E A F : Type 0} (came : Result T E) (e : E) (q : Result A F) → (IsErr q ↔ IsErrOf came e) → IsErrOf came e ⊎ P → OnOk q P
on_answered came e (Ok a) tells (inl stop) = absurd (true_false (sym (tells.1 stop)))
on_answered came e (Ok a) tells (inr on) = on
on_answered came e (Err f) tells on = tt

-- ---- what is planned

test_placed : (shape : VolumeShape) (x : Seen) (k : Kept) (i : ℕ) → FilesReady shape x k → IsTestFile i → inode_kind x.words i ≡ 2
test_placed shape x k i h at = let kind = h.files.file i at in file_placed shape x.words i (file_ino shape x.words i kind) kind

pub test_ino : (shape : VolumeShape) (x : Seen) (k : Kept) (i : ℕ) → FilesReady shape x k → IsTestFile i → IsIno shape i
test_ino shape x k i h at = file_ino shape x.words i (h.files.file i at)

pub test_kind : (shape : VolumeShape) (x : Seen) (k : Kept) (i : ℕ) → FilesReady shape x k → IsTestFile i → inode_kind x.words i ≤ 3
test_kind shape x k i h at = let kind = test_placed shape x k i h at in omega (arith, kind)

pub inode_is_file : (shape : VolumeShape) (x : Seen) (k : Kept) (i : ℕ) (r : Result Inode VolFail) → FilesReady shape x k → IsTestFile i → IfOk r (IsInode x.words i) → IfOk r (λ (inode : Inode). inode.kind ≡ 2)
inode_is_file shape x k i (Ok inode) h at is = is.kind ∙ test_placed shape x k i h at
inode_is_file shape x k i (Err e) h at is = tt

-- the lowest free blocks may be skipped
pub lowest_skipped : (shape : VolumeShape) (f : BlockWords) (y : Seen) (n : ℕ) (bs : List Block) → IsMapped shape f → numbers bs ≡ take n (free_blocks shape f) → n ≤ length (free_blocks shape f) → y.words ≡ f → CanSkip shape y (numbers bs)
lowest_skipped shape f y n bs mapped value room same = subst (λ (g : BlockWords). CanSkip shape (record y { words = g }) (numbers bs)) (sym same) (record {
  free = λ t few. first_free shape _ _ bs mapped value room t (subst (λ (k : ℕ). t < k) (as_many bs) few);
  apart = subst Apart (sym value) (first_apart _ (free_blocks shape f) room (lists_apart shape f));
})
