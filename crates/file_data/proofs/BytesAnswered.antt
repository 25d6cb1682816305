-- Requests on the bytes of a file at a path: how they end, by how the walk there and the call at its end did.
use Rattle.request_ends.proofs.Common.{◌≡◌, ℕ, ◌+◌, ◌<◌, ◌≤◌, ◌⊎◌, List, refl, sym, ap, subst, ◌∙◌, inl, inr, Result, Ok, Err, IsErrOf, get, Ino, VolumeShape, free_blocks, BlockWords, Seen, Kept, Answered, State, answered, at_inode, held_of, names_of, walk, volume_layout, largest_size, ReadsAs, LeavesInUse, Ready, wanted_blocks, SizeFail, NoneDone}
use Rattle.rio_requests.specs.Parts.{WriteDone}
use Rattle.rio_requests.specs.Answer.{on_file, refused_by}
use Rattle.std.specs.Prelude.{IfOk, length, take, drop, OnOk}
use Rattle.rio_requests.specs.declared.reply.Reply.TheVariants.{Bytes}
use Rattle.rio_model.specs.FileParts.{written, resized}
use Rattle.file_pages.specs.Files.{FaultsAfter, HasSpace, HasSpaceFor, ResizeStops, StopsAs, SetsBoth, file_bytes}
use Rattle.file_pages.specs.Writing.{WriteStops}
use Rattle.node_pages.specs.declared.failures.SizeFail.TheVariants.{NoSpace as SizeNoSpace, TooLarge as SizeTooLarge, Fault as SizeFault, Stopped as SizeStopped, Memory as SizeMemory}
use Rattle.node_pages.specs.declared.failures.WriteFail.{WriteFail}
use Rattle.node_pages.specs.declared.failures.WriteFail.TheVariants.{NoSpace as WriteNoSpace, TooLarge as WriteTooLarge, Fault as WriteFault, Stopped as WriteStopped, Memory as WriteMemory}
use Rattle.rio_requests.specs.Answers.{read, read_in, truncate, write, write_in, truncate_in}
use Rattle.request_ends.specs.Ends.{FileEnds, SaysCount, SaysDone}
use Rattle.request_ends.specs.declared.failures.FileFail.{FileFail}
use Rattle.request_ends.specs.declared.failures.FileFail.TheVariants.{Refused, Fault, Stopped, Memory}
use Rattle.request_ends.specs.Failures.{fail_of_size, fail_of_write}
use Rattle.file_tree.specs.Walks.{FileComes}
use Rattle.file_data.proofs.FileData.{ends_resized, file_read}
use Rattle.file_data.proofs.FileEnded.{ends_written, resize_fault, resize_no_space, resize_stopped, resize_too_large, write_fault, write_no_space, write_stopped, write_too_large}
use Rattle.request_ends.proofs.AnsweredAt.{FailsBy}

-- the walk ended at no file
pub fails_file : (s : State) (walked : Result ℕ ℕ) (go : ℕ → List ℕ → Answered) (r : Result Ino FileFail) (e : FileFail) → r ≡ Err e → FileComes s walked r → FailsBy s (at_inode s walked (λ i. on_file s (get s.nodes i) (go i))) e
fails_file s walked go r e re h = by e (subst (λ (v : Result Ino FileFail). FileComes s walked v) re h)
  where
    at : Result ℕ ℕ → Answered
    at w = at_inode s w (λ i. on_file s (get s.nodes i) (go i))

    by : (f : FileFail) → FileComes s walked (Err f) → FailsBy s (at_inode s walked (λ i. on_file s (get s.nodes i) (go i))) f
    by (Refused c) (inl c_is) = ap (λ (w : Result ℕ ℕ). at_inode s w (λ i. on_file s (get s.nodes i) (go i))) c_is
    by (Refused c) (inr (i, ends, inl (five, dir))) = ap (λ (w : Result ℕ ℕ). at_inode s w (λ n. on_file s (get s.nodes n) (go n))) ends ∙ ap (λ n. on_file s n (go i)) dir ∙ ap (refused_by s) (sym five)
    by (Refused c) (inr (i, ends, inr (seven, (r, region)))) = ap (λ (w : Result ℕ ℕ). at_inode s w (λ n. on_file s (get s.nodes n) (go n))) ends ∙ ap (λ n. on_file s n (go i)) region ∙ ap (refused_by s) (sym seven)
    by (Fault n) none = none
    by Stopped u = tt
    by Memory u = tt

-- ---- read

pub read_answer : (shape : VolumeShape) (f : BlockWords) (s : State) (path : List ℕ) (off len i : ℕ) (bytes : List ℕ) → ReadsAs shape f s → walk s 1 (names_of path) ≡ Ok i → (held_of shape f i).kind ≡ 2 → bytes ≡ take len (drop off (file_bytes shape f i)) → read s path off len ≡ answered s (Bytes bytes)
read_answer shape f s path off len i bytes reads at file is =
    ap (λ (w : Result ℕ ℕ). at_inode s w (read_in s off len)) at
    ∙ ap (λ n. on_file s n (λ old. answered s (Bytes (take len (drop off old))))) (file_read shape f s i reads file)
    ∙ ap (λ b. answered s (Bytes b)) (sym is)

-- ---- write

-- what a call that writes says of its answer
pub record WriteSays (shape : VolumeShape) (x : Seen) (k : Kept) (y : Seen) (j : Kept) (i off : ℕ) (bytes : List ℕ) (r : Result ℕ WriteFail) : Type 0 where
  pub value : IfOk r (λ n. n ≡ length bytes)
  pub ok : OnOk r (SetsBoth shape x.words y j i (written (file_bytes shape x.words i) off bytes))
  pub space : OnOk r (HasSpaceFor shape x.words (length (file_bytes shape x.words i)) off bytes)
  pub too_large : IsErrOf r WriteTooLarge → (0 < length bytes) × (largest_size < off + length bytes)
  pub no_space : IsErrOf r WriteNoSpace → (0 < length bytes) × (off + length bytes ≤ largest_size) × (length (free_blocks shape x.words) < wanted_blocks (length (file_bytes shape x.words i)) (off + length bytes))
  pub refused : IsErrOf r WriteNoSpace ⊎ IsErrOf r WriteTooLarge ⊎ IsErrOf r WriteMemory → LeavesInUse (volume_layout shape x.words) x k y j
  pub fault : (n : ℕ) → IsErrOf r (WriteFault n) → FaultsAfter shape x.words y j i off bytes n
  pub stopped : IsErrOf r WriteStopped → StopsAs shape x.words y j i (WriteStops shape x.words i off bytes)
  pub ready : IsErrOf r WriteStopped ⊎ Ready shape y j

write_fails : (shape : VolumeShape) (x : Seen) (k : Kept) (y : Seen) (j : Kept) (s : State) (path : List ℕ) (off : ℕ) (bytes : List ℕ) (i : ℕ) (e : WriteFail) → ReadsAs shape x.words s → walk s 1 (names_of path) ≡ Ok i → (held_of shape x.words i).kind ≡ 2 → WriteSays shape x k y j i off bytes (Err e) → FileEnds SaysCount shape x k y j s (write_in s off bytes i) (WriteDone s path off bytes (write_in s off bytes i)) (Err (fail_of_write e))
write_fails shape x k y j s path off bytes i WriteNoSpace reads at file h = let few = h.no_space refl in write_no_space SaysCount shape x k y j s off bytes i (WriteDone s path off bytes (write_in s off bytes i)) reads file few.0 few.1 few.2 (h.refused (inl refl))
write_fails shape x k y j s path off bytes i WriteTooLarge reads at file h = let past = h.too_large refl in write_too_large SaysCount shape x k y j s off bytes i (WriteDone s path off bytes (write_in s off bytes i)) reads file past.0 past.1 (h.refused (inr (inl refl)))
write_fails shape x k y j s path off bytes i (WriteFault n) reads at file h = write_fault SaysCount shape x k y j s path off bytes i n reads at file (by h.ready) (h.fault n refl)
  where
    by : IsErrOf {T = ℕ} (Err (WriteFault n)) WriteStopped ⊎ Ready shape y j → Ready shape y j
    by (inl stopped) = absurd cc
    by (inr ready) = ready
write_fails shape x k y j s path off bytes i WriteStopped reads at file h = write_stopped SaysCount shape x k y j s path off bytes i reads at file (h.stopped refl)
write_fails shape x k y j s path off bytes i WriteMemory reads at file h = h.refused (inr (inr refl))

write_at : (s : State) (path : List ℕ) (off : ℕ) (bytes : List ℕ) (i : ℕ) → walk s 1 (names_of path) ≡ Ok i → write_in s off bytes i ≡ write s path off bytes
write_at s path off bytes i at = sym (ap (λ (w : Result ℕ ℕ). at_inode s w (write_in s off bytes)) at)

pub write_ends_err : (shape : VolumeShape) (x : Seen) (k : Kept) (y : Seen) (j : Kept) (s : State) (path : List ℕ) (off : ℕ) (bytes : List ℕ) (i : ℕ) (r : Result ℕ WriteFail) (q : Result ℕ FileFail) (e : WriteFail) (d : FileFail) → r ≡ Err e → q ≡ Err d → d ≡ fail_of_write e → ReadsAs shape x.words s → walk s 1 (names_of path) ≡ Ok i → (held_of shape x.words i).kind ≡ 2 → WriteSays shape x k y j i off bytes r → FileEnds SaysCount shape x k y j s (write s path off bytes) (WriteDone s path off bytes (write s path off bytes)) q
write_ends_err shape x k y j s path off bytes i r q e d re qd de reads at file h =
    subst (λ (v : Result ℕ FileFail). FileEnds SaysCount shape x k y j s (write s path off bytes) (WriteDone s path off bytes (write s path off bytes)) v) (sym (qd ∙ ap Err de))
    (subst (λ a. FileEnds SaysCount shape x k y j s a (WriteDone s path off bytes a) (Err (fail_of_write e))) (write_at s path off bytes i at) (write_fails shape x k y j s path off bytes i e reads at file (subst (λ (v : Result ℕ WriteFail). WriteSays shape x k y j i off bytes v) re h)))

pub write_ends_ok : (shape : VolumeShape) (x : Seen) (k : Kept) (y : Seen) (j : Kept) (s : State) (path : List ℕ) (off : ℕ) (bytes : List ℕ) (i n : ℕ) (r : Result ℕ WriteFail) → r ≡ Ok n → ReadsAs shape x.words s → walk s 1 (names_of path) ≡ Ok i → (held_of shape x.words i).kind ≡ 2 → WriteSays shape x k y j i off bytes r → FileEnds SaysCount shape x k y j s (write s path off bytes) (WriteDone s path off bytes (write s path off bytes)) (Ok n)
write_ends_ok shape x k y j s path off bytes i n r is reads at file h = subst (λ a. FileEnds SaysCount shape x k y j s a (WriteDone s path off bytes a) (Ok n)) (write_at s path off bytes i at) (by (subst (λ (v : Result ℕ WriteFail). WriteSays shape x k y j i off bytes v) is h))
  where
    ready_of : IsErrOf {T = ℕ} (Ok n) WriteStopped ⊎ Ready shape y j → Ready shape y j
    ready_of (inl stopped) = absurd cc
    ready_of (inr ready) = ready

    by : WriteSays shape x k y j i off bytes (Ok n) → FileEnds SaysCount shape x k y j s (write_in s off bytes i) (WriteDone s path off bytes (write_in s off bytes i)) (Ok n)
    by w = ends_written shape x k y j s off bytes i n (WriteDone s path off bytes (write_in s off bytes i)) reads file (ready_of w.ready) w.value w.ok w.space

-- ---- truncate

-- what a call that resizes says of its answer
pub record SizeSays (shape : VolumeShape) (x : Seen) (k : Kept) (y : Seen) (j : Kept) (i len : ℕ) (r : Result (Unit {0}) SizeFail) : Type 0 where
  pub ok : OnOk r (SetsBoth shape x.words y j i (resized (file_bytes shape x.words i) len))
  pub space : OnOk r (HasSpace shape x.words (length (file_bytes shape x.words i)) len)
  pub too_large : IsErrOf r SizeTooLarge → largest_size < len
  pub no_space : IsErrOf r SizeNoSpace → (len ≤ largest_size) × (length (free_blocks shape x.words) < wanted_blocks (length (file_bytes shape x.words i)) len)
  pub refused : IsErrOf r SizeNoSpace ⊎ IsErrOf r SizeTooLarge ⊎ IsErrOf r SizeMemory → LeavesInUse (volume_layout shape x.words) x k y j
  pub fault : IsErrOf r SizeFault → SetsBoth shape x.words y j i (file_bytes shape x.words i)
  pub stopped : IsErrOf r SizeStopped → StopsAs shape x.words y j i (ResizeStops shape x.words i len)
  pub ready : IsErrOf r SizeStopped ⊎ Ready shape y j

size_fails : (shape : VolumeShape) (x : Seen) (k : Kept) (y : Seen) (j : Kept) (s : State) (i len : ℕ) (e : SizeFail) → ReadsAs shape x.words s → (held_of shape x.words i).kind ≡ 2 → SizeSays shape x k y j i len (Err e) → FileEnds {T = Unit {0}} SaysDone shape x k y j s (truncate_in s len i) (NoneDone s) (Err (fail_of_size e))
size_fails shape x k y j s i len SizeNoSpace reads file h = let few = h.no_space refl in resize_no_space (Unit {0}) shape x k y j s i len reads file few.0 few.1 (h.refused (inl refl))
size_fails shape x k y j s i len SizeTooLarge reads file h = resize_too_large (Unit {0}) shape x k y j s i len reads file (h.too_large refl) (h.refused (inr (inl refl)))
size_fails shape x k y j s i len SizeFault reads file h = resize_fault (Unit {0}) shape x k y j s i len reads file (by h.ready) (h.fault refl)
  where
    by : IsErrOf {T = Unit {0}} (Err SizeFault) SizeStopped ⊎ Ready shape y j → Ready shape y j
    by (inl stopped) = absurd cc
    by (inr ready) = ready
size_fails shape x k y j s i len SizeStopped reads file h = resize_stopped (Unit {0}) shape x k y j s i len reads file (h.stopped refl)
size_fails shape x k y j s i len SizeMemory reads file h = h.refused (inr (inr refl))

truncate_at : (s : State) (path : List ℕ) (i len : ℕ) → walk s 1 (names_of path) ≡ Ok i → truncate_in s len i ≡ truncate s path len
truncate_at s path i len at = sym (ap (λ (w : Result ℕ ℕ). at_inode s w (truncate_in s len)) at)

pub size_ends_err : (shape : VolumeShape) (x : Seen) (k : Kept) (y : Seen) (j : Kept) (s : State) (path : List ℕ) (i len : ℕ) (r : Result (Unit {0}) SizeFail) (q : Result (Unit {0}) FileFail) (e : SizeFail) (d : FileFail) → r ≡ Err e → q ≡ Err d → d ≡ fail_of_size e → ReadsAs shape x.words s → walk s 1 (names_of path) ≡ Ok i → (held_of shape x.words i).kind ≡ 2 → SizeSays shape x k y j i len r → FileEnds SaysDone shape x k y j s (truncate s path len) (NoneDone s) q
size_ends_err shape x k y j s path i len r q e d re qd de reads at file h =
    subst (λ (v : Result (Unit {0}) FileFail). FileEnds SaysDone shape x k y j s (truncate s path len) (NoneDone s) v) (sym (qd ∙ ap Err de))
    (subst (λ a. FileEnds {T = Unit {0}} SaysDone shape x k y j s a (NoneDone s) (Err (fail_of_size e))) (truncate_at s path i len at) (size_fails shape x k y j s i len e reads file (subst (λ (v : Result (Unit {0}) SizeFail). SizeSays shape x k y j i len v) re h)))

pub size_ends_ok : (shape : VolumeShape) (x : Seen) (k : Kept) (y : Seen) (j : Kept) (s : State) (path : List ℕ) (i len : ℕ) (r : Result (Unit {0}) SizeFail) (u v : Unit {0}) → r ≡ Ok u → ReadsAs shape x.words s → walk s 1 (names_of path) ≡ Ok i → (held_of shape x.words i).kind ≡ 2 → SizeSays shape x k y j i len r → FileEnds SaysDone shape x k y j s (truncate s path len) (NoneDone s) (Ok v)
size_ends_ok shape x k y j s path i len r u v is reads at file h = subst (λ a. FileEnds SaysDone shape x k y j s a (NoneDone s) (Ok v)) (truncate_at s path i len at) (by (subst (λ (w : Result (Unit {0}) SizeFail). SizeSays shape x k y j i len w) is h))
  where
    ready_of : IsErrOf {T = Unit {0}} (Ok u) SizeStopped ⊎ Ready shape y j → Ready shape y j
    ready_of (inl stopped) = absurd cc
    ready_of (inr ready) = ready

    by : SizeSays shape x k y j i len (Ok u) → FileEnds SaysDone shape x k y j s (truncate_in s len i) (NoneDone s) (Ok v)
    by w = ends_resized v shape x k y j s i len reads file (ready_of w.ready) w.ok w.space
