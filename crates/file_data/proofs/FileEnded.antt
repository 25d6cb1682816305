-- Other ends of a truncate, and those of a write.
use Rattle.request_ends.proofs.Common.{◌≡◌, ℕ, zero, suc, ◌+◌, ◌<◌, ◌≤◌, List, [], ◌∷◌, refl, sym, ap, subst, ◌∙◌, arith, inl, inr, append-nil, Ok, Err, Some, take-append-drop, get, VolumeShape, free_blocks, BlockWords, Seen, Kept, File, Answered, Reply, Number, State, answered, refused, with_node, held_of, names_of, walk, volume_layout, largest_size, ReadsAs, LeavesInUse, Ready, wanted_blocks, NoneDone}
use Rattle.rio_requests.specs.Answer.{on_file}
use Rattle.std.specs.Prelude.{◌++◌, drop, length, take}
use Rattle.rio_model.specs.FileParts.{IsLead, WritePart, put_at, written}
use Rattle.rio_model.specs.declared.refusal.Refusal.TheVariants.{TooLarge, NoSpace}
use Rattle.file_pages.specs.Files.{FaultsAfter, HasSpaceFor, ResizeStops, StopsAs, SetsBoth, file_bytes}
use Rattle.file_pages.specs.Writing.{WriteStops}
use Rattle.rio_requests.specs.Answers.{write_file, write_in, truncate_in, with_size}
use Rattle.rio_requests.specs.Parts.{PartOf, WriteDone}
use Rattle.request_ends.specs.Ends.{FileEnds, Left, SaysCount, SaysDone}
use Rattle.request_ends.specs.declared.failures.FileFail.TheVariants.{Refused, Fault, Stopped}
use Rattle.file_data.proofs.FileData.{file_read, left_set, no_space, room_true, stands_set, too_large, truncated, with_same}

-- ---- truncate

pub resize_too_large : (T : Type 0) (shape : VolumeShape) (x : Seen) (k : Kept) (y : Seen) (j : Kept) (s : State) (i len : ℕ) → ReadsAs shape x.words s → (held_of shape x.words i).kind ≡ 2 → largest_size < len → LeavesInUse (volume_layout shape x.words) x k y j → FileEnds {T = T} SaysDone shape x k y j s (truncate_in s len i) (NoneDone s) (Err (Refused 10))
resize_too_large T shape x k y j s i len reads file past leaves = (ap (λ (a : Answered). a.reply) is, ap (λ (a : Answered). a.next) is, leaves)
  where
    is : truncate_in s len i ≡ refused s TooLarge
    is = truncated s i len _ (file_read shape x.words s i reads file) ∙ too_large s _ len _ past

pub resize_no_space : (T : Type 0) (shape : VolumeShape) (x : Seen) (k : Kept) (y : Seen) (j : Kept) (s : State) (i len : ℕ) → ReadsAs shape x.words s → (held_of shape x.words i).kind ≡ 2 → len ≤ largest_size → length (free_blocks shape x.words) < wanted_blocks (length (file_bytes shape x.words i)) len → LeavesInUse (volume_layout shape x.words) x k y j → FileEnds {T = T} SaysDone shape x k y j s (truncate_in s len i) (NoneDone s) (Err (Refused 11))
resize_no_space T shape x k y j s i len reads file most few leaves = (ap (λ (a : Answered). a.reply) is, ap (λ (a : Answered). a.next) is, leaves)
  where
    is : truncate_in s len i ≡ refused s NoSpace
    is = truncated s i len _ (file_read shape x.words s i reads file) ∙ no_space shape x.words s _ len _ reads most few

pub resize_fault : (T : Type 0) (shape : VolumeShape) (x : Seen) (k : Kept) (y : Seen) (j : Kept) (s : State) (i len : ℕ) → ReadsAs shape x.words s → (held_of shape x.words i).kind ≡ 2 → Ready shape y j → SetsBoth shape x.words y j i (file_bytes shape x.words i) → FileEnds {T = T} SaysDone shape x k y j s (truncate_in s len i) (NoneDone s) (Err (Fault 0))
resize_fault T shape x k y j s i len reads file ready sets = (s, (refl, refl), subst (Left shape x.words y j) (with_same s i _ (file_read shape x.words s i reads file)) (left_set shape x y j s i _ reads file ready sets.reads))

pub resize_stopped : (T : Type 0) (shape : VolumeShape) (x : Seen) (k : Kept) (y : Seen) (j : Kept) (s : State) (i len : ℕ) → ReadsAs shape x.words s → (held_of shape x.words i).kind ≡ 2 → StopsAs shape x.words y j i (ResizeStops shape x.words i len) → FileEnds {T = T} SaysDone shape x k y j s (truncate_in s len i) (NoneDone s) (Err Stopped)
resize_stopped T shape x k y j s i len reads file stops = (with_node s i (File stops.bytes), part stops.is, stands_set shape x y j s i stops.bytes reads file stops.ready stops.stands)
  where
    now : get s.nodes i ≡ Some (File (file_bytes shape x.words i))
    now = file_read shape x.words s i reads file

    part : ResizeStops shape x.words i len stops.bytes → PartOf s (truncate_in s len i) (NoneDone s) (with_node s i (File stops.bytes))
    part (inl old) = inl (ap (λ b. with_node s i (File b)) old ∙ with_same s i _ now)
    part (inr (space, new)) = inr (inl (ap (λ b. with_node s i (File b)) new ∙ sym (ap (λ (a : Answered). a.next) (truncated s i len _ now ∙ room_true shape x.words s _ len _ reads space))))

-- ---- write

written_in : (s : State) (off : ℕ) (bytes : List ℕ) (i : ℕ) (old : List ℕ) → get s.nodes i ≡ Some (File old) → write_in s off bytes i ≡ write_file s off bytes i old
written_in s off bytes i old is = ap (λ n. on_file s n (write_file s off bytes i)) is

-- a write that is not refused
write_whole : (shape : VolumeShape) (f : BlockWords) (s : State) (off : ℕ) (bytes : List ℕ) (i : ℕ) (old : List ℕ) → ReadsAs shape f s → get s.nodes i ≡ Some (File old) → HasSpaceFor shape f (length old) off bytes → write_file s off bytes i old ≡ answered (with_node s i (File (written old off bytes))) (Number (length bytes))
write_whole shape f s off [] i old reads is space = ap (λ t. answered t (Number 0)) (sym (with_same s i (File old) is))
write_whole shape f s off (b ∷ bytes) i old reads is space = room_true shape f s (length old) (off + length (b ∷ bytes)) _ reads (space (omega arith))

pub ends_written : (shape : VolumeShape) (x : Seen) (k : Kept) (y : Seen) (j : Kept) (s : State) (off : ℕ) (bytes : List ℕ) (i n : ℕ) (leads : ℕ → State → Type 0) → ReadsAs shape x.words s → (held_of shape x.words i).kind ≡ 2 → Ready shape y j → n ≡ length bytes → SetsBoth shape x.words y j i (written (file_bytes shape x.words i) off bytes) → HasSpaceFor shape x.words (length (file_bytes shape x.words i)) off bytes → FileEnds SaysCount shape x k y j s (write_in s off bytes i) leads (Ok n)
ends_written shape x k y j s off bytes i n leads reads file ready count sets space =
    ((Number (length bytes), ap (λ (a : Answered). a.reply) is, ap Number (sym count)), subst (Left shape x.words y j) (sym (ap (λ (a : Answered). a.next) is)) (left_set shape x y j s i _ reads file ready sets.reads))
  where
    now : get s.nodes i ≡ Some (File (file_bytes shape x.words i))
    now = file_read shape x.words s i reads file

    is : write_in s off bytes i ≡ answered (with_node s i (File (written (file_bytes shape x.words i) off bytes))) (Number (length bytes))
    is = written_in s off bytes i _ now ∙ write_whole shape x.words s off bytes i _ reads now space

some_bytes : (s : State) (off : ℕ) (bytes : List ℕ) (i : ℕ) (old : List ℕ) → 0 < length bytes → (a : Answered) × (write_file s off bytes i old ≡ with_size s (length old) (off + length bytes) a)
some_bytes s off [] i old some = absurd (omega (arith, some))
some_bytes s off (b ∷ bytes) i old some = (answered (with_node s i (File (written old off (b ∷ bytes)))) (Number (length (b ∷ bytes))), refl)

pub write_too_large : {T : Type 0} (says : T → Reply → Type 0) (shape : VolumeShape) (x : Seen) (k : Kept) (y : Seen) (j : Kept) (s : State) (off : ℕ) (bytes : List ℕ) (i : ℕ) (leads : ℕ → State → Type 0) → ReadsAs shape x.words s → (held_of shape x.words i).kind ≡ 2 → 0 < length bytes → largest_size < off + length bytes → LeavesInUse (volume_layout shape x.words) x k y j → FileEnds {T = T} says shape x k y j s (write_in s off bytes i) leads (Err (Refused 10))
write_too_large says shape x k y j s off bytes i leads reads file some past leaves = (ap (λ (a : Answered). a.reply) is, ap (λ (a : Answered). a.next) is, leaves)
  where
    whole : (a : Answered) × (write_file s off bytes i (file_bytes shape x.words i) ≡ with_size s (length (file_bytes shape x.words i)) (off + length bytes) a)
    whole = some_bytes s off bytes i (file_bytes shape x.words i) some

    is : write_in s off bytes i ≡ refused s TooLarge
    is = written_in s off bytes i _ (file_read shape x.words s i reads file) ∙ whole.1 ∙ too_large s _ (off + length bytes) whole.0 past

pub write_no_space : {T : Type 0} (says : T → Reply → Type 0) (shape : VolumeShape) (x : Seen) (k : Kept) (y : Seen) (j : Kept) (s : State) (off : ℕ) (bytes : List ℕ) (i : ℕ) (leads : ℕ → State → Type 0) → ReadsAs shape x.words s → (held_of shape x.words i).kind ≡ 2 → 0 < length bytes → off + length bytes ≤ largest_size → length (free_blocks shape x.words) < wanted_blocks (length (file_bytes shape x.words i)) (off + length bytes) → LeavesInUse (volume_layout shape x.words) x k y j → FileEnds {T = T} says shape x k y j s (write_in s off bytes i) leads (Err (Refused 11))
write_no_space says shape x k y j s off bytes i leads reads file some most few leaves = (ap (λ (a : Answered). a.reply) is, ap (λ (a : Answered). a.next) is, leaves)
  where
    whole : (a : Answered) × (write_file s off bytes i (file_bytes shape x.words i) ≡ with_size s (length (file_bytes shape x.words i)) (off + length bytes) a)
    whole = some_bytes s off bytes i (file_bytes shape x.words i) some

    is : write_in s off bytes i ≡ refused s NoSpace
    is = written_in s off bytes i _ (file_read shape x.words s i reads file) ∙ whole.1 ∙ no_space shape x.words s _ (off + length bytes) whole.0 reads most few

no_bytes : (bytes : List ℕ) → take 0 bytes ≡ []
no_bytes [] = refl
no_bytes (b ∷ bytes) = refl

-- what a lead of no byte comes to
no_lead : (old : List ℕ) (off : ℕ) (bytes new : List ℕ) → IsLead old off bytes 0 new → new ≡ old
no_lead old off bytes new lead = lead.is ∙ ap (put_at old off) (no_bytes bytes) ∙ put_none
  where
    put_none : put_at old off [] ≡ old
    put_none = ap (λ n. (take off old ++ []) ++ drop n old) at ∙ ap (λ xs. xs ++ drop off old) (append-nil (take off old)) ∙ take-append-drop off old
      where
        at : off + length {A = ℕ} [] ≡ off
        at = omega arith

pub write_fault : {T : Type 0} (says : T → Reply → Type 0) (shape : VolumeShape) (x : Seen) (k : Kept) (y : Seen) (j : Kept) (s : State) (path : List ℕ) (off : ℕ) (bytes : List ℕ) (i n : ℕ) → ReadsAs shape x.words s → walk s 1 (names_of path) ≡ Ok i → (held_of shape x.words i).kind ≡ 2 → Ready shape y j → FaultsAfter shape x.words y j i off bytes n → FileEnds {T = T} says shape x k y j s (write_in s off bytes i) (WriteDone s path off bytes (write_in s off bytes i)) (Err (Fault n))
write_fault says shape x k y j s path off bytes i zero reads at file ready f = (s, inl (refl, refl), subst (Left shape x.words y j) (ap (λ b. with_node s i (File b)) (no_lead _ off bytes f.new f.lead) ∙ with_same s i _ (file_read shape x.words s i reads file)) (left_set shape x y j s i f.new reads file ready f.both.reads))
write_fault says shape x k y j s path off bytes i (suc n) reads at file ready f =
    (with_node s i (File f.new), inr (ap (λ (a : Answered). a.reply) is, (i, at, record { old = file_bytes shape x.words i; new = f.new; file = now; lead = f.lead; is = refl })), left_set shape x y j s i f.new reads file ready f.both.reads)
  where
    now : get s.nodes i ≡ Some (File (file_bytes shape x.words i))
    now = file_read shape x.words s i reads file

    is : write_in s off bytes i ≡ answered (with_node s i (File (written (file_bytes shape x.words i) off bytes))) (Number (length bytes))
    is = written_in s off bytes i _ now ∙ write_whole shape x.words s off bytes i _ reads now (f.space (omega arith))

pub write_stopped : {T : Type 0} (says : T → Reply → Type 0) (shape : VolumeShape) (x : Seen) (k : Kept) (y : Seen) (j : Kept) (s : State) (path : List ℕ) (off : ℕ) (bytes : List ℕ) (i : ℕ) → ReadsAs shape x.words s → walk s 1 (names_of path) ≡ Ok i → (held_of shape x.words i).kind ≡ 2 → StopsAs shape x.words y j i (WriteStops shape x.words i off bytes) → FileEnds {T = T} says shape x k y j s (write_in s off bytes i) (WriteDone s path off bytes (write_in s off bytes i)) (Err Stopped)
write_stopped says shape x k y j s path off bytes i reads at file stops = (with_node s i (File stops.bytes), part stops.is, stands_set shape x y j s i stops.bytes reads file stops.ready stops.stands)
  where
    old : List ℕ
    old = file_bytes shape x.words i

    now : get s.nodes i ≡ Some (File old)
    now = file_read shape x.words s i reads file

    is : HasSpaceFor shape x.words (length old) off bytes → write_in s off bytes i ≡ answered (with_node s i (File (written old off bytes))) (Number (length bytes))
    is space = written_in s off bytes i _ now ∙ write_whole shape x.words s off bytes i _ reads now space

    inner : HasSpaceFor shape x.words (length old) off bytes → WritePart old off bytes stops.bytes → PartOf s (write_in s off bytes i) (WriteDone s path off bytes (write_in s off bytes i)) (with_node s i (File stops.bytes))
    inner space (inl same) = inl (ap (λ b. with_node s i (File b)) same ∙ with_same s i _ now)
    inner space (inr (inl whole)) = inr (inl (ap (λ b. with_node s i (File b)) whole ∙ sym (ap (λ (a : Answered). a.next) (is space))))
    inner space (inr (inr (n, lead))) = inr (inr (n, inr (ap (λ (a : Answered). a.reply) (is space), (i, at, record { old = old; new = stops.bytes; file = now; lead = lead; is = refl }))))

    part : WriteStops shape x.words i off bytes stops.bytes → PartOf s (write_in s off bytes i) (WriteDone s path off bytes (write_in s off bytes i)) (with_node s i (File stops.bytes))
    part (inl same) = inl (ap (λ b. with_node s i (File b)) same ∙ with_same s i _ now)
    part (inr (space, inside)) = inner space inside
