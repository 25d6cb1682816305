-- The bytes of a file written or resized, as the answer of the state.
use Rattle.request_ends.proofs.Common.{◌≡◌, ◌≢◌, ℕ, ◌<◌, ◌≤◌, ◌⊎◌, true, false, cond, List, refl, sym, ap, subst, ◌∙◌, arith, inl, inr, Ok, Some, nat_lt, get, insert, cases_eq, nat_tests, VolumeShape, free_blocks, BlockWords, Seen, Kept, Node, File, Answered, State, answered, refused, with_node, held_of, free_count, largest_size, reads_file, ReadsAs, Ready, free_by_state, get_here, get_there, wanted_blocks, with_room, NoneDone}
use Rattle.rio_model.specs.FileParts.{resized}
use Rattle.rio_requests.specs.Answer.{on_file}
use Rattle.std.specs.Prelude.{length}
use Rattle.rio_requests.specs.declared.reply.Reply.TheVariants.{Ok as Done}
use Rattle.rio_model.specs.NodeChanges.{SetsFile}
use Rattle.rio_model.specs.VolumeReady.{StandsReady}
use Rattle.rio_model.proofs.NodeOrder.{same_nodes}
use Rattle.rio_model.proofs.StateSteps.{file_set}
use Rattle.rio_model.specs.declared.refusal.Refusal.TheVariants.{TooLarge, NoSpace}
use Rattle.file_pages.specs.Files.{HasSpace, SetsBoth, file_bytes}
use Rattle.rio_requests.specs.Answers.{wanted, truncate_in, with_size}
use Rattle.request_ends.specs.Ends.{FileEnds, Left, SaysDone, Stands}

-- file i of a state
pub file_read : (shape : VolumeShape) (f : BlockWords) (s : State) (i : ℕ) → ReadsAs shape f s → (held_of shape f i).kind ≡ 2 → get s.nodes i ≡ Some (File (file_bytes shape f i))
file_read shape f s i reads file = reads.reads.nodes i ∙ reads_file (held_of shape f i) file

-- what a change of file i alone leaves
pub left_set : (shape : VolumeShape) (x y : Seen) (j : Kept) (s : State) (i : ℕ) (bytes : List ℕ) → ReadsAs shape x.words s → (held_of shape x.words i).kind ≡ 2 → Ready shape y j → SetsFile shape x.words y.words i bytes → Left shape x.words y j (with_node s i (File bytes))
left_set shape x y j s i bytes reads file ready sets = record {
  ready = ready;
  reads = file_set shape x.words y.words s i bytes reads sets file;
  spares = record { each = λ n region. by n region (cases_eq n i) };
  lowest = sets.lowest;
}
  where
    by : (n : ℕ) → (held_of shape y.words n).kind ≡ 3 → (n ≡ i) ⊎ (n ≢ i) → (held_of shape y.words n ≡ held_of shape x.words n) ⊎ (((held_of shape x.words n).kind ≡ 0) × ((held_of shape y.words n).word 3 ≡ 0))
    by n region (inl on) = absurd (let k : (held_of shape y.words n).kind ≡ 2 = ap (λ q. (held_of shape y.words q).kind) on ∙ sets.kind in omega (arith, k, region))
    by n region (inr off) = inl (sets.others n off)

pub stands_set : (shape : VolumeShape) (x y : Seen) (j : Kept) (s : State) (i : ℕ) (bytes : List ℕ) → ReadsAs shape x.words s → (held_of shape x.words i).kind ≡ 2 → StandsReady shape y j → SetsFile shape x.words j.standing i bytes → Stands shape y j (with_node s i (File bytes))
stands_set shape x y j s i bytes reads file ready sets = record { ready = ready; reads = file_set shape x.words j.standing s i bytes reads sets file }

-- ---- sizes and room

pub room_true : (shape : VolumeShape) (f : BlockWords) (s : State) (size len : ℕ) (a : Answered) → ReadsAs shape f s → HasSpace shape f size len → with_size s size len a ≡ a
room_true shape f s size len a reads space =
    let free = free_by_state shape f s reads in
    let most = space.most in
    let room = space.room in
    let fits : nat_lt largest_size len ≡ false = grind (arith, nat_tests, most) in
    let enough : nat_lt (free_count s) (wanted size len) ≡ false = grind (arith, nat_tests, free, room) in
    ap (λ b. cond b (refused s TooLarge) (with_room s (wanted size len) a)) fits ∙ ap (λ b. cond b (refused s NoSpace) a) enough

pub too_large : (s : State) (size len : ℕ) (a : Answered) → largest_size < len → with_size s size len a ≡ refused s TooLarge
too_large s size len a past = let test : nat_lt largest_size len ≡ true = grind (arith, nat_tests, past) in ap (λ b. cond b (refused s TooLarge) (with_room s (wanted size len) a)) test

pub no_space : (shape : VolumeShape) (f : BlockWords) (s : State) (size len : ℕ) (a : Answered) → ReadsAs shape f s → len ≤ largest_size → length (free_blocks shape f) < wanted_blocks size len → with_size s size len a ≡ refused s NoSpace
no_space shape f s size len a reads most few =
    let free = free_by_state shape f s reads in
    let fits : nat_lt largest_size len ≡ false = grind (arith, nat_tests, most) in
    let lacks : nat_lt (free_count s) (wanted size len) ≡ true = grind (arith, nat_tests, free, few) in
    ap (λ b. cond b (refused s TooLarge) (with_room s (wanted size len) a)) fits ∙ ap (λ b. cond b (refused s NoSpace) a) lacks

-- a file set to its own bytes is the state as it was
pub with_same : (s : State) (i : ℕ) (n : Node) → get s.nodes i ≡ Some n → with_node s i n ≡ s
with_same s i n is = ap (λ m. record s { nodes = m }) (same_nodes (insert s.nodes i n) s.nodes (λ q. by q (cases_eq q i)))
  where
    by : (q : ℕ) → (q ≡ i) ⊎ (q ≢ i) → get (insert s.nodes i n) q ≡ get s.nodes q
    by q (inl on) = ap (get (insert s.nodes i n)) on ∙ get_here s.nodes i n ∙ sym is ∙ sym (ap (get s.nodes) on)
    by q (inr off) = get_there s.nodes i n q off

-- ---- truncate

pub truncated : (s : State) (i len : ℕ) (old : List ℕ) → get s.nodes i ≡ Some (File old) → truncate_in s len i ≡ with_size s (length old) len (answered (with_node s i (File (resized old len))) Done)
truncated s i len old is = ap (λ n. on_file s n (λ bytes. with_size s (length bytes) len (answered (with_node s i (File (resized bytes len))) Done))) is

pub ends_resized : {T : Type 0} (value : T) (shape : VolumeShape) (x : Seen) (k : Kept) (y : Seen) (j : Kept) (s : State) (i len : ℕ) → ReadsAs shape x.words s → (held_of shape x.words i).kind ≡ 2 → Ready shape y j → SetsBoth shape x.words y j i (resized (file_bytes shape x.words i) len) → HasSpace shape x.words (length (file_bytes shape x.words i)) len → FileEnds SaysDone shape x k y j s (truncate_in s len i) (NoneDone s) (Ok value)
ends_resized value shape x k y j s i len reads file ready sets space =
    ((Done, ap (λ (a : Answered). a.reply) is, refl), subst (Left shape x.words y j) (sym (ap (λ (a : Answered). a.next) is)) (left_set shape x y j s i _ reads file ready sets.reads))
  where
    is : truncate_in s len i ≡ answered (with_node s i (File (resized (file_bytes shape x.words i) len))) Done
    is = truncated s i len _ (file_read shape x.words s i reads file) ∙ room_true shape x.words s _ len _ reads space
