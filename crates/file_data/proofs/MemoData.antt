-- Bytes written and files resized change no name, and take no node away.
use Rattle.request_ends.proofs.Common.{ℕ, ◌+◌, Bool, true, false, cond, List, [], ◌∷◌, length, refl, sym, subst, inl, inr, Result, Ok, Err, get, nat_lt, Node, File, Region, State, Answered, answered, at_inode, with_node, with_room, largest_size, free_count, names_of, walk, Number, refused_by}
use Rattle.rio_requests.specs.Parts.{WriteDone}
use Rattle.rio_requests.specs.Answer.{on_file}
use Rattle.std.specs.Prelude.{Option, Some, None}
use Rattle.rio_model.specs.FileParts.{written, resized}
use Rattle.rio_model.specs.declared.node.Node.TheVariants.{Dir}
use Rattle.rio_requests.specs.declared.reply.Reply.TheVariants.{Ok as Done}
use Rattle.rio_requests.specs.Answers.{truncate, wanted, write, write_in, with_size, truncate_in}
use Rattle.file_tree.proofs.MemoEnds.{SameUse, use_same}
use Rattle.file_tree.proofs.MemoSteps.{stay_with}

itself : (s : State) → SameUse s s
itself s = use_same s s refl

with_same : (s : State) (i : ℕ) (n : Node) → SameUse s (with_node s i n)
with_same s i n = record { names = refl; nodes = stay_with s i n }

cond_same : (s : State) (b : Bool) (c : ℕ) (a : Answered) → SameUse s a.next → SameUse s (cond b (refused_by s c) a).next
cond_same s true c a h = itself s
cond_same s false c a h = h

sized_same : (s : State) (size len : ℕ) (a : Answered) → SameUse s a.next → SameUse s (with_size s size len a).next
sized_same s size len a h = cond_same s (nat_lt largest_size len) 10 (with_room s (wanted size len) a) (cond_same s (nat_lt (free_count s) (wanted size len)) 11 a h)

file_same : (s : State) (n : Option Node) (go : List ℕ → Answered) → ((old : List ℕ) → SameUse s (go old).next) → SameUse s (on_file s n go).next
file_same s None go h = itself s
file_same s (Some Dir) go h = itself s
file_same s (Some (File old)) go h = h old
file_same s (Some (Region r)) go h = itself s

at_same : (s : State) (w : Result ℕ ℕ) (go : ℕ → Answered) → ((i : ℕ) → SameUse s (go i).next) → SameUse s (at_inode s w go).next
at_same s (Ok i) go h = h i
at_same s (Err c) go h = itself s

write_at : (s : State) (off : ℕ) (bytes : List ℕ) (i : ℕ) → SameUse s (write_in s off bytes i).next
write_at s off [] i = file_same s (get s.nodes i) _ (λ old. itself s)
write_at s off (b ∷ bytes) i = file_same s (get s.nodes i) _ (λ old. sized_same s (length old) (off + length (b ∷ bytes)) (answered (with_node s i (File (written old off (b ∷ bytes)))) (Number (length (b ∷ bytes)))) (with_same s i (File (written old off (b ∷ bytes)))))

pub write_same : (s : State) (path : List ℕ) (off : ℕ) (bytes : List ℕ) → SameUse s (write s path off bytes).next
write_same s path off bytes = at_same s (walk s 1 (names_of path)) (write_in s off bytes) (write_at s off bytes)

pub write_parts : (s : State) (path : List ℕ) (off : ℕ) (bytes : List ℕ) (a : Answered) (k : ℕ) (t : State) → WriteDone s path off bytes a k t → SameUse s t
write_parts s path off bytes a k t (inl none) = use_same s t none.1
write_parts s path off bytes a k t (inr (told, (i, at, lead))) = subst (λ (u : State). SameUse s u) (sym lead.is) (with_same s i (File lead.new))

pub truncate_same : (s : State) (path : List ℕ) (len : ℕ) → SameUse s (truncate s path len).next
truncate_same s path len = at_same s (walk s 1 (names_of path)) (truncate_in s len) (λ i. file_same s (get s.nodes i) _ (λ old. sized_same s (length old) len (answered (with_node s i (File (resized old len))) Done) (with_same s i (File (resized old len)))))
