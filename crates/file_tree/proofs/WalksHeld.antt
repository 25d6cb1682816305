-- The path that is held leads where it led, as long as names stay, and it leads to a used inode.
use Rattle.request_ends.proofs.Common.{◌≡◌, ℕ, ◌<◌, List, [], ◌∷◌, take, sym, ap, subst, ◌∙◌, Ok, Some, get, VolumeShape, BlockWords, State, Names, held_of, entry_ino, names_of, walk, ReadsAs}
use Rattle.rio_model.proofs.Walks.{stepped, walk_step}
use Rattle.file_tree.specs.Memos.{LeadsThere}
use Rattle.file_tree.specs.declared.last_path.LastPath.{LastPath}
use Rattle.file_tree.proofs.LookedAt.{dir_read}

-- ---- names that stay

-- a row's directory is one, so that names alone say where a walk leads that led somewhere
walk_on_names : (shape : VolumeShape) (g : BlockWords) (s t : State) (i j : ℕ) (names : List (List ℕ)) → ReadsAs shape g t → t.names ≡ s.names → walk s i names ≡ Ok j → walk t i names ≡ Ok j
walk_on_names shape g s t i j [] reads same e = e
walk_on_names shape g s t i j (n ∷ ns) reads same e =
    let at = stepped s i j n ns e in
    let row : get t.names (i, n) ≡ Some at.over = ap (λ (ms : Names). get ms (i, n)) same ∙ at.row in
    let entry = reads.reads.names i n at.over row in
    walk_step t i at.over n ns (dir_read shape g t i reads entry.1.dir) row ∙ walk_on_names shape g s t at.over j ns reads same at.rest

pub leads_on : (shape : VolumeShape) (g : BlockWords) (s t : State) (last : LastPath) → ReadsAs shape g t → t.names ≡ s.names → LeadsThere last s → LeadsThere last t
leads_on shape g s t last reads same h = record { there = λ some. walk_on_names shape g s t 1 last.ino.0 (names_of (take last.len last.room)) reads same (h.there some) }

-- ---- a used inode

some_one : (a b : ℕ) → Some a ≡ Some b → a ≡ b
some_one a b e = cc

pub walked_used : (shape : VolumeShape) (f : BlockWords) (s : State) (i j : ℕ) (names : List (List ℕ)) → ReadsAs shape f s → 0 < (held_of shape f i).kind → walk s i names ≡ Ok j → 0 < (held_of shape f j).kind
walked_used shape f s i j [] reads used e = subst (λ n. 0 < (held_of shape f n).kind) (cc (e)) used
walked_used shape f s i j (n ∷ ns) reads used e =
    let at = stepped s i j n ns e in
    let entry = reads.reads.names i n at.over at.row in
    let slot = entry.0 in
    let one : entry_ino (held_of shape f i) slot ≡ at.over = some_one _ _ (sym (reads.reads.entries i slot entry.1) ∙ ap (λ m. get s.names (i, m)) entry.2 ∙ at.row) in
    walked_used shape f s at.over j ns reads (subst (λ m. 0 < (held_of shape f m).kind) one (reads.entries.each i slot entry.1).1) at.rest
