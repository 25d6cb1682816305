-- A walk along the bytes of a path, a name at a time.
use Rattle.request_ends.proofs.Common.{◌≡◌, ℕ, ◌+◌, ◌-◌, ◌<◌, ◌≤◌, ◌⊎◌, List, [], ◌∷◌, length, take, drop, ap, ◌∙◌, Result, Ok, Err, slice_index, Ino, pieces, State, walk}
use Rattle.rio_base.specs.Bytes.{Lacks}
use Rattle.request_ends.specs.declared.failures.FileFail.{FileFail}
use Rattle.file_tree.specs.Walks.{Comes}
use Rattle.file_tree.proofs.LookedAt.{comes_on, comes_same, walk_next}
use Rattle.file_tree.proofs.PathNames.{next_piece, no_piece}

-- what is left of the walk, from node i and byte `at` on
abbrev pub walk_left : State → List ℕ → ℕ → ℕ → Result ℕ ℕ
walk_left s path i at = walk s i (pieces 47 (drop at path))

-- one name on
pub left_next : (s : State) (path : List ℕ) (i j at end : ℕ) → at < length path → at ≤ end → Lacks 47 (take (end - at) (drop at path)) → (end ≡ length path) ⊎ ((end < length path) × (slice_index path end ≡ 47)) → walk s i (take (end - at) (drop at path) ∷ []) ≡ Ok j → walk_left s path i at ≡ walk_left s path j (end + 1)
left_next s path i j at end within from lacks ended h = ap (walk s i) (next_piece path at end within from lacks ended) ∙ walk_next s i j (take (end - at) (drop at path)) (pieces 47 (drop (end + 1) path)) h

-- or its refusal
pub left_fails : (s : State) (path : List ℕ) (i at end : ℕ) (r q : Result Ino FileFail) (e d : FileFail) → at < length path → at ≤ end → Lacks 47 (take (end - at) (drop at path)) → (end ≡ length path) ⊎ ((end < length path) × (slice_index path end ≡ 47)) → r ≡ Err e → q ≡ Err d → d ≡ e → Comes (walk s i (take (end - at) (drop at path) ∷ [])) r → Comes (walk_left s path i at) q
left_fails s path i at end r q e d within from lacks ended re qd de h = comes_same _ _ q (ap (walk s i) (next_piece path at end within from lacks ended)) (comes_on s i (take (end - at) (drop at path)) (pieces 47 (drop (end + 1) path)) r q e d re qd de h)

pub left_none : (s : State) (path : List ℕ) (i at : ℕ) → length path ≤ at → walk_left s path i at ≡ Ok i
left_none s path i at past = ap (walk s i) (no_piece path at past)
