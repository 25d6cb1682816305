-- Requests that remove a row: what they answer, by what the look-ups before come to.
use Rattle.request_ends.proofs.Common.{◌≡◌, ◌≢◌, ℕ, ◌<◌, true, false, cond, List, [], ◌∷◌, refl, sym, ap, subst, ◌∙◌, arith, inl, inr, Result, Ok, Err, Some, get, VolumeShape, BlockWords, Answered, State, answered, at_inode, refused, front_of, last_of, names_in, held_of, from_found, is_dir, walk_to_dir, ReadsAs, IsInode, Inode, found}
use Rattle.std.specs.Prelude.{length, not}
use Rattle.rio_requests.specs.declared.reply.Reply.TheVariants.{Ok as Done}
use Rattle.rio_requests.specs.Answers.{is_empty, rmdir_at, rmdir_node, unlink_at, unlink_node, at_row, is_open, without}
use Rattle.rio_model.specs.declared.refusal.Refusal.TheVariants.{NotADirectory, IsADirectory, NotEmpty, Busy}
use Rattle.file_tree.specs.Walks.{RowComes}
use Rattle.request_ends.specs.declared.failures.FileFail.{FileFail}
use Rattle.request_ends.specs.declared.failures.FileFail.TheVariants.{Refused, Fault, Stopped, Memory}
use Rattle.file_tree.specs.declared.walking.Row.{Row}
use Rattle.request_ends.proofs.AnsweredAt.{FailsBy}
use Rattle.region_view.proofs.UsedInodes.{kind_held, used_ino}
use Rattle.region_view.proofs.RegionHeader.{used_size}
use Rattle.file_tree.proofs.RowRoom.{dir_size}

-- ---- a row removed

-- the row of the last name is not there
pub fails_row : (s : State) (names : List (List ℕ)) (go : ℕ → ℕ → Answered) (r : Result Row FileFail) (e : FileFail) → r ≡ Err e → RowComes s names r → FailsBy s (at_row s names (λ dir. at_inode s (found s dir (last_of names)) (go dir))) e
fails_row s names go r e re h = by e (subst (λ (v : Result Row FileFail). RowComes s names v) re h)
  where
    by : (f : FileFail) → RowComes s names (Err f) → FailsBy s (at_row s names (λ dir. at_inode s (found s dir (last_of names)) (go dir))) f
    by (Refused c) (inl no_dir) = ap (λ (w : Result ℕ ℕ). at_inode s w (λ dir. at_inode s (found s dir (last_of names)) (go dir))) no_dir
    by (Refused c) (inr (dir, at, none)) = ap (λ (w : Result ℕ ℕ). at_inode s w (λ d. at_inode s (found s d (last_of names)) (go d))) at ∙ ap (λ (w : Result ℕ ℕ). at_inode s w (go dir)) none
    by (Fault n) none = none
    by Stopped u = tt
    by Memory u = tt

-- it is
pub row_taken : (s : State) (names : List (List ℕ)) (go : ℕ → ℕ → Answered) (dir i : ℕ) → walk_to_dir s (front_of names) ≡ Ok dir → get s.names (dir, last_of names) ≡ Some i → at_row s names (λ d. at_inode s (found s d (last_of names)) (go d)) ≡ go dir i
row_taken s names go dir i at row =
    ap (λ (w : Result ℕ ℕ). at_inode s w (λ d. at_inode s (found s d (last_of names)) (go d))) at
    ∙ ap (λ (w : Result ℕ ℕ). at_inode s w (go dir)) (ap (λ o. from_found o Ok) row)

unlinked_last : (s : State) (busy : List ℕ) (names : List (List ℕ)) → 0 < length names → unlink_at s busy names ≡ at_row s names (λ dir. at_inode s (found s dir (last_of names)) (unlink_node s busy dir (last_of names)))
unlinked_last s busy [] some = absurd (omega (arith, some))
unlinked_last s busy (name ∷ names) some = refl

pub fails_unlink : (s : State) (busy : List ℕ) (names : List (List ℕ)) (r : Result Row FileFail) (e : FileFail) → 0 < length names → r ≡ Err e → RowComes s names r → FailsBy s (unlink_at s busy names) e
fails_unlink s busy names r e some re h = subst (λ (a : Answered). FailsBy s a e) (sym (unlinked_last s busy names some)) (fails_row s names (λ dir. unlink_node s busy dir (last_of names)) r e re h)

pub unlinked_at : (s : State) (busy : List ℕ) (names : List (List ℕ)) (row : Row) → 0 < length names → RowComes s names (Ok row) → unlink_at s busy names ≡ unlink_node s busy row.dir.0 (last_of names) row.ino.0
unlinked_at s busy names row some h = unlinked_last s busy names some ∙ row_taken s names (λ dir. unlink_node s busy dir (last_of names)) row.dir.0 row.ino.0 h.0 h.1

pub unlinked_dir : (s : State) (busy : List ℕ) (dir : ℕ) (name : List ℕ) (i : ℕ) → is_dir (get s.nodes i) ≡ true → unlink_node s busy dir name i ≡ refused s IsADirectory
unlinked_dir s busy dir name i is = ap (λ b. cond b (refused s IsADirectory) (cond (is_open busy i (get s.nodes i)) (refused s Busy) (answered (without s dir name i) Done))) is

pub unlinked_open : (s : State) (busy : List ℕ) (dir : ℕ) (name : List ℕ) (i : ℕ) → is_dir (get s.nodes i) ≡ false → is_open busy i (get s.nodes i) ≡ true → unlink_node s busy dir name i ≡ refused s Busy
unlinked_open s busy dir name i leaf is = ap (λ b. cond b (refused s IsADirectory) (cond (is_open busy i (get s.nodes i)) (refused s Busy) (answered (without s dir name i) Done))) leaf ∙ ap (λ b. cond b (refused s Busy) (answered (without s dir name i) Done)) is

pub unlinked_leaf : (s : State) (busy : List ℕ) (dir : ℕ) (name : List ℕ) (i : ℕ) → is_dir (get s.nodes i) ≡ false → is_open busy i (get s.nodes i) ≡ false → unlink_node s busy dir name i ≡ answered (without s dir name i) Done
unlinked_leaf s busy dir name i leaf is = ap (λ b. cond b (refused s IsADirectory) (cond (is_open busy i (get s.nodes i)) (refused s Busy) (answered (without s dir name i) Done))) leaf ∙ ap (λ b. cond b (refused s Busy) (answered (without s dir name i) Done)) is

-- ---- a directory removed

rmdir_last : (s : State) (names : List (List ℕ)) → 0 < length names → rmdir_at s names ≡ at_row s names (λ dir. at_inode s (found s dir (last_of names)) (rmdir_node s dir (last_of names)))
rmdir_last s [] some = absurd (omega (arith, some))
rmdir_last s (name ∷ names) some = refl

pub fails_rmdir : (s : State) (names : List (List ℕ)) (r : Result Row FileFail) (e : FileFail) → 0 < length names → r ≡ Err e → RowComes s names r → FailsBy s (rmdir_at s names) e
fails_rmdir s names r e some re h = subst (λ (a : Answered). FailsBy s a e) (sym (rmdir_last s names some)) (fails_row s names (λ dir. rmdir_node s dir (last_of names)) r e re h)

pub rmdir_taken : (s : State) (names : List (List ℕ)) (row : Row) → 0 < length names → RowComes s names (Ok row) → rmdir_at s names ≡ rmdir_node s row.dir.0 (last_of names) row.ino.0
rmdir_taken s names row some h = rmdir_last s names some ∙ row_taken s names (λ dir. rmdir_node s dir (last_of names)) row.dir.0 row.ino.0 h.0 h.1

pub rmdir_leaf : (s : State) (dir : ℕ) (name : List ℕ) (i : ℕ) → is_dir (get s.nodes i) ≡ false → rmdir_node s dir name i ≡ refused s NotADirectory
rmdir_leaf s dir name i is = ap (λ b. cond (not b) (refused s NotADirectory) (cond (is_empty (names_in s i)) (answered (without s dir name i) Done) (refused s NotEmpty))) is

pub rmdir_full : (s : State) (dir : ℕ) (name : List ℕ) (i : ℕ) → is_dir (get s.nodes i) ≡ true → is_empty (names_in s i) ≡ false → rmdir_node s dir name i ≡ refused s NotEmpty
rmdir_full s dir name i is full = ap (λ b. cond (not b) (refused s NotADirectory) (cond (is_empty (names_in s i)) (answered (without s dir name i) Done) (refused s NotEmpty))) is ∙ ap (λ b. cond b (answered (without s dir name i) Done) (refused s NotEmpty)) full

pub rmdir_bare : (s : State) (dir : ℕ) (name : List ℕ) (i : ℕ) → is_dir (get s.nodes i) ≡ true → is_empty (names_in s i) ≡ true → rmdir_node s dir name i ≡ answered (without s dir name i) Done
rmdir_bare s dir name i is bare = ap (λ b. cond (not b) (refused s NotADirectory) (cond (is_empty (names_in s i)) (answered (without s dir name i) Done) (refused s NotEmpty))) is ∙ ap (λ b. cond b (answered (without s dir name i) Done) (refused s NotEmpty)) bare

empty_if : (names : List (List ℕ)) → length names ≡ 0 → is_empty names ≡ true
empty_if [] e = refl
empty_if (name ∷ names) e = absurd (omega (arith, e))

full_if : (names : List (List ℕ)) → length names ≢ 0 → is_empty names ≡ false
full_if [] e = absurd (e refl)
full_if (name ∷ names) e = refl

-- names, by the size
pub dir_bare : (shape : VolumeShape) (f : BlockWords) (s : State) (i : ℕ) → ReadsAs shape f s → (held_of shape f i).kind ≡ 1 → (held_of shape f i).size ≡ 0 → is_empty (names_in s i) ≡ true
dir_bare shape f s i reads dir none = let size = dir_size shape f s i reads dir in empty_if (names_in s i) (omega (arith, size, none))

pub dir_full : (shape : VolumeShape) (f : BlockWords) (s : State) (i : ℕ) → ReadsAs shape f s → (held_of shape f i).kind ≡ 1 → (held_of shape f i).size ≢ 0 → is_empty (names_in s i) ≡ false
dir_full shape f s i reads dir some = let size = dir_size shape f s i reads dir in full_if (names_in s i) (λ none. some (omega (arith, size, none)))

-- the size of an inode that was read
pub inode_size_held : (shape : VolumeShape) (f : BlockWords) (i : ℕ) (n : Inode) → 0 < (held_of shape f i).kind → IsInode f i n → n.size ≡ (held_of shape f i).size
inode_size_held shape f i n used is =
    let ino = used_ino shape f i used in
    let kind = kind_held shape f i ino in
    is.size ∙ sym (used_size shape f i ino (omega (arith, kind, used)))
