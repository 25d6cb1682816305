-- Room for a row: blocks that are free, as the state counts them, and what a request answers that finds too few.
use Rattle.request_ends.proofs.Common.{◌≡◌, ℕ, ◌+◌, ◌-◌, ◌*◌, ◌%◌, ◌<◌, ◌≤◌, true, false, cond, sym, ap, subst, ◌∙◌, arith, nat_lt, nat_tests, VolumeShape, free_blocks, BlockWords, IsIno, true_false, Answered, State, names_in, Held, held_of, held_ino, is_dir, placed_at, volume_layout, blocks_for, free_count, largest_size, reads_dir, ReadsAs, IsMapped, free_by_state, wanted_blocks, row_wanted, with_room, Result, Err, IsErrOf, SizeFail, NoSpace, TooLarge, refl, refused_by}
use Rattle.std.specs.Prelude.{length}
use Rattle.rio_model.proofs.FreeByState.{names_counted}
use Rattle.file_tree.proofs.ReadTrees.{ino_of, names_few}
use Rattle.region_view.proofs.UsedInodes.{kind_held}
use Rattle.node_pages.specs.declared.failures.SizeFail.TheVariants.{Fault as SizeFault, Stopped as SizeStopped, Memory as SizeMemory}
use Rattle.request_ends.specs.Failures.{fail_of_size}
use Rattle.request_ends.proofs.AnsweredAt.{FailsBy}

-- an inode that a kind is held of
pub used_ino : (shape : VolumeShape) (f : BlockWords) (s : State) (d : ℕ) → ReadsAs shape f s → (held_of shape f d).kind ≡ 1 → IsIno shape d
used_ino shape f s d reads dir = ino_of shape f s d reads (λ none. true_false (sym (ap is_dir (sym none ∙ reads.reads.nodes d ∙ reads_dir (held_of shape f d) dir))))

-- a directory's bytes are whole entries
pub whole_size : (shape : VolumeShape) (f : BlockWords) (d : ℕ) → IsMapped shape f → IsIno shape d → (held_of shape f d).kind ≡ 1 → (held_of shape f d).size % 64 ≡ 0
whole_size shape f d mapped ino dir =
    let kind : (placed_at f d).kind ≡ 1 = sym (kind_held shape f d ino) ∙ dir in
    let used : 0 < (placed_at f d).kind = omega (arith, kind) in
    let size : (held_of shape f d).size ≡ (placed_at f d).size = ap (λ (h : Held). h.size) (held_ino (volume_layout shape f) f d ino) ∙ ap (λ b. cond b (placed_at f d).size 0) (let test : nat_lt 0 (placed_at f d).kind ≡ true = grind (arith, nat_tests, used) in test) in
    let whole = (mapped.laid.sizes.each d ino used).directory kind in
    omega (arith, size, whole)

pub dir_size : (shape : VolumeShape) (f : BlockWords) (s : State) (d : ℕ) → ReadsAs shape f s → (held_of shape f d).kind ≡ 1 → 64 * length (names_in s d) ≡ (held_of shape f d).size
dir_size shape f s d reads dir = names_counted (held_of shape f) s d reads.reads reads.apart dir (whole_size shape f d reads.mapped (used_ino shape f s d reads dir) dir)

-- a directory has room for one row more
pub row_fits : (shape : VolumeShape) (f : BlockWords) (s : State) (d : ℕ) → ReadsAs shape f s → (held_of shape f d).kind ≡ 1 → (held_of shape f d).size + 64 ≤ largest_size
row_fits shape f s d reads dir =
    let size = dir_size shape f s d reads dir in
    let few = names_few shape f s d reads (ap is_dir (reads.reads.nodes d ∙ reads_dir (held_of shape f d) dir)) in
    let same = ap (λ (sh : VolumeShape). sh.inodes) reads.sizes in
    let most = reads.mapped.laid.shape_fits.inodes_to in
    omega (arith, size, few, same, most)

-- the blocks that it takes, by its size
pub row_takes : (shape : VolumeShape) (f : BlockWords) (s : State) (d : ℕ) → ReadsAs shape f s → (held_of shape f d).kind ≡ 1 → row_wanted s d ≡ wanted_blocks (held_of shape f d).size ((held_of shape f d).size + 64)
row_takes shape f s d reads dir =
    let size = dir_size shape f s d reads dir in
    let more : 64 * (length (names_in s d) + 1) ≡ (held_of shape f d).size + 64 = omega (arith, size) in
    ap (λ n. blocks_for n - blocks_for (64 * length (names_in s d))) more ∙ ap (λ n. blocks_for ((held_of shape f d).size + 64) - blocks_for n) size

not_below : (a b : ℕ) → b ≤ a → nat_lt a b ≡ false
not_below a b more = grind (arith, nat_tests, more)

below : (a b : ℕ) → a < b → nat_lt a b ≡ true
below a b less = grind (arith, nat_tests, less)

pub row_room : (shape : VolumeShape) (f : BlockWords) (s : State) (d : ℕ) (a : Answered) → ReadsAs shape f s → (held_of shape f d).kind ≡ 1 → wanted_blocks (held_of shape f d).size ((held_of shape f d).size + 64) ≤ length (free_blocks shape f) → with_room s (row_wanted s d) a ≡ a
row_room shape f s d a reads dir enough = ap (λ b. cond b (refused_by s 11) a) (not_below (free_count s) (row_wanted s d) (subst (λ n. n ≤ free_count s) (sym (row_takes shape f s d reads dir)) (subst (λ n. wanted_blocks (held_of shape f d).size ((held_of shape f d).size + 64) ≤ n) (free_by_state shape f s reads) enough)))

row_full : (shape : VolumeShape) (f : BlockWords) (s : State) (d : ℕ) (a : Answered) → ReadsAs shape f s → (held_of shape f d).kind ≡ 1 → length (free_blocks shape f) < wanted_blocks (held_of shape f d).size ((held_of shape f d).size + 64) → with_room s (row_wanted s d) a ≡ refused_by s 11
row_full shape f s d a reads dir lacks = ap (λ b. cond b (refused_by s 11) a) (below (free_count s) (row_wanted s d) (subst (λ n. free_count s < n) (sym (row_takes shape f s d reads dir)) (subst (λ n. n < wanted_blocks (held_of shape f d).size ((held_of shape f d).size + 64)) (free_by_state shape f s reads) lacks)))

-- no row more could be planned: 11 where fewer blocks are free than it takes
pub fails_add : {T : Type 0} (shape : VolumeShape) (f : BlockWords) (s : State) (d : ℕ) (b : Answered) (r : Result T SizeFail) (e : SizeFail) → r ≡ Err e → ReadsAs shape f s → (held_of shape f d).kind ≡ 1 → (IsErrOf r NoSpace → length (free_blocks shape f) < wanted_blocks (held_of shape f d).size ((held_of shape f d).size + 64)) → (IsErrOf r TooLarge → ⊥) → FailsBy s (with_room s (row_wanted s d) b) (fail_of_size e)
fails_add {T = T} shape f s d b r e re reads dir few large = by e re
  where
    by : (v : SizeFail) → r ≡ Err v → FailsBy s (with_room s (row_wanted s d) b) (fail_of_size v)
    by NoSpace is = row_full shape f s d b reads dir (few is)
    by TooLarge is = absurd (large is)
    by SizeFault is = refl
    by SizeStopped is = tt
    by SizeMemory is = tt
