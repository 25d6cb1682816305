-- Room for a region and its row: blocks that are free, as the state counts them.
use Rattle.request_ends.proofs.Common.{◌≡◌, ℕ, ◌+◌, ◌*◌, ◌<◌, ◌≤◌, true, false, cond, List, refl, sym, ap, subst, ◌∙◌, arith, Result, Err, IsErrOf, Some, nat_lt, slice_index, nat_tests, VolumeShape, free_blocks, BlockWords, Seen, Kept, numbers, Region, State, with_new, Held, held_of, IsFree, placed_at, volume_layout, blocks_for, free_count, reads_agree, ReadsAs, LeavesInUse, Ready, free_by_state, wanted_blocks, ready_left, SizeFail, NoSpace, TooLarge, as_many, Answered, Number, answered, make_new, row_wanted, with_room, refused_by}
use Rattle.directories.specs.Plans.{PlansDir}
use Rattle.directories.specs.declared.changes.DirChange.{DirChange}
use Rattle.rio_requests.specs.Answers.{new_region}
use Rattle.directories.specs.RowChanges.{AddsRow}
use Rattle.rio_model.specs.Undo.{region_words}
use Rattle.rio_model.specs.Sizes.{data_pages}
use Rattle.std.proofs.Common.{length-take-le}
use Rattle.std.specs.Prelude.{length, replicate, take}
use Rattle.std.proofs.lemmas.List.{length-replicate}
use Rattle.node_pages.specs.Changes.{free_beside}
use Rattle.node_pages.specs.declared.failures.SizeFail.TheVariants.{Fault as SizeFault, Stopped as SizeStopped, Memory as SizeMemory}
use Rattle.node_pages.proofs.Skipped.{count_beside}
use Rattle.request_ends.specs.Failures.{fail_of_size}
use Rattle.node_making.specs.NewNodes.{FitRegion}
use Rattle.node_making.specs.declared.regions.RegionSizes.{RegionSizes}
use Rattle.request_ends.proofs.AnsweredAt.{FailsBy}
use Rattle.region_view.proofs.RegionHeader.{used_size}
use Rattle.node_making.proofs.RegionPlanned.{free_on}
use Rattle.node_updates.proofs.Requested.{dir_ino}
use Rattle.file_tree.proofs.RowRoom.{row_takes}

-- ---- what a region needs

new_pages : (undo pages : ℕ) → data_pages (new_region pages undo) ≡ pages
new_pages undo pages = let many : length {A = ℕ} (replicate (512 * pages) 0) ≡ 512 * pages = length-replicate (512 * pages) 0 in omega (arith, many)

-- its blocks, and those of its row
pub region_needs : (s : State) (d : ℕ) (name : List ℕ) (i : ℕ) (r : RegionSizes) → FitRegion r → make_new s d name (Region (new_region r.data_pages r.undo_pages)) (Some i) ≡ with_room s (blocks_for r.bytes + row_wanted s d) (answered (with_new s d name i (Region (new_region r.data_pages r.undo_pages))) (Number i))
region_needs s d name i r fit =
    ap (λ n. with_room s (blocks_for (8 * region_words r.undo_pages n) + row_wanted s d) (answered (with_new s d name i (Region (new_region r.data_pages r.undo_pages))) (Number i))) (new_pages r.undo_pages r.data_pages)
    ∙ ap (λ n. with_room s (blocks_for n + row_wanted s d) (answered (with_new s d name i (Region (new_region r.data_pages r.undo_pages))) (Number i))) (sym fit.bytes)

not_below : (a b : ℕ) → b ≤ a → nat_lt a b ≡ false
not_below a b more = grind (arith, nat_tests, more)

below : (a b : ℕ) → a < b → nat_lt a b ≡ true
below a b less = grind (arith, nat_tests, less)

room : (s : State) (wants : ℕ) (a : Answered) → wants ≤ free_count s → with_room s wants a ≡ a
room s wants a enough = ap (λ b. cond b (refused_by s 11) a) (not_below (free_count s) wants enough)

no_room : (s : State) (wants : ℕ) (a : Answered) → free_count s < wants → with_room s wants a ≡ refused_by s 11
no_room s wants a lacks = ap (λ b. cond b (refused_by s 11) a) (below (free_count s) wants lacks)

-- ---- the row that is prepared: it takes as many blocks as the state says, and all of them are free

row_size : (shape : VolumeShape) (f : BlockWords) (y : Seen) (j : Kept) (d : ℕ) (name : List ℕ) (i : ℕ) (c : DirChange) (p : PlansDir shape f y j d (AddsRow name i) c) → (held_of shape f d).kind ≡ 1 → p.node.size ≡ (placed_at f d).size + 64
row_size shape f y j d name i c p dir =
    let made = ap (λ (h : Held). h.size) (p.made y.words (λ s has w. refl)) in
    let now : cond (nat_lt 0 p.node.kind) p.node.size 0 ≡ p.node.size = ap (λ b. cond b p.node.size 0) (below 0 p.node.kind (let is = p.is_dir in omega (arith, is))) in
    let was = used_size shape f d (dir_ino shape f d dir) (let is = p.was_dir in omega (arith, is)) in
    sym now ∙ made ∙ p.does.sized ∙ ap (λ n. n + 64) was

pub row_taken : (shape : VolumeShape) (f : BlockWords) (y : Seen) (j : Kept) (d : ℕ) (name : List ℕ) (i : ℕ) (c : DirChange) (s : State) → ReadsAs shape f s → (held_of shape f d).kind ≡ 1 → PlansDir shape f y j d (AddsRow name i) c → wanted_blocks (held_of shape f d).size ((held_of shape f d).size + 64) ≤ length (free_blocks shape f) → length (numbers c.taken) ≡ row_wanted s d
row_taken shape f y j d name i c s reads dir p space =
    let was = used_size shape f d (dir_ino shape f d dir) (let is = p.was_dir in omega (arith, is)) in
    let wants : wanted_blocks (placed_at f d).size p.node.size ≡ wanted_blocks (held_of shape f d).size ((held_of shape f d).size + 64) = ap (wanted_blocks (placed_at f d).size) (row_size shape f y j d name i c p dir) ∙ ap (λ n. wanted_blocks n (n + 64)) (sym was) in
    ap length p.takes.lowest ∙ ap (λ n. length (take n (free_blocks shape f))) wants ∙ length-take-le _ (free_blocks shape f) space ∙ sym (row_takes shape f s d reads dir)

pub taken_free : (shape : VolumeShape) (x : Seen) (k : Kept) (m : Seen) (l : Kept) (d : ℕ) (name : List ℕ) (i : ℕ) (c : DirChange) → Ready shape x k → LeavesInUse (volume_layout shape x.words) x k m l → PlansDir shape x.words m l d (AddsRow name i) c → (t : ℕ) → t < length (numbers c.taken) → IsFree (volume_layout shape m.words) (slice_index (numbers c.taken) t)
taken_free shape x k m l d name i c ready leaves p t few = free_on shape x.words m.words _ ready.order.mapped leaves.words (p.takes.free t few)

pub blocks_free : (shape : VolumeShape) (x : Seen) (k : Kept) (m : Seen) (l : Kept) (d : ℕ) (name : List ℕ) (i : ℕ) (c : DirChange) → Ready shape x k → LeavesInUse (volume_layout shape x.words) x k m l → PlansDir shape x.words m l d (AddsRow name i) c → (t : ℕ) → t < length c.taken → IsFree (volume_layout shape m.words) (slice_index (numbers c.taken) t)
blocks_free shape x k m l d name i c ready leaves p t few = taken_free shape x k m l d name i c ready leaves p t (subst (λ n. t < n) (sym (as_many c.taken)) few)

-- what is free beside it, as the state counts
left_counted : (shape : VolumeShape) (x : Seen) (k : Kept) (m : Seen) (l : Kept) (d : ℕ) (name : List ℕ) (i : ℕ) (c : DirChange) (s : State) → Ready shape x k → LeavesInUse (volume_layout shape x.words) x k m l → ReadsAs shape x.words s → (held_of shape x.words d).kind ≡ 1 → PlansDir shape x.words m l d (AddsRow name i) c → wanted_blocks (held_of shape x.words d).size ((held_of shape x.words d).size + 64) ≤ length (free_blocks shape x.words) → length (free_beside shape m.words (numbers c.taken)) + row_wanted s d ≡ free_count s
left_counted shape x k m l d name i c s ready leaves reads dir p space =
    ap (λ n. length (free_beside shape m.words (numbers c.taken)) + n) (sym (row_taken shape x.words m l d name i c s reads dir p space))
    ∙ count_beside shape m.words (numbers c.taken) (ready_left shape x k m l ready leaves).order.mapped p.takes.once (taken_free shape x k m l d name i c ready leaves p)
    ∙ free_by_state shape m.words s (reads_agree shape x.words m.words s reads leaves.words)

-- ---- answers

pub region_room : (shape : VolumeShape) (x : Seen) (k : Kept) (m : Seen) (l : Kept) (d : ℕ) (name : List ℕ) (i : ℕ) (r : RegionSizes) (c : DirChange) (s : State) → FitRegion r → Ready shape x k → LeavesInUse (volume_layout shape x.words) x k m l → ReadsAs shape x.words s → (held_of shape x.words d).kind ≡ 1 → PlansDir shape x.words m l d (AddsRow name i) c → wanted_blocks (held_of shape x.words d).size ((held_of shape x.words d).size + 64) ≤ length (free_blocks shape x.words) → blocks_for r.bytes ≤ length (free_beside shape m.words (numbers c.taken)) → make_new s d name (Region (new_region r.data_pages r.undo_pages)) (Some i) ≡ answered (with_new s d name i (Region (new_region r.data_pages r.undo_pages))) (Number i)
region_room shape x k m l d name i r c s fit ready leaves reads dir p space enough =
    let all = left_counted shape x k m l d name i c s ready leaves reads dir p space in
    region_needs s d name i r fit ∙ room s (blocks_for r.bytes + row_wanted s d) _ (omega (arith, all, enough))

-- the row could not be planned
pub fails_row : {T : Type 0} (shape : VolumeShape) (f : BlockWords) (s : State) (d : ℕ) (name : List ℕ) (i : ℕ) (r : RegionSizes) (q : Result T SizeFail) (e : SizeFail) → FitRegion r → q ≡ Err e → ReadsAs shape f s → (held_of shape f d).kind ≡ 1 → (IsErrOf q NoSpace → length (free_blocks shape f) < wanted_blocks (held_of shape f d).size ((held_of shape f d).size + 64)) → (IsErrOf q TooLarge → ⊥) → FailsBy s (make_new s d name (Region (new_region r.data_pages r.undo_pages)) (Some i)) (fail_of_size e)
fails_row {T = T} shape f s d name i r q e fit qe reads dir few large = by e qe
  where
    by : (v : SizeFail) → q ≡ Err v → FailsBy s (make_new s d name (Region (new_region r.data_pages r.undo_pages)) (Some i)) (fail_of_size v)
    by NoSpace is =
        let short = few is in
        let free = free_by_state shape f s reads in
        let wants = row_takes shape f s d reads dir in
        region_needs s d name i r fit ∙ no_room s (blocks_for r.bytes + row_wanted s d) _ (omega (arith, short, free, wants))
    by TooLarge is = absurd (large is)
    by SizeFault is = refl
    by SizeStopped is = tt
    by SizeMemory is = tt

-- nor the region beside it
pub fails_region : {T : Type 0} (shape : VolumeShape) (x : Seen) (k : Kept) (m : Seen) (l : Kept) (d : ℕ) (name : List ℕ) (i : ℕ) (r : RegionSizes) (c : DirChange) (s : State) (q : Result T SizeFail) (e : SizeFail) → FitRegion r → q ≡ Err e → Ready shape x k → LeavesInUse (volume_layout shape x.words) x k m l → ReadsAs shape x.words s → (held_of shape x.words d).kind ≡ 1 → PlansDir shape x.words m l d (AddsRow name i) c → wanted_blocks (held_of shape x.words d).size ((held_of shape x.words d).size + 64) ≤ length (free_blocks shape x.words) → (IsErrOf q NoSpace → length (free_beside shape m.words (numbers c.taken)) < blocks_for r.bytes) → (IsErrOf q TooLarge → ⊥) → FailsBy s (make_new s d name (Region (new_region r.data_pages r.undo_pages)) (Some i)) (fail_of_size e)
fails_region {T = T} shape x k m l d name i r c s q e fit qe ready leaves reads dir p space few large = by e qe
  where
    by : (v : SizeFail) → q ≡ Err v → FailsBy s (make_new s d name (Region (new_region r.data_pages r.undo_pages)) (Some i)) (fail_of_size v)
    by NoSpace is =
        let short = few is in
        let all = left_counted shape x k m l d name i c s ready leaves reads dir p space in
        region_needs s d name i r fit ∙ no_room s (blocks_for r.bytes + row_wanted s d) _ (omega (arith, short, all))
    by TooLarge is = absurd (large is)
    by SizeFault is = refl
    by SizeStopped is = tt
    by SizeMemory is = tt
