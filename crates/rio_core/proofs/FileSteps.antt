-- A request on files leaves the regions and their transactions as they are held.
use Rattle.rio_core.proofs.Common.{◌≡◌, ℕ, ◌/◌, ◌⊎◌, inl, inr, Option, Some, None, List, refl, sym, ap, subst, ◌∙◌, get, VolumeShape, BlockWords, Region, RegionNode, State, Txn, Held, held_of, ReadsAs, region_in, reads_region, OneEach, crashed, get_undone, undone_node, txn_at, Marks, mark_of}
use Rattle.rio_model.proofs.UndoRules.{no_records}
use Rattle.rio_model.specs.VolumeReads.{node_in}
use Rattle.rio_model.proofs.VolumeReadRules.{reads_none}
use Rattle.rio_requests.specs.Crash.{OpenRegions}
use Rattle.rio_requests.proofs.CrashRules.{LeavesOpen, still_regions}
use Rattle.rio_core.specs.CallEnds.{ReadsHeld}
use Rattle.rio_core.specs.Regions.{RegionHeld, marks_of}
use Rattle.rio_core.proofs.RegionsLaws.{mark_in}
use Rattle.request_ends.specs.Ends.{Spares}
use Rattle.rio_core.proofs.Lookups.{region_kind, region_on}
use Rattle.rio_core.proofs.RegionSteps.{held_as, same_region}
use Rattle.rio_core.proofs.RowRules.{mark_at}

-- the node of a region that has no transaction is what its words say
closed_node : (s : State) (i : ℕ) → OneEach s.txns → txn_at s.txns i ≡ None → get (crashed s).nodes i ≡ get s.nodes i
closed_node s i once none = get_undone s.txns s.nodes i once ∙ ap (λ (o : Option Txn). undone_node o (get s.nodes i)) none

-- the regions are held where a request on files leaves their transactions open
pub files_held : (shape : VolumeShape) (f g : BlockWords) (marks : Marks) (s t : State) → ReadsHeld shape f marks s → ReadsAs shape g (crashed t) → Spares (held_of shape f) (held_of shape g) → LeavesOpen s t → ReadsHeld shape g marks t
files_held shape f g marks s t held reads spares leaves = record {
  reads = reads;
  regions = record { marked = held.regions.marked ∙ ap marks_of (sym leaves.txns); open_regions = still; each = λ j r is. each_one j r is (kind j r is) (spares.each j (kind j r is)) };
}
  where
    once : OneEach s.txns
    once = held.regions.open_regions.once

    still : OpenRegions t
    still = still_regions s t held.regions.open_regions leaves

    same_txn : (j : ℕ) → txn_at t.txns j ≡ txn_at s.txns j
    same_txn j = ap (λ (ts : List Txn). txn_at ts j) leaves.txns

    kind : (j : ℕ) (r : RegionNode) → get t.nodes j ≡ Some (Region r) → (held_of shape g j).kind ≡ 3
    kind j r is = let on = region_on (txn_at t.txns j) (get t.nodes j) r is in region_kind shape g (crashed t) j on.0 reads (get_undone t.txns t.nodes j still.once ∙ on.1)

    -- a node that holds the same words was the same
    was : (j : ℕ) (r : RegionNode) (o : Option Txn) → txn_at s.txns j ≡ o → held_of shape g j ≡ held_of shape f j → get t.nodes j ≡ Some (Region r) → get s.nodes j ≡ Some (Region r)
    was j r (Some u) is_open same is = sym (leaves.nodes j u is_open) ∙ is
    was j r None none same is = sym (closed_node s j once none) ∙ held.reads.reads.nodes j ∙ ap node_in (sym same) ∙ sym (reads.reads.nodes j) ∙ closed_node t j still.once (same_txn j ∙ none) ∙ is

    -- no transaction is open where no node was
    unopened : (j : ℕ) (o : Option Txn) → txn_at s.txns j ≡ o → (held_of shape f j).kind ≡ 0 → o ≡ None
    unopened j None is free = refl
    unopened j (Some u) is free =
        let at = held.regions.open_regions.each j u is in
        let on = region_on (txn_at s.txns j) (get s.nodes j) at.0 at.1 in
        let gone = get_undone s.txns s.nodes j once in
        let node = held.reads.reads.nodes j in
        let none = reads_none (held_of shape f j) free in
        absurd (let now = on.1 in cc (now, gone, node, none))

    fresh : (j : ℕ) (r : RegionNode) → (held_of shape g j).kind ≡ 3 → get t.nodes j ≡ Some (Region r) → txn_at s.txns j ≡ None → (held_of shape g j).word 3 ≡ 0 → RegionHeld j (held_of shape g j).word (mark_of marks j) r (txn_at t.txns j)
    fresh j r three is none head =
        let mark : mark_of marks j ≡ None = ap (λ (ms : Marks). mark_of ms j) held.regions.marked ∙ mark_at s.txns j ∙ ap mark_in none in
        let node : get t.nodes j ≡ Some (Region (region_in (held_of shape g j).word)) = sym (closed_node t j still.once (same_txn j ∙ none)) ∙ reads.reads.nodes j ∙ reads_region (held_of shape g j) three in
        held_as j (held_of shape g j).word None (mark_of marks j) (region_in (held_of shape g j).word) r None (txn_at t.txns j) (sym mark) (same_region _ r (get t.nodes j) node is) (sym (same_txn j ∙ none))
        (refl, refl, no_records ((held_of shape g j).size / 8) (held_of shape g j).word (reads.regions.each j three).region head)

    each_one : (j : ℕ) (r : RegionNode) → get t.nodes j ≡ Some (Region r) → (held_of shape g j).kind ≡ 3 → (held_of shape g j ≡ held_of shape f j) ⊎ (((held_of shape f j).kind ≡ 0) × ((held_of shape g j).word 3 ≡ 0)) → RegionHeld j (held_of shape g j).word (mark_of marks j) r (txn_at t.txns j)
    each_one j r is three (inl same) =
        let before = held.regions.each j r (was j r (txn_at s.txns j) refl same is) in
        held_as j (held_of shape g j).word (mark_of marks j) (mark_of marks j) r r (txn_at s.txns j) (txn_at t.txns j) refl refl (sym (same_txn j)) (subst (λ (x : Held). RegionHeld j x.word (mark_of marks j) r (txn_at s.txns j)) (sym same) before)
    each_one j r is three (inr new) = fresh j r three is (unopened j (txn_at s.txns j) refl new.0) new.1
