-- Regions whose undo records are put back: the state is held without a transaction.
use Rattle.rio_core.proofs.Common.{◌≡◌, ℕ, Some, None, List, [], sym, ap, subst, ◌∙◌, get, VolumeShape, BlockWords, Region, RegionNode, State, Txn, held_of, ReadsAs, region_in, reads_region, OneEach, crashed, txn_at, mark_of}
use Rattle.rio_model.specs.Undo.{undo_records}
use Rattle.rio_requests.specs.Crash.{undo_all}
use Rattle.rio_core.specs.CallEnds.{ReadsHeld, words_at}
use Rattle.rio_core.specs.Regions.{RegionHeld, marks_of}
use Rattle.rio_core.proofs.Lookups.{region_kind}
use Rattle.rio_core.proofs.RegionSteps.{same_region}

-- without transactions a stop leaves all as it is
idle_crashed : (s : State) → s.txns ≡ [] → crashed s ≡ s
idle_crashed s idle = ap (λ (ts : List Txn). record s { nodes = undo_all ts s.nodes; txns = [] }) idle ∙ (λ j. record s { txns = sym idle j })

-- where no region has an undo record, the state is held with no transaction open
pub recovered_held : (shape : VolumeShape) (f : BlockWords) (s : State) → ReadsAs shape f s → ((i : ℕ) → (held_of shape f i).kind ≡ 3 → undo_records (words_at shape f i) ≡ []) → ReadsHeld shape f [] s
recovered_held shape f s h quiet = record {
  reads = subst (ReadsAs shape f) (sym (idle_crashed s idle)) h;
  regions = record {
    marked = ap marks_of (sym idle);
    open_regions = record { once = subst OneEach (sym idle) tt; each = λ i t is. absurd (let none = closed i in cc (none, is)) };
    each = λ i r is. one i r is (region_kind shape f s i r h is);
  };
}
  where
    idle : s.txns ≡ []
    idle = h.reads.idle

    closed : (i : ℕ) → txn_at s.txns i ≡ None
    closed i = ap (λ (ts : List Txn). txn_at ts i) idle

    one : (i : ℕ) (r : RegionNode) → get s.nodes i ≡ Some (Region r) → (held_of shape f i).kind ≡ 3 → RegionHeld i (words_at shape f i) (mark_of [] i) r (txn_at s.txns i)
    one i r is three = (same_region r (region_in (words_at shape f i)) (get s.nodes i) is (h.reads.nodes i ∙ reads_region (held_of shape f i) three), closed i, quiet i three)
