-- What blocks read as depends on the blocks in use alone, and is one state.
use Rattle.rio_model.proofs.Common.{◌≡◌, ℕ, ◌==◌, false, Option, sym, ap, subst, ◌∙◌, if◌then◌else◌, VolumeShape, BlockWords}
use Rattle.std.proofs.Common.{Some, None}
use Rattle.rio_base.specs.Blocks.{Seen}
use Rattle.rio_base.specs.Volume.{Kept, Settled}
use Rattle.rio_model.specs.declared.node.Node.{Node}
use Rattle.rio_model.specs.declared.node.Node.TheVariants.{Dir, File, Region}
use Rattle.rio_model.specs.declared.state.State.{State}
use Rattle.rio_model.specs.Held.{Held, held_of, held_bytes}
use Rattle.rio_model.proofs.HeldRules.{same_all, held_by, held_in_agree}
use Rattle.rio_model.specs.Placed.{Layout, volume_layout, Agrees}
use Rattle.rio_model.proofs.PlacedRules.{lays_self, lays_agree, mapped_agree}
use Rattle.rio_model.specs.VolumeReads.{node_in, region_in, Reads, ReadsAs}
use Rattle.rio_model.specs.VolumeReady.{Firmly}
use Rattle.rio_model.specs.VolumeRules.{EntryRule, IsMapped, NamesApartRule, RegionRule}

-- ---- a held node, by its kind

abbrev by_kind : Held → ℕ → Option Node
by_kind h k = if k == 0 then None else if k == 1 then Some Dir else if k == 2 then Some (File (held_bytes h)) else Some (Region (region_in h.word))

pub reads_none : (h : Held) → h.kind ≡ 0 → node_in h ≡ None
reads_none h e = ap (by_kind h) e

pub reads_dir : (h : Held) → h.kind ≡ 1 → node_in h ≡ Some Dir
reads_dir h e = ap (by_kind h) e

pub reads_file : (h : Held) → h.kind ≡ 2 → node_in h ≡ Some (File (held_bytes h))
reads_file h e = ap (by_kind h) e

pub reads_region : (h : Held) → h.kind ≡ 3 → node_in h ≡ Some (Region (region_in h.word))
reads_region h e = ap (by_kind h) e

-- ---- the blocks in use alone

-- blocks that agree on all that is in use hold the same
pub held_of_agree : (shape : VolumeShape) (f g : BlockWords) → IsMapped shape f → Agrees (volume_layout shape f) f g → held_of shape g ≡ held_of shape f
held_of_agree shape f g h a =
    let l = volume_layout shape f in
    same_all _ _ (λ i. held_by l g (lays_agree l f g h.superblock.sizes (lays_self shape f) a) i ∙ held_in_agree l f g a i)

-- and read as the same state
pub reads_agree : (shape : VolumeShape) (f g : BlockWords) (s : State) → ReadsAs shape f s → Agrees (volume_layout shape f) f g → ReadsAs shape g s
reads_agree shape f g s h a =
    let same = held_of_agree shape f g h.mapped a in
    record {
      sizes = h.sizes;
      mapped = mapped_agree shape f g h.mapped a;
      entries = subst EntryRule (sym same) h.entries;
      apart = subst NamesApartRule (sym same) h.apart;
      tree = h.tree;
      regions = subst RegionRule (sym same) h.regions;
      reads = subst (λ k. Reads k s) (sym same) h.reads;
    }

-- ---- what stands, where no block in use is loose and no update is open

pub stands_agree : (l : Layout) (x : Seen) (k : Kept) → Settled x k → k.updating ≡ false → Firmly l k → Agrees l x.words k.standing
stands_agree l x k settled idle firm = record {
  low = λ b w low. (settled.idle idle).stands b (firm.low b low) w;
  owned = λ i s own w. (settled.idle idle).stands _ (firm.owned i s own) w;
}

pub stands_as : (shape : VolumeShape) (x : Seen) (k : Kept) (s : State) → ReadsAs shape x.words s → Settled x k → k.updating ≡ false → Firmly (volume_layout shape x.words) k → ReadsAs shape k.standing s
stands_as shape x k s h settled idle firm = reads_agree shape x.words k.standing s h (stands_agree _ x k settled idle firm)
