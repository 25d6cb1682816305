-- What blocks read as, where the words of one region alone differ and the state moves as they do.
use Rattle.rio_core.proofs.Common.{◌≡◌, ℕ, ◌/◌, Some, sym, ap, subst, ◌∙◌, get, VolumeShape, BlockWords, Region, State, IsSoundRegion, held_of, Undoes, ReadsAs, region_in, reads_region, IsMapped, crashed, RestHeld}
use Rattle.rio_core.proofs.RegionsLaws.{RegionMoves}
use Rattle.rio_model.proofs.RegionMoves.{in_same, region_set, sound_after}
use Rattle.rio_core.proofs.RegionSteps.{region_rests}

-- a state that moves as the words do is read after them
pub reads_move : (shape : VolumeShape) (f g : BlockWords) (s t : State) (i : ℕ) → ReadsAs shape f (crashed s) → IsMapped shape g → RestHeld shape i f g → (held_of shape f i).kind ≡ 3 → IsSoundRegion ((held_of shape g i).size / 8) (held_of shape g i).word → RegionMoves i (held_of shape g i).word s t → ReadsAs shape g (crashed t)
reads_move shape f g s t i h mapped rest kind sound moves = subst (ReadsAs shape g) (sym moves) (region_set shape f g (crashed s) i h mapped rest kind sound)

-- ---- a region's words undo to what they undid to

region_of : (shape : VolumeShape) (f : BlockWords) (s : State) (i : ℕ) → ReadsAs shape f s → (held_of shape f i).kind ≡ 3 → get s.nodes i ≡ Some (Region (region_in (held_of shape f i).word))
region_of shape f s i h kind = h.reads.nodes i ∙ reads_region (held_of shape f i) kind

-- and the blocks read as the same state
pub reads_undone : (shape : VolumeShape) (f g : BlockWords) (s : State) (i : ℕ) → ReadsAs shape f (crashed s) → IsMapped shape g → RestHeld shape i f g → (held_of shape f i).kind ≡ 3 → Undoes ((held_of shape f i).size / 8) (held_of shape f i).word (held_of shape g i).word → ReadsAs shape g (crashed s)
reads_undone shape f g s i h mapped rest kind undoes =
    let same = in_same ((held_of shape f i).size / 8) (held_of shape f i).word (held_of shape g i).word undoes in
    reads_move shape f g s s i h mapped rest kind (sound_after shape f g (crashed s) i h rest kind undoes) (region_rests s i (held_of shape g i).word (region_of shape f (crashed s) i h kind ∙ ap (λ q. Some (Region q)) (sym same)))
