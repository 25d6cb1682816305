-- What a call on the words of one region leaves of all that is no word of it.
use Rattle.std.specs.Prelude.{◌≡◌, ◌≢◌, ℕ, ◌<◌, refl}
use Rattle.std.proofs.Common.{◌∙◌}
use Rattle.rio_base.specs.declared.places.VolumeShape.{VolumeShape}
use Rattle.rio_base.specs.Blocks.{BlockWords}
use Rattle.rio_base.specs.Layout.{inode_word}
use Rattle.rio_model.specs.Held.{held_of}

-- every other node holds what it held, and node i has its kind, its size and all words of its inode
pub record RestHeld (shape : VolumeShape) (i : ℕ) (f g : BlockWords) : Type 0 where
  pub others : (j : ℕ) → j ≢ i → held_of shape g j ≡ held_of shape f j
  pub kind : (held_of shape g i).kind ≡ (held_of shape f i).kind
  pub size : (held_of shape g i).size ≡ (held_of shape f i).size
  pub inode : (w : ℕ) → w < 16 → inode_word g i w ≡ inode_word f i w

pub rest_refl : (shape : VolumeShape) (i : ℕ) (f : BlockWords) → RestHeld shape i f f
rest_refl shape i f = record { others = λ j away. refl; kind = refl; size = refl; inode = λ w few. refl }

pub rest_trans : (shape : VolumeShape) (i : ℕ) (f g h : BlockWords) → RestHeld shape i f g → RestHeld shape i g h → RestHeld shape i f h
rest_trans shape i f g h a b = record {
  others = λ j away. b.others j away ∙ a.others j away;
  kind = b.kind ∙ a.kind;
  size = b.size ∙ a.size;
  inode = λ w few. b.inode w few ∙ a.inode w few;
}
