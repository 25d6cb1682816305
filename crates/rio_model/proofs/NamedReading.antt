-- Reading a volume whose cached pages bear their names composes.
use Rattle.std.proofs.Common.{subst, sym}
use Rattle.rio_base.specs.declared.places.VolumeShape.{VolumeShape}
use Rattle.rio_base.specs.Blocks.{Seen}
use Rattle.rio_base.specs.Shapes.{HasShape}
use Rattle.rio_base.proofs.Rules.{looks_refl, looks_trans}
use Rattle.rio_model.specs.Placed.{volume_layout}
use Rattle.rio_model.specs.VolumeReady.{AllNamed, LooksNamed}

pub named_refl : (shape : VolumeShape) (x : Seen) → HasShape shape x → AllNamed (volume_layout shape x.words) x → LooksNamed shape x x
named_refl shape x has named = record { looks = looks_refl x; has_shape = has; named = named }

pub named_trans : (shape : VolumeShape) (x y z : Seen) → LooksNamed shape x y → LooksNamed shape y z → LooksNamed shape x z
named_trans shape x y z h k = record {
  looks = looks_trans x y z h.looks k.looks;
  has_shape = k.has_shape;
  named = subst (λ f. AllNamed (volume_layout shape f) z) h.looks.words k.named;
}

-- they bear the names that the words say now
pub named_now : (shape : VolumeShape) (x y : Seen) → LooksNamed shape x y → AllNamed (volume_layout shape y.words) y
named_now shape x y h = subst (λ f. AllNamed (volume_layout shape f) y) (sym h.looks.words) h.named
