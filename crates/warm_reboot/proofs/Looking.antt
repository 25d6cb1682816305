-- What each part of a look at entries leaves, and how it ends.
use Rattle.std.proofs.Common.{◌≡◌, ◌∙◌, List, length, ap, le_refl, refl, subst, sym}
use Rattle.std.specs.Prelude.{Result, Ok, Err}
use Rattle.rio_base.specs.Blocks.{Ends, Health}
use Rattle.rio_base.specs.Machine.{Contents, Running}
use Rattle.rio_base.specs.Rules.{true_false}
use Rattle.rio_base.specs.Shapes.{HasShape}
use Rattle.rio_base.specs.declared.failures.VolFail.{VolFail}
use Rattle.rio_base.specs.declared.failures.VolFail.TheVariants.{Fault, Stopped}
use Rattle.rio_base.specs.declared.places.VolumeShape.{VolumeShape}
use Rattle.rio_model.specs.declared.census.Owner.{Owner}
use Rattle.rio_model.specs.Censuses.{HasOwners}
use Rattle.rio_model.specs.Cover.{stands}
use Rattle.rio_model.specs.Placed.{volume_layout}
use Rattle.rio_model.specs.VolumeRules.{IsLaid}
use Rattle.registry.specs.Views.{Viewed, view_health, view_seen}
use Rattle.warm_reboot.specs.Examining.{KnowsOwners}

-- ---- what is known of the volume

pub shape_known : (c : Contents) (r : Running) (shape : VolumeShape) (owners : List Owner) → KnowsOwners c shape owners → HasShape shape (view_seen c r)
shape_known c r shape owners h = record { sizes = h.served.sizes; count = h.count; unnamed = λ b low cached. absurd (true_false (sym cached)) }

pub owned_kept : (old mid : Contents) (shape : VolumeShape) (owners : List Owner) → mid ≡ record old { faults = mid.faults } → KnowsOwners old shape owners → KnowsOwners mid shape owners
owned_kept old mid shape owners rest h = record {
  served = h.served;
  count = ap (λ (c : Contents). length c.disk) rest ∙ h.count;
  laid = subst (λ (c : Contents). IsLaid (volume_layout shape (stands c))) (sym rest) h.laid;
  has = subst (λ (c : Contents). HasOwners (volume_layout shape (stands c)) owners) (sym rest) h.has;
}

-- ---- how it ends

-- nothing was asked
pub ends_still : {T : Type 0} (s : Health) (x : T) → Ends {T = T} s s (Ok x)
ends_still s x = record { later = le_refl s.faults; stays = λ e. e; cause = refl }

-- another answer than that of the last call
pub ends_other : {T U : Type 0} (s t : Health) (x : T) (y : U) → Ends {T = T} s t (Ok x) → Ends {T = U} s t (Ok y)
ends_other s t x y h = record { later = h.later; stays = h.stays; cause = h.cause }

failed_other : {T U : Type 0} (s t : Health) (e : VolFail) → Ends {T = T} s t (Err e) → Ends {T = U} s t (Err e)
failed_other s t Fault h = record { later = h.later; stays = h.stays; cause = h.cause }
failed_other s t Stopped h = record { later = h.later; stays = h.stays; cause = h.cause }

-- the failure of the last call
pub ends_failed : {T U : Type 0} (s t : Health) (r : Result U VolFail) (e d : VolFail) → r ≡ Err e → e ≡ d → Ends {T = T} s t (Err d) → Ends {T = U} s t r
ends_failed {T} {U} s t r e d is same h = subst (λ (z : Result U VolFail). Ends s t z) (sym is) (subst (λ (f : VolFail). Ends {T = U} s t (Err f)) (sym same) (failed_other {T = T} {U = U} s t d h))

-- after what was only read
pub ends_viewed : {T : Type 0} (old new : Contents) (r s : Running) (x : T) → Viewed old new r s → Ends {T = T} (view_health old r) (view_health new s) (Ok x)
ends_viewed old new r s x v = record { later = v.faults.later; stays = λ e. ap (λ (m : Running). m.stopped) v.run ∙ e; cause = ap (λ (m : Running). m.stopped) v.run }
