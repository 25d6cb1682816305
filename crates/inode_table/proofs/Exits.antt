-- What is so at the exits of calls that look at inodes, one after the other.
use Rattle.std.specs.Prelude.{◌≡◌, ℕ, ◌<◌, ◌≤◌, Option, None, Result, Ok, Err, IsErr, IfOk, refl}
use Rattle.std.proofs.Common.{◌∙◌, arith, ap, sym, subst}
use Rattle.std.proofs.lemmas.Result.{IfOk-from_err}
use Rattle.rio_base.specs.declared.places.VolumeShape.{VolumeShape}
use Rattle.rio_base.specs.declared.failures.VolFail.{VolFail}
use Rattle.rio_base.specs.declared.failures.VolFail.TheVariants.{Fault, Stopped}
use Rattle.rio_base.specs.Blocks.{BlockWords, Caches, CanName, Ends, Health, IsPlace, Seen}
use Rattle.rio_base.specs.BlockSets.{CachesBy}
use Rattle.rio_base.specs.Layout.{inode_block}
use Rattle.rio_base.specs.Shapes.{HasShape, IsShape, reserved}
use Rattle.rio_base.proofs.BlockRules.{metadata}
use Rattle.rio_base.proofs.BlockSets.{caches_by_one, caches_by_trans}
use Rattle.inode_table.specs.Inodes.{FindsBelow, IsMetadata}

-- ---- how calls end

err_as : {T U : Type 0} (s t : Health) (e : VolFail) → Ends {T = T} s t (Err e) → Ends {T = U} s t (Err e)
err_as s t Fault h = record { later = h.later; stays = h.stays; cause = h.cause }
err_as s t Stopped h = record { later = h.later; stays = h.stays; cause = h.cause }

-- a failure handed on
pub ends_err : {T U : Type 0} (s t : Health) (r : Result T VolFail) (q : Result U VolFail) (e d : VolFail) → r ≡ Err e → q ≡ Err d → d ≡ e → Ends s t r → Ends s t q
ends_err s t r q e d re qd de h = subst (λ x. Ends s t x) (sym (qd ∙ ap Err de)) (err_as s t e (subst (λ x. Ends s t x) re h))

-- a call that ended well
pub ends_ok : {T U : Type 0} (s t : Health) (r : Result T VolFail) (v : T) (u : U) → r ≡ Ok v → Ends s t r → Ends {T = U} s t (Ok u)
ends_ok {T = T} {U = U} s t r v u rv h = by (subst (λ x. Ends s t x) rv h)
  where
    by : Ends {T = T} s t (Ok v) → Ends {T = U} s t (Ok u)
    by g = record { later = g.later; stays = g.stays; cause = g.cause }

-- nothing was called after that
pub ends_none : {T : Type 0} (s t : Health) (v : T) → s.faults ≤ t.faults → t.stopped ≡ s.stopped → Ends s t (Ok v)
ends_none s t v later same = record { later = later; stays = λ stopped. same ∙ stopped; cause = same }

pub not_ok : {T E : Type 0} (P : T → Type 0) (r : Result T E) → IsErr r → IfOk r P
not_ok P r e = IfOk-from_err r P e

-- ---- the block of an inode

pub inode_low : (shape : VolumeShape) (i : ℕ) → IsShape shape → 1 ≤ i → i ≤ shape.inodes → inode_block i < reserved shape
inode_low shape i is from to = let whole = is.inode_blocks in omega (arith, from, to, whole)

pub inode_within : (shape : VolumeShape) (s : Seen) (b i w : ℕ) → HasShape shape s → 1 ≤ i → i ≤ shape.inodes → b ≡ inode_block i → w < 512 → IsPlace s b w
inode_within shape s b i w h from to at few = record {
  block = let whole = h.sizes.inode_blocks in let all = h.sizes.blocks_from in let count = h.count in omega (arith, from, to, whole, all, count, at);
  word = few;
}

-- also after a call
pub inode_there : (shape : VolumeShape) (s : Seen) (n b i : ℕ) → HasShape shape s → 1 ≤ i → i ≤ shape.inodes → b ≡ inode_block i → n ≡ s.count → b < n
inode_there shape s n b i h from to at same = let place = inode_within shape s b i 0 h from to at (omega arith) in subst (λ x. b < x) (sym same) place.block

pub inode_named : (shape : VolumeShape) (s : Seen) (b i : ℕ) → HasShape shape s → 1 ≤ i → i ≤ shape.inodes → b ≡ inode_block i → CanName s b None
inode_named shape s b i h from to at = metadata shape s b h (subst (λ x. x < reserved shape) (sym at) (inode_low shape i h.sizes from to))

pub caches_at : (s t : Seen) (b i : ℕ) → b ≡ inode_block i → Caches s t b None → Caches s t (inode_block i) None
caches_at s t b i at h = subst (λ x. Caches s t x None) at h

pub caches_more : (shape : VolumeShape) (s t u : Seen) (i : ℕ) → IsShape shape → 1 ≤ i → i ≤ shape.inodes → CachesBy (IsMetadata shape) s t → Caches t u (inode_block i) None → CachesBy (IsMetadata shape) s u
caches_more shape s t u i is from to h k = caches_by_trans (IsMetadata shape) s t u h (caches_by_one (IsMetadata shape) t u (inode_block i) None k (inode_low shape i is from to, refl))

-- ---- what is found in words that were only looked at

pub below_of : (f g : BlockWords) (first count : ℕ) (found : Option ℕ) → g ≡ f → FindsBelow g first count found → FindsBelow f first count found
below_of f g first count found same h = subst (λ (x : BlockWords). FindsBelow x first count found) same h

pub below_as : (f g : BlockWords) (first count : ℕ) (found other : Option ℕ) → g ≡ f → found ≡ other → FindsBelow g first count found → FindsBelow f first count other
below_as f g first count found other same is h = subst (λ (x : Option ℕ). FindsBelow f first count x) is (below_of f g first count found same h)
