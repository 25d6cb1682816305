-- A drill's plan is one that can be run.
use Rattle.std.proofs.Common.{◌≡◌, ◌*◌, ℕ, refl, sym, inl, arith, subst, All}
use Rattle.boots.specs.declared.plan.LivePlan.{LivePlan}
use Rattle.rio_base.specs.Image.{AreImageSizes, image_pages, registry_pages}
use Rattle.rio_base.specs.Shapes.{IsServed}
use Rattle.boots.specs.Plans.{last_boots, plan_of}
use Rattle.rio_server.proofs.Planned.{boots_are}
use Rattle.boots.specs.Legal.{IsBootPlan, plan_shape}

image_sizes : AreImageSizes 256 4
image_sizes = record { least_frames = omega arith; most_frames = omega arith; least_scratch = omega arith; most_scratch = omega arith }

drill_volume : IsServed (record { version = 1; blocks = 8192; inodes = 1024 })
drill_volume = record {
  version = refl;
  sizes = record {
    version = inl refl;
    inodes_from = omega arith;
    inodes_to = omega arith;
    inode_blocks = refl;
    blocks_from = omega arith;
    blocks_second = λ e. omega arith;
    blocks_to = omega arith;
  };
}

-- 280 pages of 512 words
drill_words : 512 * image_pages 256 4 ≡ 143360
unfolding registry_pages
drill_words = refl

pub sizes_of : (seed boots requests : ℕ) (p : LivePlan) → p ≡ plan_of seed boots requests → AreImageSizes p.frames p.scratch
sizes_of seed boots requests p is = subst (λ (q : LivePlan). AreImageSizes q.frames q.scratch) (sym is) image_sizes

pub volume_of : (seed boots requests : ℕ) (p : LivePlan) → p ≡ plan_of seed boots requests → IsServed (plan_shape p)
volume_of seed boots requests p is = subst (λ (q : LivePlan). IsServed (plan_shape q)) (sym is) drill_volume

pub boots_of : (seed boots requests : ℕ) (p : LivePlan) → p ≡ plan_of seed boots requests → All (IsBootPlan (512 * image_pages p.frames p.scratch)) p.boots
boots_of seed boots requests p is =
    let all : All (IsBootPlan (512 * image_pages 256 4)) (last_boots boots requests boots seed) =
    subst (λ (words : ℕ). All (IsBootPlan words) (last_boots boots requests boots seed)) (sym drill_words) (boots_are boots requests boots seed) in
    subst (λ (q : LivePlan). All (IsBootPlan (512 * image_pages q.frames q.scratch)) q.boots) (sym is) all
