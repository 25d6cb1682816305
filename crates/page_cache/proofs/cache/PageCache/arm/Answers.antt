use Rattle.page_cache.proofs.Wilds.{arm_sound, arms_of, kept_on, place_of}
use Rattle.page_cache.proofs.cache.PageCache.arm.Goals as goal
use Rattle.cached_pages.proofs.Common.{ap}
use Rattle.std.proofs.Common.{refl}
use Rattle.cached_pages.specs.Caches.{cache_seen}

pub arm-requires : goal.arm-requires
arm-requires g c = place_of c.args.at.0 (g.M.Machine.contents c.args.self.now.machine) (g.M.Machine.run c.args.self.now.machine) (g.met.M.Machine.protected_words c.args.self.now.machine) c.requires.place

pub returns-clause-arms : goal.returns-clause-arms
returns-clause-arms g c = arms_of c.args.at.0 _ _ (g.M.Machine.contents c.args.self.now.machine) _ (g.M.Machine.run c.args.self.now.machine) _ c.arm.ensures.contents c.arm.ensures.run

pub returns-clause-seen : goal.returns-clause-seen
returns-clause-seen g c = ap cache_seen c.arm.ensures.contents

pub returns-clause-kept : goal.returns-clause-kept
returns-clause-kept g c = kept_on _ _ c.args.self.now.tables _ c.arm.ensures.contents refl

pub returns-clause-sound : goal.returns-clause-sound
returns-clause-sound g c = arm_sound c.args.at.0 _ _ _ _ (g.M.Machine.run c.args.self.now.machine) _ _ c.requires.sound c.arm.ensures.contents c.arm.ensures.run
