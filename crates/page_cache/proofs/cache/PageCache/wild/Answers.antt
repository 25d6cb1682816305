use Rattle.page_cache.proofs.Wilds.{kept_on, place_of, strikes_of, wild_sound}
use Rattle.page_cache.proofs.cache.PageCache.wild.Goals as goal
use Rattle.cached_pages.proofs.Common.{ap}
use Rattle.std.proofs.Common.{refl}
use Rattle.cached_pages.specs.Caches.{cache_seen}

pub wild-requires-clause-place : goal.wild-requires-clause-place
wild-requires-clause-place g c = place_of c.args.at.0 (g.M.Machine.contents c.args.self.now.machine) (g.M.Machine.run c.args.self.now.machine) (g.met.M.Machine.protected_words c.args.self.now.machine) c.requires.place

pub returns-clause-strikes : goal.returns-clause-strikes
returns-clause-strikes g c = strikes_of c.wild.result c.args.at.0 c.args.v (g.M.Machine.contents c.args.self.now.machine) _ (g.M.Machine.run c.args.self.now.machine) _ c.requires.sound.closed (g.met.M.Machine.protected_words c.args.self.now.machine) c.wild.ensures.contents c.wild.ensures.run c.wild.ensures.answer

pub returns-clause-seen : goal.returns-clause-seen
returns-clause-seen g c = ap cache_seen c.wild.ensures.contents

pub returns-clause-kept : goal.returns-clause-kept
returns-clause-kept g c = kept_on _ _ c.args.self.now.tables _ c.wild.ensures.contents refl

pub returns-clause-sound : goal.returns-clause-sound
returns-clause-sound g c = wild_sound c.wild.result c.args.at.0 c.args.v _ _ _ _ _ c.requires.sound c.wild.ensures.contents c.wild.ensures.run
