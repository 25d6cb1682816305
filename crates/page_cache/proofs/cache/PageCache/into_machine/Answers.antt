use Rattle.cached_pages.proofs.Starts.{tells_of}
use Rattle.page_cache.proofs.cache.PageCache.into_machine.Goals as goal

pub returns-clause-tells : goal.returns-clause-tells
returns-clause-tells g c = tells_of _ _ _ c.requires.sound
