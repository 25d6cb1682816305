use Rattle.cached_pages.proofs.Starts.{start_sound, started_of}
use Rattle.page_cache.proofs.cache.PageCache.start.Goals as goal

pub returns-clause-sound : goal.returns-clause-sound
returns-clause-sound g c = start_sound _ _ _ c.requires.coherent c.requires.closed c.requires.shut c.requires.empty c.requires.tables

pub returns-clause-started : goal.returns-clause-started
returns-clause-started g c = started_of _ _ c.requires.shut c.requires.empty c.requires.tables
