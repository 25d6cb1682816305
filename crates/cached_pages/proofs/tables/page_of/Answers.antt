use Rattle.cached_pages.proofs.Frames.{page_is, page_within}
use Rattle.cached_pages.proofs.tables.page_of.Goals as goal

pub returns-clause-page : goal.returns-clause-page
returns-clause-page g c = page_is c.args.k _ _ _ c.requires.sound

pub returns-clause-within : goal.returns-clause-within
returns-clause-within g c = page_within c.args.k _ _ _ c.requires.sound c.requires.entry
