use Rattle.cached_pages.proofs.EarlyStates.{all_free}
use Rattle.cached_pages.proofs.early.no_blocks.Goals as goal

pub returns : goal.returns
returns c = λ s. all_free 64 s
