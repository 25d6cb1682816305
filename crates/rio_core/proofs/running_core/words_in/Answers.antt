use Rattle.rio_core.proofs.Common.{arith, refl}
use Rattle.cached_pages.specs.Caches.{cache_below}
use Rattle.rio_core.proofs.WildStores.{memory_words}
use Rattle.rio_core.proofs.running_core.words_in.Goals as goal

pub returns-clause-words : goal.returns-clause-words
returns-clause-words g c =
    let m = c.machine.result.now in
    memory_words _ (cache_below (g.M.Machine.contents m) (g.M.Machine.run m)) _ _ c.pages.result c.machine.ensures.tells.below (g.met.M.Machine.protected_words m) refl c.pages.ensures

pub returns-clause-small : goal.returns-clause-small
returns-clause-small g c =
    let all = c.pages.ensures in
    let few = g.met.M.Machine.small c.machine.result.now in
    omega (arith, all, few)
