use Rattle.std.proofs.Common.{◌∙◌, arith, drop, rules, sym, take, ap}
use Rattle.held_memory.proofs.RunFronts.{copy_long, copy_put, in_order, still_held, still_misfits}
use Rattle.held_memory.proofs.held_words.HeldWordsMemWords.copy_words.Goals as goal

pub returns-clause-moments : goal.returns-clause-moments
returns-clause-moments g c =
    let words = g.F.MemWords.words c.args.self.now.mem in
    let put = copy_put c.args.from.0 c.args.to.0 c.args.n words _ c.requires.from c.requires.to c.copy_words.ensures in
    λ fits failed. in_order c.args.to.0 c.args.n (take c.args.n (drop c.args.from.0 words)) words _ _ _ _ (copy_long c.args.from.0 c.args.n words c.requires.from) put c.requires.to (c.args.self.now.held fits failed) (search rules)

pub invariant_of-self : goal.invariant_of-self
invariant_of-self g c =
    let words = g.F.MemWords.words c.args.self.now.mem in
    let put = copy_put c.args.from.0 c.args.to.0 c.args.n words _ c.requires.from c.requires.to c.copy_words.ensures in
    record {
      pages = omega (arith, put.count, c.args.self.now.pages);
      held = λ fits failed. still_held c.args.to.0 c.args.n (take c.args.n (drop c.args.from.0 words)) words _ _ _ put c.requires.to (c.args.self.now.held (sym c.hold.ensures.fits ∙ fits) (omega (arith, c.hold.ensures.failed, failed))) (c.hold.ensures.untold failed) (c.hold.ensures.holds fits failed);
      misfits = λ fits failed. still_misfits _ _ _ _ (ap (λ f. g.W.WordFile.content f.file) (c.hold.ensures.left (sym c.hold.ensures.fits ∙ fits))) put.count (c.args.self.now.misfits (sym c.hold.ensures.fits ∙ fits) (omega (arith, c.hold.ensures.failed, failed)));
    }
