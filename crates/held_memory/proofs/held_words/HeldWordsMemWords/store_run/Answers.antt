use Rattle.std.proofs.Common.{◌∙◌, arith, length, rules, sym, ap}
use Rattle.held_memory.proofs.RunFronts.{in_order, still_held, still_misfits}
use Rattle.held_memory.proofs.held_words.HeldWordsMemWords.store_run.Goals as goal

pub returns-clause-moments : goal.returns-clause-moments
returns-clause-moments g c = λ fits failed. in_order c.args.at.0 (length c.args.from.now) c.args.from.now (g.F.MemWords.words c.args.self.now.mem) _ _ _ _ (omega arith) c.store_run.ensures c.requires (c.args.self.now.held fits failed) (search rules)

pub invariant_of-self : goal.invariant_of-self
invariant_of-self g c = record {
  pages = omega (arith, c.store_run.ensures.count, c.args.self.now.pages);
  held = λ fits failed. still_held c.args.at.0 (length c.args.from.now) c.args.from.now (g.F.MemWords.words c.args.self.now.mem) _ _ _ c.store_run.ensures c.requires (c.args.self.now.held (sym c.hold.ensures.fits ∙ fits) (omega (arith, c.hold.ensures.failed, failed))) (c.hold.ensures.untold failed) (c.hold.ensures.holds fits failed);
  misfits = λ fits failed. still_misfits _ _ _ _ (ap (λ f. g.W.WordFile.content f.file) (c.hold.ensures.left (sym c.hold.ensures.fits ∙ fits))) c.store_run.ensures.count (c.args.self.now.misfits (sym c.hold.ensures.fits ∙ fits) (omega (arith, c.hold.ensures.failed, failed)));
}
