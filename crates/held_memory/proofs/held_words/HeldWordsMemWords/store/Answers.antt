use Rattle.std.proofs.Common.{◌∙◌, ◌∷◌, [], ap, arith, length, rules, sym}
use Rattle.std.proofs.lemmas.List.{length-set}
use Rattle.held_memory.proofs.RunFronts.{in_order, still_held, still_misfits, word_put}
use Rattle.held_memory.proofs.held_words.HeldWordsMemWords.store.Goals as goal

pub returns-clause-moments : goal.returns-clause-moments
returns-clause-moments g c = λ fits failed. in_order c.args.at.0 1 (c.args.v ∷ []) (g.F.MemWords.words c.args.self.now.mem) _ _ _ _ (omega arith) (word_put c.args.at.0 c.args.v _ _ c.requires c.store.ensures) (omega (arith, c.requires)) (c.args.self.now.held fits failed) (search rules)

pub invariant_of-self : goal.invariant_of-self
invariant_of-self g c = record {
  pages = omega (arith, ap length c.store.ensures, length-set (g.F.MemWords.words c.args.self.now.mem) c.args.at.0 c.args.v, c.args.self.now.pages);
  held = λ fits failed. still_held c.args.at.0 1 (c.args.v ∷ []) (g.F.MemWords.words c.args.self.now.mem) _ _ _ (word_put c.args.at.0 c.args.v _ _ c.requires c.store.ensures) (omega (arith, c.requires)) (c.args.self.now.held (sym c.hold.ensures.fits ∙ fits) (omega (arith, c.hold.ensures.failed, failed))) (c.hold.ensures.untold failed) (c.hold.ensures.holds fits failed);
  misfits = λ fits failed. still_misfits _ _ _ _ (ap (λ f. g.W.WordFile.content f.file) (c.hold.ensures.left (sym c.hold.ensures.fits ∙ fits))) (ap length c.store.ensures ∙ length-set (g.F.MemWords.words c.args.self.now.mem) c.args.at.0 c.args.v) (c.args.self.now.misfits (sym c.hold.ensures.fits ∙ fits) (omega (arith, c.hold.ensures.failed, failed)));
}
