use Rattle.std.proofs.Common.{◌∙◌, ◌≡◌, Some, subst, sym, ap, arith}
use Rattle.rio_base.specs.Bytes.{bytes_of}
use Rattle.held_memory.specs.WordFiles.{FileBytes, Meanwhile}
use Rattle.held_memory.proofs.RunFronts.{first_held, first_passed, still_misfits}
use Rattle.held_memory.proofs.held_words.HeldWords.new.Goals as goal

pub invariant_of-result : goal.invariant_of-result
invariant_of-result g c = record {
  pages = c.requires.whole;
  held = λ fits failed. first_held c.len-count.result _ _ _ c.len-count.ensures (c.new-file.ensures.fits (sym c.hold.ensures.fits ∙ fits)) (c.hold.ensures.untold failed) (c.hold.ensures.holds fits failed);
  misfits = λ fits failed. still_misfits _ _ _ _ (ap (λ f. g.W.WordFile.content f.file) (c.hold.ensures.left (sym c.hold.ensures.fits ∙ fits))) (sym c.len-count.ensures) (c.new-file.ensures.misfits (sym c.hold.ensures.fits ∙ fits) (omega (arith, c.hold.ensures.failed, failed)));
}

pub returns-clause-same : goal.returns-clause-same
returns-clause-same g c = λ e. subst (λ past. Meanwhile (λ (f : FileBytes). f ≡ Some (bytes_of (g.F.MemWords.words c.args.mem))) past (g.W.WordFile.past c.hold.new.self.file)) c.new-file.ensures.past (first_passed c.len-count.result _ _ _ _ c.len-count.ensures (c.new-file.ensures.content ∙ e) c.hold.ensures.moments)
