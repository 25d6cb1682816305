use Rattle.std.proofs.Common.{◌∙◌, ◌+◌, arith, le_trans, subst, sym}
use Rattle.std.specs.FinMap.{get}
use Rattle.rio_base.specs.Blocks.{BlockWords}
use Rattle.rio_base.proofs.Rules.{looks_trans}
use Rattle.rio_model.specs.VolumeReads.{ReadsAs}
use Rattle.boots.specs.Legal.{bytes_in}
use Rattle.volume_check.proofs.Counts.{sum_next}
use Rattle.boots.proofs.counting.sum_files.Goals as goal

pub file_size-requires-clause-reads : goal.file_size-requires-clause-reads
file_size-requires-clause-reads g c =
    let s = c.requires.reads in
    (s.0, subst (λ (f : BlockWords). ReadsAs c.args.shape.now f s.0) (sym c.loop-k.invariant.looks.words) s.1)

pub loop-k-preserved : goal.loop-k-preserved
loop-k-preserved g c =
    let inv = c.loop-k.invariant in
    let new = c.in_ok-sum.ensures in
    record {
      few = (let a = inv.few in let b = new.most in omega (arith, a, b));
      is = λ s reads. (
          let size = new.size s (subst (λ (f : BlockWords). ReadsAs c.args.shape.now f s) (sym inv.looks.words) reads) in
          let sum = inv.is s reads in
          (λ e. sum e + size e) ∙ sym (sum_next (λ i. bytes_in (get s.nodes i)) c.loop-k.k)
          );
      sound = new.sound;
      looks = looks_trans _ _ _ inv.looks new.looks;
      shape = new.shape;
      passes = g.met.V.Blocks.passes_trans _ _ _ inv.passes new.passes;
      later = le_trans inv.later new.ends.later;
      running = new.ends.cause ∙ inv.running;
    }
