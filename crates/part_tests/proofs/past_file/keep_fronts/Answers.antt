use Rattle.std.proofs.Common.{Some, Vec, List, ℕ, arith, refl, subst, sym, take}
use Rattle.std.specs.declared.alloc.Global.{Global}
use Rattle.rio_base.specs.Bytes.{bytes_of}
use Rattle.held_memory.specs.WordFiles.{IsWrittenFront, Meanwhile}
use Rattle.part_tests.specs.PastFiles.{seen}
use Rattle.part_tests.proofs.Fronts.{front_kept}
use Rattle.part_tests.proofs.past_file.keep_fronts.Goals as goal

pub loop-m-preserved : goal.loop-m-preserved
loop-m-preserved c =
    subst (λ (all : List (Vec ℕ Global)). Meanwhile (IsWrittenFront c.args.at c.args.run.now (bytes_of c.args.words.now.items)) (Some (seen c.args.past.now.items)) (Some (seen all))) (sym c.in_ok-push.ensures.items)
    (front_kept c.args.at c.loop-m.m c.args.run.now (take c.loop-m.m c.args.run.now) c.args.words.now.items _ c.loop-m.past.items c.in_ok-with_run.field-0 c.requires (omega (arith, c.loop-m-test.true, c.loop-m.auto.m-end)) refl c.in_ok-with_run.ensures c.loop-m.invariant)
