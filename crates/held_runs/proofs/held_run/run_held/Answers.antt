use Rattle.std.proofs.Common.{◌≡◌, ◌<◌, ◌∙◌, refl, sym, ap, true, Some, is_some}
use Rattle.std.specs.Option.{option_map}
use Rattle.machine_bench.specs.Benches.{Leaving}
use Rattle.rio_words.specs.declared.command.RioCommand.TheVariants.{Check, Drill, Format, Registry, Serve}
use Rattle.held_memory.specs.Held.{Holds}
use Rattle.held_memory.specs.HeldEnds.{left_of}
use Rattle.held_runs.proofs.Standing.{as_named, held_runs, idle, if_some, none_there, of_mapped, there_mapped}
use Rattle.held_runs.proofs.held_run.run_held.Goals as goal

pub returns-clause-served : goal.returns-clause-served
returns-clause-served g c = λ image disk stop reads.
    held_runs image disk stop _ _ _ _ (c.run-status.ensures.served image disk stop reads) _ refl
    (there_mapped _ c.kept_by-kept.result ∙ c.kept_by-kept.ensures.made)
    (there_mapped _ c.run-status.new.bench.left)
    (λ some. c.kept_by-kept.ensures.pages (sym (there_mapped _ c.kept_by-kept.result) ∙ some))
    (of_mapped _ (λ k. k.holds ≡ true → (l : Leaving) → option_map left_of c.run-status.new.bench.left ≡ Some l → Holds k.content l.words) c.kept_by-kept.result c.kept_by-kept.ensures.holds)
    (of_mapped _ (λ k. k.holds ≡ true → k.name ≡ image) c.kept_by-kept.result
    (if_some _ _ c.kept_by-kept.result (λ k named is. as_named c.served_image-image.result _ image (if_some _ _ c.served_image-image.result (λ name own. own image disk stop reads) c.served_image-image.ensures) (named is)) c.kept_by-kept.ensures.named))
    (of_mapped _ (λ k. 0 < k.failures → 0 < k.faults) c.kept_by-kept.result c.kept_by-kept.ensures.failed)

pub returns-clause-obeyed : goal.returns-clause-obeyed
returns-clause-obeyed g c (Format image disk frames blocks inodes scratch) reads = record { bench = idle; obeys = c.run-status.ensures.formatted image disk frames blocks inodes scratch reads }
returns-clause-obeyed g c (Serve image disk stop) reads = record { bench = _; obeys = c.run-status.ensures.served image disk stop reads }
returns-clause-obeyed g c (Registry image) reads = record { bench = idle; obeys = c.run-status.ensures.listed image reads }
returns-clause-obeyed g c (Check image disk) reads = record { bench = idle; obeys = c.run-status.ensures.checked image disk reads }
returns-clause-obeyed g c (Drill seed boots requests) reads = record { bench = idle; obeys = c.run-status.ensures.drilled seed boots requests reads }

pub returns-clause-unheld : goal.returns-clause-unheld
returns-clause-unheld g c = λ none. none_there c.kept_by-kept.result (c.kept_by-kept.ensures.made ∙ ap (λ bench. is_some bench.left) (c.run-status.ensures.unused none) ∙ ap is_some c.new-bench.ensures.left)
