-- The blocks in memory that fail at a word: what a reader sees of them, and how their calls ended.
use Rattle.std.specs.Prelude.{◌+◌, ◌*◌, false, slice_index_or, None}
use Rattle.rio_base.specs.Blocks.{Health, Seen}
use Rattle.volume_tests.specs.declared.failing_blocks.FailingBlocks.{FailingBlocks}

abbrev pub failing_seen : FailingBlocks → Seen
failing_seen v = record { count = v.blocks; words = λ b w. slice_index_or v.words.items (512 * b + w) 0; cached = λ b. false; names = λ b. None; base = None }

abbrev pub failing_health : FailingBlocks → Health
failing_health v = record { faults = v.faults; stopped = v.stopped }
