use Rattle.rio_words.specs.Clap.{found_in}
use Rattle.rio_words.proofs.Ranges.{other_blocks, other_inodes}
use Rattle.rio_words.proofs.format_words.sizes_of.Goals as goal

pub returns-in_err-frames : goal.returns-in_err-frames
returns-in_err-frames c = rw c.from_residual.ensures (λ frames blocks inodes scratch has. c.in_err-frames.ensures frames has.frames_are has.of_image.least_frames has.of_image.most_frames)

pub returns-in_err-scratch : goal.returns-in_err-scratch
returns-in_err-scratch c = rw c.from_residual-in_err-scratch.ensures (λ frames blocks inodes scratch has. c.in_err-scratch.ensures scratch has.scratch_is has.of_image.least_scratch has.of_image.most_scratch)

pub returns-in_err-inodes : goal.returns-in_err-inodes
returns-in_err-inodes c = rw c.from_residual-in_err-inodes.ensures (λ frames blocks inodes scratch has. c.in_err-inodes.ensures inodes has.inodes_are has.of_volume.sizes.inodes_from has.of_volume.sizes.inodes_to)

pub returns-then-inodes-ne0 : goal.returns-then-inodes-ne0
returns-then-inodes-ne0 c = λ frames blocks inodes scratch has.
    other_inodes (found_in c.args.matches.now) c.in_ok-inodes.inodes frames blocks inodes scratch c.in_ok-inodes.ensures.0 c.if-inodes-ne0.true has

pub returns-in_err-blocks : goal.returns-in_err-blocks
returns-in_err-blocks c = rw c.from_residual-in_err-blocks.ensures (λ frames blocks inodes scratch has.
    other_blocks (found_in c.args.matches.now) c.in_ok-inodes.inodes frames blocks inodes scratch c.in_ok-inodes.ensures.0 c.in_err-blocks.ensures has)
