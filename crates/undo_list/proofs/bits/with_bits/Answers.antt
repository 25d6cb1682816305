use Rattle.std.proofs.Common.{◌-◌, ◌≤◌, ◌^◌, min, sym, subst, cond, bit_and}
use Rattle.std.specs.Int.{bit_not, w64}
use Rattle.std.specs.Int.RustNames.{bit_or}
use Rattle.undo_list.specs.Bits.{WithBits}
use Rattle.undo_list.proofs.BitRuns.{bits_cleared, bits_set, mask_order}
use Rattle.undo_list.proofs.bits.with_bits.Goals as goal

pub overflow_sub-mask : goal.overflow_sub-mask
overflow_sub-mask c = let grows : 2 ^ min c.args.from 64 - 1 ≤ 2 ^ min c.args.to 64 - 1 = mask_order c.args.from c.args.to c.requires.order in subst (λ h. c.low_ones-2.result ≤ h) (sym c.low_ones.ensures) (subst (λ l. l ≤ 2 ^ min c.args.to 64 - 1) (sym c.low_ones-2.ensures) grows)

pub returns-then-on : goal.returns-then-on
returns-then-on c = subst (λ b. WithBits c.args.word (bit_or c.args.word (c.low_ones.result - c.low_ones-2.result)) c.args.from c.args.to (cond b 1 0)) (sym c.if-on.true) (bits_set c.args.word c.low_ones.result c.low_ones-2.result c.args.from c.args.to c.requires.order c.requires.within c.low_ones.ensures c.low_ones-2.ensures)

pub returns-else-on : goal.returns-else-on
returns-else-on c = subst (λ b. WithBits c.args.word (bit_and c.args.word (bit_not w64 (c.low_ones.result - c.low_ones-2.result))) c.args.from c.args.to (cond b 1 0)) (sym c.if-on.false) (bits_cleared c.args.word c.low_ones.result c.low_ones-2.result c.args.from c.args.to c.requires.order c.requires.within c.low_ones.ensures c.low_ones-2.ensures)
