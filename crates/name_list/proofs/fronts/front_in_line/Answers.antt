use Rattle.std.proofs.Common.{arith}
use Rattle.std.proofs.lemmas.Nat.{and_le_l}
use Rattle.name_list.proofs.FrontRules.{front_cut, front_whole}
use Rattle.name_list.proofs.fronts.front_in_line.Goals as goal

pub returns-then-len-ge-FRONT_BYTES : goal.returns-then-len-ge-FRONT_BYTES
returns-then-len-ge-FRONT_BYTES c = front_whole c.args.line.now _ c.args.len c.if-len-ge-FRONT_BYTES.true c.read_u64-front.ensures

pub returns : goal.returns
returns c = front_cut c.args.line.now c.read_u64-front.result c.args.len c.ones_behind.result (λ k. omega (arith, c.type_inv.line k)) c.if-len-ge-FRONT_BYTES.false c.read_u64-front.ensures c.ones_behind.ensures

pub overflow_sub-result : goal.overflow_sub-result
overflow_sub-result c = and_le_l _ _
