use Rattle.std.proofs.Common.{◌∙◌, ap, arith, drop, length, take}
use Rattle.name_list.proofs.SpanRules.{name_read}
use Rattle.name_list.proofs.run.NameRun.run.Goals as goal

pub returns-clause-name : goal.returns-clause-name
returns-clause-name c =
    let s = c.index-span.result.now in
    let read = name_read c.self.inside.bytes.items c.self.inside.end c.self.inside.spans.items c.args.self.now c.args.k s c.self.invariant c.self.view_is c.requires c.index-span.ensures in
    ap (take s.len) (c.split_at.ensures.back ∙ ap (drop s.start) c.as_slice.ensures.value) ∙ read.named

pub returns-clause-within : goal.returns-clause-within
returns-clause-within c =
    let s = c.index-span.result.now in
    let read = name_read c.self.inside.bytes.items c.self.inside.end c.self.inside.spans.items c.args.self.now c.args.k s c.self.invariant c.self.view_is c.requires c.index-span.ensures in
    let within = read.within in
    let whole = ap length c.as_slice.ensures.value in
    omega (arith, within, whole, c.split_at.ensures.back_len)
