use Rattle.std.proofs.Common.{◌-◌, arith, refl, take_all}
use Rattle.name_list.specs.declared.spans.Span.{Span}
use Rattle.name_list.proofs.SpanRules.{are_more, are_names, are_names_cut, names_are_more, names_stay, names_stay_cut, on_err}
use Rattle.name_list.proofs.run.NameRun.push.Goals as goal

pub invariant_of-self : goal.invariant_of-self
invariant_of-self c = are_names_cut c.self.inside.bytes.items c.put_at.new.bytes.items c.self.inside.end c.self.inside.spans.items c.self.invariant c.in_err-put_at.ensures.err

pub returns-in_err-put_at-clause-err : goal.returns-in_err-put_at-clause-err
returns-in_err-put_at-clause-err c = on_err c.from_residual-in_err-put_at.result (names_stay_cut c.self.inside.bytes.items c.put_at.new.bytes.items c.self.inside.end c.self.inside.spans.items c.args.self.now c.self.invariant c.in_err-put_at.ensures.err c.self.view_is)

pub invariant_of-self-in_err-push : goal.invariant_of-self-in_err-push
invariant_of-self-in_err-push c = are_names c.self.inside.bytes.items c.put_at.new.bytes.items c.args.name.now c.self.inside.end c.self.inside.spans.items c.push.new.self.items c.self.invariant c.in_ok-put_at.ensures.ok c.in_err-push.ensures.items

pub returns-in_err-push-clause-err : goal.returns-in_err-push-clause-err
returns-in_err-push-clause-err c = on_err c.from_residual-in_err-push.result (names_stay c.self.inside.bytes.items c.put_at.new.bytes.items c.args.name.now c.self.inside.end c.self.inside.spans.items c.push.new.self.items c.args.self.now c.self.invariant c.in_ok-put_at.ensures.ok c.in_err-push.ensures.items c.self.view_is)

pub invariant_of-self-2 : goal.invariant_of-self-2
invariant_of-self-2 c =
    let start = c.self.inside.end in
    let end = c.in_ok-end.end in
    let name = c.args.name.now in
    let span : Span = record { front = c.front_of-front.result; start = start; len = end - start } in
    are_more c.self.inside.bytes.items c.put_at.new.bytes.items name name start end c.self.inside.spans.items c.push.new.self.items span c.self.invariant
    (record {
      behind = c.in_ok-put_at.ensures.ok;
      first = take_all (end - start) name (omega (arith, c.in_ok-end.ensures));
      few = omega (arith, c.in_ok-end.ensures);
      begins = refl;
      ends = omega (arith, c.in_ok-end.ensures);
      front = c.front_of-front.ensures;
    })
    c.in_ok-push.ensures.items

pub returns-clause-ok : goal.returns-clause-ok
returns-clause-ok c =
    let start = c.self.inside.end in
    let end = c.in_ok-end.end in
    let name = c.args.name.now in
    let span : Span = record { front = c.front_of-front.result; start = start; len = end - start } in
    names_are_more c.self.inside.bytes.items c.put_at.new.bytes.items name name start end c.self.inside.spans.items c.push.new.self.items span c.args.self.now c.self.invariant
    (record {
      behind = c.in_ok-put_at.ensures.ok;
      first = take_all (end - start) name (omega (arith, c.in_ok-end.ensures));
      few = omega (arith, c.in_ok-end.ensures);
      begins = refl;
      ends = omega (arith, c.in_ok-end.ensures);
      front = c.front_of-front.ensures;
    })
    c.in_ok-push.ensures.items c.self.view_is
