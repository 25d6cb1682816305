use Rattle.std.proofs.Common.{◌-◌, ap, arith, refl, take}
use Rattle.name_list.specs.declared.spans.Span.{Span}
use Rattle.name_list.proofs.SpanRules.{are_more, are_names, are_names_cut, names_are_more, names_stay, names_stay_cut, on_err}
use Rattle.name_list.proofs.run.NameRun.push_line.Goals as goal

pub invariant_of-self : goal.invariant_of-self
invariant_of-self c = are_names_cut c.self.inside.bytes.items c.put_at.new.bytes.items c.self.inside.end c.self.inside.spans.items c.self.invariant c.in_err-put_at.ensures.err

pub returns-in_err-put_at-clause-err : goal.returns-in_err-put_at-clause-err
returns-in_err-put_at-clause-err c = on_err c.from_residual-in_err-put_at.result (names_stay_cut c.self.inside.bytes.items c.put_at.new.bytes.items c.self.inside.end c.self.inside.spans.items c.args.self.now c.self.invariant c.in_err-put_at.ensures.err c.self.view_is)

pub invariant_of-self-in_err-push : goal.invariant_of-self-in_err-push
invariant_of-self-in_err-push c = are_names c.self.inside.bytes.items c.put_at.new.bytes.items c.args.line.now c.self.inside.end c.self.inside.spans.items c.push.new.self.items c.self.invariant c.in_ok-put_at.ensures.ok c.in_err-push.ensures.items

pub returns-in_err-push-clause-err : goal.returns-in_err-push-clause-err
returns-in_err-push-clause-err c = on_err c.from_residual-in_err-push.result (names_stay c.self.inside.bytes.items c.put_at.new.bytes.items c.args.line.now c.self.inside.end c.self.inside.spans.items c.push.new.self.items c.args.self.now c.self.invariant c.in_ok-put_at.ensures.ok c.in_err-push.ensures.items c.self.view_is)

pub invariant_of-self-2 : goal.invariant_of-self-2
invariant_of-self-2 c =
    let start = c.self.inside.end in
    let end = c.in_ok-end.end in
    let line = c.args.line.now in
    let span : Span = record { front = c.front_in_line-front.result; start = start; len = end - start } in
    are_more c.self.inside.bytes.items c.put_at.new.bytes.items line (take c.args.len line) start end c.self.inside.spans.items c.push.new.self.items span c.self.invariant
    (record {
      behind = c.in_ok-put_at.ensures.ok;
      first = ap (λ n. take n line) (omega (arith, c.in_ok-end.ensures));
      few = omega (arith, c.in_ok-end.ensures, c.requires, c.told-line);
      begins = refl;
      ends = omega (arith, c.in_ok-end.ensures);
      front = c.front_in_line-front.ensures;
    })
    c.in_ok-push.ensures.items

pub returns-clause-ok : goal.returns-clause-ok
returns-clause-ok c =
    let start = c.self.inside.end in
    let end = c.in_ok-end.end in
    let line = c.args.line.now in
    let span : Span = record { front = c.front_in_line-front.result; start = start; len = end - start } in
    names_are_more c.self.inside.bytes.items c.put_at.new.bytes.items line (take c.args.len line) start end c.self.inside.spans.items c.push.new.self.items span c.args.self.now c.self.invariant
    (record {
      behind = c.in_ok-put_at.ensures.ok;
      first = ap (λ n. take n line) (omega (arith, c.in_ok-end.ensures));
      few = omega (arith, c.in_ok-end.ensures, c.requires, c.told-line);
      begins = refl;
      ends = omega (arith, c.in_ok-end.ensures);
      front = c.front_in_line-front.ensures;
    })
    c.in_ok-push.ensures.items c.self.view_is
