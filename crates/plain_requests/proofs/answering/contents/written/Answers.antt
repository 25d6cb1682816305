use Rattle.plain_requests.proofs.Common.{◌≡◌, ◌<◌, ◌≤◌, ◌++◌, length, drop, ap, arith, ◌∙◌, nat_tests}
use Rattle.std.proofs.lemmas.List.{take_rest}
use Rattle.plain_requests.proofs.FileAnswers.{written_past, written_within}
use Rattle.plain_requests.proofs.answering.contents.written.Goals as goal

pub returns-then-past : goal.returns-then-past
returns-then-past c =
    let v = c.extend_from_slice.new.self in
    let past : length c.args.old.now ≤ length v.items = grind (arith, nat_tests, c.if-past.true, c.len-end.ensures, v.ok) in
    written_past c.args.old.now c.args.bytes.now c.in_ok-made.made.items v.items c.args.off c.requires c.in_ok-made.ensures c.in_ok-extend_from_slice.ensures.items past

pub returns : goal.returns
returns c =
    let v = c.extend_from_slice.new.self in
    let within : length v.items < length c.args.old.now = grind (arith, nat_tests, c.if-past.false, c.len-end.ensures, v.ok) in
    let end : c.len-end.result ≡ length v.items = omega (arith, c.len-end.ensures, v.ok.0) in
    written_within c.args.old.now c.args.bytes.now c.in_ok-made.made.items v.items _ c.args.off c.requires c.in_ok-made.ensures c.in_ok-extend_from_slice.ensures.items within (c.in_ok-extend_from_slice-2.ensures.items ∙ ap (λ xs. v.items ++ xs) (take_rest c.args.old.now c.len-end.result ∙ ap (λ n. drop n c.args.old.now) end))
