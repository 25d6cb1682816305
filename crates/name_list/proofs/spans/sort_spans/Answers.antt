use Rattle.std.proofs.Common.{◌≡◌, ap, arith, rules}
use Rattle.std.specs.Ordering.{is_lt}
use Rattle.std.proofs.lemmas.Fn.{always_returns_same}
use Rattle.std.proofs.lemmas.List.Sorted.{All-permutation, ranks_by}
use Rattle.name_list.specs.Spans.{IsNameSpan, span_cmp}
use Rattle.name_list.proofs.SpanRules.{names_sorted, spans_total}
use Rattle.name_list.proofs.spans.sort_spans.Goals as goal

pub returns-clause-order : goal.returns-clause-order
returns-clause-order c =
    let bytes = c.args.bytes.now in
    names_sorted bytes c.sort_unstable_by.new.self.items (λ k. omega (arith, c.type_inv.bytes k))
    (All-permutation (IsNameSpan bytes) _ _ c.sort_unstable_by.ensures.permutation c.requires)
    (c.sort_unstable_by.ensures.sorted (λ x y. is_lt (span_cmp bytes x y)) (ranks_by (spans_total bytes) (λ x. x)) (always_returns_same _ (λ a r. is_lt r ≡ is_lt (span_cmp bytes a.0.now a.1.0.now)) _ (λ a r after k. (let told : r ≡ span_cmp bytes a.0.now a.1.0.now = search rules in ap is_lt told, search rules))))
