use Rattle.std.proofs.Common.{List, ℕ, map, subst, take}
use Rattle.std.specs.List.Sorted.{IsPermutation}
use Rattle.std.proofs.lemmas.List.Sorted.{All-permutation, IsPermutation-map}
use Rattle.name_list.specs.Spans.{IsNameSpan, bytes_at}
use Rattle.name_list.proofs.run.NameRun.sort.Goals as goal

pub invariant_of-self : goal.invariant_of-self
invariant_of-self c = record {
  held = c.self.invariant.held;
  each = All-permutation (IsNameSpan (take c.self.inside.end c.self.inside.bytes.items)) _ _ c.sort_spans.ensures.all c.self.invariant.each;
}

pub returns-clause-all : goal.returns-clause-all
returns-clause-all c =
    let bytes = take c.self.inside.end c.self.inside.bytes.items in
    subst (λ (names : List (List ℕ)). IsPermutation names (map (bytes_at bytes) c.sort_spans.new.spans.items)) c.self.view_is (IsPermutation-map (bytes_at bytes) _ _ c.sort_spans.ensures.all)
