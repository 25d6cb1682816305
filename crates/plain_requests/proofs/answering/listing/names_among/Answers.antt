use Rattle.plain_requests.proofs.Common.{[], ◌∷◌, ◌++◌, sym, ap, ◌∙◌}
use Rattle.plain_requests.proofs.Listing.{names_among_copied, names_among_passed}
use Rattle.plain_requests.proofs.PieceSteps.{items_of, same_items}
use Rattle.plain_requests.proofs.answering.listing.names_among.Goals.{then-row-dir+in_ok-clone+in_ok-push, else-row-dir}
use Rattle.plain_requests.proofs.answering.listing.names_among.Goals as goal

pub loop-row-preserved : goal.loop-row-preserved
loop-row-preserved c = elim c.if-row-dir.branch [
  | then-row-dir+in_ok-clone+in_ok-push w ↦
      let more = names_among_copied _ _ _ _ _ c.loop-row-test.true c.row-item.is w.if-row-dir.true w.in_ok-clone.ensures.cases in
      items_of _ _ _ w.names-is (w.in_ok-push.ensures.items ∙ ap (λ ns. ns ++ w.in_ok-clone.field-0 ∷ []) c.loop-row.invariant ∙ sym more)
  | else-row-dir w ↦
      let same = names_among_passed _ _ _ _ c.loop-row-test.true c.row-item.is w.if-row-dir.false in
      same_items _ _ w.names-is ∙ c.loop-row.invariant ∙ sym same
]
