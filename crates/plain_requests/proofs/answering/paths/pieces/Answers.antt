use Rattle.plain_requests.proofs.Common.{◌≡◌, ◌<◌, [], ◌∷◌, ◌++◌, length, get_or, ap, ◌∙◌, arith, nat_tests}
use Rattle.rio_model.proofs.PathPieces.{piece_ended, piece_longer, Lacks-longer, Lacks-none, pieces_and_last, pieces_alone}
use Rattle.plain_requests.proofs.PieceSteps.{items_of, same_items}
use Rattle.plain_requests.proofs.answering.paths.pieces.Goals as goal
use Rattle.plain_requests.proofs.answering.paths.pieces.Goals.{then-byte-eq47+in_ok-push, else-byte-eq47+in_ok-push-2, then-not-is_empty+in_ok-push-3, else-not-is_empty}

pub loop-byte-preserved : goal.loop-byte-preserved
loop-byte-preserved c = elim c.if-byte-eq47.branch [
  | then-byte-eq47+in_ok-push w ↦
      (let names : c.if-byte-eq47.names.items ≡ c.loop-byte.names.items ++ c.loop-byte.name.items ∷ [] = items_of _ _ _ w.names-is (w.in_ok-push.ensures.items ∙ ap (λ n. c.loop-byte.names.items ++ n ∷ []) (w.from.ensures ∙ same_items _ _ w.replace.ensures.value)) in
      let name : c.if-byte-eq47.name.items ≡ [] = items_of _ _ _ w.name-is (same_items _ _ w.replace.ensures.after ∙ w.new.ensures.items) in
      record {
        begun = Lacks-none 47 _ name;
        whole = piece_ended 47 c.args.bytes.now _ _ _ _ c.loop-byte.byte-index c.loop-byte-test.true w.if-byte-eq47.true c.loop-byte.invariant.begun c.loop-byte.invariant.whole names name;
      })
  | else-byte-eq47+in_ok-push-2 w ↦
      (let names : c.if-byte-eq47.names.items ≡ c.loop-byte.names.items = same_items _ _ w.names-is in
      let name : c.if-byte-eq47.name.items ≡ c.loop-byte.name.items ++ get_or c.args.bytes.now c.loop-byte.byte-index 0 ∷ [] = items_of _ _ _ w.name-is w.in_ok-push-2.ensures.items in
      record {
        begun = Lacks-longer 47 _ _ _ c.loop-byte.invariant.begun w.if-byte-eq47.false name;
        whole = piece_longer 47 c.args.bytes.now _ _ _ _ c.loop-byte.byte-index c.loop-byte-test.true c.loop-byte.invariant.whole names name;
      })
]

pub returns : goal.returns
returns c = elim c.if-not-is_empty.branch [
  | then-not-is_empty+in_ok-push-3 w ↦
      (let names : c.if-not-is_empty.names.items ≡ c.loop-byte.names.items ++ c.loop-byte.name.items ∷ [] = items_of _ _ _ w.names-is (w.in_ok-push-3.ensures.items ∙ ap (λ n. c.loop-byte.names.items ++ n ∷ []) w.from-then-not-is_empty.ensures) in
      let some : 0 < length c.loop-byte.name.items = grind (arith, nat_tests, c.loop-byte.name.ok, c.is_empty.ensures, w.if-not-is_empty.true) in
      pieces_and_last 47 c.args.bytes.now _ _ _ c.loop-byte.byte-index c.loop-byte-test.false some c.loop-byte.invariant.begun c.loop-byte.invariant.whole names)
  | else-not-is_empty w ↦
      (let names : c.if-not-is_empty.names.items ≡ c.loop-byte.names.items = same_items _ _ w.names-is in
      let none : length c.loop-byte.name.items ≡ 0 = grind (arith, nat_tests, c.loop-byte.name.ok, c.is_empty.ensures, w.if-not-is_empty.false) in
      pieces_alone 47 c.args.bytes.now _ _ _ c.loop-byte.byte-index c.loop-byte-test.false none c.loop-byte.invariant.whole names)
]
