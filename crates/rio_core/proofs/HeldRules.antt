-- What a region's words say of it and of its transaction: how requests are answered over it, and what calls leave.
use Rattle.rio_core.proofs.Common.{◌≡◌, ℕ, ◌*◌, Bool, true, false, Option, Some, None, Ok, Err, List, [], refl, sym, ap, subst, ◌∙◌, RegionContent, Region, RegionNode, Txn, IsSoundRegion, Dropped, Undoes, region_in, undone_node, alloc_on, begin_on, commit_on, free_on, get_on, put_on, range_on, Fits, Marks, mark_of, txn_in, region_now}
use Rattle.std.proofs.Common.{◌+◌, length, take}
use Rattle.std.proofs.lemmas.List.FromFn.{length-map-range_with_len}
use Rattle.rio_model.specs.Heap.{OfBlocks}
use Rattle.rio_model.specs.Undo.{UndoRecord, before, before_by, data_from, live, taken, undo_records}
use Rattle.rio_model.proofs.UndoRules.{dropped_before}
use Rattle.rio_model.proofs.RegionMoves.{in_same, node, node_same}
use Rattle.rio_requests.specs.declared.region_answer.RegionAnswer.{RegionAnswer}
use Rattle.rio_requests.specs.declared.reply.Reply.TheVariants.{Ok as Done}
use Rattle.rio_requests.specs.RegionAnswers.{Outcome, undone, with_words}
use Rattle.vista_region.specs.Marks.{marked_txn}
use Rattle.vista_region.specs.Regions.{ranges_of, txn_now}
use Rattle.rio_core.specs.Regions.{IsDoomed, RegionHeld}
use Rattle.rio_core.proofs.RegionsLaws.{IsOn, SameAnswers, mark_in}

-- ---- the node that words say

before_none : (w : RegionContent) → undo_records w ≡ [] → before w ≡ live w
before_none w none = ap (λ (rs : List UndoRecord). before_by rs (live w)) none

-- without an undo record it is as it was
pub now_in : (w : RegionContent) → undo_records w ≡ [] → region_in w ≡ region_now w
now_in w none = ap (node (w 1) (w 2)) (before_none w none)

now_long : (w : RegionContent) → length (region_now w).words ≡ 512 * w 2
now_long w = length-map-range_with_len (λ q. live w (data_from w + q)) 0 (512 * w 2)

in_long : (w : RegionContent) → length (region_in w).words ≡ 512 * w 2
in_long w = length-map-range_with_len (λ q. before w (data_from w + q)) 0 (512 * w 2)

-- ---- by the mark

-- no transaction, or one on this region
pub held_on : (i : ℕ) (w : RegionContent) (mark : Option Bool) (r : RegionNode) (o : Option Txn) → RegionHeld i w mark r o → IsOn i o
held_on i w None r o h = subst (IsOn i) (sym h.1) tt
held_on i w (Some false) r o h = subst (IsOn i) (sym h.1) refl
held_on i w (Some true) r o h = subst (IsOn i) (sym h.is) h.ino

-- the transaction's mark
pub held_mark : (i : ℕ) (w : RegionContent) (mark : Option Bool) (r : RegionNode) (o : Option Txn) → RegionHeld i w mark r o → mark_in o ≡ mark
held_mark i w None r o h = ap mark_in h.1
held_mark i w (Some false) r o h = ap mark_in h.1
held_mark i w (Some true) r o h = ap mark_in h.is ∙ ap (λ b. Some b) h.doomed

-- it has as many words as before
pub held_sized : (i : ℕ) (w : RegionContent) (mark : Option Bool) (r : RegionNode) (o : Option Txn) → RegionHeld i w mark r o → (t : Txn) → o ≡ Some t → length t.before ≡ length r.words
held_sized i w None r o h t is = absurd (let none = h.1 in cc (none, is))
held_sized i w (Some false) r o h t is =
    let same : txn_now i w false ≡ t = (let now = h.1 in cc (now, is)) in
    ap (λ (u : Txn). length u.before) (sym same) ∙ in_long w ∙ sym (now_long w) ∙ ap (λ (q : RegionNode). length q.words) (sym h.0)
held_sized i w (Some true) r o h t is =
    let same : h.txn ≡ t = (let now = h.is in cc (now, is)) in
    ap (λ (u : Txn). length u.before) (sym same) ∙ ap length h.before ∙ in_long w ∙ sym h.words

-- a stop leaves what its words undo to
pub held_undone : (i : ℕ) (w : RegionContent) (mark : Option Bool) (r : RegionNode) (o : Option Txn) → RegionHeld i w mark r o → undone_node o (Some (Region r)) ≡ Some (Region (region_in w))
held_undone i w None r o h = ap (λ (u : Option Txn). undone_node u (Some (Region r))) h.1 ∙ ap (λ q. Some (Region q)) h.0
held_undone i w (Some false) r o h = ap (λ (u : Option Txn). undone_node u (Some (Region r))) h.1 ∙ ap (λ (q : RegionNode). Some (Region (undone q (txn_now i w false)))) h.0
held_undone i w (Some true) r o h = ap (λ (u : Option Txn). undone_node u (Some (Region r))) h.is ∙ (λ j. Some (Region (record { words = h.before j; undo = h.undo j; blocks = h.before_blocks j })))

-- ---- requests are answered as the words say

answers_refl : (i : ℕ) (r : RegionNode) (o : Option Txn) → SameAnswers i r o r o
answers_refl i r o = record { begin = refl; range = λ off len. refl; put = λ off bytes. refl; get = λ off len. refl; alloc = λ n. refl; free = λ at. refl; commit = refl; abort = refl }

answers_as : (i : ℕ) (r q : RegionNode) (o u : Option Txn) → r ≡ q → o ≡ u → SameAnswers i r o q u
answers_as i r q o u a b = subst (λ (x : RegionNode). SameAnswers i r o x u) a (subst (λ (y : Option Txn). SameAnswers i r o r y) b (answers_refl i r o))

doomed_is : (t : Txn) → t.doomed ≡ true → t ≡ record t { doomed = true }
doomed_is t e = λ j. record t { doomed = e j }

-- a doomed transaction is refused all but its abort
doomed_answers : (i : ℕ) (w : RegionContent) (r : RegionNode) (t : Txn) → t.doomed ≡ true → undone r t ≡ region_in w → SameAnswers i r (Some t) (region_now w) (Some (txn_now i w true))
doomed_answers i w r t e back = record {
  begin = refl;
  range = λ off len. ap (λ (u : Txn). range_on r (Some u) off len) (doomed_is t e);
  put = λ off bytes. ap (λ (u : Txn). put_on r (Some u) off bytes) (doomed_is t e);
  get = λ off len. ap (λ (u : Txn). get_on r (Some u) off len) (doomed_is t e);
  alloc = λ n. ap (λ (u : Txn). alloc_on r (Some u) n) (doomed_is t e);
  free = λ at. ap (λ (u : Txn). free_on r (Some u) at) (doomed_is t e);
  commit = ap (λ (u : Txn). commit_on r (Some u)) (doomed_is t e);
  abort = ap (λ q. Ok (record { region = q; txn = None; reply = Done })) back;
}

pub same_answers : (i : ℕ) (w : RegionContent) (mark : Option Bool) (r : RegionNode) (o : Option Txn) → RegionHeld i w mark r o → SameAnswers i r o (region_now w) (marked_txn i w mark)
same_answers i w None r o h = answers_as i r (region_now w) o None (h.0 ∙ now_in w h.2) h.1
same_answers i w (Some false) r o h = answers_as i r (region_now w) o (Some (txn_now i w false)) h.0 h.1
same_answers i w (Some true) r o h = subst (λ (u : Option Txn). SameAnswers i r u (region_now w) (Some (txn_now i w true))) (sym h.is) (doomed_answers i w r h.txn h.doomed (λ j. record { words = h.before j; undo = h.undo j; blocks = h.before_blocks j }))

-- ---- a doomed transaction

-- it is doomed still where the words of before are as they were
pub doomed_still : (i n : ℕ) (f g : RegionContent) (r : RegionNode) (o : Option Txn) → IsDoomed i f r o → Undoes n f g → IsDoomed i g r o
doomed_still i n f g r o h u =
    let same = in_same n f g u in
    record {
      txn = h.txn;
      is = h.is;
      ino = h.ino;
      doomed = h.doomed;
      before = h.before ∙ ap (λ (q : RegionNode). q.words) (sym same);
      before_blocks = h.before_blocks ∙ ap (λ (q : RegionNode). q.blocks) (sym same);
      words = h.words ∙ ap (λ d. 512 * d) (sym u.sizes.data_pages);
      undo = h.undo ∙ sym u.sizes.undo;
    }

-- ---- what fits a table of transactions

pub held_fits : (marks : Marks) (i n : ℕ) (w : RegionContent) (mark : Option Bool) (r : RegionNode) (o : Option Txn) → RegionHeld i w mark r o → mark_of marks i ≡ mark → IsSoundRegion n w → Fits marks i n w
held_fits marks i n w None r o h is sound = record { region = sound.region; closed = λ none. h.2; heap = λ fine. absurd (cc (is, fine)) }
held_fits marks i n w (Some false) r o h is sound = record { region = sound.region; closed = λ none. absurd (cc (is, none)); heap = λ fine. h.2 }
held_fits marks i n w (Some true) r o h is sound = record { region = sound.region; closed = λ none. absurd (cc (is, none)); heap = λ fine. absurd (cc (is, fine)) }

-- and what fits is held, as the words say
pub fits_held : (marks : Marks) (i n : ℕ) (w : RegionContent) → Fits marks i n w → RegionHeld i w (mark_of marks i) (region_now w) (txn_in marks i w)
fits_held marks i n w h = by (mark_of marks i) refl
  where
    by : (m : Option Bool) → mark_of marks i ≡ m → RegionHeld i w m (region_now w) (marked_txn i w m)
    by None e = (sym (now_in w (h.closed e)), refl, h.closed e)
    by (Some false) e = (refl, refl, h.heap e)
    by (Some true) e = record { txn = txn_now i w true; is = refl; ino = refl; doomed = refl; before = refl; before_blocks = refl; words = now_long w; undo = refl }

-- ---- calls that were done

-- a transaction on region q that begins, where it has these records
abbrev begun : ℕ → RegionContent → RegionNode → List UndoRecord → Outcome
begun i w q rs = Ok (record { region = q; txn = Some (record { ino = record { 0 = i }; before = (region_in w).words; before_blocks = (region_in w).blocks; ranges = ranges_of (data_from w) rs; used = taken rs; doomed = false }); reply = Done })

-- a transaction begins: the words stay
pub begin_held : (i n : ℕ) (w : RegionContent) (r : RegionNode) (o : Option Txn) → RegionHeld i w None r o → IsSoundRegion n w → (begin_on i r o ≡ Ok (record { region = region_now w; txn = Some (txn_now i w false); reply = Done })) × RegionHeld i w (Some false) (region_now w) (Some (txn_now i w false))
begin_held i n w r o h sound = (defined, (refl, refl, subst (λ l. OfBlocks l (w 2)) (before_none w none) sound.heap))
  where
    none : undo_records w ≡ []
    none = h.2

    defined : begin_on i r o ≡ Ok (record { region = region_now w; txn = Some (txn_now i w false); reply = Done })
    defined = ap (λ (u : Option Txn). begin_on i r u) h.1 ∙ ap (λ (q : RegionNode). begin_on i q None) h.0 ∙ ap (λ (q : RegionNode). begun i w q []) (now_in w none) ∙ ap (begun i w (region_now w)) (sym none)

-- one that is open refuses another
pub begin_refused : (i : ℕ) (w : RegionContent) (b : Bool) (r : RegionNode) (o : Option Txn) → RegionHeld i w (Some b) r o → begin_on i r o ≡ Err 13
begin_refused i w b r o h = (same_answers i w (Some b) r o h).begin

-- ---- calls that a fault cut off

-- the words of before are as they were, and what is now as well: nothing of it was done
pub rests_held : (marks : Marks) (i n m : ℕ) (f g : RegionContent) (r : RegionNode) (o : Option Txn) → RegionHeld i f (mark_of marks i) r o → Undoes n f g → Fits marks i m g → region_now g ≡ region_now f → txn_in marks i g ≡ txn_in marks i f → RegionHeld i g (mark_of marks i) r o
rests_held marks i n m f g r o h u fits now txn = by (mark_of marks i) h refl txn
  where
    by : (k : Option Bool) → RegionHeld i f k r o → mark_of marks i ≡ k → marked_txn i g k ≡ marked_txn i f k → RegionHeld i g k r o
    by None h e t = (h.0 ∙ sym (in_same n f g u), h.1, fits.closed e)
    by (Some false) h e t = (h.0 ∙ sym now, h.1 ∙ sym t, fits.heap e)
    by (Some true) h e t = doomed_still i n f g r o h u

-- a put of which the first k bytes were put
pub part_held : (marks : Marks) (i n : ℕ) (f g : RegionContent) (r : RegionNode) (o : Option Txn) (a : RegionAnswer) (off k : ℕ) (bytes : List ℕ) → RegionHeld i f (mark_of marks i) r o → put_on (region_now f) (txn_in marks i f) off bytes ≡ Ok a → Fits marks i n g → region_now g ≡ with_words (region_now f) off (take k bytes) → txn_in marks i g ≡ txn_in marks i f → (put_on r o off bytes ≡ Ok a) × RegionHeld i g (mark_of marks i) (with_words r off (take k bytes)) o
part_held marks i n f g r o a off k bytes h done fits now txn = ((same_answers i f (mark_of marks i) r o h).put off bytes ∙ done, by (mark_of marks i) h refl done txn)
  where
    by : (m : Option Bool) → RegionHeld i f m r o → mark_of marks i ≡ m → put_on (region_now f) (marked_txn i f m) off bytes ≡ Ok a → marked_txn i g m ≡ marked_txn i f m → RegionHeld i g m (with_words r off (take k bytes)) o
    by None h e d t = absurd (cc d)
    by (Some true) h e d t = absurd (cc d)
    by (Some false) h e d t = (ap (λ (q : RegionNode). with_words q off (take k bytes)) h.0 ∙ sym now, h.1 ∙ sym t, fits.heap e)

-- ---- calls that leave a transaction to be aborted

-- the words of before are as they were: of what is now the size alone is known
pub dooms_held : (i n : ℕ) (f g : RegionContent) (b : Bool) (r : RegionNode) (o : Option Txn) → RegionHeld i f (Some b) r o → Undoes n f g → (t : Txn) × (o ≡ Some t) × RegionHeld i g (Some true) r (Some (record t { doomed = true }))
dooms_held i n f g false r o h u =
    let same = in_same n f g u in (
      txn_now i f false,
      h.1,
      record {
        txn = record (txn_now i f false) { doomed = true };
        is = refl;
        ino = refl;
        doomed = refl;
        before = ap (λ (q : RegionNode). q.words) (sym same);
        before_blocks = ap (λ (q : RegionNode). q.blocks) (sym same);
        words = ap (λ (q : RegionNode). length q.words) h.0 ∙ now_long f ∙ ap (λ d. 512 * d) (sym u.sizes.data_pages);
        undo = ap (λ (q : RegionNode). q.undo) h.0 ∙ sym u.sizes.undo;
      },
    )
dooms_held i n f g true r o h u =
    let same = in_same n f g u in (
      h.txn,
      h.is,
      record {
        txn = record h.txn { doomed = true };
        is = refl;
        ino = h.ino;
        doomed = refl;
        before = h.before ∙ ap (λ (q : RegionNode). q.words) (sym same);
        before_blocks = h.before_blocks ∙ ap (λ (q : RegionNode). q.blocks) (sym same);
        words = h.words ∙ ap (λ d. 512 * d) (sym u.sizes.data_pages);
        undo = h.undo ∙ sym u.sizes.undo;
      },
    )

-- ---- calls that were stopped

-- a commit that stopped when it was done: the region is what it was, and has no transaction
pub dropped_held : (i n : ℕ) (f g : RegionContent) (r : RegionNode) (o : Option Txn) → RegionHeld i f (Some false) r o → Dropped n f g → (commit_on r o ≡ Ok (record { region = r; txn = None; reply = Done })) × RegionHeld i g None r None
dropped_held i n f g r o h d = (ap (commit_on r) h.1, (h.0 ∙ sym (node_same f g (live f) (before g) d.sizes (dropped_before n f g d)), refl, d.records))

pub dropped_sound : (n : ℕ) (f g : RegionContent) → OfBlocks (live f) (f 2) → Dropped n f g → IsSoundRegion n g
dropped_sound n f g heap d = record { region = d.region; heap = subst (λ l. OfBlocks l (g 2)) (sym (dropped_before n f g d)) (subst (OfBlocks (live f)) (sym d.sizes.data_pages) heap) }
