-- What a range comes to.
use Rattle.vista_region.proofs.Common.{◌≡◌, ℕ, ◌+◌, ◌/◌, ◌<◌, ◌≤◌, ◌++◌, false, Some, Ok, Err, List, [], ◌∷◌, length, refl, sym, ap, ◌∙◌, arith, IsErrOf, length-map-range_with_len, RegionContent, Txn, Rests, data_from, live, taken, undo_records, undo_words, Outcome, of_words, within}
use Rattle.rio_model.specs.Undo.{Gains, saving}
use Rattle.rio_model.proofs.UndoRules.{gains_taken, gains_undoes}
use Rattle.rio_requests.specs.RegionAnswers.{range_on, with_range, with_undo}
use Rattle.rio_requests.specs.declared.reply.Reply.TheVariants.{Ok as Done}
use Rattle.vista_region.specs.Ends.{DoneAs, OnFault, TxnEnds, says_done}
use Rattle.vista_region.specs.Failures.{undo_handed}
use Rattle.vista_region.specs.Marks.{Marks, mark_of, txn_in}
use Rattle.vista_region.specs.Regions.{ranges_of, region_now, txn_now}
use Rattle.vista_region.specs.Steps.{IsSpan}
use Rattle.vista_region.specs.declared.data.Span.{Span}
use Rattle.undo_list.specs.declared.failures.UndoFail.{UndoFail}
use Rattle.undo_list.specs.declared.failures.UndoFail.TheVariants.{Full, Fault, Stopped}
use Rattle.vista_region.proofs.Covered.{range_of_data}
use Rattle.vista_region.proofs.Nodes.{marked, now_same, rests_now, rests_txn, txn_is}
use Rattle.vista_region.proofs.Outcomes.{open_goes, same_answer, undo_full, undo_goes}
use Rattle.vista_region.proofs.Spans.{Passes, Stops}

-- the transaction has one range more, at the end
txn_more : (i n : ℕ) (f g : RegionContent) (off len : ℕ) (span : Span) → IsSpan (f 2) off len span → Gains n f g span.place span.count → txn_now i g false ≡ with_range (txn_now i f false) off len
txn_more i n f g off len span s h = txn_is i f g false (ranges_of (data_from f) (undo_records f) ++ (off / 8, len / 8) ∷ []) (taken (undo_records f) + (3 + len / 8)) h.sizes (gains_undoes n f g span.place span.count h).before ranges used
  where
    many : length (saving (live f) span.place span.count).old ≡ span.count
    many = length-map-range_with_len (live f) span.place span.count

    ranges : ranges_of (data_from f) (undo_records g) ≡ ranges_of (data_from f) (undo_records f) ++ (off / 8, len / 8) ∷ []
    ranges =
        ap (ranges_of (data_from f)) h.records
        ∙ ap (λ (xs : List (ℕ × ℕ)). ranges_of (data_from f) (undo_records f) ++ xs) (range_of_data (data_from f) (off / 8) (saving (live f) span.place span.count) s.place ∙ ap (λ k. (off / 8, k) ∷ []) (many ∙ s.count))

    used : taken (undo_records g) ≡ taken (undo_records f) + (3 + len / 8)
    used = omega (arith, gains_taken n f g span.place span.count h, s.count)

abbrev after_range : RegionContent → ℕ → ℕ → ℕ → Txn → Outcome
after_range f i off len t = of_words off len (within (region_now f) off len (with_undo (region_now f) t (3 + len / 8) (Ok (record { region = region_now f; txn = Some (with_range t off len); reply = Done }))))

pub range_done : (marks : Marks) (i n : ℕ) (f g : RegionContent) (off len : ℕ) (span : Span) → mark_of marks i ≡ Some false → IsSpan (f 2) off len span → Passes f off len → Gains n f g span.place span.count → taken (undo_records f) + 3 + span.count ≤ undo_words f → DoneAs (range_on (region_now f) (txn_in marks i f) off len) marks i g Done
range_done marks i n f g off len span m s passes h room =
    open_goes marks i f (after_range f i off len) m
    ∙ passes _
    ∙ undo_goes i f (3 + len / 8) _ (omega (arith, room, s.count))
    ∙ same_answer (region_now f) (region_now g) (Some (with_range (txn_now i f false) off len)) (txn_in marks i g) Done (sym (now_same f g h.sizes h.present)) (ap (λ (t : Txn). Some t) (sym (txn_more i n f g off len span s h)) ∙ sym (marked marks i g false m))

-- a refusal of the checks
pub range_stops : (marks : Marks) (i : ℕ) (f : RegionContent) (off len number : ℕ) → mark_of marks i ≡ Some false → Stops f off len number → range_on (region_now f) (txn_in marks i f) off len ≡ Err number
range_stops marks i f off len number m stops = open_goes marks i f (after_range f i off len) m ∙ stops _

-- the record has no room, or its call failed
pub range_fails : (marks : Marks) (i n : ℕ) (f g : RegionContent) (off len : ℕ) (span : Span) (e : UndoFail) → mark_of marks i ≡ Some false → IsSpan (f 2) off len span → Passes f off len → (IsErrOf {T = Unit {0}} (Err e) Full → undo_words f < taken (undo_records f) + 3 + span.count) → (IsErrOf {T = Unit {0}} (Err e) Full → g ≡ f) → TxnEnds (range_on (region_now f) (txn_in marks i f) off len) says_done marks marks i f g (Err (undo_handed e))
range_fails marks i n f g off len span Full m s passes full same = (open_goes marks i f (after_range f i off len) m ∙ passes _ ∙ undo_full i f (3 + len / 8) _ (omega (arith, full refl, s.count)), same refl, refl)
range_fails marks i n f g off len span Fault m s passes full same = tt
range_fails marks i n f g off len span Stopped m s passes full same = tt

pub range_faults : (marks : Marks) (i n : ℕ) (f g : RegionContent) (e : UndoFail) → (IsErrOf {T = Unit {0}} (Err e) Fault → Rests n f g) → OnFault {T = Unit {0}} (Err (undo_handed e)) (λ k. (k ≡ 0) × (region_now g ≡ region_now f) × (txn_in marks i g ≡ txn_in marks i f))
range_faults marks i n f g Full rests = tt
range_faults marks i n f g Fault rests = (refl, rests_now n f g (rests refl), rests_txn marks i n f g (rests refl))
range_faults marks i n f g Stopped rests = tt
