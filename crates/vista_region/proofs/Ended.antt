-- What the end of a transaction comes to.
use Rattle.vista_region.proofs.Common.{◌≡◌, ◌≢◌, ℕ, ◌⊎◌, inl, inr, Bool, true, false, cond, Option, Some, None, Result, Ok, Err, [], ◌∷◌, refl, sym, ap, subst, ◌∙◌, arith, IsErrOf, is_some, nat_eq, cases_eq, nat_tests, true_false, RegionContent, OfBlocks, IsRegion, Undone, live, undo_records}
use Rattle.rio_model.specs.Undo.{Dropped}
use Rattle.rio_model.specs.VolumeReads.{region_in}
use Rattle.rio_requests.specs.RegionAnswers.{abort_on, commit_on}
use Rattle.rio_requests.specs.declared.reply.Reply.TheVariants.{Ok as Done}
use Rattle.vista_region.specs.Ends.{DoneAs, Fits, IsFault}
use Rattle.vista_region.specs.Marks.{Marks, mark_of, set_mark, txn_in}
use Rattle.vista_region.specs.Regions.{region_now}
use Rattle.vista_region.specs.Steps.{IsTold}
use Rattle.vista_region.specs.declared.failures.TxnFail.{TxnFail}
use Rattle.vista_region.specs.declared.failures.TxnFail.TheVariants.{NoTransaction, Doomed, NotAligned, OutOfRange, NotCovered, NotBlock, HeapFull, UndoFull, Fault, Stopped}
use Rattle.vista_region.proofs.Nodes.{marked, now_same, undone_now, unmarked}
use Rattle.vista_region.proofs.Outcomes.{answer, open_goes, same_answer}

pub commit_done : (old new : Marks) (i n : ℕ) (f g : RegionContent) → mark_of old i ≡ Some false → mark_of new i ≡ None → Dropped n f g → DoneAs (commit_on (region_now f) (txn_in old i f)) new i g Done
commit_done old new i n f g m gone d =
    open_goes old i f (λ t. answer (region_now f) None Done) m
    ∙ same_answer (region_now f) (region_now g) None (txn_in new i g) Done (sym (now_same f g d.sizes d.present)) (sym (unmarked new i g gone))

pub abort_done : (old new : Marks) (i n : ℕ) (f g : RegionContent) (b : Bool) → mark_of old i ≡ Some b → mark_of new i ≡ None → Undone n f g → DoneAs (abort_on (region_now f) (txn_in old i f)) new i g Done
abort_done old new i n f g b m gone u =
    ap (λ o. abort_on (region_now f) o) (marked old i f b m)
    ∙ same_answer (region_in f) (region_now g) None (txn_in new i g) Done (sym (undone_now n f g u)) (sym (unmarked new i g gone))

-- ---- what fits

IsDoomed : Option Bool → Type 0
IsDoomed (Some true) = Unit {0}
IsDoomed (Some false) = ⊥
IsDoomed None = ⊥

IsOpen : Option Bool → Type 0
IsOpen (Some true) = ⊥
IsOpen (Some false) = Unit {0}
IsOpen None = ⊥

-- a doomed transaction asks only that it is a region
pub fits_doomed : (marks : Marks) (i n : ℕ) (g : RegionContent) → mark_of marks i ≡ Some true → IsRegion n g → Fits marks i n g
unfolding IsDoomed
fits_doomed marks i n g m region = record {
  region = region;
  closed = λ none. absurd (subst IsDoomed (sym m ∙ none) tt);
  heap = λ still. absurd (subst IsDoomed (sym m ∙ still) tt);
}

-- one that is open asks for a heap map of blocks alone
pub fits_open : (marks : Marks) (i n : ℕ) (g : RegionContent) → mark_of marks i ≡ Some false → IsRegion n g → OfBlocks (live g) (g 2) → Fits marks i n g
unfolding IsOpen
fits_open marks i n g m region blocks = record {
  region = region;
  closed = λ none. absurd (subst IsOpen (sym m ∙ none) tt);
  heap = λ still. blocks;
}

-- where none is open, for no record
pub fits_closed : (marks : Marks) (i n : ℕ) (g : RegionContent) → mark_of marks i ≡ None → IsRegion n g → undo_records g ≡ [] → Fits marks i n g
unfolding IsOpen
fits_closed marks i n g m region none = record {
  region = region;
  closed = λ gone. none;
  heap = λ still. absurd (subst IsOpen (sym still ∙ m) tt);
}

-- ---- after a call that a fault leaves doomed

pub mark_set : (ms : Marks) (i : ℕ) (b : Bool) → mark_of (set_mark ms i (Some b)) i ≡ Some b
mark_set [] i b = here i
  where
    here : (i : ℕ) → mark_of ((i, b) ∷ []) i ≡ Some b
    here i = grind (arith, nat_tests)
mark_set (m ∷ ms) i b = by (cases_eq m.0 i) (mark_set ms i b)
  where
    by : (m.0 ≡ i) ⊎ (m.0 ≢ i) → mark_of (set_mark ms i (Some b)) i ≡ Some b → mark_of (set_mark (m ∷ ms) i (Some b)) i ≡ Some b
    by (inl e) later =
        let same : nat_eq m.0 i ≡ true = grind (arith, nat_tests) in
        let own : nat_eq i i ≡ true = grind (arith, nat_tests) in
        ap (λ t. mark_of (cond t ((i, b) ∷ ms) (m ∷ set_mark ms i (Some b))) i) same ∙ ap (λ t. cond t (Some b) (mark_of ms i)) own
    by (inr e) later =
        let other : nat_eq m.0 i ≡ false = grind (arith, nat_tests) in
        ap (λ t. mark_of (cond t ((i, b) ∷ ms) (m ∷ set_mark ms i (Some b))) i) other ∙ ap (λ t. cond t (Some m.1) (mark_of (set_mark ms i (Some b)) i)) other ∙ later

-- every call is told, failed or stopped
sort_of : {T : Type 0} (r : Result T TxnFail) → IsTold r ⊎ (IsFault r ⊎ IsErrOf r Stopped)
sort_of (Ok v) = inl tt
sort_of (Err NoTransaction) = inl tt
sort_of (Err Doomed) = inl tt
sort_of (Err NotAligned) = inl tt
sort_of (Err OutOfRange) = inl tt
sort_of (Err NotCovered) = inl tt
sort_of (Err NotBlock) = inl tt
sort_of (Err HeapFull) = inl tt
sort_of (Err UndoFull) = inl tt
sort_of (Err (Fault k)) = inr (inl tt)
sort_of (Err Stopped) = inr (inr refl)

pub told_apart : {T : Type 0} (r : Result T TxnFail) → IsTold r → IsFault r → ⊥
told_apart (Ok v) t h = h
told_apart (Err (Fault k)) t h = t
told_apart (Err NoTransaction) t h = h
told_apart (Err Doomed) t h = h
told_apart (Err NotAligned) t h = h
told_apart (Err OutOfRange) t h = h
told_apart (Err NotCovered) t h = h
told_apart (Err NotBlock) t h = h
told_apart (Err HeapFull) t h = h
told_apart (Err UndoFull) t h = h
told_apart (Err Stopped) t h = h

pub dooming_fits : {T : Type 0} (old new : Marks) (i m : ℕ) (g : RegionContent) (r : Result T TxnFail) → IsRegion m g → ((IsFault r → ⊥) → new ≡ old) → (IsFault r → new ≡ set_mark old i (Some true)) → (IsErrOf r Stopped → ⊥) → (IsTold r → Fits old i m g) → Fits new i m g
dooming_fits old new i m g r region kept doomed runs told = by (sort_of r)
  where
    by : IsTold r ⊎ (IsFault r ⊎ IsErrOf r Stopped) → Fits new i m g
    by (inl t) = subst (λ (ms : Marks). Fits ms i m g) (sym (kept (told_apart r t))) (told t)
    by (inr (inl h)) = fits_doomed new i m g (ap (λ (ms : Marks). mark_of ms i) (doomed h) ∙ mark_set old i true) region
    by (inr (inr s)) = absurd (runs s)

err_of : {T : Type 0} → Result T TxnFail → TxnFail
err_of (Ok v) = Stopped
err_of (Err e) = e

-- a call that was not stopped, by what was handed on
pub not_stopped : {T U : Type 0} (r : Result T TxnFail) (q : Result U TxnFail) (e y : TxnFail) → r ≡ Err e → q ≡ Err y → y ≡ e → (IsErrOf q Stopped → ⊥) → IsErrOf r Stopped → ⊥
unfolding err_of
not_stopped r q e y is at same runs s = runs (at ∙ ap (λ z. Err z) (same ∙ ap err_of (sym is ∙ s)))

pub some_of : (o : Option Bool) → is_some o ≡ true → (b : Bool) × (o ≡ Some b)
some_of None e = absurd (true_false (sym e))
some_of (Some b) e = (b, refl)
