-- What calls on a transaction come to, step by step, and at their ends.
use Rattle.vista_region.proofs.Common.{◌≡◌, ◌≢◌, ℕ, ◌+◌, ◌*◌, ◌%◌, ◌<◌, ◌≤◌, ◌⊎◌, inl, inr, Bool, true, false, cond, ◌&&◌, nat_lt, Option, Some, None, Result, Ok, Err, [], length, refl, sym, ap, subst, ◌∙◌, arith, not, nat_eq, cases_eq, nat_tests, length-map-range_with_len, RegionContent, RegionNode, Txn, IsRegion, data_from, live, taken, undo_records, undo_words, Outcome, of_words, within, true_false}
use Rattle.std.proofs.Common.{eqb}
use Rattle.std.specs.Prelude.{IsOk, is_ok, MatchBool}
use Rattle.rio_model.specs.Undo.{Links}
use Rattle.rio_model.proofs.UndoRules.{no_records}
use Rattle.rio_requests.specs.RegionAnswers.{on_open, with_undo}
use Rattle.rio_requests.specs.declared.reply.Reply.{Reply}
use Rattle.vista_region.specs.Ends.{RefusedAs, TxnEnds, refusal_of}
use Rattle.vista_region.specs.Marks.{Marks, mark_of, txn_in}
use Rattle.vista_region.specs.Regions.{region_now, txn_now}
use Rattle.vista_region.specs.Steps.{opened, whole}
use Rattle.vista_region.specs.declared.failures.TxnFail.{TxnFail}
use Rattle.vista_region.specs.declared.failures.TxnFail.TheVariants.{NotAligned}
use Rattle.vista_region.proofs.Nodes.{marked}

-- ---- the mark

opened_goes : (o : Option Bool) → IsOk (opened o) → o ≡ Some false
opened_goes None h = absurd (true_false (sym h))
opened_goes (Some true) h = absurd (true_false (sym h))
opened_goes (Some false) h = refl

pub is_open : (marks : Marks) (i : ℕ) (r : Result (Unit {0}) TxnFail) (v : Unit {0}) → r ≡ Ok v → r ≡ opened (mark_of marks i) → mark_of marks i ≡ Some false
is_open marks i r v h e = opened_goes (mark_of marks i) (ap is_ok (sym e ∙ h))

number_of : Result (Unit {0}) TxnFail → Option ℕ
number_of (Ok v) = None
number_of (Err e) = refusal_of e

or_none : Option ℕ → ℕ
or_none (Some n) = n
or_none None = 0

Has : Option ℕ → Type 0
Has (Some n) = Unit {0}
Has None = ⊥

pub open_goes : (marks : Marks) (i : ℕ) (f : RegionContent) (go : Txn → Outcome) → mark_of marks i ≡ Some false → on_open (txn_in marks i f) go ≡ go (txn_now i f false)
open_goes marks i f go e = ap (λ o. on_open o go) (marked marks i f false e)

-- ---- whole words, the end of the data, the undo pages

pub whole_goes : (off len : ℕ) (r : Result (Unit {0}) TxnFail) (v : Unit {0}) (go : Outcome) → r ≡ Ok v → r ≡ whole off len → of_words off len go ≡ go
whole_goes off len r v go h e = by ((eqb (off % 8) 0) && (eqb (len % 8) 0)) (ap is_ok (sym e ∙ h))
  where
    pick : Bool → Result (Unit {0}) TxnFail
    pick b = cond b (Ok tt) (Err NotAligned)

    by : (b : Bool) → is_ok (pick b) ≡ true → cond b go (Err 20) ≡ go
    by true k = refl
    by false k = absurd (true_false (sym k))

-- no whole words
refused_words : (b : Bool) (number : ℕ) (go : Outcome) → number_of (cond b (Ok tt) (Err NotAligned)) ≡ Some number → cond b go (Err 20) ≡ Err number
unfolding number_of or_none Has
refused_words true number go e = absurd (subst Has (sym e) tt)
refused_words false number go e = ap (λ n. Err n) (ap or_none e)

pub not_whole : (off len : ℕ) (r : Result (Unit {0}) TxnFail) (e : TxnFail) (number : ℕ) (go : Outcome) → r ≡ Err e → r ≡ whole off len → refusal_of e ≡ Some number → of_words off len go ≡ Err number
unfolding number_of
not_whole off len r e number go h is refused = refused_words ((eqb (off % 8) 0) && (eqb (len % 8) 0)) number go (ap number_of (sym is ∙ h) ∙ refused)

pub whole_len : (off len : ℕ) (r : Result (Unit {0}) TxnFail) (v : Unit {0}) → r ≡ Ok v → r ≡ whole off len → len % 8 ≡ 0
whole_len off len r v h e = by (eqb (off % 8) 0) (eqb (len % 8) 0) refl (ap is_ok (sym e ∙ h))
  where
    pick : Bool → Result (Unit {0}) TxnFail
    pick b = cond b (Ok tt) (Err NotAligned)

    zero_is : eqb (len % 8) 0 ≡ true → len % 8 ≡ 0
    zero_is t = grind (arith, nat_tests)

    by : (a b : Bool) → eqb (len % 8) 0 ≡ b → is_ok (pick (a && b)) ≡ true → len % 8 ≡ 0
    by true true t k = zero_is t
    by true false t k = absurd (true_false (sym k))
    by false b t k = absurd (true_false (sym k))

pub one_number : (a b : ℕ) → Some a ≡ Some b → a ≡ b
unfolding or_none
one_number a b e = ap or_none e

data_long : (f : RegionContent) → 8 * length (region_now f).words ≡ 4096 * f 2
data_long f = let l = length-map-range_with_len (λ q. live f (data_from f + q)) 0 (512 * f 2) in omega (arith, l)

pub within_goes : (f : RegionContent) (off len : ℕ) (go : Outcome) → off + len ≤ 4096 * f 2 → within (region_now f) off len go ≡ go
within_goes f off len go h =
    let test : nat_lt (8 * length (region_now f).words) (off + len) ≡ false = (let l = data_long f in grind (arith, nat_tests)) in
    ap (λ b. cond b (Err 19) go) test

pub past_end : (f : RegionContent) (off len : ℕ) (go : Outcome) → 4096 * f 2 < off + len → within (region_now f) off len go ≡ Err 19
past_end f off len go h =
    let test : nat_lt (8 * length (region_now f).words) (off + len) ≡ true = (let l = data_long f in grind (arith, nat_tests)) in
    ap (λ b. cond b (Err 19) go) test

pub undo_goes : (i : ℕ) (f : RegionContent) (words : ℕ) (go : Outcome) → taken (undo_records f) + words ≤ undo_words f → with_undo (region_now f) (txn_now i f false) words go ≡ go
undo_goes i f words go h =
    let test : nat_lt (512 * f 1) (taken (undo_records f) + words) ≡ false = grind (arith, nat_tests) in
    ap (λ b. cond b (Err 16) go) test

pub undo_full : (i : ℕ) (f : RegionContent) (words : ℕ) (go : Outcome) → undo_words f < taken (undo_records f) + words → with_undo (region_now f) (txn_now i f false) words go ≡ Err 16
undo_full i f words go h =
    let test : nat_lt (512 * f 1) (taken (undo_records f) + words) ≡ true = grind (arith, nat_tests) in
    ap (λ b. cond b (Err 16) go) test

-- ---- at the ends

abbrev pub answer : RegionNode → Option Txn → Reply → Outcome
answer r t reply = Ok (record { region = r; txn = t; reply = reply })

pub same_answer : (r s : RegionNode) (t u : Option Txn) (reply : Reply) → r ≡ s → t ≡ u → answer r t reply ≡ answer s u reply
same_answer r s t u reply a b = ap (λ x. answer x t reply) a ∙ ap (λ x. answer s x reply) b

-- a refusal is as defined, a fault and a stop say nothing here
pub refused_ends : {T : Type 0} (defined : Outcome) (says : T → Reply) (old new : Marks) (i : ℕ) (f g : RegionContent) (e : TxnFail) → ((number : ℕ) → refusal_of e ≡ Some number → (defined ≡ Err number) × (g ≡ f) × (new ≡ old)) → TxnEnds defined says old new i f g (Err e)
refused_ends defined says old new i f g e h = by (refusal_of e) h
  where
    by : (o : Option ℕ) → ((number : ℕ) → o ≡ Some number → (defined ≡ Err number) × (g ≡ f) × (new ≡ old)) → RefusedAs defined old new f g o
    by None k = tt
    by (Some number) k = k number refl

-- ---- the list of records

-- its head tells whether it holds a record
pub held_records : (n : ℕ) (f : RegionContent) (head : ℕ) → IsRegion n f → head ≡ f 3 → MatchBool (not (nat_eq head 0)) (undo_records f ≡ [] → ⊥) (undo_records f ≡ [])
held_records n f head h is = by (cases_eq head 0)
  where
    by : (head ≡ 0) ⊎ (head ≢ 0) → MatchBool (not (nat_eq head 0)) (undo_records f ≡ [] → ⊥) (undo_records f ≡ [])
    by (inl e) =
        let test : not (nat_eq head 0) ≡ false = grind (arith, nat_tests) in
        subst (λ b. MatchBool b (undo_records f ≡ [] → ⊥) (undo_records f ≡ [])) (sym test) (no_records n f h (sym is ∙ e))
    by (inr e) =
        let test : not (nat_eq head 0) ≡ true = grind (arith, nat_tests) in
        subst (λ b. MatchBool b (undo_records f ≡ [] → ⊥) (undo_records f ≡ [])) (sym test) (λ none. e (is ∙ subst (λ rs. Links f (f 3) rs) none h.links))

-- the same of an error that was handed on
pub refused_at : {T : Type 0} (defined : Outcome) (says : T → Reply) (old new : Marks) (i : ℕ) (f g : RegionContent) (r : Result T TxnFail) (y e : TxnFail) → r ≡ Err y → y ≡ e → ((number : ℕ) → refusal_of e ≡ Some number → (defined ≡ Err number) × (g ≡ f) × (new ≡ old)) → TxnEnds defined says old new i f g r
refused_at defined says old new i f g r y e is same h = subst (λ r. TxnEnds defined says old new i f g r) (ap (λ z. Err z) (sym same) ∙ sym is) (refused_ends defined says old new i f g e h)

pub ok_apart : {T E : Type 0} (v : T) (e : E) → Ok v ≡ Err e → ⊥
ok_apart v e h = true_false (ap is_ok h)
