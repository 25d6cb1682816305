-- What records leave of a span, each taking its places off an end.
use Rattle.std.proofs.Common.{◌≡◌, ℕ, ◌+◌, ◌-◌, ◌<◌, ◌≤◌, ◌⊎◌, inl, inr, true, false, Bool, MatchBool, nat_le, List, [], ◌∷◌, length, refl, sym, ap, ◌∙◌, arith, subst, le_refl}
use Rattle.std.proofs.lemmas.Bool.Decides.{nat_tests}
use Rattle.std.specs.Prelude.{Result, IfOk}
use Rattle.std.proofs.lemmas.Result.{IfOk-weaker}
use Rattle.rio_base.specs.declared.failures.VolFail.{VolFail}
use Rattle.rio_base.specs.Regions.{RegionContent}
use Rattle.rio_base.specs.Rules.{true_false}
use Rattle.rio_model.specs.Undo.{UndoRecord, CoversAll, is_covered, undo_records}
use Rattle.rio_model.proofs.UndoRules.{covered_by, covered_else}
use Rattle.undo_list.specs.declared.covering.Span.{Span}
use Rattle.undo_list.specs.declared.records.SavedAt.{SavedAt}
use Rattle.undo_list.specs.Records.{Awaits}
use Rattle.undo_list.proofs.Chains.{NewestFits}

-- of some places those outside what is left are covered, as these records tell. Inside, the rest of them tell of each place
pub record Leaves (records rest : List UndoRecord) (place count : ℕ) (left : Span) : Type 0 where
  pub later : place ≤ left.from
  pub sooner : left.to ≤ place + count
  pub beside : (q : ℕ) → place ≤ q → q < place + count → (q < left.from) ⊎ (left.to ≤ q) → is_covered records q ≡ true
  pub same : (q : ℕ) → left.from ≤ q → q < left.to → is_covered records q ≡ is_covered rest q

-- a record moves the front to its end where it covers the front
abbrev Fronts : ℕ → ℕ → ℕ → ℕ → Type 0
Fronts first end from next = ((first ≤ from) × (from < end) × (next ≡ end)) ⊎ (((from < first) ⊎ (end ≤ from)) × (next ≡ from))

-- and the end to its first place where it covers the last one
abbrev Lasts : ℕ → ℕ → ℕ → ℕ → Type 0
Lasts first end to next = ((first < to) × (to ≤ end) × (next ≡ first)) ⊎ (((to ≤ first) ⊎ (end < to)) × (next ≡ to))

leaves_on : (records older : List UndoRecord) (r : UndoRecord) (place count : ℕ) (left next : Span) → left.from < left.to → (r.first ≤ left.from) ⊎ (left.to ≤ r.first + length r.old) → Leaves records (r ∷ older) place count left → Fronts r.first (r.first + length r.old) left.from next.from → Lasts r.first (r.first + length r.old) left.to next.to → Leaves records older place count next
leaves_on records older r place count left next some reaches h front last = record {
  later = omega (arith, h.later, front_grows front);
  sooner = omega (arith, h.sooner, end_falls last);
  beside = λ q low high out. at q low high out (grind arith);
  same = λ q low high. let a : left.from ≤ q = omega (arith, front_grows front) in let b : q < left.to = omega (arith, end_falls last) in h.same q a b ∙ covered_else r older q (off q a b low high reaches front last);
}
  where
    end : ℕ
    end = r.first + length r.old

    front_grows : Fronts r.first end left.from next.from → left.from ≤ next.from
    front_grows (inl i) = omega (arith, i.1, i.2)
    front_grows (inr o) = omega (arith, o.1)

    end_falls : Lasts r.first end left.to next.to → next.to ≤ left.to
    end_falls (inl i) = omega (arith, i.0, i.2)
    end_falls (inr o) = omega (arith, o.1)

    off : (q : ℕ) → left.from ≤ q → q < left.to → next.from ≤ q → q < next.to → (r.first ≤ left.from) ⊎ (left.to ≤ end) → Fronts r.first end left.from next.from → Lasts r.first end left.to next.to → (q < r.first) ⊎ (end ≤ q)
    off q a b low high (inl c) (inl i) l = inr (omega (arith, i.2))
    off q a b low high (inl c) (inr (inl o, e)) l = absurd (omega arith)
    off q a b low high (inl c) (inr (inr o, e)) l = inr (omega arith)
    off q a b low high (inr c) f (inl i) = inl (omega (arith, i.2))
    off q a b low high (inr c) f (inr (inl o, e)) = inl (omega arith)
    off q a b low high (inr c) f (inr (inr o, e)) = absurd (omega arith)

    before : (q : ℕ) → left.from ≤ q → q < left.to → q < next.from → Fronts r.first end left.from next.from → is_covered records q ≡ true
    before q low high out (inl i) = h.same q low high ∙ covered_by r older q (omega (arith, i.0), omega (arith, i.2))
    before q low high out (inr o) = absurd (omega (arith, o.1))

    behind : (q : ℕ) → left.from ≤ q → q < left.to → next.to ≤ q → Lasts r.first end left.to next.to → is_covered records q ≡ true
    behind q low high out (inl i) = h.same q low high ∙ covered_by r older q (omega (arith, i.2), omega (arith, i.1))
    behind q low high out (inr o) = absurd (omega (arith, o.1))

    between : (q : ℕ) → left.from ≤ q → q < left.to → (q < next.from) ⊎ (next.to ≤ q) → is_covered records q ≡ true
    between q low high (inl out) = before q low high out front
    between q low high (inr out) = behind q low high out last

    at : (q : ℕ) → place ≤ q → q < place + count → (q < next.from) ⊎ (next.to ≤ q) → ((q < left.from) ⊎ (left.to ≤ q)) ⊎ ((left.from ≤ q) × (q < left.to)) → is_covered records q ≡ true
    at q low high out (inl seen) = h.beside q low high seen
    at q low high out (inr new) = between q new.0 new.1 out

-- by what was read of the newest of the rest
pub leaves_by : (records older : List UndoRecord) (r : UndoRecord) (place count : ℕ) (left next : Span) (first n : ℕ) → first ≡ r.first → n ≡ length r.old → left.from < left.to → (first ≤ left.from) ⊎ (left.to ≤ first + n) → Leaves records (r ∷ older) place count left → (first ≤ left.from → left.from < first + n → next.from ≡ first + n) → ((left.from < first) ⊎ (first + n ≤ left.from) → next.from ≡ left.from) → (first < left.to → left.to ≤ first + n → next.to ≡ first) → ((left.to ≤ first) ⊎ (first + n < left.to) → next.to ≡ left.to) → Leaves records older place count next
leaves_by records older r place count left next first n same long some reaches h front_in front_out last_in last_out = leaves_on records older r place count left next some (reach reaches) h (front (grind arith)) (last (grind arith))
  where
    reach : (first ≤ left.from) ⊎ (left.to ≤ first + n) → (r.first ≤ left.from) ⊎ (left.to ≤ r.first + length r.old)
    reach (inl a) = inl (omega arith)
    reach (inr a) = inr (omega arith)

    front : ((first ≤ left.from) × (left.from < first + n)) ⊎ ((left.from < first) ⊎ (first + n ≤ left.from)) → Fronts r.first (r.first + length r.old) left.from next.from
    front (inl i) = inl (omega (arith, i.0), omega (arith, i.1), omega (arith, front_in i.0 i.1))
    front (inr (inl o)) = inr (inl (omega arith), front_out (inl o))
    front (inr (inr o)) = inr (inr (omega arith), front_out (inr o))

    last : ((first < left.to) × (left.to ≤ first + n)) ⊎ ((left.to ≤ first) ⊎ (first + n < left.to)) → Lasts r.first (r.first + length r.old) left.to next.to
    last (inl i) = inl (omega (arith, i.0), omega (arith, i.1), omega (arith, last_in i.0 i.1))
    last (inr (inl o)) = inr (inl (omega arith), last_out (inl o))
    last (inr (inr o)) = inr (inr (omega arith), last_out (inr o))

-- no record is to be looked at any more
pub leaves_end : (records rest : List UndoRecord) (place count : ℕ) (left : Span) → rest ≡ [] → Leaves records rest place count left → MatchBool (nat_le left.to left.from) (CoversAll records place count) (CoversAll records place count → ⊥)
leaves_end records rest place count left none h = by (nat_le left.to left.from) refl
  where
    by : (b : Bool) → b ≡ nat_le left.to left.from → MatchBool b (CoversAll records place count) (CoversAll records place count → ⊥)
    by true e = let gone : left.to ≤ left.from = grind (arith, nat_tests) in λ q low high. h.beside q low high (grind arith)
    by false e = let some : left.from < left.to = grind (arith, nat_tests) in λ all. true_false (sym (all left.from h.later (omega (arith, h.sooner))) ∙ h.same left.from (omega arith) some ∙ ap (λ (xs : List UndoRecord). is_covered xs left.from) none)

-- no record was looked at yet
pub leaves_all : (records : List UndoRecord) (place count : ℕ) → Leaves records records place count (record { from = place; to = place + count })
leaves_all records place count = record {
  later = le_refl place;
  sooner = le_refl (place + count);
  beside = λ q low high out. absurd (grind (arith, out));
  same = λ q low high. refl;
}

-- no place is left
pub leaves_none : (records rest : List UndoRecord) (place count : ℕ) (left : Span) → left.to ≤ left.from → Leaves records rest place count left → CoversAll records place count
leaves_none records rest place count left gone h q low high = h.beside q low high (grind arith)

-- the newest of the rest was read, at a state of the same words, and lies between the ends of what is left
pub leaves_await : (f m g : RegionContent) (head place count : ℕ) (rest : List UndoRecord) (v : SavedAt) (left : Span) → m ≡ f → g ≡ m → NewestFits m head rest v → Leaves (undo_records f) rest place count left → Awaits g v left
leaves_await f m g head place count rest v left as_old as_read w h = subst (λ x. Awaits x v left) (sym as_read) (record {
  newest = w.newest;
  rest = w.rest;
  first = w.first;
  count = w.count;
  within = w.within;
  chain = w.chain;
  same = λ q low high. ap (λ x. is_covered (undo_records x) q) as_old ∙ h.same q low high ∙ ap (λ (xs : List UndoRecord). is_covered xs q) w.is;
})

-- whether what is left is covered says whether all is
pub leaves_told : (f g : RegionContent) (rest : List UndoRecord) (place count : ℕ) (left : Span) (r : Result Bool VolFail) → g ≡ f → left.from < left.to → Leaves (undo_records f) rest place count left → IfOk r (λ b. MatchBool b (CoversAll (undo_records g) left.from (left.to - left.from)) (CoversAll (undo_records g) left.from (left.to - left.from) → ⊥)) → IfOk r (λ b. MatchBool b (CoversAll (undo_records f) place count) (CoversAll (undo_records f) place count → ⊥))
leaves_told f g rest place count left r same some h told = IfOk-weaker r _ _ by (subst (λ x. IfOk r (λ b. MatchBool b (CoversAll (undo_records x) left.from (left.to - left.from)) (CoversAll (undo_records x) left.from (left.to - left.from) → ⊥))) same told)
  where
    by : (b : Bool) → MatchBool b (CoversAll (undo_records f) left.from (left.to - left.from)) (CoversAll (undo_records f) left.from (left.to - left.from) → ⊥) → MatchBool b (CoversAll (undo_records f) place count) (CoversAll (undo_records f) place count → ⊥)
    by true all = λ q low high. at q low high (grind arith)
      where
        at : (q : ℕ) → place ≤ q → q < place + count → ((left.from ≤ q) × (q < left.to)) ⊎ ((q < left.from) ⊎ (left.to ≤ q)) → is_covered (undo_records f) q ≡ true
        at q low high (inl i) = all q i.0 (omega (arith, some, i.1))
        at q low high (inr o) = h.beside q low high o
    by false none = λ all. none (λ q low high. all q (omega (arith, h.later)) (omega (arith, h.sooner, some)))

-- ---- what is told of spans of places, at a state of the same words

pub told_at : (f g : RegionContent) (place count : ℕ) (r : Result Bool VolFail) → g ≡ f → IfOk r (λ b. MatchBool b (CoversAll (undo_records g) place count) (CoversAll (undo_records g) place count → ⊥)) → IfOk r (λ b. MatchBool b (CoversAll (undo_records f) place count) (CoversAll (undo_records f) place count → ⊥))
told_at f g place count r same told = subst (λ x. IfOk r (λ b. MatchBool b (CoversAll (undo_records x) place count) (CoversAll (undo_records x) place count → ⊥))) same told

answer : (f m : RegionContent) (place count : ℕ) (b c : Bool) → m ≡ f → b ≡ c → MatchBool b (CoversAll (undo_records m) place count) (CoversAll (undo_records m) place count → ⊥) → MatchBool c (CoversAll (undo_records f) place count) (CoversAll (undo_records f) place count → ⊥)
answer f m place count b c same is told = subst (λ x. MatchBool c (CoversAll (undo_records x) place count) (CoversAll (undo_records x) place count → ⊥)) same (subst (λ x. MatchBool x (CoversAll (undo_records m) place count) (CoversAll (undo_records m) place count → ⊥)) is told)

-- a span behind those that are covered is covered too
pub covers_front : (f m : RegionContent) (place done next : ℕ) (b : Bool) → m ≡ f → b ≡ true → CoversAll (undo_records f) place done → MatchBool b (CoversAll (undo_records m) (place + done) next) (CoversAll (undo_records m) (place + done) next → ⊥) → CoversAll (undo_records f) place (done + next)
covers_front f m place done next b same is front told q low high = at (grind arith)
  where
    at : (q < place + done) ⊎ (place + done ≤ q) → is_covered (undo_records f) q ≡ true
    at (inl before) = front q low before
    at (inr behind) = answer f m (place + done) next b true same is told q behind (omega arith)

-- a span of them is not
pub covers_hole : (f m : RegionContent) (place count done next : ℕ) (b : Bool) → m ≡ f → b ≡ false → done + next ≤ count → MatchBool b (CoversAll (undo_records m) (place + done) next) (CoversAll (undo_records m) (place + done) next → ⊥) → CoversAll (undo_records f) place count → ⊥
covers_hole f m place count done next b same is within told all = answer f m (place + done) next b false same is told (λ q low high. all q (omega arith) (omega (arith, within)))
