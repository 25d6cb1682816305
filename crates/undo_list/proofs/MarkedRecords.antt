-- What marks tell of the places of a span while records are followed.
use Rattle.std.proofs.Common.{◌≡◌, ℕ, ◌+◌, ◌-◌, ◌<◌, ◌≤◌, ◌⊎◌, inl, inr, true, List, [], ◌∷◌, length, sym, ap, subst, ◌∙◌, arith}
use Rattle.rio_base.specs.Rules.{true_false}
use Rattle.rio_base.specs.Regions.{RegionContent}
use Rattle.rio_model.specs.Undo.{UndoRecord, CoversAll, is_covered, places}
use Rattle.rio_model.proofs.UndoRules.{covered_by, covered_else}
use Rattle.undo_list.specs.declared.covering.Span.{Span}
use Rattle.undo_list.specs.declared.records.SavedAt.{SavedAt}
use Rattle.undo_list.specs.Records.{IsChain, MarksRecord}
use Rattle.undo_list.specs.Bits.{IsUnmarkedFrom, mark_of}
use Rattle.undo_list.proofs.Chains.{NewestFits}
use Rattle.undo_list.proofs.MarkRuns.{mark_either}

-- places that are marked are covered, as these records tell. Of the others the rest of them tell
pub record Marked (records rest : List UndoRecord) (span : Span) (marks : List ℕ) : Type 0 where
  pub told : (q : ℕ) → span.from ≤ q → q < span.to → mark_of marks (q - span.from) ≡ 1 → is_covered records q ≡ true
  pub same : (q : ℕ) → span.from ≤ q → q < span.to → mark_of marks (q - span.from) ≡ 0 → is_covered records q ≡ is_covered rest q

-- a record was read and is to be marked, and the first places of the span are covered
pub record Marking (f : RegionContent) (records : List UndoRecord) (v : SavedAt) (span : Span) (marks : List ℕ) (done : ℕ) : Type 0 where
  pub newest : UndoRecord
  pub rest : List UndoRecord
  pub first : v.first ≡ newest.first
  pub count : v.count ≡ length newest.old
  pub within : v.first + v.count ≤ places f
  pub chain : IsChain f v.older rest
  pub marked : Marked records (newest ∷ rest) span marks
  pub passed : CoversAll records span.from done
  pub short : done ≤ span.to - span.from

-- the places that a record has are marked
pub marked_more : (records rest : List UndoRecord) (r : UndoRecord) (span : Span) (marks new : List ℕ) (first count : ℕ) → first ≡ r.first → count ≡ length r.old → Marked records (r ∷ rest) span marks → MarksRecord marks new first count span → Marked records rest span new
marked_more records rest r span marks new first count at long h m = record {
  told = λ q low high one. told q low high one (grind arith);
  same = λ q low high none. same q low high none (grind arith);
}
  where
    inside : (q : ℕ) → span.from ≤ q → q < span.to → first ≤ q → q < first + count → (mark_of marks (q - span.from) ≡ 0) ⊎ (mark_of marks (q - span.from) ≡ 1) → is_covered records q ≡ true
    inside q low high a b (inl none) = h.same q low high none ∙ covered_by r rest q (omega arith, omega arith)
    inside q low high a b (inr one) = h.told q low high one

    told : (q : ℕ) → span.from ≤ q → q < span.to → mark_of new (q - span.from) ≡ 1 → ((first ≤ q) × (q < first + count)) ⊎ ((q < first) ⊎ (first + count ≤ q)) → is_covered records q ≡ true
    told q low high one (inl i) = inside q low high i.0 i.1 (mark_either marks (q - span.from))
    told q low high one (inr o) = h.told q low high (sym (m.outside q low high o) ∙ one)

    off : (q : ℕ) → (q < first) ⊎ (first + count ≤ q) → (q < r.first) ⊎ (r.first + length r.old ≤ q)
    off q (inl o) = inl (omega arith)
    off q (inr o) = inr (omega arith)

    same : (q : ℕ) → span.from ≤ q → q < span.to → mark_of new (q - span.from) ≡ 0 → ((first ≤ q) × (q < first + count)) ⊎ ((q < first) ⊎ (first + count ≤ q)) → is_covered records q ≡ is_covered rest q
    same q low high none (inl i) = absurd (omega (arith, none, m.inside q low high i.0 i.1))
    same q low high none (inr o) = h.same q low high (sym (m.outside q low high o) ∙ none) ∙ covered_else r rest q (off q o)

-- the marked places behind those that were passed over are covered too
pub passed_more : (records rest : List UndoRecord) (span : Span) (marks : List ℕ) (done next : ℕ) → Marked records rest span marks → CoversAll records span.from done → IsUnmarkedFrom marks done (span.to - span.from) next → CoversAll records span.from next
passed_more records rest span marks done next h passed u q low high = by (grind arith)
  where
    by : (q < span.from + done) ⊎ (span.from + done ≤ q) → is_covered records q ≡ true
    by (inl seen) = passed q low seen
    by (inr new) = h.told q low (omega (arith, u.high)) (u.before (q - span.from) (omega arith) (omega arith))

-- a place is not marked, and no record is still to be looked at
pub marked_hole : (records rest : List UndoRecord) (span : Span) (marks : List ℕ) (done next : ℕ) → rest ≡ [] → next < span.to - span.from → Marked records rest span marks → IsUnmarkedFrom marks done (span.to - span.from) next → CoversAll records span.from (span.to - span.from) → ⊥
marked_hole records rest span marks done next none some h u all =
    let at : span.from + next - span.from ≡ next = omega arith in
    true_false (sym (all (span.from + next) (omega arith) (omega arith)) ∙ h.same (span.from + next) (omega arith) (omega arith) (ap (mark_of marks) at ∙ u.here some) ∙ ap (λ (xs : List UndoRecord). is_covered xs (span.from + next)) none)

-- the next record was read
pub marking_next : (f : RegionContent) (records rest : List UndoRecord) (head : ℕ) (v : SavedAt) (span : Span) (marks : List ℕ) (done : ℕ) → NewestFits f head rest v → Marked records rest span marks → CoversAll records span.from done → done ≤ span.to - span.from → Marking f records v span marks done
marking_next f records rest head v span marks done w h passed short = record {
  newest = w.newest;
  rest = w.rest;
  first = w.first;
  count = w.count;
  within = w.within;
  chain = w.chain;
  marked = subst (λ (xs : List UndoRecord). Marked records xs span marks) w.is h;
  passed = passed;
  short = short;
}
