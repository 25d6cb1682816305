-- The words of an entry behind its tag, stored as one run, and then its tag.
use Rattle.std.specs.Prelude.{◌≡◌, ℕ, ◌+◌, ◌-◌, ◌*◌, ◌/◌, ◌%◌, ◌<◌, ◌≤◌, ◌⊎◌, true, List, [], ◌∷◌, length, slice_index, slice_set, refl, Result, Ok, Err, IsErr, OnErr, OnOk}
use Rattle.std.proofs.Common.{◌∙◌, arith, ap, sym, subst, inl, inr}
use Rattle.std.proofs.lemmas.Bool.{cases_lt}
use Rattle.std.proofs.lemmas.List.{ext_get_or}
use Rattle.rio_base.specs.Image.{entry_at}
use Rattle.rio_base.specs.Machine.{Advances, Contents, Lasts, Running, StepEnds}
use Rattle.rio_base.specs.Memory.{FrontStored}
use Rattle.rio_base.proofs.WordRuns.{front_next, front_none}
use Rattle.rio_model.specs.Registry.{tag_at}
use Rattle.registry.specs.Changes.{CanChange, ChangesEntry}
use Rattle.registry.specs.Entries.{entry_of, with_entry, with_name, with_word}
use Rattle.registry.specs.declared.entry.Entry.{Entry}
use Rattle.registry.proofs.Changes.{changed, entry_equal}

-- the words of an entry behind its tag
abbrev pub behind_tag : Entry → List ℕ
behind_tag e = e.file ∷ e.index ∷ e.size ∷ e.shadow ∷ []

-- ---- where the run lies

-- it is on one page
pub run_on_page : (k : ℕ) → (entry_at k + 1) % 512 + 4 ≤ 512
unfolding entry_at
run_on_page k = omega arith

-- its first word by its page and its place there
pub run_place : (place k : ℕ) → place ≡ entry_at k → 512 * ((place + 1) / 512) + (place + 1) % 512 ≡ entry_at k + 1
run_place place k here = omega (arith, here)

-- ---- the words after the run

-- two lists that both have the run are one
same_run : (at n : ℕ) (from old a b : List ℕ) → FrontStored at n from old a → FrontStored at n from old b → a ≡ b
same_run at n from old a b h i = ext_get_or 0 a b (h.count ∙ sym i.count) (λ j less. each j (cases_lt j at) (cases_lt j (at + n)))
  where
    each : (j : ℕ) → (j < at) ⊎ (at ≤ j) → (j < at + n) ⊎ (at + n ≤ j) → slice_index a j ≡ slice_index b j
    each j (inl lower) end = h.below j lower ∙ sym (i.below j lower)
    each j (inr from_here) (inl before) =
        let less : j - at < n = omega (arith, from_here, before) in
        let place : at + (j - at) ≡ j = omega (arith, from_here) in
        subst (λ (p : ℕ). slice_index a p ≡ slice_index b p) place (h.front (j - at) less ∙ sym (i.front (j - at) less))
    each j (inr from_here) (inr past) = h.above j past ∙ sym (i.above j past)

-- the next word of the run, by the place where it is stored
next_stored : (at n place v : ℕ) (from old mid : List ℕ) → place ≡ at + n → at + n < length old → v ≡ slice_index from n → FrontStored at n from old mid → FrontStored at (n + 1) from old (slice_set mid place v)
next_stored at n place v from old mid here room value h = subst (λ (p : ℕ). FrontStored at (n + 1) from old (slice_set mid p v)) (sym here) (front_next at n v from old mid room value h)

-- the same run, stored word by word
one_by_one : (k : ℕ) (e : Entry) (old : List ℕ) → entry_at k + 5 ≤ length old → FrontStored (entry_at k + 1) 4 (behind_tag e) old (slice_set (with_name old k e) (entry_at k + 4) e.shadow)
one_by_one k e old room =
    next_stored (entry_at k + 1) 3 (entry_at k + 4) e.shadow (behind_tag e) old _ (omega arith) (omega (arith, room)) refl
    (next_stored (entry_at k + 1) 2 (entry_at k + 3) e.size (behind_tag e) old _ (omega arith) (omega (arith, room)) refl
    (next_stored (entry_at k + 1) 1 (entry_at k + 2) e.index (behind_tag e) old _ (omega arith) (omega (arith, room)) refl
    (next_stored (entry_at k + 1) 0 (entry_at k + 1) e.file (behind_tag e) old old (omega arith) (omega (arith, room)) refl
    (front_none (entry_at k + 1) (behind_tag e) old))))

-- the run by the entry's place
placed : (k at : ℕ) (e : Entry) (old new : List ℕ) → at ≡ entry_at k + 1 → FrontStored at 4 (behind_tag e) old new → FrontStored (entry_at k + 1) 4 (behind_tag e) old new
placed k at e old new here h = subst (λ (p : ℕ). FrontStored p 4 (behind_tag e) old new) here h

pub run_stored : (old new : Contents) (k at : ℕ) (e : Entry) → entry_at k + 5 ≤ length old.words → at ≡ entry_at k + 1 → new ≡ record old { words = new.words } → FrontStored at 4 (behind_tag e) old.words new.words
    → new ≡ record old { words = slice_set (with_name old.words k e) (entry_at k + 4) e.shadow }
run_stored old new k at e room here rest h =
    rest ∙ ap (λ (l : List ℕ). record old { words = l }) (same_run (entry_at k + 1) 4 (behind_tag e) old.words _ _ (placed k at e old.words new.words here h) (one_by_one k e old.words room))

-- ---- the entry after the run

run_word : (at n i place : ℕ) (from old new : List ℕ) → FrontStored at n from old new → i < n → place ≡ at + i → slice_index new place ≡ slice_index from i
run_word at n i place from old new h less here = ap (λ (p : ℕ). slice_index new p) here ∙ h.front i less

run_filled : (k : ℕ) (e : Entry) (old new : List ℕ) → FrontStored (entry_at k + 1) 4 (behind_tag e) old new → entry_of new k ≡ record e { tag = tag_at old k }
run_filled k e old new h = entry_equal _ _ _ _ _ _ _ _ _ _
    (h.below (entry_at k) (omega arith))
    (run_word (entry_at k + 1) 4 0 (entry_at k + 1) (behind_tag e) old new h (omega arith) (omega arith))
    (run_word (entry_at k + 1) 4 1 (entry_at k + 2) (behind_tag e) old new h (omega arith) (omega arith))
    (run_word (entry_at k + 1) 4 2 (entry_at k + 3) (behind_tag e) old new h (omega arith) (omega arith))
    (run_word (entry_at k + 1) 4 3 (entry_at k + 4) (behind_tag e) old new h (omega arith) (omega arith))

pub run_entry : (k at : ℕ) (e : Entry) (old new : List ℕ) → at ≡ entry_at k + 1 → FrontStored at 4 (behind_tag e) old new → entry_of new k ≡ record e { tag = tag_at old k }
run_entry k at e old new here h = run_filled k e old new (placed k at e old new here h)

-- a front of the run leaves the tag
pub run_begun : (k at : ℕ) (from : List ℕ) (old new : Contents) (old_run new_run : Running) → at ≡ entry_at k + 1 → (n : ℕ) × (n < length from) × FrontStored at n from old.words new.words × Advances n old_run new_run → tag_at new.words k ≡ tag_at old.words k
run_begun k at from old new old_run new_run here front = front.2.below (entry_at k) (omega (arith, here))

-- ---- what the run changes

run_changes : (k n at : ℕ) (from : List ℕ) (old new : Contents) (old_run new_run : Running) (stop : Type 0) → CanChange k old old_run → at ≡ entry_at k + 1 → n ≤ 4 → new ≡ record old { words = new.words } → FrontStored at n from old.words new.words → Lasts old new
    → (old_run.stopped ≡ true → stop) → StepEnds old_run new_run stop → ChangesEntry k old new old_run new_run stop
run_changes k n at from old new old_run new_run stop can here few rest h lasts halted ends =
    changed k old new old_run new_run stop can rest
    (record { count = h.count; before = λ i less. h.below i (omega (arith, less, here)); behind = λ i more. h.above i (omega (arith, more, here, few)) })
    lasts halted ends

pub run_changed : {T E : Type 0} (r : Result T E) (k at : ℕ) (e : Entry) (old new : Contents) (old_run new_run : Running) → CanChange k old old_run → at ≡ entry_at k + 1 → new ≡ record old { words = new.words }
    → OnOk r (FrontStored at 4 (behind_tag e) old.words new.words) → OnErr r ((n : ℕ) × (n < 4) × FrontStored at n (behind_tag e) old.words new.words × Advances n old_run new_run) → Lasts old new
    → (old_run.stopped ≡ true → 0 < 4 → IsErr r) → StepEnds old_run new_run (IsErr r) → ChangesEntry k old new old_run new_run (IsErr r)
run_changed (Ok x) k at e old new old_run new_run can here rest stored front lasts halted ends =
    run_changes k 4 at (behind_tag e) old new old_run new_run _ can here (omega arith) rest stored lasts (λ s. halted s (omega arith)) ends
run_changed (Err d) k at e old new old_run new_run can here rest stored front lasts halted ends =
    run_changes k front.0 at (behind_tag e) old new old_run new_run _ can here (omega (arith, front.1)) rest front.2 lasts (λ s. refl) ends

-- ---- the tag behind the run

pub all_stored : (k : ℕ) (e : Entry) (a b c : Contents) → b ≡ record a { words = slice_set (with_name a.words k e) (entry_at k + 4) e.shadow } → c ≡ record b { words = slice_set b.words (entry_at k + 0) e.tag } → c ≡ record a { words = with_entry a.words k e }
all_stored k e a b c run tag = tag
    ∙ ap (λ (n : ℕ). record b { words = slice_set b.words n e.tag }) (omega arith)
    ∙ ap (λ (m : Contents). record m { words = slice_set m.words (entry_at k) e.tag }) run

pub entry_filled : (k t : ℕ) (e : Entry) (b c : List ℕ) → entry_of b k ≡ record e { tag = t } → entry_of c k ≡ with_word (entry_of b k) 0 e.tag → entry_of c k ≡ e
entry_filled k t e b c run tag = tag ∙ ap (λ (x : Entry). with_word x 0 e.tag) run
