-- Changes of one entry, one after the other.
use Rattle.std.specs.Prelude.{◌≡◌, ◌≢◌, ℕ, ◌+◌, ◌*◌, ◌<◌, ◌≤◌, ◌==◌, ◌⊎◌, if◌then◌else◌, Bool, true, List, length, slice_index, slice_set, refl, Result, Ok, Err, IsErr, OnErr, OnOk}
use Rattle.std.proofs.Common.{◌∙◌, arith, ap, sym, subst, inl, inr, eq-eqb, ne_eqb, get_or-set_same, get_or-set_other}
use Rattle.std.proofs.lemmas.Bool.{cases_eq}
use Rattle.rio_base.specs.Image.{entry_at, registry_pages}
use Rattle.rio_base.specs.Machine.{Contents, Lasts, Running, StepEnds}
use Rattle.rio_base.proofs.MachineRules.{ends_after, lasts_trans}
use Rattle.rio_model.specs.Registry.{HasLayout, OneEntry, frames_of, tag_at}
use Rattle.registry.specs.Changes.{CanChange, ChangesEntry}
use Rattle.registry.specs.Entries.{entry_of, with_entry, with_word}
use Rattle.registry.specs.declared.entry.Entry.{Entry}
use Rattle.registry.proofs.Places.{behind_header, one_word}

-- an entry by its words
abbrev pub entry_by : ℕ → ℕ → ℕ → ℕ → ℕ → Entry
entry_by t f i s h = record { tag = t; file = f; index = i; size = s; shadow = h }

one_entry_trans : (k : ℕ) (a b c : List ℕ) → OneEntry k a b → OneEntry k b c → OneEntry k a c
one_entry_trans k a b c h i = record {
  count = i.count ∙ h.count;
  before = λ j less. i.before j less ∙ h.before j less;
  behind = λ j more. i.behind j more ∙ h.behind j more;
}

-- the sizes are those in the header, which no entry reaches
layout_kept : (k : ℕ) (old new scratch scratch_now : List ℕ) → HasLayout old scratch → OneEntry k old new → length scratch_now ≡ length scratch → HasLayout new scratch_now
layout_kept k old new scratch scratch_now layout one same = record {
  sizes = rw (one.before 2 two, one.before 3 three) layout.sizes;
  protected = one.count ∙ layout.protected ∙ ap (λ f. 512 * (17 + registry_pages f + f)) (sym (one.before 2 two));
  scratch_pages = same ∙ layout.scratch_pages ∙ ap (λ c. 512 * c) (sym (one.before 3 three));
}
  where
    two : 2 < entry_at k
    two = omega (arith, behind_header k)

    three : 3 < entry_at k
    three = omega (arith, behind_header k)

frames_kept : (k : ℕ) (old new : List ℕ) → OneEntry k old new → frames_of new ≡ frames_of old
frames_kept k old new one = one.before 2 (omega (arith, behind_header k))

-- a change of entry k, by what it did to the words
pub changed : (k : ℕ) (old new : Contents) (old_run new_run : Running) (stop : Type 0) → CanChange k old old_run → new ≡ record old { words = new.words } → OneEntry k old.words new.words → Lasts old new
    → (old_run.stopped ≡ true → stop) → StepEnds old_run new_run stop → ChangesEntry k old new old_run new_run stop
changed k old new old_run new_run stop can rest one lasts halted ends = record {
  rest = rest;
  one_entry = one;
  layout = layout_kept k old.words new.words old_run.scratch new_run.scratch can.layout one ends.steps.scratch_count;
  frames = frames_kept k old.words new.words one;
  closed = ap (λ (c : Contents). c.open_page) rest ∙ can.closed;
  lasts = lasts;
  halted = halted;
  ends = ends;
}

-- a store of word w of entry k is a change of it
changed_word : (k w v at : ℕ) (old new : Contents) (old_run new_run : Running) (stop : Type 0) → CanChange k old old_run → w < 5 → at ≡ entry_at k + w → new ≡ record old { words = slice_set old.words at v } → Lasts old new
    → (old_run.stopped ≡ true → stop) → StepEnds old_run new_run stop → ChangesEntry k old new old_run new_run stop
changed_word k w v at old new old_run new_run stop can small place stored lasts halted ends =
    changed k old new old_run new_run stop can
    (stored ∙ ap (λ (l : List ℕ). record old { words = l }) (sym (ap (λ (c : Contents). c.words) stored)))
    (rw (ap (λ (c : Contents). c.words) stored, place) (one_word old.words k w v small))
    lasts halted ends

-- what could be changed can be changed after a change
pub can_still : (j k : ℕ) (old new : Contents) (old_run new_run : Running) (stop : Type 0) → CanChange j old old_run → ChangesEntry k old new old_run new_run stop → CanChange j new new_run
can_still j k old new old_run new_run stop can h = record { layout = h.layout; closed = h.closed; entry = subst (λ f. j < f) (sym h.frames) can.entry }

-- a change that answered Ok, and then another of the same entry
pub changes_then : (k : ℕ) (a b c : Contents) (r s t : Running) (none stop : Type 0) → (none → ⊥) → ChangesEntry k a b r s none → ChangesEntry k b c s t stop → ChangesEntry k a c r t stop
changes_then k a b c r s t none stop n h l = record {
  rest = l.rest ∙ ap (λ (x : Contents). record x { words = c.words }) h.rest;
  one_entry = one_entry_trans k a.words b.words c.words h.one_entry l.one_entry;
  layout = l.layout;
  frames = l.frames ∙ h.frames;
  closed = l.closed;
  lasts = lasts_trans a b c h.lasts l.lasts;
  halted = λ e. absurd (n (h.halted e));
  ends = ends_after r s t stop h.ends.steps (h.ends.runs n) l.ends;
}

-- a change that did not answer Ok, told by another answer
pub changes_told : (k : ℕ) (a b : Contents) (r s : Running) (stop told : Type 0) → stop → told → ChangesEntry k a b r s stop → ChangesEntry k a b r s told
changes_told k a b r s stop told is tells h = record {
  rest = h.rest;
  one_entry = h.one_entry;
  layout = h.layout;
  frames = h.frames;
  closed = h.closed;
  lasts = h.lasts;
  halted = λ e. tells;
  ends = record { steps = h.ends.steps; told = λ t. h.ends.told is; runs = λ n. absurd (n tells) };
}

one_same : (k : ℕ) (old new : List ℕ) → new ≡ old → OneEntry k old new
one_same k old new e = record {
  count = ap (λ (l : List ℕ). length l) e;
  before = λ i less. ap (λ (l : List ℕ). slice_index l i) e;
  behind = λ i more. ap (λ (l : List ℕ). slice_index l i) e;
}

-- a store that was not made
unchanged : (k : ℕ) (old new : Contents) (old_run new_run : Running) (stop : Type 0) → CanChange k old old_run → new ≡ old → Lasts old new → stop → StepEnds old_run new_run stop → ChangesEntry k old new old_run new_run stop
unchanged k old new old_run new_run stop can same lasts is ends =
    changed k old new old_run new_run stop can
    (same ∙ ap (λ (l : List ℕ). record old { words = l }) (sym (ap (λ (c : Contents). c.words) same)))
    (one_same k old.words new.words (ap (λ (c : Contents). c.words) same))
    lasts (λ e. is) ends

-- a store that may not have been made
pub changed_by : {T E : Type 0} (r : Result T E) (k w v at : ℕ) (old new : Contents) (old_run new_run : Running) → CanChange k old old_run → w < 5 → at ≡ entry_at k + w → OnOk r (new ≡ record old { words = slice_set old.words at v }) → OnErr r (new ≡ old) → Lasts old new
    → (old_run.stopped ≡ true → IsErr r) → StepEnds old_run new_run (IsErr r) → ChangesEntry k old new old_run new_run (IsErr r)
changed_by (Ok x) k w v at old new old_run new_run can small place stored same lasts halted ends = changed_word k w v at old new old_run new_run _ can small place stored lasts halted ends
changed_by (Err e) k w v at old new old_run new_run can small place stored same lasts halted ends = unchanged k old new old_run new_run _ can same lasts refl ends

-- ---- the words after a store

pub word_stored : (old new : Contents) (k w v at : ℕ) → at ≡ entry_at k + w → new ≡ record old { words = slice_set old.words at v } → new ≡ record old { words = slice_set old.words (entry_at k + w) v }
word_stored old new k w v at place stored = stored ∙ ap (λ n. record old { words = slice_set old.words n v }) place

-- the same, with the word that is stored told otherwise
pub value_stored : (old new : Contents) (at v u : ℕ) → v ≡ u → new ≡ record old { words = slice_set old.words at v } → new ≡ record old { words = slice_set old.words at u }
value_stored old new at v u same stored = stored ∙ ap (λ n. record old { words = slice_set old.words at n }) same

pub tag_stored : (old new : Contents) (k v u : ℕ) → v ≡ u → new ≡ record old { words = slice_set old.words (entry_at k + 0) v } → new ≡ record old { words = slice_set old.words (entry_at k) u }
tag_stored old new k v u same stored = value_stored old new (entry_at k + 0) v u same stored ∙ ap (λ n. record old { words = slice_set old.words n u }) (omega arith)

pub entry_put : (old new : Contents) (k : ℕ) (e f : Entry) → e ≡ f → new ≡ record old { words = with_entry old.words k e } → new ≡ record old { words = with_entry old.words k f }
entry_put old new k e f same stored = stored ∙ ap (λ (x : Entry). record old { words = with_entry old.words k x }) same

-- where the last store was not made, the tag is as it was
pub tag_kept : (k t : ℕ) (old new : Contents) → tag_at old.words k ≡ t → new ≡ old → tag_at new.words k ≡ t
tag_kept k t old new was same = ap (λ (c : Contents). tag_at c.words k) same ∙ was

-- ---- the entry after a store

word_with : (words : List ℕ) (p w i v : ℕ) → p + 5 ≤ length words → i < 5 → (w ≡ i) ⊎ (w ≢ i) → slice_index (slice_set words (p + w) v) (p + i) ≡ (if w == i then v else slice_index words (p + i))
word_with words p w i v room small (inl e) = subst (λ (n : ℕ). slice_index (slice_set words (p + n) v) (p + i) ≡ (if n == i then v else slice_index words (p + i))) (sym e)
    (get_or-set_same words (p + i) v 0 (omega (arith, room, small)) ∙ ap (λ (b : Bool). if b then v else slice_index words (p + i)) (sym (eq-eqb i i refl)))
word_with words p w i v room small (inr n) = get_or-set_other words (p + w) (p + i) v 0 (omega (arith, n)) ∙ ap (λ (b : Bool). if b then v else slice_index words (p + i)) (sym (ne_eqb w i n))

first_with : (words : List ℕ) (p w v : ℕ) → p + 5 ≤ length words → slice_index (slice_set words (p + w) v) p ≡ (if w == 0 then v else slice_index words p)
first_with words p w v room = subst (λ (n : ℕ). slice_index (slice_set words (p + w) v) n ≡ (if w == 0 then v else slice_index words n)) (omega arith) (word_with words p w 0 v room (omega arith) (cases_eq w 0))

pub entry_equal : (t f i s h t2 f2 i2 s2 h2 : ℕ) → t ≡ t2 → f ≡ f2 → i ≡ i2 → s ≡ s2 → h ≡ h2 → entry_by t f i s h ≡ entry_by t2 f2 i2 s2 h2
entry_equal t f i s h t2 f2 i2 s2 h2 a b c d e = rw (a, b, c, d, e) refl

pub entry_with : (words : List ℕ) (k w v : ℕ) → entry_at k + 5 ≤ length words → entry_of (slice_set words (entry_at k + w) v) k ≡ with_word (entry_of words k) w v
entry_with words k w v room =
    entry_equal _ _ _ _ _ _ _ _ _ _
    (first_with words (entry_at k) w v room)
    (word_with words (entry_at k) w 1 v room (omega arith) (cases_eq w 1))
    (word_with words (entry_at k) w 2 v room (omega arith) (cases_eq w 2))
    (word_with words (entry_at k) w 3 v room (omega arith) (cases_eq w 3))
    (word_with words (entry_at k) w 4 v room (omega arith) (cases_eq w 4))

pub entry_stored : (old new : Contents) (k w v at : ℕ) → at ≡ entry_at k + w → entry_at k + 5 ≤ length old.words → new ≡ record old { words = slice_set old.words at v } → entry_of new.words k ≡ with_word (entry_of old.words k) w v
entry_stored old new k w v at place room stored = ap (λ (c : Contents). entry_of c.words k) (word_stored old new k w v at place stored) ∙ entry_with old.words k w v room

-- an entry read word by word
pub entry_read : (words : List ℕ) (k place t f i s h : ℕ) → place ≡ entry_at k → t ≡ slice_index words place → f ≡ slice_index words (place + 1) → i ≡ slice_index words (place + 2) → s ≡ slice_index words (place + 3) → h ≡ slice_index words (place + 4) → entry_by t f i s h ≡ entry_of words k
entry_read words k place t f i s h at a b c d e = entry_equal _ _ _ _ _ _ _ _ _ _
    (a ∙ ap (slice_index words) at) (b ∙ ap (λ p. slice_index words (p + 1)) at) (c ∙ ap (λ p. slice_index words (p + 2)) at) (d ∙ ap (λ p. slice_index words (p + 3)) at) (e ∙ ap (λ p. slice_index words (p + 4)) at)

pub word_told : (e x : Entry) (w v u : ℕ) → v ≡ u → x ≡ with_word e w v → x ≡ with_word e w u
word_told e x w v u same is = is ∙ ap (with_word e w) same

pub entry_told : (x e f : Entry) → e ≡ f → x ≡ e → x ≡ f
entry_told x e f same is = is ∙ same
