-- The walk that marks clean entries dirty.
use Rattle.page_restore.proofs.Common.{List, false, length, refl, slice_index, true, ℕ, ◌*◌, ◌+◌, ◌<◌, ◌≡◌, ◌≢◌, ◌≤◌, ◌⊎◌, ap, arith, inl, inr, subst, sym, ◌∙◌, cases_eq, block_at, true_false, Contents, Running, None, IsValid, OneEntry, frames_of, is_dirty, is_valid, page_of_entry, tag_at, tag_block, Brings, Endures, IsHome, IsSettled, none_apart}
use Rattle.std.proofs.lemmas.List.{ext_get_or, length-drop, length-take-le}
use Rattle.std.specs.Prelude.{drop}
use Rattle.rio_base.specs.Memory.{page_at}
use Rattle.rio_model.specs.Registry.{with_dirty}
use Rattle.rio_model.proofs.CoverChanges.{page_word_one}
use Rattle.rio_model.proofs.CoverLookups.{frames_one, tag_one}
use Rattle.rio_model.proofs.CoverSteps.{Retagged}
use Rattle.rio_model.proofs.HeldEntries.{held_other, held_same, held_then}
use Rattle.rio_model.proofs.RebootSteps.{brings_held, endures_refl, endures_trans, held_dirtied, now_dirty, page_word}
use Rattle.page_restore.proofs.Steps.{phase_none, phase_ok, phase_then}
use Rattle.page_restore.specs.Phases.{IsMarkedDirty, PhaseEnds}

-- ---- the page and the block

-- the block that was read is the page exactly where the page is at home
pub home_read : (c : Contents) (k p : ℕ) → p ≡ page_of_entry c.words k → block_at c.disk (tag_block (tag_at c.words k)) ≡ page_at c.words p → IsHome c k
home_read c k p page same = record { same = λ w less. ap (λ q. slice_index c.words (512 * q + w)) (sym page) ∙ sym (page_word c.words p w less) ∙ ap (λ (xs : List ℕ). slice_index xs w) (sym same) }

pub read_home : (c : Contents) (k p : ℕ) → p ≡ page_of_entry c.words k → 512 * p + 512 ≤ length c.words → length (block_at c.disk (tag_block (tag_at c.words k))) ≡ 512 → IsHome c k → block_at c.disk (tag_block (tag_at c.words k)) ≡ page_at c.words p
read_home c k p page within whole h = ext_get_or 0 _ _ (whole ∙ sym long) (λ w less. at w (subst (λ n. w < n) whole less))
  where
    long : length (page_at c.words p) ≡ 512
    long = length-take-le 512 (drop (512 * p) c.words) (let rest = length-drop (512 * p) c.words in omega (arith, rest, within))

    at : (w : ℕ) → w < 512 → slice_index (block_at c.disk (tag_block (tag_at c.words k))) w ≡ slice_index (page_at c.words p) w
    at w less = sym (h.same w less) ∙ ap (λ q. slice_index c.words (512 * q + w)) (sym page) ∙ sym (page_word c.words p w less)

-- ---- settled entries

pub settled_invalid : (c : Contents) (k : ℕ) → is_valid (tag_at c.words k) ≡ false → IsSettled c k
settled_invalid c k e = record { clean = λ v d. absurd (true_false (sym v.valid ∙ e)) }

pub settled_dirty : (c : Contents) (k : ℕ) → is_dirty (tag_at c.words k) ≡ true → IsSettled c k
settled_dirty c k e = record { clean = λ v d. absurd (true_false (sym e ∙ d)) }

-- after a read that changed nothing but the count of faults
pub settled_read : (old new : Contents) (k : ℕ) → new ≡ record old { faults = new.faults } → IsHome old k → IsSettled new k
settled_read old new k e h = subst (λ (c : Contents). IsSettled c k) (sym e) (record { clean = λ v d. record { same = h.same } })

pub one_read : (k : ℕ) (old new : Contents) → new ≡ record old { faults = new.faults } → OneEntry k old.words new.words
one_read k old new e = subst (OneEntry k old.words) (sym (ap (λ (c : Contents). c.words) e)) (record { count = refl; before = λ i less. refl; behind = λ i more. refl })

-- ---- one entry

pub marked_words : (old new : Contents) (k : ℕ) → new.words ≡ old.words → IsMarkedDirty old new k
marked_words old new k e = record {
  held = held_same k old.words new.words e;
  page = λ w less. ap (λ (ws : List ℕ). slice_index ws (512 * page_of_entry ws k + w)) e;
  still = λ d. ap (λ (ws : List ℕ). is_dirty (tag_at ws k)) e ∙ d;
  differs = λ v d. inl (ap (λ (ws : List ℕ). is_dirty (tag_at ws k)) (sym e) ∙ d);
}

pub marked_now : (old new : Contents) (k : ℕ) → IsValid old.words k → ¬ IsHome old k → Retagged k (with_dirty (tag_at old.words k)) old.words new.words → IsMarkedDirty old new k
marked_now old new k v away r = record {
  held = held_dirtied k old.words new.words r;
  page = λ w less. page_word_one k k w old.words new.words r.one v.within (λ e. r.shadow);
  still = λ d. now_dirty k old.words new.words r;
  differs = λ w d. inr away;
}

-- the other entries are as they were
pub marked_each : (i : ℕ) (old new : Contents) → OneEntry i old.words new.words → i < frames_of old.words → IsMarkedDirty old new i → (k : ℕ) → IsMarkedDirty old new k
marked_each i old new one within mine k = by (cases_eq k i)
  where
    by : (k ≡ i) ⊎ (k ≢ i) → IsMarkedDirty old new k
    by (inl e) = subst (IsMarkedDirty old new) (sym e) mine
    by (inr ne) = record {
      held = held_other i k old.words new.words one ne;
      page = λ w less. page_word_one i k w old.words new.words one within (λ e. absurd (ne e));
      still = λ d. ap is_dirty (tag_one i k old.words new.words one ne) ∙ d;
      differs = λ v d. inl (ap is_dirty (sym (tag_one i k old.words new.words one ne)) ∙ d);
    }

-- its page is at home where it was
pub home_marked : (old new : Contents) (k : ℕ) → new.disk ≡ old.disk → IsMarkedDirty old new k → IsHome old k → IsHome new k
home_marked old new k disk m h = record { same = λ w less. m.page w less ∙ h.same w less ∙ rw (m.held.block, disk) refl }

valid_marked : (old new : Contents) (k : ℕ) → frames_of new.words ≡ frames_of old.words → IsMarkedDirty old new k → IsValid old.words k → IsValid new.words k
valid_marked old new k frames m v = record { within = subst (λ f. k < f) (sym frames) v.within; valid = m.held.valid ∙ v.valid }

pub marked_then : (a b c : Contents) (k : ℕ) → frames_of b.words ≡ frames_of a.words → b.disk ≡ a.disk → IsMarkedDirty a b k → IsMarkedDirty b c k → IsMarkedDirty a c k
marked_then a b c k frames disk h m = record {
  held = held_then k a.words b.words c.words h.held m.held;
  page = λ w less. m.page w less ∙ h.page w less;
  still = λ d. m.still (h.still d);
  differs = λ v d. by v (m.differs (valid_marked a b k frames h v) d);
}
  where
    by : IsValid a.words k → (is_dirty (tag_at b.words k) ≡ true) ⊎ ¬ IsHome b k → (is_dirty (tag_at a.words k) ≡ true) ⊎ ¬ IsHome a k
    by v (inl d) = h.differs v d
    by v (inr away) = inr (λ home. away (home_marked a b k disk h home))

-- ---- the walk

-- the entries before the ith are settled
pub record Settled (i : ℕ) (old new : Contents) (r s : Running) : Type 0 where
  pub endures : Endures none_apart old new
  pub settled : (k : ℕ) → k < i → IsSettled new k
  pub marked : (k : ℕ) → IsMarkedDirty old new k
  pub frames : frames_of new.words ≡ frames_of old.words
  pub disk : new.disk ≡ old.disk
  pub ends : PhaseEnds old new r s ⊥ ⊥

pub settled_none : (c : Contents) (r : Running) → c.open_page ≡ None → Settled 0 c c r r
settled_none c r closed = record {
  endures = endures_refl none_apart c;
  settled = λ k less. absurd (omega (arith, less));
  marked = λ k. marked_words c c k refl;
  frames = refl;
  disk = refl;
  ends = phase_none c r ⊥ ⊥ closed (λ f. f) (λ f. f);
}

-- what a turn does, however it ends
pub record Settles (i : ℕ) (mid new : Contents) (s t : Running) (fault stop : Type 0) : Type 0 where
  pub endures : Endures none_apart mid new
  pub marked : IsMarkedDirty mid new i
  pub one : OneEntry i mid.words new.words
  pub disk : new.disk ≡ mid.disk
  pub ends : PhaseEnds mid new s t fault stop

-- another entry is settled still
settled_other : (i k : ℕ) (mid new : Contents) → new.disk ≡ mid.disk → OneEntry i mid.words new.words → i < frames_of mid.words → k ≢ i → IsSettled mid k → IsSettled new k
settled_other i k mid new disk one within ne h = record {
  clean = λ v c. home (h.clean (record { within = subst (λ f. k < f) (frames_one i mid.words new.words one) v.within; valid = ap is_valid (sym tag) ∙ v.valid }) (ap is_dirty (sym tag) ∙ c));
}
  where
    tag : tag_at new.words k ≡ tag_at mid.words k
    tag = tag_one i k mid.words new.words one ne

    home : IsHome mid k → IsHome new k
    home d = record { same = λ w less. page_word_one i k w mid.words new.words one within (λ e. absurd (ne e)) ∙ d.same w less ∙ rw (tag, disk) refl }

-- what the walk leaves, however it ends
pub record Leaves (old new : Contents) (r s : Running) (fault stop : Type 0) : Type 0 where
  pub brings : Brings old new
  pub marked : (k : ℕ) → IsMarkedDirty old new k
  pub frames : frames_of new.words ≡ frames_of old.words
  pub disk : new.disk ≡ old.disk
  pub ends : PhaseEnds old new r s fault stop

-- after a turn that was cut off, too
pub settled_cut : (i : ℕ) (old mid new : Contents) (r s t : Running) (fault stop : Type 0) → i < frames_of old.words → Settled i old mid r s → Settles i mid new s t fault stop → Leaves old new r t fault stop
settled_cut i old mid new r s t fault stop less h m = record {
  brings = brings_held old new (endures_trans none_apart old mid new h.endures m.endures) frames (λ k. (marked k).held);
  marked = marked;
  frames = frames;
  disk = m.disk ∙ h.disk;
  ends = phase_then old mid new r s t ⊥ ⊥ fault stop (λ f. f) h.ends m.ends;
}
  where
    frames : frames_of new.words ≡ frames_of old.words
    frames = frames_one i mid.words new.words m.one ∙ h.frames

    marked : (k : ℕ) → IsMarkedDirty old new k
    marked k = marked_then old mid new k h.frames h.disk (h.marked k) (marked_each i mid new m.one (subst (λ f. i < f) (sym h.frames) less) m.marked k)

pub settled_next : (i : ℕ) (old mid new : Contents) (r s t : Running) (fault stop : Type 0) → (stop → ⊥) → i < frames_of old.words → Settled i old mid r s → Settles i mid new s t fault stop → IsSettled new i → Settled (i + 1) old new r t
settled_next i old mid new r s t fault stop no_stop less h m now =
    let l = settled_cut i old mid new r s t fault stop less h m in
    record {
      endures = l.brings.endures;
      settled = λ j small. at j small (cases_eq j i);
      marked = l.marked;
      frames = l.frames;
      disk = l.disk;
      ends = phase_ok old new r t fault stop no_stop l.ends;
    }
  where
    at : (j : ℕ) → j < i + 1 → (j ≡ i) ⊎ (j ≢ i) → IsSettled new j
    at j small (inl e) = subst (IsSettled new) (sym e) now
    at j small (inr n) = settled_other i j mid new m.disk m.one (subst (λ f. i < f) (sym h.frames) less) n (h.settled j (omega (arith, small, n)))

-- after the last
pub settled_all : (i : ℕ) (old new : Contents) (r s : Running) → frames_of old.words ≤ i → Settled i old new r s → (k : ℕ) → IsSettled new k
settled_all i old new r s end h k = record { clean = λ v c. (h.settled k (let within = v.within in omega (arith, within, h.frames, end))).clean v c }

pub settled_brings : (i : ℕ) (old new : Contents) (r s : Running) → Settled i old new r s → Brings old new
settled_brings i old new r s h = brings_held old new h.endures h.frames (λ k. (h.marked k).held)
