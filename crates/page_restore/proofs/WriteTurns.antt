-- The walk that writes dirty pages, and the sync.
use Rattle.page_restore.proofs.Common.{Bool, List, None, false, refl, true, ℕ, ◌+◌, ◌<◌, ◌≡◌, ◌≢◌, ◌≤◌, ◌⊎◌, ap, arith, inl, inr, subst, sym, ◌∙◌, and_parts, cases_Bool, cases_eq, block_at, is_pending, Contents, Running, true_false, IsValid, frames_of, is_dirty, tag_at, tag_block, Endures, IsHome, none_apart, slice_index}
use Rattle.rio_model.specs.Registry.{BlockRule}
use Rattle.rio_model.proofs.RebootSteps.{endures_marked, endures_refl, endures_trans}
use Rattle.page_restore.proofs.Steps.{phase_none, phase_ok, phase_then}
use Rattle.page_restore.specs.Phases.{PhaseEnds, WritesDue, is_due}
use Rattle.page_restore.specs.declared.kinds.PageKind.{PageKind}

pub valid_due : (kind : PageKind) (marks : List Bool) (words : List ℕ) (k : ℕ) → k < frames_of words → is_due kind marks words k ≡ true → IsValid words k
valid_due kind marks words k less e = record { within = less; valid = (and_parts _ _ e).0 }

pub dirty_due : (kind : PageKind) (marks : List Bool) (words : List ℕ) (k : ℕ) → is_due kind marks words k ≡ true → is_dirty (tag_at words k) ≡ true
dirty_due kind marks words k e = (and_parts _ _ (and_parts _ _ e).1).0

-- ---- blocks that change

pub writes_none : (kind : PageKind) (marks : List Bool) (c : Contents) → WritesDue kind marks c c
writes_none kind marks c = record { others = λ b out. refl }

writes_then : (kind : PageKind) (marks : List Bool) (a b c : Contents) → b.words ≡ a.words → WritesDue kind marks a b → WritesDue kind marks b c → WritesDue kind marks a c
writes_then kind marks a b c words h k = record {
  others = λ x out. k.others x (subst (λ (ws : List ℕ). (j : ℕ) → IsValid ws j → is_due kind marks ws j ≡ true → tag_block (tag_at ws j) ≢ x) (sym words) out) ∙ h.others x out;
}

-- of a page that was written
writes_one : (kind : PageKind) (marks : List Bool) (old new : Contents) (k : ℕ) → IsValid old.words k → is_due kind marks old.words k ≡ true → ((b : ℕ) → b ≢ tag_block (tag_at old.words k) → block_at new.disk b ≡ block_at old.disk b) → WritesDue kind marks old new
writes_one kind marks old new k v due others = record { others = λ b out. others b (λ e. out k v due (sym e)) }

pub writes_disk : (kind : PageKind) (marks : List Bool) (a b c : Contents) → c.disk ≡ b.disk → WritesDue kind marks a b → WritesDue kind marks a c
writes_disk kind marks a b c disk h = record { others = λ x out. ap (λ (d : List (List ℕ)). block_at d x) disk ∙ h.others x out }

-- a block that is as it was is at home where it was
home_other : (old new : Contents) (k : ℕ) → new.words ≡ old.words → block_at new.disk (tag_block (tag_at old.words k)) ≡ block_at old.disk (tag_block (tag_at old.words k)) → IsHome old k → IsHome new k
home_other old new k words same h = subst (λ (ws : List ℕ). IsHome (record new { words = ws }) k) (sym words) (record { same = λ w less. h.same w less ∙ ap (λ (xs : List ℕ). slice_index xs w) (sym same) })

pub home_synced : (old new : Contents) (k : ℕ) → new.words ≡ old.words → new.disk ≡ old.disk → IsHome old k → IsHome new k
home_synced old new k words disk h = home_other old new k words (ap (λ (d : List (List ℕ)). block_at d (tag_block (tag_at old.words k))) disk) h

-- ---- the walk

-- of the entries before the ith the due ones are at home, and so is each that was
pub record Wrote (kind : PageKind) (marks : List Bool) (i : ℕ) (old new : Contents) (r s : Running) : Type 0 where
  pub endures : Endures none_apart old new
  pub words : new.words ≡ old.words
  pub brought : (k : ℕ) → k < i → IsValid old.words k → is_due kind marks old.words k ≡ true → IsHome new k
  pub left : (k : ℕ) → IsValid old.words k → IsHome old k → IsHome new k
  pub writes : WritesDue kind marks old new
  pub ends : PhaseEnds old new r s ⊥ ⊥

pub wrote_none : (kind : PageKind) (marks : List Bool) (c : Contents) (r : Running) → c.open_page ≡ None → Wrote kind marks 0 c c r r
wrote_none kind marks c r closed = record {
  endures = endures_refl none_apart c;
  words = refl;
  brought = λ k less. absurd (omega (arith, less));
  left = λ k v h. h;
  writes = writes_none kind marks c;
  ends = phase_none c r ⊥ ⊥ closed (λ f. f) (λ f. f);
}

-- what a turn does, however it ends
pub record Writes (kind : PageKind) (marks : List Bool) (i : ℕ) (mid new : Contents) (s t : Running) (fault stop : Type 0) : Type 0 where
  pub endures : Endures none_apart mid new
  pub words : new.words ≡ mid.words
  pub same : is_due kind marks mid.words i ≡ false → new ≡ mid
  pub others : (b : ℕ) → b ≢ tag_block (tag_at mid.words i) → block_at new.disk b ≡ block_at mid.disk b
  pub ends : PhaseEnds mid new s t fault stop

writes_cut : (kind : PageKind) (marks : List Bool) (i : ℕ) (old mid new : Contents) (r s t : Running) (fault stop : Type 0) → i < frames_of old.words → Wrote kind marks i old mid r s → Writes kind marks i mid new s t fault stop → WritesDue kind marks old new
writes_cut kind marks i old mid new r s t fault stop less h m = by (cases_Bool (is_due kind marks mid.words i))
  where
    by : (is_due kind marks mid.words i ≡ true) ⊎ (is_due kind marks mid.words i ≡ false) → WritesDue kind marks old new
    by (inl due) = writes_then kind marks old mid new h.words h.writes (writes_one kind marks mid new i (valid_due kind marks mid.words i (subst (λ (ws : List ℕ). i < frames_of ws) (sym h.words) less) due) due m.others)
    by (inr out) = subst (WritesDue kind marks old) (sym (m.same out)) h.writes

-- what the walk leaves, however it ends
pub record LeavesWritten (kind : PageKind) (marks : List Bool) (old new : Contents) (r s : Running) (fault stop : Type 0) : Type 0 where
  pub endures : Endures none_apart old new
  pub words : new.words ≡ old.words
  pub writes : WritesDue kind marks old new
  pub ends : PhaseEnds old new r s fault stop

-- after a turn that was cut off, too
pub wrote_cut : (kind : PageKind) (marks : List Bool) (i : ℕ) (old mid new : Contents) (r s t : Running) (fault stop : Type 0) → i < frames_of old.words → Wrote kind marks i old mid r s → Writes kind marks i mid new s t fault stop → LeavesWritten kind marks old new r t fault stop
wrote_cut kind marks i old mid new r s t fault stop less h m = record {
  endures = endures_trans none_apart old mid new h.endures m.endures;
  words = m.words ∙ h.words;
  writes = writes_cut kind marks i old mid new r s t fault stop less h m;
  ends = phase_then old mid new r s t ⊥ ⊥ fault stop (λ f. f) h.ends m.ends;
}

-- the pages of the other entries are where they were, and the entry's own is at home
turn_home : (kind : PageKind) (marks : List Bool) (i : ℕ) (old mid new : Contents) (r s t : Running) (fault stop : Type 0) (k : ℕ) → BlockRule old.words → i < frames_of old.words → Wrote kind marks i old mid r s → Writes kind marks i mid new s t fault stop → (is_due kind marks mid.words i ≡ true → IsHome new i) → IsValid old.words k → IsHome mid k → IsHome new k
turn_home kind marks i old mid new r s t fault stop k rule less h m now v home = by (cases_Bool (is_due kind marks mid.words i)) (cases_eq k i)
  where
    away : is_due kind marks mid.words i ≡ true → k ≢ i → tag_block (tag_at mid.words k) ≢ tag_block (tag_at mid.words i)
    away due ne e = ne (rule k i v (valid_due kind marks old.words i less (subst (λ (ws : List ℕ). is_due kind marks ws i ≡ true) h.words due)) (subst (λ (ws : List ℕ). tag_block (tag_at ws k) ≡ tag_block (tag_at ws i)) h.words e))

    by : (is_due kind marks mid.words i ≡ true) ⊎ (is_due kind marks mid.words i ≡ false) → (k ≡ i) ⊎ (k ≢ i) → IsHome new k
    by (inr out) e = subst (λ (c : Contents). IsHome c k) (sym (m.same out)) home
    by (inl due) (inl e) = subst (IsHome new) (sym e) (now due)
    by (inl due) (inr ne) = home_other mid new k m.words (m.others (tag_block (tag_at mid.words k)) (away due ne)) home

pub wrote_next : (kind : PageKind) (marks : List Bool) (i : ℕ) (old mid new : Contents) (r s t : Running) (fault stop : Type 0) → (stop → ⊥) → BlockRule old.words → i < frames_of old.words → Wrote kind marks i old mid r s → Writes kind marks i mid new s t fault stop → (is_due kind marks mid.words i ≡ true → IsHome new i) → Wrote kind marks (i + 1) old new r t
wrote_next kind marks i old mid new r s t fault stop no_stop rule less h m now =
    let l = wrote_cut kind marks i old mid new r s t fault stop less h m in
    record {
      endures = l.endures;
      words = l.words;
      brought = λ k small v is. at k small v is (cases_eq k i);
      left = λ k v home. turn_home kind marks i old mid new r s t fault stop k rule less h m now v (h.left k v home);
      writes = l.writes;
      ends = phase_ok old new r t fault stop no_stop l.ends;
    }
  where
    at : (k : ℕ) → k < i + 1 → IsValid old.words k → is_due kind marks old.words k ≡ true → (k ≡ i) ⊎ (k ≢ i) → IsHome new k
    at k small v is (inl e) = subst (IsHome new) (sym e) (now (subst (λ (ws : List ℕ). is_due kind marks ws i ≡ true) (sym h.words) (ap (is_due kind marks old.words) (sym e) ∙ is)))
    at k small v is (inr ne) = turn_home kind marks i old mid new r s t fault stop k rule less h m now v (h.brought k (omega (arith, small, ne)) v is)

-- after the last
pub all_brought : (kind : PageKind) (marks : List Bool) (i : ℕ) (old new : Contents) (r s : Running) → frames_of old.words ≤ i → Wrote kind marks i old new r s → (k : ℕ) → IsValid old.words k → IsHome old k ⊎ (is_due kind marks old.words k ≡ true) → IsHome new k
all_brought kind marks i old new r s end h k v (inl home) = h.left k v home
all_brought kind marks i old new r s end h k v (inr due) = h.brought k (let within = v.within in omega (arith, within, end)) v due

-- ---- the sync

pub synced : (old new : Contents) → new ≡ record old { pending = new.pending; faults = new.faults } → ((b : ℕ) → is_pending new.pending b ≡ false) → Endures none_apart old new
synced old new e none = endures_marked old new (ap (λ (c : Contents). c.words) e) (ap (λ (c : Contents). c.disk) e) (λ b p. absurd (true_false (sym p ∙ none b)))
