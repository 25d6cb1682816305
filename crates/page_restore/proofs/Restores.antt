-- After both passes each page is on the disk or stale, and what the counts say.
use Rattle.page_restore.proofs.Common.{Bool, List, None, Option, Some, false, length, not, refl, slice_index_or, true, ℕ, ◌&&◌, ◌<◌, ◌≡◌, ◌⊎◌, ap, inl, inr, subst, sym, ◌∙◌, and_parts, cases_Bool, block_at, Contents, true_false, IsValid, frames_of, is_data, is_dirty, is_valid, tag_at, tag_block, Brings, Endures, IsHome, IsSettled, stale_block}
use Rattle.std.specs.Prelude.{filter}
use Rattle.std.specs.List.{range_with_len}
use Rattle.rio_model.specs.Cover.{entry_of_block}
use Rattle.rio_model.specs.CoverLookups.{found_is}
use Rattle.rio_model.specs.Placed.{Layout, Owned}
use Rattle.rio_model.specs.Registry.{BlockRule}
use Rattle.rio_model.proofs.RebootClears.{endures_stale_trans}
use Rattle.rio_model.proofs.RebootSteps.{endures_widened}
use Rattle.rio_model.specs.Standing.{AreStale, IsWanted, is_stale}
use Rattle.page_restore.specs.Phases.{IsMarkedDirty, WritesDue, due_before, is_due, is_kind}
use Rattle.page_restore.specs.Reports.{AreSoMany, CountsPages, IsUnsaved}
use Rattle.page_restore.specs.Stale.{IsOfNode, IsStale, MarksStale}
use Rattle.page_restore.specs.declared.kinds.PageCounts.{PageCounts}
use Rattle.page_restore.specs.declared.kinds.PageKind.{PageKind}
use Rattle.page_restore.specs.declared.kinds.PageKind.TheVariants.{Metadata, Stale, Wanted}

-- ---- each page is at home, or stale

-- an entry is clean, or written by the first pass, or by the second, or marked
four : (words : List ℕ) (marks : List Bool) (k : ℕ) → is_valid (tag_at words k) ≡ true → (is_dirty (tag_at words k) ≡ false) ⊎ (is_due Metadata marks words k ≡ true) ⊎ (is_due Wanted marks words k ≡ true) ⊎ (slice_index_or marks k false ≡ true)
four words marks k valid = by (is_valid (tag_at words k)) (is_dirty (tag_at words k)) (is_data (tag_at words k)) (slice_index_or marks k false) valid
  where
    by : (v d t p : Bool) → v ≡ true → (d ≡ false) ⊎ ((v && (d && is_kind Metadata t p)) ≡ true) ⊎ ((v && (d && is_kind Wanted t p)) ≡ true) ⊎ (p ≡ true)
    by v false t p e = inl refl
    by true true false p e = inr (inl refl)
    by true true true false e = inr (inr (inl refl))
    by true true true true e = inr (inr (inr refl))
    by false true t p e = absurd (true_false (sym e))

-- `b` is after the clean entries were settled, `c` after the first pass, `d` after the second
pub all_home : (marks : List Bool) (b c d : Contents) → c.words ≡ b.words → d.words ≡ c.words → ((k : ℕ) → IsSettled b k)
    → ((k : ℕ) → IsValid b.words k → IsHome b k ⊎ (is_due Metadata marks b.words k ≡ true) → IsHome c k)
    → ((k : ℕ) → IsValid c.words k → IsHome c k ⊎ (is_due Wanted marks c.words k ≡ true) → IsHome d k)
    → (k : ℕ) → IsValid d.words k → IsHome d k ⊎ (slice_index_or marks k false ≡ true)
all_home marks b c d one two settled first second k v = from (four b.words marks k valid_b.valid)
  where
    valid_c : IsValid c.words k
    valid_c = subst (λ (ws : List ℕ). IsValid ws k) two v

    valid_b : IsValid b.words k
    valid_b = subst (λ (ws : List ℕ). IsValid ws k) one valid_c

    from : (is_dirty (tag_at b.words k) ≡ false) ⊎ (is_due Metadata marks b.words k ≡ true) ⊎ (is_due Wanted marks b.words k ≡ true) ⊎ (slice_index_or marks k false ≡ true) → IsHome d k ⊎ (slice_index_or marks k false ≡ true)
    from (inl clean) = inl (second k valid_c (inl (first k valid_b (inl ((settled k).clean valid_b clean)))))
    from (inr (inl meta)) = inl (second k valid_c (inl (first k valid_b (inr meta))))
    from (inr (inr (inl wanted))) = inl (second k valid_c (inr (ap (λ (ws : List ℕ). is_due Wanted marks ws k) one ∙ wanted)))
    from (inr (inr (inr out))) = inr out

-- ---- stale blocks stay

-- a marked entry is of data, and not written
marked_left : (kind : PageKind) (marks : List Bool) (words : List ℕ) (k : ℕ) → (kind ≡ Metadata) ⊎ (kind ≡ Wanted) → is_data (tag_at words k) ≡ true → slice_index_or marks k false ≡ true → is_due kind marks words k ≡ false
marked_left kind marks words k which file marked = by which (is_valid (tag_at words k)) (is_dirty (tag_at words k)) (is_data (tag_at words k)) (slice_index_or marks k false) file marked
  where
    by : (kind ≡ Metadata) ⊎ (kind ≡ Wanted) → (v d t p : Bool) → t ≡ true → p ≡ true → (v && (d && is_kind kind t p)) ≡ false
    by w false d t p e f = refl
    by w true false t p e f = refl
    by (inl m) true true t p e f = ap (λ x. is_kind x t p) m ∙ ap not e
    by (inr m) true true t p e f = ap (λ x. is_kind x t p) m ∙ rw (e, f) refl

-- the pages that a pass writes are no stale ones
pub stale_stays : (kind : PageKind) (marks : List Bool) (old new : Contents) (b : ℕ) → (kind ≡ Metadata) ⊎ (kind ≡ Wanted) → BlockRule old.words → ((k : ℕ) → slice_index_or marks k false ≡ true → is_data (tag_at old.words k) ≡ true) → WritesDue kind marks old new → stale_block marks old.words b ≡ true → block_at new.disk b ≡ block_at old.disk b
stale_stays kind marks old new b which rule of_data h stale = from (entry_of_block old.words b) refl stale
  where
    from : (o : Option ℕ) → entry_of_block old.words b ≡ o → is_stale marks o ≡ true → block_at new.disk b ≡ block_at old.disk b
    from None e m = absurd (true_false (sym m))
    from (Some j) e m =
        let at = found_is old.words b j e in
        h.others b (λ k v due same. true_false (sym due ∙ marked_left kind marks old.words k which (of_data k (mark j k m (rule k j v at.0 (same ∙ sym at.1)))) (mark j k m (rule k j v at.0 (same ∙ sym at.1)))))
      where
        mark : (j k : ℕ) → slice_index_or marks j false ≡ true → k ≡ j → slice_index_or marks k false ≡ true
        mark j k m e = ap (λ x. slice_index_or marks x false) e ∙ m

-- the same blocks are stale where each block has the entry that it had
pub stale_same : (marks : List Bool) (a b : Contents) (x : ℕ) → Brings a b → stale_block marks a.words x ≡ true → stale_block marks b.words x ≡ true
stale_same marks a b x h e = ap (is_stale marks) (h.found x) ∙ e

-- ---- counts

-- after the clean entries were settled the valid dirty ones are those that were unsaved
unsaved : (a b : Contents) (k : ℕ) → frames_of b.words ≡ frames_of a.words → IsMarkedDirty a b k → IsValid b.words k → is_dirty (tag_at b.words k) ≡ true → IsUnsaved a k
unsaved a b k frames m v dirty =
    let valid : IsValid a.words k = record { within = subst (λ f. k < f) frames v.within; valid = sym m.held.valid ∙ v.valid } in
    record { valid = valid; unsaved = m.differs valid dirty }

now_dirty : (a b : Contents) (k : ℕ) → a.disk ≡ b.disk → IsMarkedDirty a b k → IsSettled b k → IsValid b.words k → IsUnsaved a k → is_dirty (tag_at b.words k) ≡ true
now_dirty a b k disk m settled v u = by u.unsaved (cases_Bool (is_dirty (tag_at b.words k)))
  where
    by : (is_dirty (tag_at a.words k) ≡ true) ⊎ ¬ IsHome a k → (is_dirty (tag_at b.words k) ≡ true) ⊎ (is_dirty (tag_at b.words k) ≡ false) → is_dirty (tag_at b.words k) ≡ true
    by (inl d) e = m.still d
    by (inr away) (inl e) = e
    by (inr away) (inr e) = absurd (away (home_back (settled.clean v e)))
      where
        home_back : IsHome b k → IsHome a k
        home_back h = record { same = λ w less. sym (m.page w less) ∙ h.same w less ∙ rw (m.held.block, disk) refl }

-- what an entry that is due says
due_says : (kind : PageKind) (marks : List Bool) (words : List ℕ) (k : ℕ) → is_due kind marks words k ≡ true → (is_valid (tag_at words k) ≡ true) × (is_dirty (tag_at words k) ≡ true) × (is_kind kind (is_data (tag_at words k)) (slice_index_or marks k false) ≡ true)
due_says kind marks words k e =
    let one = and_parts (is_valid (tag_at words k)) _ e in
    let two = and_parts (is_dirty (tag_at words k)) _ one.1 in
    (one.0, two.0, two.1)

due_by : (kind : PageKind) (marks : List Bool) (words : List ℕ) (k : ℕ) → is_valid (tag_at words k) ≡ true → is_dirty (tag_at words k) ≡ true → is_kind kind (is_data (tag_at words k)) (slice_index_or marks k false) ≡ true → is_due kind marks words k ≡ true
due_by kind marks words k v d e = rw (v, d, e) refl

-- memory `a` and `b`, before and after the clean entries were settled, and the marks
record Settling (l : Layout) (marks : List Bool) (a b : Contents) : Type 0 where
  pub frames : frames_of b.words ≡ frames_of a.words
  pub disk : a.disk ≡ b.disk
  pub marked : (k : ℕ) → IsMarkedDirty a b k
  pub settled : (k : ℕ) → IsSettled b k
  pub marks_are : MarksStale l a.words marks

-- the entries of a kind are those that are unsaved and of which this holds
count_by : (kind : PageKind) (l : Layout) (marks : List Bool) (a b : Contents) (n : ℕ) (such : ℕ → Type 0) → Settling l marks a b → n ≡ due_before kind marks b.words (frames_of b.words)
    → ((k : ℕ) → IsValid a.words k → is_kind kind (is_data (tag_at a.words k)) (slice_index_or marks k false) ≡ true → such k)
    → ((k : ℕ) → IsValid a.words k → such k → is_kind kind (is_data (tag_at a.words k)) (slice_index_or marks k false) ≡ true)
    → AreSoMany (λ k. IsUnsaved a k × such k) (frames_of a.words) n
unfolding due_before
count_by kind l marks a b n such h count into back = record {
  test = is_due kind marks b.words;
  sure = λ k less due.
      let says = due_says kind marks b.words k due in
      let m = h.marked k in
      let u = unsaved a b k h.frames m (record { within = subst (λ f. k < f) (sym h.frames) less; valid = says.0 }) says.1 in
      (u, into k u.valid (ap (λ t. is_kind kind t (slice_index_or marks k false)) (sym m.held.named) ∙ says.2));
  all = λ k less such.
      let m = h.marked k in
      let v : IsValid b.words k = record { within = subst (λ f. k < f) (sym h.frames) less; valid = m.held.valid ∙ such.0.valid.valid } in
      due_by kind marks b.words k v.valid (now_dirty a b k h.disk m (h.settled k) v such.0) (ap (λ t. is_kind kind t (slice_index_or marks k false)) m.held.named ∙ back k such.0.valid such.1);
  count = count ∙ ap (λ f. length (filter (is_due kind marks b.words) (range_with_len 0 f))) h.frames;
}

not_true : (b : Bool) → not b ≡ true → b ≡ false
not_true false e = refl
not_true true e = absurd (true_false (sym e))

pub counts_pages : (l : Layout) (marks : List Bool) (a b : Contents) (counts : PageCounts) → frames_of b.words ≡ frames_of a.words → b.disk ≡ a.disk → ((k : ℕ) → IsMarkedDirty a b k) → ((k : ℕ) → IsSettled b k)
    → counts.meta ≡ due_before Metadata marks b.words (frames_of b.words) → counts.pages ≡ due_before Wanted marks b.words (frames_of b.words) → counts.stale ≡ due_before Stale marks b.words (frames_of b.words)
    → MarksStale l a.words marks → CountsPages l a counts
counts_pages l marks a b counts frames disk marked settled meta pages stale are = record {
  meta = count_by Metadata l marks a b counts.meta (λ k. is_data (tag_at a.words k) ≡ false) h meta (λ k v e. not_true _ e) (λ k v e. ap not e);
  pages = count_by Wanted l marks a b counts.pages (IsOfNode l a.words) h pages
      (λ k v e. let both = and_parts _ _ e in record { of_data = both.0; owned = (are.each k).owned (not_true _ both.1) v both.0 })
      (λ k v own. rw (own.of_data, clear k own.owned (cases_Bool (slice_index_or marks k false))) refl);
  stale = count_by Stale l marks a b counts.stale (IsStale l a.words) h stale
      (λ k v e. (are.each k).stale (and_parts _ _ e).1)
      (λ k v s. rw (s.of_data, set k v s (cases_Bool (slice_index_or marks k false))) refl);
}
  where
    h : Settling l marks a b
    h = record { frames = frames; disk = sym disk; marked = marked; settled = settled; marks_are = are }

    clear : (k : ℕ) → Owned l (tag_block (tag_at a.words k)) → (slice_index_or marks k false ≡ true) ⊎ (slice_index_or marks k false ≡ false) → slice_index_or marks k false ≡ false
    clear k own (inl e) = absurd (((are.each k).stale e).nobodys own)
    clear k own (inr e) = e

    set : (k : ℕ) → IsValid a.words k → IsStale l a.words k → (slice_index_or marks k false ≡ true) ⊎ (slice_index_or marks k false ≡ false) → slice_index_or marks k false ≡ true
    set k v s (inl e) = e
    set k v s (inr e) = absurd (s.nobodys ((are.each k).owned e v s.of_data))

-- ---- marks

-- marks that are set where pages are stale are right
pub stale_of : (l : Layout) (marks : List Bool) (words : List ℕ) → MarksStale l words marks → AreStale l marks words
stale_of l marks words h = record {
  of_data = λ k e. ((h.each k).stale e).of_data;
  gone = λ k v e owns is. ((h.each k).stale e).nobodys (record { node = _; slot = _; owns = owns; is = is });
}

pub wanted_of : (l : Layout) (marks : List Bool) (words : List ℕ) → MarksStale l words marks → (k : ℕ) → IsValid words k → slice_index_or marks k false ≡ false → IsWanted l words k
wanted_of l marks words h k v e = by (cases_Bool (is_data (tag_at words k)))
  where
    by : (is_data (tag_at words k) ≡ true) ⊎ (is_data (tag_at words k) ≡ false) → IsWanted l words k
    by (inl file) = inr ((h.each k).owned e v file)
    by (inr meta) = inl meta

-- ---- stale blocks over the phases

-- `b` is after some phases, and `c` after one pass more
pub stale_kept : (kind : PageKind) (marks : List Bool) (a b c : Contents) → (kind ≡ Metadata) ⊎ (kind ≡ Wanted) → BlockRule b.words → ((k : ℕ) → slice_index_or marks k false ≡ true → is_data (tag_at b.words k) ≡ true) → Brings a b → ((x : ℕ) → stale_block marks a.words x ≡ true → block_at b.disk x ≡ block_at a.disk x) → WritesDue kind marks b c
    → (x : ℕ) → stale_block marks a.words x ≡ true → block_at c.disk x ≡ block_at a.disk x
stale_kept kind marks a b c which rule of_data brings kept w x e = stale_stays kind marks b c x which rule of_data w (stale_same marks a b x brings e) ∙ kept x e

-- after the clean entries were settled no block differs
pub stale_settled : (marks : List Bool) (a b : Contents) → b.disk ≡ a.disk → (x : ℕ) → stale_block marks a.words x ≡ true → block_at b.disk x ≡ block_at a.disk x
stale_settled marks a b disk x e = ap (λ (d : List (List ℕ)). block_at d x) disk

pub of_data_settled : (marks : List Bool) (a b : Contents) → ((k : ℕ) → IsMarkedDirty a b k) → ((k : ℕ) → slice_index_or marks k false ≡ true → is_data (tag_at a.words k) ≡ true) → (k : ℕ) → slice_index_or marks k false ≡ true → is_data (tag_at b.words k) ≡ true
of_data_settled marks a b marked of_data k e = (marked k).held.named ∙ of_data k e

pub of_data_words : (marks : List Bool) (b c : Contents) → c.words ≡ b.words → ((k : ℕ) → slice_index_or marks k false ≡ true → is_data (tag_at b.words k) ≡ true) → (k : ℕ) → slice_index_or marks k false ≡ true → is_data (tag_at c.words k) ≡ true
of_data_words marks b c words of_data k e = ap (λ (ws : List ℕ). is_data (tag_at ws k)) words ∙ of_data k e

-- nothing but words changed: no block differs
pub stale_emptied : (marks : List Bool) (a b c : Contents) → c ≡ record b { words = c.words } → ((x : ℕ) → stale_block marks a.words x ≡ true → block_at b.disk x ≡ block_at a.disk x) → (x : ℕ) → stale_block marks a.words x ≡ true → block_at c.disk x ≡ block_at a.disk x
stale_emptied marks a b c rest kept x e = ap (λ (m : Contents). block_at m.disk x) rest ∙ kept x e

-- the blocks of marked entries are the same where each block has the entry that it had
pub endures_emptied : (marks : List Bool) (a b c : Contents) → Brings a b → Endures (stale_block marks b.words) b c → Endures (stale_block marks a.words) a c
endures_emptied marks a b c h k = endures_stale_trans marks a b c (endures_widened (stale_block marks a.words) a b h.endures) k
