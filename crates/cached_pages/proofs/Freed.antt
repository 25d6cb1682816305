-- A block's entry is cleared without a write, and a block is marked as forgotten.
use Rattle.cached_pages.proofs.Common.{◌≡◌, ◌≢◌, ℕ, ◌<◌, ◌==◌, ◌||◌, Bool, true, false, if◌then◌else◌, ◌⊎◌, length, slice_index_or, slice_set, Some, None, refl, ◌∙◌, ap, sym, subst, inl, inr, arith, cases_Bool, length-set, BlockWords, is_pending, Contents, Lasts, Running, StepEnds, Steps, true_false, Goes, IsValid, OneEntry, gate_of, is_dirty, is_valid, tag_at, tag_block, Coherent, Narrows, cover_by, entry_of_block, reads, stands, found_is, header_one, tag_one, found_other, frame_word_one, coherent_on, coherent_one, disk_same, pending_same, block_of, is_pinned, stands_idle}
use Rattle.std.specs.Prelude.{Result, Ok, Err, IsErr}
use Rattle.std.proofs.Common.{get_or-set_same, get_or-set_other}
use Rattle.rio_base.specs.declared.failures.Stopped.{Stopped}
use Rattle.rio_base.specs.Blocks.{Halts}
use Rattle.rio_base.specs.Volume.{FirmBut, SameBut}
use Rattle.rio_model.proofs.RegistryRules.{registry_one}
use Rattle.rio_model.specs.Cover.{frame_page, has_dirty, is_loose}
use Rattle.rio_model.specs.CoverLookups.{cover_same}
use Rattle.rio_model.proofs.CoverChanges.{found_cleared}
use Rattle.rio_model.proofs.CoverSteps.{dirty_of, dirty_some, loose_from, loose_parts}
use Rattle.registry.specs.Changes.{CanChange}
use Rattle.cached_pages.specs.declared.tables.CacheTables.{CacheTables}
use Rattle.cached_pages.specs.Caches.{CacheSound, FewWrites, SameTables, cache_below, cache_health, cache_kept, was_forgotten}
use Rattle.cached_pages.specs.Stores.{Frees, Marks}
use Rattle.cached_pages.proofs.Kept.{TablesStay, bound_one, shadows_gone, sound_stays}
use Rattle.cached_pages.proofs.Settling.{loose_by, not_one}
use Rattle.cached_pages.proofs.Goes.{goes_few}
use Rattle.cached_pages.proofs.Stores.{can_change}

-- ---- marks

pub marks_set : (b : ℕ) (mark : Bool) (t u : CacheTables) → b < length t.forgotten.items → u ≡ record t { forgotten = u.forgotten } → u.forgotten.items ≡ slice_set t.forgotten.items b mark → Marks b mark t u
marks_set b mark t u less rest e = record {
  mark = ap (λ xs. slice_index_or xs b false) e ∙ get_or-set_same t.forgotten.items b mark false less;
  others = λ c ne. ap (λ xs. slice_index_or xs c false) e ∙ get_or-set_other t.forgotten.items b c mark false ne;
  count = ap length e ∙ length-set t.forgotten.items b mark;
  rest = rest;
}

pub sound_marked : (b n : ℕ) (mark : Bool) (c : Contents) (t u : CacheTables) → CacheSound c n t → Marks b mark t u → CacheSound c n u
sound_marked b n mark c t u s m = subst (CacheSound c n) (sym m.rest) (record {
  coherent = s.coherent;
  closed = s.closed;
  frames = s.frames;
  blocks = s.blocks;
  first = s.first;
  marks = m.count ∙ s.marks;
  buffer = s.buffer;
  early = s.early;
  bound = s.bound;
  most = s.most;
  room = s.room;
  shadows = s.shadows;
  listed = s.listed;
  edited = s.edited;
  pinned = λ k e. let p = s.pinned k e in (p.0, record { place = p.1.place; within = p.1.within; here = p.1.here });
  few = s.few;
})

-- ---- entry k of block b is cleared

pub can_clear : (b k : ℕ) (c : Contents) (r : Running) (t : CacheTables) → CacheSound c (length r.scratch) t → entry_of_block c.words b ≡ Some k → CanChange k c r
can_clear b k c r t s found = can_change k c r t s (found_is c.words b k found).0.within

pub cleared_frees : (n k b : ℕ) (old new : Contents) → Coherent old n → new ≡ record old { words = new.words } → OneEntry k old.words new.words → tag_at new.words k ≡ 0 → entry_of_block old.words b ≡ Some k → Frees b old new
cleared_frees n k b old new s0 rest one tag found = record {
  others = record {
    others = λ c w ne. subst (λ d. cover_by (frame_page new.words) new.words d c w ≡ reads old c w) (sym (disk_same old new rest)) (cover_same (frame_page old.words) old.words old.disk (frame_page new.words) new.words old.disk c w (record {
      entry = elsewhere c ne;
      pages = λ j x f small. frame_word_one k j x old.words new.words one v.within;
      homes = λ x f small. refl;
    }));
  };
  firm = λ c ne e. firm c ne (loose_parts new c e) (cases_Bool (has_dirty old.words c));
  coherent = λ m s. coherent_one m k old new rest one v.within s (registry_one k old.words new.words s.rules one (record {
    tag = record { invalid = λ e. tag; bits = λ e. absurd (true_false (sym e ∙ gone)) };
    metadata = record { of_file = λ e. absurd (true_false (sym e ∙ gone)); at_index = λ e. absurd (true_false (sym e ∙ gone)); of_size = λ e. absurd (true_false (sym e ∙ gone)) };
    name = record { file_from = λ e. absurd (true_false (sym e ∙ gone)); file_to = λ e. absurd (true_false (sym e ∙ gone)); index_to = λ e. absurd (true_false (sym e ∙ gone)) };
    size = λ e. absurd (true_false (sym e ∙ gone));
    shadow = record { most = λ e. absurd (true_false (sym e ∙ gone)); of_data = λ e. absurd (true_false (sym e ∙ gone)) };
  }) (record { blocks = λ j ne w x. absurd (true_false (sym x.valid ∙ gone)); shadows = λ j ne w x. absurd (true_false (sym x.valid ∙ gone)) })) (record {
    on_disk = λ w. absurd (true_false (sym w.valid ∙ gone));
    clean = λ w. absurd (true_false (sym w.valid ∙ gone));
    unedited = λ w. absurd (true_false (sym w.valid ∙ gone));
  });
  header = λ i less. header_one k old.words new.words i one less;
}
  where
    v : IsValid old.words k
    v = (found_is old.words b k found).0

    gone : is_valid (tag_at new.words k) ≡ false
    gone = ap is_valid tag

    elsewhere : (c : ℕ) → c ≢ b → entry_of_block new.words c ≡ entry_of_block old.words c
    elsewhere c ne = found_other k c old.words new.words one (λ w e. ne (sym e ∙ (found_is old.words b k found).1)) (λ w. absurd (true_false (sym w ∙ gone)))

    firm : (c : ℕ) → c ≢ b → (is_pending new.pending c ≡ true) × (has_dirty new.words c ≡ false) → (has_dirty old.words c ≡ true) ⊎ (has_dirty old.words c ≡ false) → is_loose old c ≡ true
    firm c ne parts (inr clean) = loose_from old c (ap (λ p. is_pending p c) (sym (pending_same old new rest)) ∙ parts.0) clean
    firm c ne parts (inl dirty) =
        let d = dirty_some old.words c dirty in
        let other : d.0 ≢ k = λ q. ne (sym (found_is old.words c d.0 d.1).1 ∙ ap (λ j. tag_block (tag_at old.words j)) q ∙ (found_is old.words b k found).1) in
        let now : entry_of_block new.words c ≡ Some d.0 = elsewhere c ne ∙ d.1 in
        absurd (true_false (sym (ap is_dirty (tag_one k d.0 old.words new.words one other) ∙ d.2) ∙ sym (dirty_of new.words c d.0 now) ∙ parts.1))

pub cleared_lost : (n k b : ℕ) (old new : Contents) → Coherent old n → OneEntry k old.words new.words → tag_at new.words k ≡ 0 → entry_of_block old.words b ≡ Some k → entry_of_block new.words b ≡ None
cleared_lost n k b old new s one tag found = let f = found_is old.words b k found in ap (entry_of_block new.words) (sym f.1) ∙ found_cleared k old.words new.words one s.rules.blocks f.0 (ap is_valid tag)

pub cleared_sound : (n m k b : ℕ) (old new : Contents) (t u : CacheTables) → CacheSound old n t → Frees b old new → m ≡ n → new.open_page ≡ None → new.disk ≡ old.disk → new.pending ≡ old.pending → OneEntry k old.words new.words → tag_at new.words k ≡ 0 → TablesStay t u → block_of u.pool k ≡ None → ((j : ℕ) → j ≢ k → block_of u.pool j ≡ block_of t.pool j) → CacheSound new m u
cleared_sound n m k b old new t u s h same closed disk pending one gone stay none others =
    sound_stays n m old new t u s (coherent_on new n m same (h.coherent n s.coherent)) (record { frames = h.header 2 (omega arith); gate = h.header 4 (omega arith); disk = disk; pending = pending }) closed stay (shadows_gone k old.words new.words one (λ v. absurd (true_false (sym v.valid ∙ ap is_valid gone)))) (bound_one k n old new t u s one (none ∙ sym (ap (λ x. if is_valid x then Some (tag_block x) else None) gone)) others)

pub frees_same : (b : ℕ) (old new : Contents) → new ≡ old → Frees b old new
frees_same b old new e = subst (Frees b old) (sym e) (record { others = record { others = λ c w ne. refl }; firm = λ c ne l. l; coherent = λ n s. s; header = λ i less. refl })

pub narrows_same : (old new : Contents) → new ≡ old → Narrows old.words new.words
narrows_same old new e = subst (λ (c : Contents). Narrows old.words c.words) (sym e) (record { found = λ b k f. (f, refl) })

-- nothing is pinned while no update is open
pub unpinned_idle : (n k : ℕ) (c : Contents) (t : CacheTables) → CacheSound c n t → (gate_of c.words == 1) ≡ false → is_pinned t.pool k ≡ false
unpinned_idle n k c t s shut = from (cases_Bool (is_pinned t.pool k))
  where
    from : (is_pinned t.pool k ≡ true) ⊎ (is_pinned t.pool k ≡ false) → is_pinned t.pool k ≡ false
    from (inr e) = e
    from (inl e) = absurd (not_one (gate_of c.words) shut (s.pinned k e).0)

-- ---- what callers see

-- what a call outside an update leaves so that frees block b alone
pub record Settled (b : ℕ) (a d : Contents) (r s : Running) (t u : CacheTables) : Type 0 where
  pub standing : SameBut b (stands a) (stands d)
  pub firm : FirmBut b (cache_kept a t) (cache_kept d u)
  pub idle : (gate_of d.words == 1) ≡ false
  pub goes : Goes (cache_health a r) (cache_below a r) (cache_health d s) (cache_below d s)

pub settled : (b : ℕ) (a d : Contents) (r s : Running) (t u : CacheTables) → (gate_of a.words == 1) ≡ false → Frees b a d → ((c : ℕ) → c ≢ b → was_forgotten u c ≡ was_forgotten t c) → Lasts a d → Steps r s → FewWrites b t a d → Settled b a d r s t u
settled b a d r s t u shut w marks l h few = record {
  standing = record { others = λ c x ne. ap (λ (f : BlockWords). f c x) (stands_idle d now) ∙ w.others.others c x ne ∙ ap (λ (f : BlockWords). f c x) (sym (stands_idle a (not_one (gate_of a.words) shut))) };
  firm = record { loose = λ c ne e. loose_by (was_forgotten u c) (was_forgotten t c) (is_loose d c) (is_loose a c) (marks c ne) (w.firm c ne) e };
  idle = ap (λ n. n == 1) (w.header 4 (omega arith)) ∙ shut;
  goes = goes_few b t a d r s l h (w.header 2 (omega arith)) few;
}
  where
    now : gate_of d.words ≢ 1
    now one = not_one (gate_of a.words) shut (sym (w.header 4 (omega arith)) ∙ one)

pub marks_then : (b : ℕ) (mark : Bool) (t u v : CacheTables) → Marks b mark t u → SameTables u v → (c : ℕ) → c ≢ b → was_forgotten v c ≡ was_forgotten t c
marks_then b mark t u v m h c ne = ap (λ (x : _). slice_index_or x.items c false) h.forgotten ∙ m.others c ne

pub marked_still : (b : ℕ) (mark : Bool) (t u v : CacheTables) → Marks b mark t u → SameTables u v → was_forgotten v b ≡ mark
marked_still b mark t u v m h = ap (λ (x : _). slice_index_or x.items b false) h.forgotten ∙ m.mark

pub loose_marked : (a b : Bool) → a ≡ true → (a || b) ≡ true
loose_marked a b e = rw e refl

pub halts_of : {T : Type 0} (old new : Contents) (r s : Running) (answer : Result T Stopped) → Lasts old new → StepEnds r s (IsErr answer) → Halts (cache_health old r) (cache_health new s) answer
halts_of old new r s (Ok x) l e = record { later = l.faults.later; stays = λ t. ap (λ (u : Running). u.stopped) (e.steps.frozen t) ∙ t; cause = e.runs (λ q. cc) }
halts_of old new r s (Err x) l e = record { later = l.faults.later; stays = λ t. ap (λ (u : Running). u.stopped) (e.steps.frozen t) ∙ t; cause = e.told refl }

-- a marked block is loose
pub never_firm : {P : Type 0} (a b : Bool) → a ≡ true → (a || b) ≡ false → P
never_firm a b e l = absurd (true_false (sym (loose_marked a b e) ∙ l))

-- ---- marks of two calls

pub same_marks : (b : ℕ) (t u : CacheTables) → SameTables t u → (c : ℕ) → c ≢ b → was_forgotten u c ≡ was_forgotten t c
same_marks b t u h c ne = ap (λ (x : _). slice_index_or x.items c false) h.forgotten

pub marks_after : (b : ℕ) (mark : Bool) (t u v : CacheTables) → SameTables t u → Marks b mark u v → (c : ℕ) → c ≢ b → was_forgotten v c ≡ was_forgotten t c
marks_after b mark t u v h m c ne = m.others c ne ∙ same_marks b t u h c ne

pub loose_none : (a b : Bool) → a ≡ false → b ≡ false → (a || b) ≡ false
loose_none a b e d = rw (e, d) refl
