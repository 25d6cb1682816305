-- The walk of a flush that marks entries clean.
use Rattle.std.specs.Prelude.{◌≡◌, ◌≢◌, ◌⊎◌, ℕ, ◌+◌, ◌<◌, ◌&&◌, Bool, true, false, List, slice_index, refl}
use Rattle.std.proofs.Common.{◌∙◌, ap, sym, subst, inl, inr, arith}
use Rattle.std.proofs.lemmas.Bool.{cases_eq}
use mir.Val.{bool_byte}
use Rattle.rio_base.specs.Machine.{Contents, Lasts, Running, Steps}
use Rattle.rio_base.proofs.MachineRules.{lasts_refl, lasts_trans, steps_refl, steps_trans}
use Rattle.rio_model.specs.Cover.{HeldEntry, IsCleaned, Keeps, OnDisk, home_word}
use Rattle.rio_model.proofs.CoverChanges.{frame_word_one}
use Rattle.rio_model.proofs.CoverLookups.{entry_one, frames_one, tag_one}
use Rattle.rio_model.proofs.CoverSteps.{keeps_refl, keeps_trans}
use Rattle.rio_model.specs.Registry.{OneEntry, file_at, frames_of, index_at, is_dirty, is_valid, shadow_at, size_at, tag_at, tag_block}
use Rattle.registry.specs.Entries.{entry_of}
use Rattle.registry.specs.declared.entry.Entry.{Entry}
use Rattle.write_back.specs.Flushing.{CleanedFirst, dirty_entries, needs_write, once}
use Rattle.rio_model.proofs.HeldEntries.{held_each, held_same, held_then}
use Rattle.write_back.proofs.Walks.{Counts, counted, counts_next, counts_none, counts_this, once_is}

-- ---- an entry that another one's change leaves

entry_by : ℕ → ℕ → ℕ → ℕ → ℕ → Entry
entry_by t f i s h = record { tag = t; file = f; index = i; size = s; shadow = h }

entry_left : (k j : ℕ) (old new : List ℕ) → OneEntry k old new → j ≢ k → entry_of new j ≡ entry_of old j
unfolding entry_by
entry_left k j old new one ne = by
  where
    by : entry_by (tag_at new j) (file_at new j) (index_at new j) (size_at new j) (shadow_at new j) ≡ entry_by (tag_at old j) (file_at old j) (index_at old j) (size_at old j) (shadow_at old j)
    by = rw (tag_one k j old new one ne, entry_one k j 1 old new one ne (omega arith), entry_one k j 2 old new one ne (omega arith), entry_one k j 3 old new one ne (omega arith), entry_one k j 4 old new one ne (omega arith)) refl

-- an entry that was cleaned and then left, or left and then cleaned
cleaned_left : (k : ℕ) (old mid new : List ℕ) → frames_of new ≡ frames_of mid → entry_of new k ≡ entry_of mid k → IsCleaned k old mid → IsCleaned k old new
cleaned_left k old mid new frames e c =
    let tag = ap (λ (x : Entry). x.tag) e in
    record {
      valid = record { within = subst (λ f. k < f) (sym frames) c.valid.within; valid = ap is_valid tag ∙ c.valid.valid };
      clean = ap is_dirty tag ∙ c.clean;
      block = ap tag_block tag ∙ c.block;
      shadow = ap (λ (x : Entry). x.shadow) e ∙ c.shadow;
    }

left_cleaned : (k : ℕ) (old mid new : List ℕ) → entry_of mid k ≡ entry_of old k → IsCleaned k mid new → IsCleaned k old new
left_cleaned k old mid new e c = record {
  valid = c.valid;
  clean = c.clean;
  block = c.block ∙ ap (λ (x : Entry). tag_block x.tag) e;
  shadow = c.shadow ∙ ap (λ (x : Entry). x.shadow) e;
}

-- a change of what an entry says leaves the pages, and so what is on the disk
pub on_disk_left : (k j : ℕ) (old new : Contents) → new ≡ record old { words = new.words } → OneEntry k old.words new.words → k < frames_of old.words → HeldEntry j old.words new.words → OnDisk old j → OnDisk new j
on_disk_left k j old new rest one less held d = record {
  same = λ w small.
      frame_word_one k j w old.words new.words one less ∙ d.same w small
      ∙ ap (λ b. home_word old.disk b w) (sym held.block) ∙ ap (λ (l : List (List ℕ)). home_word l (tag_block (tag_at new.words j)) w) (sym (ap (λ (c : Contents). c.disk) rest));
}

-- ---- the walk

-- of the entries before the ith, w were marked
pub record Marked (n i w : ℕ) (old new : Contents) (r s : Running) : Type 0 where
  pub keeps : Keeps old new
  pub rest : new ≡ record old { words = new.words }
  pub frames : frames_of new.words ≡ frames_of old.words
  pub held : (k : ℕ) → HeldEntry k old.words new.words
  pub on_disk : (k : ℕ) → OnDisk old k → OnDisk new k
  pub lasts : Lasts old new
  pub steps : Steps r s
  pub runs : s.stopped ≡ r.stopped
  pub count : Counts n i w old.words
  pub entries : CleanedFirst w old.words new.words

pub marked_none : (n : ℕ) (c : Contents) (r : Running) → Marked n 0 0 c c r r
marked_none n c r = record {
  keeps = keeps_refl c;
  rest = refl;
  frames = refl;
  held = λ k. held_same k c.words c.words refl;
  on_disk = λ k d. d;
  lasts = lasts_refl c;
  steps = steps_refl r;
  runs = refl;
  count = counts_none n c.words;
  entries = record { cleaned = λ x less. absurd (omega (arith, less)); others = λ k less none. refl };
}

-- the ith entry is as it was
pub marked_this : (n i w : ℕ) (old mid : Contents) (r s : Running) → i < frames_of old.words → Marked n i w old mid r s → entry_of mid.words i ≡ entry_of old.words i
marked_this n i w old mid r s less h = h.entries.others i less (λ x small e. absurd (omega (arith, (counted n i w x old.words (omega (arith, less)) h.count small).0, e)))

pub needs_same : (n i w : ℕ) (old mid : Contents) (r s : Running) → i < frames_of old.words → Marked n i w old mid r s → needs_write mid.words i ≡ needs_write old.words i
needs_same n i w old mid r s less h = ap (λ (x : Entry). is_valid x.tag && is_dirty x.tag) (marked_this n i w old mid r s less h)

-- where it is dirty, its page is on the disk
pub marked_on_disk : (n i w : ℕ) (old mid : Contents) (r s : Running) → i < frames_of old.words → w ≢ n → Marked n i w old mid r s → ((x : ℕ) → x < n → OnDisk old (slice_index (dirty_entries old.words) x)) → needs_write mid.words i ≡ true → OnDisk mid i
marked_on_disk n i w old mid r s less ne h written e =
    let this = counts_this n i w old.words less h.count ne (sym (needs_same n i w old mid r s less h) ∙ e) in
    h.on_disk i (subst (OnDisk old) this (written w (omega (arith, h.count, ne))))

-- what a turn does
pub record Marks (i : ℕ) (dirty : Bool) (mid new : Contents) (s t : Running) : Type 0 where
  pub keeps : Keeps mid new
  pub answer : dirty ≡ needs_write mid.words i
  pub cleaned : needs_write mid.words i ≡ true → IsCleaned i mid.words new.words
  pub same : needs_write mid.words i ≡ false → new.words ≡ mid.words
  pub rest : new ≡ record mid { words = new.words }
  pub held : HeldEntry i mid.words new.words
  pub one : OneEntry i mid.words new.words
  pub lasts : Lasts mid new
  pub steps : Steps s t
  pub runs : t.stopped ≡ s.stopped

rest_then : (a b c : Contents) → b ≡ record a { words = b.words } → c ≡ record b { words = c.words } → c ≡ record a { words = c.words }
rest_then a b c h k = k ∙ ap (λ (x : Contents). record x { words = c.words }) h

pub marked_next : (n i w one : ℕ) (dirty : Bool) (old mid new : Contents) (r s t : Running) → i < frames_of old.words → w ≢ n → one ≡ bool_byte dirty → Marked n i w old mid r s → Marks i dirty mid new s t → Marked n (i + 1) (w + one) old new r t
marked_next n i w one dirty old mid new r s t less ne once_byte h k = subst (λ x. Marked n (i + 1) (w + x) old new r t) (sym (once_byte ∙ once_is dirty)) (record {
  keeps = keeps_trans old mid new h.keeps k.keeps;
  rest = rest_then old mid new h.rest k.rest;
  frames = frames_one i mid.words new.words k.one ∙ h.frames;
  held = λ j. held_then j old.words mid.words new.words (h.held j) (held_each i mid.words new.words k.one k.held j);
  on_disk = λ j d. on_disk_left i j mid new k.rest k.one (subst (λ f. i < f) (sym h.frames) less) (held_each i mid.words new.words k.one k.held j) (h.on_disk j d);
  lasts = lasts_trans old mid new h.lasts k.lasts;
  steps = steps_trans r s t h.steps k.steps;
  runs = k.runs ∙ h.runs;
  count = counts_next n i w old.words dirty answer h.count ne;
  entries = entries dirty answer;
})
  where
    answer : dirty ≡ needs_write old.words i
    answer = k.answer ∙ needs_same n i w old mid r s less h

    left : (j : ℕ) → j ≢ i → entry_of new.words j ≡ entry_of mid.words j
    left j apart = entry_left i j mid.words new.words k.one apart

    earlier : (x : ℕ) → x < w → IsCleaned (slice_index (dirty_entries old.words) x) old.words new.words
    earlier x small =
        let c = counted n i w x old.words (omega (arith, less)) h.count small in
        cleaned_left _ old.words mid.words new.words (frames_one i mid.words new.words k.one) (left _ (λ e. absurd (omega (arith, c.0, e)))) (h.entries.cleaned x small)

    this : true ≡ needs_write old.words i → slice_index (dirty_entries old.words) w ≡ i
    this e = counts_this n i w old.words less h.count ne (sym e)

    cleaned_now : true ≡ needs_write old.words i → IsCleaned i old.words new.words
    cleaned_now e = left_cleaned i old.words mid.words new.words (marked_this n i w old mid r s less h) (k.cleaned (needs_same n i w old mid r s less h ∙ sym e))

    each : true ≡ needs_write old.words i → (x : ℕ) → x < w + 1 → (x ≡ w) ⊎ (x ≢ w) → IsCleaned (slice_index (dirty_entries old.words) x) old.words new.words
    each e x small (inl last) = subst (λ j. IsCleaned j old.words new.words) (sym (ap (slice_index (dirty_entries old.words)) last ∙ this e)) (cleaned_now e)
    each e x small (inr apart) = earlier x (omega (arith, small, apart))

    entries : (b : Bool) → b ≡ needs_write old.words i → CleanedFirst (w + once b) old.words new.words
    entries true e = record {
      cleaned = λ x small. each e x small (cases_eq x w);
      others = λ j within none. left j (λ same. none w (omega arith) (this e ∙ sym same)) ∙ h.entries.others j within (λ x small. none x (omega (arith, small)));
    }
    entries false e = record {
      cleaned = λ x small. earlier x (omega (arith, small));
      others = λ j within none. ap (λ (ws : List ℕ). entry_of ws j) (k.same (needs_same n i w old mid r s less h ∙ sym e)) ∙ h.entries.others j within (λ x small. none x (omega (arith, small)));
    }
