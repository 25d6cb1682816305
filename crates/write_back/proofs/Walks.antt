-- The two walks of a flush over the entries: one writes the dirty pages, one marks their entries clean.
use Rattle.std.specs.Prelude.{◌≡◌, ◌≢◌, ◌⊎◌, ℕ, ◌+◌, ◌<◌, ◌≤◌, min, Bool, true, false, List, [], ◌∷◌, length, slice_index, None, refl}
use mir.Val.{bool_byte}
use Rattle.std.proofs.Common.{◌∙◌, ap, sym, subst, inl, inr, arith}
use Rattle.std.proofs.lemmas.Bool.{and_parts, cases_eq}
use Rattle.std.proofs.lemmas.List.{length-append}
use Rattle.rio_base.specs.Disks.{raised}
use Rattle.rio_base.specs.Machine.{Contents, Lasts, Running, Steps}
use Rattle.rio_base.proofs.MachineRules.{lasts_refl, lasts_trans, steps_refl, steps_trans}
use Rattle.rio_model.specs.Cover.{Keeps, OnDisk}
use Rattle.rio_model.proofs.CoverSteps.{keeps_refl, keeps_trans}
use Rattle.rio_model.specs.Registry.{IsValid, frames_of}
use Rattle.write_back.specs.Flushing.{WroteFirst, dirty_before, dirty_entries, needs_write, once}
use Rattle.write_back.proofs.DirtyEntries.{before_none, before_small, before_with, before_without, dirty_at, dirty_member, front_at, front_length}

-- ---- counts

pub raised_none : (a : ℕ) → raised a 0 ≡ a
raised_none a = omega arith

pub raised_on : (a m n : ℕ) → raised (raised a m) n ≡ raised a (m + n)
raised_on a m n = omega arith

pub once_is : (b : Bool) → bool_byte b ≡ once b
once_is true = refl
once_is false = refl

pub once_small : (b : Bool) → bool_byte b ≤ 1
once_small true = omega arith
once_small false = omega arith

-- ---- the entries up to the ith, of which w count

abbrev pub Counts : ℕ → ℕ → ℕ → List ℕ → Type 0
Counts n i w words = w ≡ min n (length (dirty_before words i))

pub counts_none : (n : ℕ) (words : List ℕ) → Counts n 0 0 words
counts_none n words = omega (arith, ap length (before_none words))

pub counts_small : (n i w : ℕ) (words : List ℕ) → Counts n i w words → w ≤ i
counts_small n i w words h = omega (arith, h, before_small words i)

-- the next entry, where fewer than n count
pub counts_next : (n i w : ℕ) (words : List ℕ) (dirty : Bool) → dirty ≡ needs_write words i → Counts n i w words → w ≢ n → Counts n (i + 1) (w + once dirty) words
counts_next n i w words true e h ne = omega (arith, h, ne, ap length (before_with words i (sym e)), length-append (dirty_before words i) (i ∷ []))
counts_next n i w words false e h ne = omega (arith, h, ne, ap length (before_without words i (sym e)))

-- all count, or n
pub counts_all : (n i w f : ℕ) (words : List ℕ) → i ≤ f → Counts n i w words → (w ≡ n) ⊎ (i ≡ f) → Counts n f w words
counts_all n i w f words le h (inl e) = omega (arith, h, e, front_length words i f le)
counts_all n i w f words le h (inr e) = subst (λ x. Counts n x w words) e h

-- those that count are valid and stand before i
pub counted : (n i w x : ℕ) (words : List ℕ) → i ≤ frames_of words → Counts n i w words → x < w → (slice_index (dirty_entries words) x < i) × IsValid words (slice_index (dirty_entries words) x)
counted n i w x words le h less =
    let small : x < length (dirty_before words i) = omega (arith, h, less) in
    let same = front_at words i (frames_of words) x le small in
    let m = dirty_member words i x small in
    let before : slice_index (dirty_entries words) x < i = subst (λ k. k < i) (sym same) m.0 in
    (before, record { within = omega (arith, before, le); valid = (and_parts _ _ (subst (λ k. needs_write words k ≡ true) (sym same) m.1)).0 })

-- the next entry, where it is dirty and fewer than n count, is the next that counts
pub counts_this : (n i w : ℕ) (words : List ℕ) → i < frames_of words → Counts n i w words → w ≢ n → needs_write words i ≡ true → slice_index (dirty_entries words) w ≡ i
counts_this n i w words less h ne e =
    let all : w ≡ length (dirty_before words i) = omega (arith, h, ne) in
    ap (slice_index (dirty_entries words)) all ∙ dirty_at words i (frames_of words) less e

-- ---- the walk that writes

-- of the entries before the ith, w were written
pub record Wrote (n i w : ℕ) (old new : Contents) (r s : Running) : Type 0 where
  pub keeps : Keeps old new
  pub words : new.words ≡ old.words
  pub closed : new.open_page ≡ None
  pub lasts : Lasts old new
  pub steps : Steps r s
  pub runs : s.stopped ≡ r.stopped
  pub count : Counts n i w old.words
  pub on_disk : (x : ℕ) → x < w → OnDisk new (slice_index (dirty_entries old.words) x)
  pub writes : new.writes ≡ raised old.writes w

pub wrote_none : (n : ℕ) (c : Contents) (r : Running) → c.open_page ≡ None → Wrote n 0 0 c c r r
wrote_none n c r closed = record {
  keeps = keeps_refl c;
  words = refl;
  closed = closed;
  lasts = lasts_refl c;
  steps = steps_refl r;
  runs = refl;
  count = counts_none n c.words;
  on_disk = λ x less. absurd (omega (arith, less));
  writes = sym (raised_none c.writes);
}

-- what a turn does
pub record Writes (i : ℕ) (dirty : Bool) (mid new : Contents) (s t : Running) : Type 0 where
  pub keeps : Keeps mid new
  pub words : new.words ≡ mid.words
  pub answer : dirty ≡ needs_write mid.words i
  pub written : needs_write mid.words i ≡ true → OnDisk new i
  pub others : (j : ℕ) → IsValid mid.words j → j ≢ i → OnDisk mid j → OnDisk new j
  pub counted : new.writes ≡ raised mid.writes (once dirty)
  pub closed : new.open_page ≡ None
  pub lasts : Lasts mid new
  pub steps : Steps s t
  pub runs : t.stopped ≡ s.stopped

pub wrote_next : (n i w : ℕ) (dirty : Bool) (old mid new : Contents) (r s t : Running) → i < frames_of old.words → w ≢ n → Wrote n i w old mid r s → Writes i dirty mid new s t → Wrote n (i + 1) (w + once dirty) old new r t
wrote_next n i w dirty old mid new r s t less ne h k = record {
  keeps = keeps_trans old mid new h.keeps k.keeps;
  words = k.words ∙ h.words;
  closed = k.closed;
  lasts = lasts_trans old mid new h.lasts k.lasts;
  steps = steps_trans r s t h.steps k.steps;
  runs = k.runs ∙ h.runs;
  count = counts_next n i w old.words dirty answer h.count ne;
  on_disk = λ x small. each dirty answer x small (cases_eq x w);
  writes = k.counted ∙ ap (λ a. raised a (once dirty)) h.writes ∙ raised_on old.writes w (once dirty);
}
  where
    answer : dirty ≡ needs_write old.words i
    answer = k.answer ∙ ap (λ ws. needs_write ws i) h.words

    earlier : (x : ℕ) → x < w → OnDisk new (slice_index (dirty_entries old.words) x)
    earlier x small =
        let c = counted n i w x old.words (omega (arith, less)) h.count small in
        k.others _ (subst (λ ws. IsValid ws (slice_index (dirty_entries old.words) x)) (sym h.words) c.1) (λ e. absurd (omega (arith, c.0, e))) (h.on_disk x small)

    each : (b : Bool) → b ≡ needs_write old.words i → (x : ℕ) → x < w + once b → (x ≡ w) ⊎ (x ≢ w) → OnDisk new (slice_index (dirty_entries old.words) x)
    each true e x small (inl last) = subst (OnDisk new) (sym (ap (slice_index (dirty_entries old.words)) last ∙ counts_this n i w old.words less h.count ne (sym e))) (k.written (ap (λ ws. needs_write ws i) h.words ∙ sym e))
    each true e x small (inr n) = earlier x (omega (arith, small, n))
    each false e x small _ = earlier x (omega (arith, small))

pub wrote_by : (n i w one : ℕ) (dirty : Bool) (old new : Contents) (r s : Running) → one ≡ bool_byte dirty → Wrote n (i + 1) (w + once dirty) old new r s → Wrote n (i + 1) (w + one) old new r s
wrote_by n i w one dirty old new r s e h = subst (λ x. Wrote n (i + 1) (w + x) old new r s) (sym (e ∙ once_is dirty)) h

pub wrote_first : (n i w : ℕ) (old new : Contents) (r s : Running) → i ≤ frames_of old.words → Wrote n i w old new r s → (w ≡ n) ⊎ (i ≡ frames_of old.words) → WroteFirst n w old new
wrote_first n i w old new r s le h e = record { count = counts_all n i w (frames_of old.words) old.words le h.count e; on_disk = h.on_disk; writes = h.writes }
