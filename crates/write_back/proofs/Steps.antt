-- What the calls below are as steps, and that steps compose.
use Rattle.std.specs.Prelude.{◌≡◌, ◌≢◌, ◌⊎◌, ℕ, ◌+◌, ◌*◌, ◌<◌, ◌≤◌, Bool, true, false, List, length, slice_index, slice_set, drop, refl}
use Rattle.std.proofs.Common.{◌∙◌, ap, sym, subst, arith, inl, inr, get_or-set_same, get_or-set_other}
use Rattle.std.proofs.lemmas.Bool.{cases_eq}
use Rattle.std.proofs.lemmas.List.{get_or-take, get_or-drop, get_or_past}
use Rattle.rio_base.specs.Disks.{block_at, is_pending}
use Rattle.rio_base.specs.Image.{registry_pages}
use Rattle.rio_base.specs.Machine.{Contents, WritesBlock}
use Rattle.rio_base.specs.Memory.{page_at}
use Rattle.rio_base.specs.Rules.{true_false}
use Rattle.rio_model.specs.Cover.{Coherent, HeldEntry, Keeps, OnDisk, frame_page, home_word}
use Rattle.rio_model.proofs.CoverSteps.{coherent_on, hold_cleaned, keeps_trans, layout_is}
use Rattle.rio_model.specs.Registry.{HasLayout, IsValid, OneEntry, frames_of, is_data, is_valid, tag_at, tag_block, without_dirty}
use Rattle.registry.proofs.Retags.{retagged}
use Rattle.registry.specs.Entries.{entry_of}

-- ---- where the frames lie

pub frame_within : (c : Contents) (n k : ℕ) → Coherent c n → k < frames_of c.words → 512 * frame_page c.words k + 512 ≤ length c.words
unfolding frame_page registry_pages
frame_within c n k s less = omega (arith, s.protected, less)

-- a page that is the frame of an entry begins within memory
pub frame_begins : (c : Contents) (n k p more : ℕ) → Coherent c n → k < frames_of c.words → p ≡ frame_page c.words k → 512 * p < length c.words + more
frame_begins c n k p more s less e = omega (arith, frame_within c n k s less, e)

-- the frames follow the first
pub frame_next : (old new : List ℕ) (p k : ℕ) → p ≡ frame_page old 0 → new ≡ old → p + k ≡ frame_page new k
unfolding frame_page
frame_next old new p k e same = rw (e, same) (omega arith)

page_word : (words : List ℕ) (p w : ℕ) → w < 512 → slice_index (page_at words p) w ≡ slice_index words (512 * p + w)
page_word words p w less = get_or-take 512 (drop (512 * p) words) w 0 less ∙ get_or-drop (512 * p) words w 0

-- ---- pages on the disk

-- the disk has the page that was written as the entry's block
pub on_disk : (old new : Contents) (k b p : ℕ) → new.words ≡ old.words → b ≡ tag_block (tag_at old.words k) → p ≡ frame_page old.words k → block_at new.disk b ≡ page_at old.words p → OnDisk new k
on_disk old new k b p words block page e = subst (λ (ws : List ℕ). OnDisk (record new { words = ws }) k) (sym words) (record {
  same = λ w less.
      ap (λ q. slice_index old.words (512 * q + w)) (sym page) ∙ sym (page_word old.words p w less) ∙ ap (λ (xs : List ℕ). slice_index xs w) (sym e) ∙ ap (λ x. home_word new.disk x w) block;
})

-- a write of one entry's block leaves those of the others
pub stays_on_disk : (old new : Contents) (n k j b : ℕ) → Coherent old n → WritesBlock b old new → IsValid old.words k → b ≡ tag_block (tag_at old.words k) → IsValid old.words j → j ≢ k → OnDisk old j → OnDisk new j
stays_on_disk old new n k j b s h v same w ne d = subst (λ (ws : List ℕ). OnDisk (record new { words = ws }) j) (sym h.words) (record {
  same = λ x less.
      d.same x less ∙ ap (λ (xs : List ℕ). slice_index xs x) (sym (h.others (tag_block (tag_at old.words j)) (λ e. ne (s.rules.blocks j k w v (e ∙ same)))));
})

-- a write leaves pending what was, also where the machine was stopped before it
pub stays_pending : (stopped : Bool) (b : ℕ) (old new : Contents) → (stopped ≡ false → new.pending ≡ slice_set old.pending b true) → (stopped ≡ true → new ≡ old) → (c : ℕ) → is_pending old.pending c ≡ true → is_pending new.pending c ≡ true
stays_pending true b old new marks frozen c e = ap (λ (m : Contents). is_pending m.pending c) (frozen refl) ∙ e
stays_pending false b old new marks frozen c e = ap (λ p. is_pending p c) (marks refl) ∙ from (cases_eq c b)
  where
    within : (c < length old.pending) ⊎ (length old.pending ≤ c) → c < length old.pending
    within (inl less) = less
    within (inr more) = absurd (true_false (sym e ∙ get_or_past old.pending c false more))

    small : (a n : ℕ) → (a < n) ⊎ (n ≤ a)
    small a n = grind arith

    from : (c ≡ b) ⊎ (c ≢ b) → is_pending (slice_set old.pending b true) c ≡ true
    from (inl q) = ap (is_pending (slice_set old.pending b true)) q ∙ get_or-set_same old.pending b true false (subst (λ x. x < length old.pending) q (within (small c (length old.pending))))
    from (inr ne) = get_or-set_other old.pending b c true false ne ∙ e

-- ---- entries

pub still_valid : (k : ℕ) (old new : List ℕ) → new ≡ old → IsValid old k → IsValid new k
still_valid k old new e v = subst (λ ws. IsValid ws k) (sym e) v

pub held_clean : (k : ℕ) (old new : List ℕ) → OneEntry k old new → entry_of new k ≡ record (entry_of old k) { tag = without_dirty (tag_at old k) } → HeldEntry k old new
held_clean k old new one e =
    let r = retagged k (without_dirty (tag_at old k)) old new one e in
    let h = hold_cleaned (tag_at old k) in
    record { valid = ap is_valid r.tag ∙ h.valid; named = ap is_data r.tag ∙ h.named; block = ap tag_block r.tag ∙ h.block; file = r.file; index = r.index; size = r.size; shadow = r.shadow }

-- ---- one step after another

pub layout_now : (c : Contents) (scratch : List ℕ) → Coherent c (length scratch) → HasLayout c.words scratch
layout_now c scratch s = layout_is c scratch s

pub keeps_then : (a b c : Contents) → Keeps a b → Keeps b c → Keeps a c
keeps_then a b c h k = keeps_trans a b c h k

pub coherent_then : (a b : Contents) (n m : ℕ) → Coherent a n → Keeps a b → m ≡ n → Coherent b m
coherent_then a b n m s h e = coherent_on b n m e (h.coherent n s)
