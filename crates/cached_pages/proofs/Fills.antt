-- A frame is filled and becomes a block's.
use Rattle.cached_pages.proofs.Common.{◌≡◌, ℕ, ◌*◌, ◌<◌, ◌≤◌, Bool, true, false, List, length, Option, Some, None, refl, ◌∙◌, ap, sym, subst, arith, eq-eqb, ne_eqb, PageName, InRange, is_pending, Contents, FrontStored, true_false, OneEntry, frames_of, is_data, is_dirty, is_valid, tag_at, tag_block, tag_of, entry_of, new_entry, Entry, OnePage, same_entries, tag_same, Keeps, Coherent, Made, frame_past}
use Rattle.std.specs.Prelude.{◌%◌, ◌^◌}
use Rattle.rio_base.specs.Disks.{FaultCount}
use Rattle.rio_model.specs.Registry.{HasLayout, KeepsMetadata, KeepsName, KeepsShadow, KeepsSize, KeepsTag}
use Rattle.registry.specs.Entries.{IsFree}
use Rattle.rio_model.specs.Cover.{frame_page}
use Rattle.rio_model.proofs.CoverSteps.{keeps_marks, layout_is}

pub page_from_run : (p n : ℕ) (from old new : List ℕ) → n ≤ 512 → FrontStored (512 * p) n from old new → OnePage p old new
page_from_run p n from old new most h = record { count = h.count; below = h.below; above = λ i more. h.above i (omega (arith, more, most)) }

-- the tag of an entry behind which a page changes
pub tag_stays : (c : Contents) (n k j : ℕ) (new : List ℕ) → OnePage (frame_page c.words k) c.words new → j < frames_of c.words → tag_at new j ≡ tag_at c.words j
tag_stays c n k j new one less = tag_same c.words new j (same_entries (frame_page c.words k) c.words new one (frame_past c.words k)) less

-- ---- tags of new entries

new_valid : (b : ℕ) (dirty named : Bool) → is_valid (tag_of b dirty named) ≡ true
new_valid b true true = eq-eqb _ 1 (omega arith)
new_valid b true false = eq-eqb _ 1 (omega arith)
new_valid b false true = eq-eqb _ 1 (omega arith)
new_valid b false false = eq-eqb _ 1 (omega arith)

new_dirty : (b : ℕ) (dirty named : Bool) → is_dirty (tag_of b dirty named) ≡ dirty
new_dirty b true true = eq-eqb _ 1 (omega arith)
new_dirty b true false = eq-eqb _ 1 (omega arith)
new_dirty b false true = ne_eqb _ 1 (omega arith)
new_dirty b false false = ne_eqb _ 1 (omega arith)

new_data : (b : ℕ) (dirty named : Bool) → is_data (tag_of b dirty named) ≡ named
new_data b true true = eq-eqb _ 1 (omega arith)
new_data b true false = ne_eqb _ 1 (omega arith)
new_data b false true = eq-eqb _ 1 (omega arith)
new_data b false false = ne_eqb _ 1 (omega arith)

new_block : (b : ℕ) (dirty named : Bool) → tag_block (tag_of b dirty named) ≡ b
new_block b true true = omega arith
new_block b true false = omega arith
new_block b false true = omega arith
new_block b false false = omega arith

new_bits : (b : ℕ) (dirty named : Bool) → tag_of b dirty named % 2 ^ 32 < 8
new_bits b true true = omega arith
new_bits b true false = omega arith
new_bits b false true = omega arith
new_bits b false false = omega arith

pub record FitEntry (e : Entry) : Type 0 where
  pub tag : KeepsTag e.tag
  pub metadata : KeepsMetadata e.tag e.file e.index e.size
  pub name : KeepsName e.tag e.file e.index
  pub in_page : KeepsSize e.tag e.size
  pub hidden : KeepsShadow e.tag e.shadow

fit_new : (b : ℕ) (name : Option PageName) (dirty : Bool) → InRange name → FitEntry (new_entry b name dirty)
fit_new b None dirty h = record {
  tag = record { invalid = λ e. absurd (true_false (sym (new_valid b dirty false) ∙ e)); bits = λ e. new_bits b dirty false };
  metadata = record { of_file = λ v d. refl; at_index = λ v d. refl; of_size = λ v d. refl };
  name = record { file_from = λ v d. absurd (true_false (sym d ∙ new_data b dirty false)); file_to = λ v d. absurd (true_false (sym d ∙ new_data b dirty false)); index_to = λ v d. absurd (true_false (sym d ∙ new_data b dirty false)) };
  in_page = λ v d. absurd (true_false (sym d ∙ new_data b dirty false));
  hidden = record { most = λ v. omega arith; of_data = λ v d. refl };
}
fit_new b (Some a) dirty h = record {
  tag = record { invalid = λ e. absurd (true_false (sym (new_valid b dirty true) ∙ e)); bits = λ e. new_bits b dirty true };
  metadata = record { of_file = λ v d. absurd (true_false (sym (new_data b dirty true) ∙ d)); at_index = λ v d. absurd (true_false (sym (new_data b dirty true) ∙ d)); of_size = λ v d. absurd (true_false (sym (new_data b dirty true) ∙ d)) };
  name = record { file_from = λ v d. h.file_from; file_to = λ v d. h.file_to; index_to = λ v d. h.index };
  in_page = λ v d. h.size;
  hidden = record { most = λ v. omega arith; of_data = λ v d. refl };
}

pub record NewTag (b : ℕ) (dirty : Bool) (e : Entry) : Type 0 where
  pub valid : is_valid e.tag ≡ true
  pub block : tag_block e.tag ≡ b
  pub is : is_dirty e.tag ≡ dirty
  pub unhidden : e.shadow ≡ 0

new_tag : (b : ℕ) (name : Option PageName) (dirty : Bool) → NewTag b dirty (new_entry b name dirty)
new_tag b None dirty = record { valid = new_valid b dirty false; block = new_block b dirty false; is = new_dirty b dirty false; unhidden = refl }
new_tag b (Some a) dirty = record { valid = new_valid b dirty true; block = new_block b dirty true; is = new_dirty b dirty true; unhidden = refl }

pub made_new : (k b : ℕ) (name : Option PageName) (dirty : Bool) (old new : List ℕ) → OneEntry k old new → k < frames_of old → is_valid (tag_at old k) ≡ false → IsFree old b → InRange name → entry_of new k ≡ new_entry b name dirty → Made k b dirty old new
made_new k b name dirty old new one within was free range e =
    let t = subst (NewTag b dirty) (sym e) (new_tag b name dirty) in
    let f = subst FitEntry (sym e) (fit_new b name dirty range) in
    record { one = one; within = within; was = was; free = free; valid = t.valid; block = t.block; is = t.is; shadow = t.unhidden; keeps = record { tag = f.tag; metadata = f.metadata; name = f.name; size = f.in_page; shadow = f.hidden } }

pub layout_now : (c : Contents) (scratch : List ℕ) → Coherent c (length scratch) → HasLayout c.words scratch
layout_now c scratch s = layout_is c scratch s

pub keeps_faults : (old new : Contents) (f : FaultCount) → new ≡ record old { faults = f } → Keeps old new
keeps_faults old new f e = keeps_marks old new (ap (λ (m : Contents). m.words) e) (ap (λ (m : Contents). m.disk) e) (λ b p. sym (ap (λ (m : Contents). is_pending m.pending b) e) ∙ p)
