-- Two dirty entries of metadata, before and after the calls of an update.
use Rattle.std.specs.Prelude.{◌≡◌, ◌≢◌, ℕ, zero, suc, ◌+◌, ◌*◌, ◌<◌, ◌≤◌, ◌⊎◌, true, false, List, [], ◌∷◌, length, slice_index, slice_set, None, refl}
use Rattle.std.proofs.Common.{◌∙◌, ap, sym, subst, inl, inr, arith, get_or-set_other}
use Rattle.rio_base.specs.Image.{AreImageSizes, HasHeader, registry_pages}
use Rattle.rio_base.specs.Machine.{Contents, Running}
use Rattle.rio_base.specs.Rules.{true_false}
use Rattle.rio_model.specs.Cover.{Coherent, Keeps, SameNames, frame_page}
use Rattle.rio_model.specs.CoverChanges.{SameEntries}
use Rattle.rio_model.proofs.CoverChanges.{frame_behind, header_same, one_page_set, same_entries, tag_same}
use Rattle.rio_model.proofs.CoverFills.{puts_frame}
use Rattle.rio_model.proofs.CoverSteps.{coherent_on, layout_is}
use Rattle.rio_model.specs.Registry.{HasLayout, IsValid, KeepsRegistry, frames_of, gate_of, is_data, is_dirty, is_valid, scratch_of, shadow_at, tag_at, tag_block, tag_of}
use Rattle.shadow_pages.specs.Updates.{AreEntries, ListsShadows}
use Rattle.machine_tests.specs.TestMachines.{HasTwo}

-- ---- at first

sizes : AreImageSizes 64 1
sizes = record { least_frames = omega arith; most_frames = omega arith; least_scratch = omega arith; most_scratch = omega arith }

one_registry : registry_pages 64 ≡ 1
unfolding registry_pages
one_registry = refl

pub layout_of_two : (words scratch : List ℕ) → frames_of words ≡ 64 → scratch_of words ≡ 1 → length words ≡ 41984 → length scratch ≡ 512 → HasLayout words scratch
layout_of_two words scratch frames one count rest = record {
  sizes = rw (frames, one) sizes;
  protected = count ∙ sym (ap (λ r. 512 * (17 + r + 64)) one_registry) ∙ ap (λ f. 512 * (17 + registry_pages f + f)) (sym frames);
  scratch_pages = rest ∙ ap (λ s. 512 * s) (sym one);
}

pub two_at_first : (c : Contents) (r : Running) → HasHeader c.words → HasLayout c.words r.scratch → frames_of c.words ≡ 64 → KeepsRegistry c.words → c.open_page ≡ None → length c.disk ≡ 8 → tag_at c.words 3 ≡ tag_of 5 true false → tag_at c.words 4 ≡ tag_of 6 true false → ((k : ℕ) → IsValid c.words k → (k ≡ 3) ⊎ (k ≡ 4)) → HasTwo c r
two_at_first c r header layout frames rules closed blocks three four only = record {
  coherent = record {
    header = header;
    sizes = layout.sizes;
    protected = layout.protected;
    scratch_pages = layout.scratch_pages;
    rules = rules;
    entries = λ k. record {
      on_disk = λ v. subst (λ n. tag_block (tag_at c.words k) < n) (sym blocks) (small k (only k v));
      clean = λ v e. absurd (true_false (sym (dirty k (only k v)) ∙ e));
      unedited = λ v e. absurd (true_false (sym (dirty k (only k v)) ∙ e));
    };
  };
  closed = closed;
  frames = frames;
  three = three;
  four = four;
  only = only;
}
  where
    dirty : (k : ℕ) → (k ≡ 3) ⊎ (k ≡ 4) → is_dirty (tag_at c.words k) ≡ true
    dirty k (inl e) = ap (λ n. is_dirty (tag_at c.words n)) e ∙ ap is_dirty three
    dirty k (inr e) = ap (λ n. is_dirty (tag_at c.words n)) e ∙ ap is_dirty four

    small : (k : ℕ) → (k ≡ 3) ⊎ (k ≡ 4) → tag_block (tag_at c.words k) < 8
    small k (inl e) = omega (arith, ap (λ n. tag_block (tag_at c.words n)) e ∙ ap tag_block three)
    small k (inr e) = omega (arith, ap (λ n. tag_block (tag_at c.words n)) e ∙ ap tag_block four)

-- ---- what the calls ask

pub layout_two : (c : Contents) (r : Running) → HasTwo c r → HasLayout c.words r.scratch
layout_two c r h = layout_is c r.scratch h.coherent

valid_at : (words : List ℕ) (k t : ℕ) → k < 64 → frames_of words ≡ 64 → tag_at words k ≡ t → is_valid t ≡ true → IsValid words k
valid_at words k t less frames tag valid = record { within = subst (λ f. k < f) (sym frames) less; valid = ap is_valid tag ∙ valid }

pub three_valid : (c : Contents) (r : Running) → HasTwo c r → IsValid c.words 3
three_valid c r h = valid_at c.words 3 (tag_of 5 true false) (omega arith) h.frames h.three refl

pub four_valid : (c : Contents) (r : Running) → HasTwo c r → IsValid c.words 4
four_valid c r h = valid_at c.words 4 (tag_of 6 true false) (omega arith) h.frames h.four refl

pub two_valid : (c : Contents) (r : Running) (k : ℕ) → HasTwo c r → (k ≡ 3) ⊎ (k ≡ 4) → IsValid c.words k
two_valid c r k h (inl e) = subst (IsValid c.words) (sym e) (three_valid c r h)
two_valid c r k h (inr e) = subst (IsValid c.words) (sym e) (four_valid c r h)

pub two_plain : (c : Contents) (r : Running) (k : ℕ) → HasTwo c r → (k ≡ 3) ⊎ (k ≡ 4) → is_data (tag_at c.words k) ≡ false
two_plain c r k h (inl e) = ap (λ n. is_data (tag_at c.words n)) e ∙ ap is_data h.three
two_plain c r k h (inr e) = ap (λ n. is_data (tag_at c.words n)) e ∙ ap is_data h.four

pub within_two : (c : Contents) (r : Running) → HasTwo c r → AreEntries c.words (3 ∷ 4 ∷ [])
within_two c r h = λ i less. subst (λ f. slice_index (3 ∷ 4 ∷ []) i < f) (sym h.frames) (at i less)
  where
    at : (i : ℕ) → i < 2 → slice_index (3 ∷ 4 ∷ []) i < 64
    at zero less = omega arith
    at (suc zero) less = omega arith
    at (suc (suc i)) less = absurd (omega (arith, less))

pub listed_two : (c : Contents) (r : Running) → HasTwo c r → ListsShadows c.words (3 ∷ 4 ∷ [])
listed_two c r h = λ k v some. at k (h.only k v)
  where
    at : (k : ℕ) → (k ≡ 3) ⊎ (k ≡ 4) → (i : ℕ) × (i < 2) × (slice_index (3 ∷ 4 ∷ []) i ≡ k)
    at k (inl e) = (0, omega arith, sym e)
    at k (inr e) = (1, omega arith, sym e)

pub shadow_free : (c : Contents) (r : Running) (a b s : ℕ) → HasTwo c r → shadow_at c.words 3 ≡ a → shadow_at c.words 4 ≡ b → a ≢ s → b ≢ s → (j : ℕ) → IsValid c.words j → shadow_at c.words j ≢ s
shadow_free c r a b s h first second n m j v e = at (h.only j v)
  where
    at : (j ≡ 3) ⊎ (j ≡ 4) → ⊥
    at (inl q) = n (sym first ∙ ap (shadow_at c.words) (sym q) ∙ e)
    at (inr q) = m (sym second ∙ ap (shadow_at c.words) (sym q) ∙ e)

pub shadow_small : (c : Contents) (r : Running) (k : ℕ) → HasTwo c r → (k ≡ 3) ⊎ (k ≡ 4) → shadow_at c.words k ≤ 16
shadow_small c r k h (inl e) = subst (λ n. shadow_at c.words n ≤ 16) (sym e) (let v = three_valid c r h in (h.coherent.rules.shadows 3 v.within).most v.valid)
shadow_small c r k h (inr e) = subst (λ n. shadow_at c.words n ≤ 16) (sym e) (let v = four_valid c r h in (h.coherent.rules.shadows 4 v.within).most v.valid)

pub long_two : (c : Contents) (r : Running) → HasTwo c r → length c.words ≡ 41984
long_two c r h = h.coherent.protected ∙ ap (λ f. 512 * (17 + registry_pages f + f)) h.frames ∙ ap (λ n. 512 * (17 + n + 64)) one_registry

-- ---- what they leave so

pub two_then : (a b : Contents) (r s : Running) → HasTwo a r → ((n : ℕ) → Coherent a n → Coherent b n) → frames_of b.words ≡ frames_of a.words → ((k : ℕ) → k < frames_of a.words → tag_at b.words k ≡ tag_at a.words k) → b.open_page ≡ None → length s.scratch ≡ length r.scratch → HasTwo b s
two_then a b r s h coherent frames tags closed same = record {
  coherent = coherent_on b (length r.scratch) (length s.scratch) same (coherent (length r.scratch) h.coherent);
  closed = closed;
  frames = frames ∙ h.frames;
  three = tags 3 (subst (λ f. 3 < f) (sym h.frames) (omega arith)) ∙ h.three;
  four = tags 4 (subst (λ f. 4 < f) (sym h.frames) (omega arith)) ∙ h.four;
  only = λ k v. let less : k < frames_of a.words = subst (λ f. k < f) frames v.within in h.only k (record { within = less; valid = ap is_valid (sym (tags k less)) ∙ v.valid });
}

pub two_named : (a b : Contents) (r s : Running) → HasTwo a r → ((n : ℕ) → Coherent a n → Coherent b n) → SameNames a.words b.words → b.open_page ≡ None → length s.scratch ≡ length r.scratch → HasTwo b s
two_named a b r s h coherent names closed same = two_then a b r s h coherent names.frames names.tag closed same

pub two_kept : (a b : Contents) (r s : Running) → HasTwo a r → Keeps a b → SameNames a.words b.words → b.open_page ≡ None → length s.scratch ≡ length r.scratch → HasTwo b s
two_kept a b r s h keeps names closed same = two_named a b r s h (λ n x. keeps.coherent n x) names closed same

pub gate_kept : (a b : Contents) → Keeps a b → gate_of b.words ≡ gate_of a.words
gate_kept a b keeps = keeps.header 4 (omega arith)

-- a word of a frame is stored
pub two_edited : (a b : Contents) (r s : Running) (k w v : ℕ) → HasTwo a r → (k ≡ 3) ⊎ (k ≡ 4) → w < 512 → b ≡ record a { words = slice_set a.words (512 * (18 + k) + w) v } → length s.scratch ≡ length r.scratch → HasTwo b s
two_edited a b r s k w v h is small stored same = two_then a b r s h (λ n x. (puts_frame (length r.scratch) k _ w v a b h.coherent at_frame (two_valid a r k h is) refl (dirty is) small room).coherent n x) (header_same a.words b.words 2 entries (omega arith)) (λ j less. tag_same a.words b.words j entries less) (ap (λ (c : Contents). c.open_page) stored ∙ h.closed) same
  where
    page : frame_page a.words k ≡ 18 + k
    page = omega (arith, frame_behind a.words k, ap registry_pages h.frames ∙ one_registry)

    at_frame : b ≡ record a { words = slice_set a.words (512 * frame_page a.words k + w) v }
    at_frame = stored ∙ ap (λ p. record a { words = slice_set a.words (512 * p + w) v }) (sym page)

    dirty : (k ≡ 3) ⊎ (k ≡ 4) → is_dirty (tag_at a.words k) ≡ true
    dirty (inl e) = ap (λ n. is_dirty (tag_at a.words n)) e ∙ ap is_dirty h.three
    dirty (inr e) = ap (λ n. is_dirty (tag_at a.words n)) e ∙ ap is_dirty h.four

    few : (k ≡ 3) ⊎ (k ≡ 4) → k < 5
    few (inl e) = omega (arith, e)
    few (inr e) = omega (arith, e)

    room : 512 * frame_page a.words k + w < length a.words
    room = omega (arith, page, few is, small, long_two a r h)

    now : List ℕ
    now = slice_set a.words (512 * (18 + k) + w) v

    entries : SameEntries a.words b.words
    entries = subst (λ (ws : List ℕ). SameEntries a.words ws) (sym (ap (λ (c : Contents). c.words) stored)) (same_entries (18 + k) a.words now (one_page_set a.words (18 + k) w v small) (omega (arith, ap registry_pages h.frames ∙ one_registry)))

pub gate_edited : (words : List ℕ) (at v : ℕ) → 512 ≤ at → gate_of (slice_set words at v) ≡ gate_of words
gate_edited words at v past = get_or-set_other words at 4 v 0 (λ e. absurd (omega (arith, e, past)))
