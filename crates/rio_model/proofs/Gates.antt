-- The gate is stored, and no other word.
use Rattle.std.specs.Prelude.{slice_set}
use Rattle.std.proofs.lemmas.List.{get_or-set_same, get_or-set_other, length-set}
use Rattle.rio_model.proofs.Common.{◌≡◌, ℕ, ◌+◌, ◌<◌, ◌≤◌, List, length, slice_index, ◌∙◌, ap, sym, subst, arith}
use Rattle.rio_base.specs.Image.{entry_at}
use Rattle.rio_model.specs.Cover.{SameNames}
use Rattle.rio_model.specs.CoverChanges.{Gated}
use Rattle.rio_model.specs.Registry.{EntryKeeps, IsValid, KeepsRegistry, frames_of, is_valid, shadow_at, tag_at, tag_block}
use Rattle.rio_model.proofs.RegistryRules.{entry_keeps}

pub gated : (words : List ℕ) (g : ℕ) → 4 < length words → Gated g words (slice_set words 4 g)
gated words g room = record { count = length-set words 4 g; gate = get_or-set_same words 4 g 0 room; others = λ i n. get_or-set_other words 4 i g 0 n }

pub place_past : (k : ℕ) → 512 ≤ entry_at k
unfolding entry_at
place_past k = omega arith

pub entry_word : (g : ℕ) (old new : List ℕ) (k x : ℕ) → Gated g old new → slice_index new (entry_at k + x) ≡ slice_index old (entry_at k + x)
entry_word g old new k x h = h.others (entry_at k + x) (λ e. absurd (omega (arith, e, place_past k)))

pub tag_word : (g : ℕ) (old new : List ℕ) (k : ℕ) → Gated g old new → tag_at new k ≡ tag_at old k
tag_word g old new k h = h.others (entry_at k) (λ e. absurd (omega (arith, e, place_past k)))

pub frames_word : (g : ℕ) (old new : List ℕ) → Gated g old new → frames_of new ≡ frames_of old
frames_word g old new h = h.others 2 (λ e. absurd (omega (arith, e)))

pub gate_names : (g : ℕ) (old new : List ℕ) → Gated g old new → SameNames old new
gate_names g old new h = record {
  frames = frames_word g old new h;
  tag = λ k less. tag_word g old new k h;
  file = λ k less. entry_word g old new k 1 h;
  index = λ k less. entry_word g old new k 2 h;
  size = λ k less. entry_word g old new k 3 h;
}

pub gate_shadow : (g : ℕ) (old new : List ℕ) (k : ℕ) → Gated g old new → shadow_at new k ≡ shadow_at old k
gate_shadow g old new k h = entry_word g old new k 4 h

pub gate_entries : (g : ℕ) (old new : List ℕ) (i : ℕ) → Gated g old new → 512 ≤ i → slice_index new i ≡ slice_index old i
gate_entries g old new i h past = h.others i (λ e. absurd (omega (arith, e, past)))

pub valid_before : (g : ℕ) (old new : List ℕ) (k : ℕ) → Gated g old new → IsValid new k → IsValid old k
valid_before g old new k h v = record { within = subst (λ f. k < f) (frames_word g old new h) v.within; valid = ap is_valid (sym (tag_word g old new k h)) ∙ v.valid }

pub registry_gated : (g : ℕ) (old new : List ℕ) → Gated g old new → g ≤ 1 → KeepsRegistry old → KeepsRegistry new
registry_gated g old new h most r = record {
  gate = subst (λ n. n ≤ 1) (sym h.gate) most;
  tags = λ k less. (each k less).tag;
  metadata = λ k less. (each k less).metadata;
  names = λ k less. (each k less).name;
  sizes = λ k less. (each k less).size;
  shadows = λ k less. (each k less).shadow;
  blocks = λ j k v w e. r.blocks j k (valid_before g old new j h v) (valid_before g old new k h w) (ap tag_block (sym (tag_word g old new j h)) ∙ e ∙ ap tag_block (tag_word g old new k h));
  apart = λ j k v w e some. r.apart j k (valid_before g old new j h v) (valid_before g old new k h w) (sym (gate_shadow g old new j h) ∙ e ∙ gate_shadow g old new k h) (λ z. some (gate_shadow g old new j h ∙ z));
}
  where
    each : (k : ℕ) → k < frames_of new → EntryKeeps new k
    each k less =
        let t = tag_word g old new k h in
        let f = entry_word g old new k 1 h in
        let i = entry_word g old new k 2 h in
        let s = entry_word g old new k 3 h in
        let d = entry_word g old new k 4 h in
        let e = entry_keeps old k r (subst (λ n. k < n) (frames_word g old new h) less) in
        record { tag = rw t e.tag; metadata = rw (t, f, i, s) e.metadata; name = rw (t, f, i) e.name; size = rw (t, s) e.size; shadow = rw (t, d) e.shadow }
