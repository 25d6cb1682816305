-- A machine of which it was looked that its pages can be written back.
use Rattle.std.specs.Prelude.{◌≡◌, ℕ, ◌+◌, ◌*◌, ◌<◌, true, List, length, slice_index, None}
use Rattle.std.proofs.Common.{◌∙◌, ap, sym, subst, arith}
use Rattle.rio_base.specs.Image.{AreImageSizes, image_magic, registry_pages}
use Rattle.rio_base.specs.Machine.{Contents, Running}
use Rattle.rio_base.specs.Rules.{true_false}
use Rattle.rio_model.specs.Registry.{HasLayout, IsValid, KeepsRegistry, is_dirty, tag_at, tag_block}
use Rattle.machine_tests.specs.TestMachines.{IsTestHeader, NoneOrDirty, Ready}

sizes : AreImageSizes 64 1
sizes = record { least_frames = omega arith; most_frames = omega arith; least_scratch = omega arith; most_scratch = omega arith }

pages : 512 * (17 + registry_pages 64 + 64) ≡ 41984
unfolding registry_pages
pages = omega arith

pub header_of : (words : List ℕ) → slice_index words 0 ≡ image_magic → slice_index words 1 ≡ 1 → slice_index words 2 ≡ 64 → slice_index words 3 ≡ 1 → slice_index words 4 ≡ 0 → IsTestHeader words
header_of words zero one two three four = record { header = record { magic = zero; version = one }; frames = two; scratch = three; gate = four }

pub layout_of_header : (words scratch : List ℕ) → IsTestHeader words → length words ≡ 41984 → length scratch ≡ 512 → HasLayout words scratch
layout_of_header words scratch h long rest = record {
  sizes = rw (h.frames, h.scratch) sizes;
  protected = long ∙ sym pages ∙ ap (λ f. 512 * (17 + registry_pages f + f)) (sym h.frames);
  scratch_pages = rest ∙ ap (λ s. 512 * s) (sym h.scratch);
}

pub ready : (c : Contents) (r : Running) → IsTestHeader c.words → KeepsRegistry c.words → ((k : ℕ) → k < 64 → NoneOrDirty (tag_at c.words k))
    → length c.words ≡ 41984 → length r.scratch ≡ 512 → c.open_page ≡ None → length c.disk ≡ 8 → Ready c r
ready c r h rules dirty long rest closed blocks =
    let tags : (k : ℕ) → IsValid c.words k → (is_dirty (tag_at c.words k) ≡ true) × (tag_block (tag_at c.words k) < 8) = λ k v. dirty k (subst (λ f. k < f) h.frames v.within) v.valid in
    let layout = layout_of_header c.words r.scratch h long rest in
    record {
      coherent = record {
        header = h.header;
        sizes = layout.sizes;
        protected = layout.protected;
        scratch_pages = layout.scratch_pages;
        rules = rules;
        entries = λ k. record {
          on_disk = λ v. subst (λ n. tag_block (tag_at c.words k) < n) (sym blocks) (tags k v).1;
          clean = λ v e. absurd (true_false (sym (tags k v).0 ∙ e));
          unedited = λ v e. absurd (true_false (sym (tags k v).0 ∙ e));
        };
      };
      closed = closed;
      shut = λ e. absurd (omega (arith, e, h.gate));
      frames = h.frames;
      blocks = blocks;
    }
