-- Where the pages of an entry lie.
use Rattle.std.specs.Prelude.{◌≡◌, ◌≢◌, ◌⊎◌, ℕ, ◌+◌, ◌-◌, ◌*◌, ◌/◌, ◌<◌, ◌≤◌, List, length}
use Rattle.std.proofs.Common.{arith, ap, sym, ◌∙◌}
use Rattle.rio_base.specs.Image.{registry_pages}
use Rattle.rio_model.specs.Cover.{frame_page}
use Rattle.rio_model.specs.CoverChanges.{place_bare}
use Rattle.rio_model.specs.Registry.{HasLayout, IsValid, ShadowRule, frames_of, gate_of, page_of_entry, shadow_at}
use Rattle.rio_model.proofs.CoverChanges.{place_shadow}

pub registry_is : (f frames : ℕ) → f ≡ frames → (f + 102 - 1) / 102 ≡ registry_pages frames
unfolding registry_pages
registry_is f frames e = rw e (omega arith)

pub registry_small : (words scratch : List ℕ) → HasLayout words scratch → registry_pages (frames_of words) ≤ 81
unfolding registry_pages
registry_small words scratch layout = omega (arith, layout.sizes.most_frames)

pub frame_is : (r k : ℕ) (words : List ℕ) → r ≡ registry_pages (frames_of words) → r + 17 + k ≡ frame_page words k
unfolding frame_page
frame_is r k words e = rw e (omega arith)

pub frame_within : (words scratch : List ℕ) (k : ℕ) → HasLayout words scratch → k < frames_of words → 512 * frame_page words k + 512 ≤ length words
unfolding frame_page
frame_within words scratch k layout less = omega (arith, layout.protected, less)

pub shadow_within : (words scratch : List ℕ) (s : ℕ) → HasLayout words scratch → s ≤ 16 → 512 * (registry_pages (frames_of words) + s) + 512 ≤ length words
shadow_within words scratch s layout most = omega (arith, layout.protected, layout.sizes.least_frames, most)

pub shadow_small : (words : List ℕ) (k : ℕ) → ShadowRule words → IsValid words k → shadow_at words k ≤ 16
shadow_small words k rule v = (rule k v.within).most v.valid

-- the page that counts for an entry
pub counts_frame : (words : List ℕ) (k p : ℕ) → p ≡ frame_page words k → (gate_of words ≢ 1) ⊎ (shadow_at words k ≡ 0) → p ≡ page_of_entry words k
counts_frame words k p page bare = page ∙ sym (place_bare words k bare)

pub counts_shadow : (words : List ℕ) (k p s : ℕ) → p ≡ registry_pages (frames_of words) + s → s ≡ shadow_at words k → gate_of words ≡ 1 → s ≢ 0 → p ≡ page_of_entry words k
counts_shadow words k p s page same gate some = page ∙ ap (λ n. registry_pages (frames_of words) + n) same ∙ sym (place_shadow words k gate (λ none. some (same ∙ none)))
