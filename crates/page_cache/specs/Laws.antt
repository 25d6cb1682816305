-- Laws of the cache as blocks.
use Rattle.std.specs.Prelude.{◌≡◌, ℕ, Bool, true, false, List, Option, Some, None, is_some, refl}
use Rattle.std.proofs.Common.{◌∙◌, ap}
use Rattle.rio_base.specs.Blocks.{Health, InRange, NamesFit}
use Rattle.rio_base.specs.Machine.{Contents}
use Rattle.rio_base.specs.Rules.{true_false}
use Rattle.rio_base.specs.Volume.{Below, Kept, Passes}
use Rattle.rio_model.specs.Registry.{IsValid, KeepsRegistry, is_data, tag_at}
use Rattle.rio_model.specs.Cover.{Coherent, entry_of_block, name_in}
use Rattle.rio_model.specs.CoverLookups.{found_is}
use Rattle.cached_pages.specs.Caches.{cache_seen}

named : (words : List ℕ) (k : ℕ) → KeepsRegistry words → IsValid words k → InRange (name_in words (Some k))
named words k r v = from (is_data (tag_at words k)) refl
  where
    from : (d : Bool) → is_data (tag_at words k) ≡ d → InRange (name_in words (Some k))
    from false e = rw e tt
    from true e = rw e (record { file_from = (r.names k v.within).file_from v.valid e; file_to = (r.names k v.within).file_to v.valid e; index = (r.names k v.within).index_to v.valid e; size = r.sizes k v.within v.valid e })

pub cache_fits : (c : Contents) (n : ℕ) → Coherent c n → NamesFit (cache_seen c)
cache_fits c n s = record { cached = λ b e. none (entry_of_block c.words b) e; in_range = λ b. range (entry_of_block c.words b) (λ k e. (found_is c.words b k e).0) refl }
  where
    none : (o : Option ℕ) → is_some o ≡ false → name_in c.words o ≡ None
    none None e = refl
    none (Some k) e = absurd (true_false e)

    range : (o : Option ℕ) → ((k : ℕ) → o ≡ Some k → IsValid c.words k) → o ≡ o → InRange (name_in c.words o)
    range None h e = tt
    range (Some k) h e = named c.words k s.rules (h k refl)

-- a block of the open update stays one, while the volume is only read
pub touched_on : (b : ℕ) (s : Health) (old : Below) (k : Kept) (t : Health) (new : Below) (l : Kept) → Passes s old k t new l → k.touched b ≡ true → l.touched b ≡ true
touched_on b s old k t new l h e = ap (λ (f : ℕ → Bool). f b) h.touched ∙ e
