-- An entry's size is stored.
use Rattle.cached_pages.proofs.Common.{◌≡◌, ◌≢◌, ℕ, ◌<◌, ◌≤◌, Bool, true, false, if◌then◌else◌, ◌⊎◌, List, Option, Some, None, refl, ◌∙◌, ap, sym, subst, inl, inr, arith, cases_eq, cases_Bool, PageName, Contents, true_false, IsValid, OneEntry, is_data, is_dirty, is_valid, page_of_entry, shadow_at, size_at, tag_at, tag_block, Coherent, Keeps, cover_by, name_in, reads, stands, entry_one, header_one, tag_one, found_kept, frame_word_one, coherent_one, disk_same, firm_by, pending_same, entry_of, Entry}
use Rattle.std.specs.Prelude.{max}
use Rattle.rio_base.specs.Blocks.{IsPageName}
use Rattle.rio_base.specs.Volume.{widened}
use Rattle.rio_model.specs.Registry.{EntryKeeps, KeepsRegistry, file_at, index_at}
use Rattle.rio_model.proofs.RegistryRules.{entry_keeps, registry_one}
use Rattle.rio_model.specs.Cover.{frame_page}
use Rattle.rio_model.proofs.CoverChanges.{page_word_one, reads_kept, stands_kept}
use Rattle.cached_pages.specs.declared.tables.CacheTables.{CacheTables}
use Rattle.cached_pages.specs.Caches.{CacheSound}
use Rattle.cached_pages.specs.Stores.{Widens}
use Rattle.cached_pages.proofs.Stores.{name_other, sound_holds}

-- entry k gets this size, and no other word changes
record Resized (k size : ℕ) (old new : List ℕ) : Type 0 where
  pub one : OneEntry k old new
  pub tag : tag_at new k ≡ tag_at old k
  pub file : file_at new k ≡ file_at old k
  pub index : index_at new k ≡ index_at old k
  pub is : size_at new k ≡ size
  pub shadow : shadow_at new k ≡ shadow_at old k

resized : (k size : ℕ) (old new : List ℕ) → OneEntry k old new → entry_of new k ≡ record (entry_of old k) { size = size } → Resized k size old new
resized k size old new one e = record {
  one = one;
  tag = ap (λ (x : Entry). x.tag) e;
  file = ap (λ (x : Entry). x.file) e;
  index = ap (λ (x : Entry). x.index) e;
  is = ap (λ (x : Entry). x.size) e;
  shadow = ap (λ (x : Entry). x.shadow) e;
}

registry_resized : (k size : ℕ) (old new : List ℕ) → KeepsRegistry old → IsValid old k → Resized k size old new → is_data (tag_at old k) ≡ true → size ≤ 4096 → KeepsRegistry new
registry_resized k size old new h v r kind small = registry_one k old new h r.one mine (record {
  blocks = λ j ne w x e. ne (h.blocks j k w v (e ∙ ap tag_block r.tag));
  shadows = λ j ne w x some e. ne (h.apart j k w v (e ∙ r.shadow) (λ z. some (sym e ∙ z)));
})
  where
    was : EntryKeeps old k
    was = entry_keeps old k h v.within

    now : is_data (tag_at new k) ≡ true
    now = ap is_data r.tag ∙ kind

    mine : EntryKeeps new k
    mine = record {
      tag = rw r.tag was.tag;
      metadata = record { of_file = λ x d. absurd (true_false (sym now ∙ d)); at_index = λ x d. absurd (true_false (sym now ∙ d)); of_size = λ x d. absurd (true_false (sym now ∙ d)) };
      name = rw (r.tag, r.file, r.index) was.name;
      size = λ x d. rw r.is small;
      shadow = rw (r.tag, r.shadow) was.shadow;
    }

keeps_resized : (n k size : ℕ) (old new : Contents) → Coherent old n → new ≡ record old { words = new.words } → IsValid old.words k → is_data (tag_at old.words k) ≡ true → size ≤ 4096 → Resized k size old.words new.words → Keeps old new
keeps_resized n k size old new s0 rest v kind small r = record {
  reads = subst (λ d. cover_by (frame_page new.words) new.words d ≡ reads old) (sym disk) (reads_kept k old.words new.words old.disk r.one v.within (ap is_valid r.tag) (ap tag_block r.tag));
  stands = subst (λ d. cover_by (page_of_entry new.words) new.words d ≡ stands old) (sym disk) (stands_kept k old.words new.words old.disk r.one v.within (ap is_valid r.tag) (ap tag_block r.tag) r.shadow);
  header = λ i less. header_one k old.words new.words i r.one less;
  firm = firm_by old new (pending_same old new rest) (λ b j f d. (found_kept k b old.words new.words r.one (ap is_valid r.tag) (ap tag_block r.tag) ∙ f, ap is_dirty (tag j (cases_eq j k)) ∙ d));
  coherent = λ m s. coherent_one m k old new rest r.one v.within s (registry_resized k size old.words new.words s.rules v r kind small) (record {
    on_disk = λ w. rw (r.tag, disk) ((s.entries k).on_disk v);
    clean = λ w c x less. frame_word_one k k x old.words new.words r.one v.within ∙ (s.entries k).clean v (clean c) x less ∙ rw (r.tag, disk) refl;
    unedited = λ w c x less. page_word_one k k x old.words new.words r.one v.within (λ e. r.shadow) ∙ (s.entries k).unedited v (clean c) x less ∙ sym (frame_word_one k k x old.words new.words r.one v.within);
  });
}
  where
    disk : new.disk ≡ old.disk
    disk = disk_same old new rest

    clean : is_dirty (tag_at new.words k) ≡ false → is_dirty (tag_at old.words k) ≡ false
    clean c = ap is_dirty (sym r.tag) ∙ c

    tag : (j : ℕ) → (j ≡ k) ⊎ (j ≢ k) → tag_at new.words j ≡ tag_at old.words j
    tag j (inl e) = subst (λ x. tag_at new.words x ≡ tag_at old.words x) (sym e) r.tag
    tag j (inr ne) = tag_one k j old.words new.words r.one ne

-- ---- what the entry says of its page

name_of : Bool → ℕ → ℕ → ℕ → Option PageName
name_of d f i s = if d then Some (record { file = record { 0 = f }; index = i; size = s }) else None

max_is : (a b : ℕ) → a ≤ b → max a b ≡ b
max_is a b h = omega (arith, h)

max_stays : (a b : ℕ) → b ≤ a → max a b ≡ a
max_stays a b h = omega (arith, h)

widened_none : (own : Option PageName) → widened own None ≡ own
widened_none None = refl
widened_none (Some own) = refl

wider : (k : ℕ) (old new : List ℕ) (given : PageName) → Resized k given.size old new → is_data (tag_at old k) ≡ true → size_at old k ≤ given.size → name_in new (Some k) ≡ widened (name_in old (Some k)) (Some given)
unfolding name_of
wider k old new given r kind less = now ∙ sym was
  where
    now : name_of (is_data (tag_at new k)) (file_at new k) (index_at new k) (size_at new k) ≡ Some (record { file = record { 0 = file_at old k }; index = index_at old k; size = given.size })
    now = rw (ap is_data r.tag ∙ kind, r.file, r.index, r.is) refl

    was : widened (name_of (is_data (tag_at old k)) (file_at old k) (index_at old k) (size_at old k)) (Some given) ≡ Some (record { file = record { 0 = file_at old k }; index = index_at old k; size = given.size })
    was = ap (λ d. widened (name_of d (file_at old k) (index_at old k) (size_at old k)) (Some given)) kind ∙ ap (λ s. Some (record { file = record { 0 = file_at old k }; index = index_at old k; size = s })) (max_is (size_at old k) given.size less)

-- a name that isn't larger
narrow : (d : Bool) (f i s : ℕ) (given : PageName) → given.size ≤ s → name_of d f i s ≡ widened (name_of d f i s) (Some given)
unfolding name_of
narrow true f i s given less = ap (λ x. Some (record { file = record { 0 = f }; index = i; size = x })) (sym (max_stays s given.size less))
narrow false f i s given less = refl

pub not_wider : (k : ℕ) (words : List ℕ) (given : PageName) → given.size ≤ size_at words k → name_in words (Some k) ≡ widened (name_in words (Some k)) (Some given)
unfolding name_of
not_wider k words given less = narrow (is_data (tag_at words k)) (file_at words k) (index_at words k) (size_at words k) given less

pub no_name : (k : ℕ) (words : List ℕ) → name_in words (Some k) ≡ widened (name_in words (Some k)) None
no_name k words = sym (widened_none (name_in words (Some k)))

-- an entry of metadata has no size below that of a page
of_data : (n k : ℕ) (c : Contents) (t : CacheTables) (given : PageName) → CacheSound c n t → IsValid c.words k → IsPageName given → size_at c.words k < given.size → is_data (tag_at c.words k) ≡ true
of_data n k c t given s v range less = from (cases_Bool (is_data (tag_at c.words k)))
  where
    from : (is_data (tag_at c.words k) ≡ true) ⊎ (is_data (tag_at c.words k) ≡ false) → is_data (tag_at c.words k) ≡ true
    from (inl d) = d
    from (inr m) = absurd (omega (arith, less, range.size, (s.coherent.rules.metadata k v.within).of_size v.valid m))

-- ---- the call

pub widens_same : (k : ℕ) (name : Option PageName) (old new : List ℕ) → new ≡ old → Widens k name old new
widens_same k name old new e = rw e (record { found = λ b. refl; others = λ b j f ne. refl; own = inl refl })

widens_wider : (k : ℕ) (old new : List ℕ) (given : PageName) → Resized k given.size old new → is_data (tag_at old k) ≡ true → size_at old k ≤ given.size → Widens k (Some given) old new
widens_wider k old new given r kind less = record { found = λ b. found_kept k b old new r.one (ap is_valid r.tag) (ap tag_block r.tag); others = λ b j f ne. name_other k j old new r.one ne; own = inr (wider k old new given r kind less) }

sound_resized : (n m k size : ℕ) (old new : Contents) (t : CacheTables) → CacheSound old n t → Keeps old new → m ≡ n → new.open_page ≡ None → new ≡ record old { words = new.words } → Resized k size old.words new.words → CacheSound new m t
sound_resized n m k size old new t s h same closed rest r = sound_holds n m old new t s (h.coherent n) same closed (ap (λ (x : Contents). x.disk) rest) (ap (λ (x : Contents). x.pending) rest) (record {
  frames = h.header 2 (omega arith);
  gate = h.header 4 (omega arith);
  valid = λ j less. ap is_valid (tag j (cases_eq j k));
  block = λ j less. ap tag_block (tag j (cases_eq j k));
  shadow = λ j less. shadow j (cases_eq j k);
  dirty = λ j less d. ap is_dirty (tag j (cases_eq j k)) ∙ d;
})
  where
    tag : (j : ℕ) → (j ≡ k) ⊎ (j ≢ k) → tag_at new.words j ≡ tag_at old.words j
    tag j (inl e) = subst (λ x. tag_at new.words x ≡ tag_at old.words x) (sym e) r.tag
    tag j (inr ne) = tag_one k j old.words new.words r.one ne

    shadow : (j : ℕ) → (j ≡ k) ⊎ (j ≢ k) → shadow_at new.words j ≡ shadow_at old.words j
    shadow j (inl e) = subst (λ x. shadow_at new.words x ≡ shadow_at old.words x) (sym e) r.shadow
    shadow j (inr ne) = entry_one k j 4 old.words new.words r.one ne (omega arith)

-- a larger size is stored
pub larger_keeps : (n k : ℕ) (given : PageName) (old new : Contents) (t : CacheTables) → CacheSound old n t → IsValid old.words k → IsPageName given → size_at old.words k < given.size → new ≡ record old { words = new.words } → OneEntry k old.words new.words → entry_of new.words k ≡ record (entry_of old.words k) { size = given.size } → Keeps old new
larger_keeps n k given old new t s v range less rest one e = keeps_resized n k given.size old new s.coherent rest v (of_data n k old t given s v range less) range.size (resized k given.size old.words new.words one e)

pub larger_sound : (n m k : ℕ) (given : PageName) (old new : Contents) (t : CacheTables) → CacheSound old n t → IsValid old.words k → IsPageName given → size_at old.words k < given.size → new ≡ record old { words = new.words } → OneEntry k old.words new.words → entry_of new.words k ≡ record (entry_of old.words k) { size = given.size } → m ≡ n → new.open_page ≡ None → CacheSound new m t
larger_sound n m k given old new t s v range less rest one e same closed = sound_resized n m k given.size old new t s (larger_keeps n k given old new t s v range less rest one e) same closed rest (resized k given.size old.words new.words one e)

pub larger_widens : (n k : ℕ) (given : PageName) (old new : Contents) (t : CacheTables) → CacheSound old n t → IsValid old.words k → IsPageName given → size_at old.words k < given.size → OneEntry k old.words new.words → entry_of new.words k ≡ record (entry_of old.words k) { size = given.size } → Widens k (Some given) old.words new.words
larger_widens n k given old new t s v range less one e = widens_wider k old.words new.words given (resized k given.size old.words new.words one e) (of_data n k old t given s v range less) (omega (arith, less))
